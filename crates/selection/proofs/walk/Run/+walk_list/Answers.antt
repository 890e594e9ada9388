-- The answers for the cycle of calls {walk_list}: a pass calls itself on a list that it met, with a level less. The loop's invariant:
-- the parts before the cursor have been walked. Assumes nothing.
use mathlib.Core.Path.{◌≡◌, refl, ap, ◌∙◌}
use Prim.Native.Nat.{◌-◌}
use native.Mathlib.Nat.{le_refl}
use native.Mathlib.Omega.{arith}
use Rattle.std.specs.Prelude.{is_some}
use Rattle.std.proofs.lemmas.Result.{err_from_is_err_and}
use Rattle.selection.specs.Passes.{is_shape}
use Rattle.selection.proofs.LoopLaws.{Stepped, stepped_flat, stepped_deeper, stepped_as, no_level, loop_stop, walks_stopped}
use Rattle.selection.proofs.PartMeets.{part_bare}
use Rattle.selection.proofs.StepLaws.{goes_down, part_first, part_turn, part_found, part_none}
use Rattle.selection.proofs.walk.Run.+walk_list.Goals as goal
use Rattle.selection.proofs.walk.Run.+walk_list.Goals.{then-not-is_bare+in_ok-met+in-Some+in_ok-next, then-not-is_bare+in_ok-met+in_default, else-not-is_bare}

pub returns-then-level-eq0 : goal.returns-then-level-eq0
returns-then-level-eq0 t c = record { walks = no_level _ _ _ _ _ _ _ _ c.if-level-eq0.true c.requires; ends = c.requires.going }

pub loop-at-init : goal.loop-at-init
loop-at-init t c =
    let a = c.args in
    record {
      loop = part_first (is_shape a.self.now.pass) a.list (a.level - 1) c.requires c.first_part-at.ensures;
      ample = c.requires;
      below = λ less. c.first_part-at.ensures.below (rw c.first_part-at.ensures.same at less);
    }

pub returns-in_err-met : goal.returns-in_err-met
returns-in_err-met t c =
    let a = c.args in
    let at-loop = c.loop-at in
    let p = err_from_is_err_and c.from_residual.result c.from_residual.ensures.1 in
    let met = c.in_err-met.ensures in
    let turned = part_turn (is_shape a.self.now.pass) at-loop.at at-loop.invariant.loop at-loop.invariant.ample c.loop-at-test.true c.part_at-part.ensures
    (stepped_flat c.meet_part.auto.s met.meets (a.level - 1) refl) in
    rw (p.1, p.2) (record { walks = walks_stopped met.ends refl (le_refl _) (loop_stop turned a.level (omega (arith, c.if-level-eq0.false)) met.ends); ends = met.ends })

pub returns-in_err-next : goal.returns-in_err-next
returns-in_err-next t c =
    let a = c.args in
    let at-loop = c.loop-at in
    let p = err_from_is_err_and c.from_residual-in_err-next.result c.from_residual-in_err-next.ensures.1 in
    let walked = c.in_err-next.ensures in
    let turned = part_turn (is_shape a.self.now.pass) at-loop.at at-loop.invariant.loop at-loop.invariant.ample c.loop-at-test.true c.part_at-part.ensures
    (stepped_deeper c.meet_part.auto.s c.in_ok-met.ensures.meets c.in-Some.is walked.walks) in
    rw (p.1, p.2) (record { walks = walks_stopped walked.ends refl (le_refl _) (loop_stop turned a.level (omega (arith, c.if-level-eq0.false)) walked.ends); ends = walked.ends })

pub loop-at-smaller : goal.loop-at-smaller
loop-at-smaller t c =
    let a = c.args in
    goes_down _ _ _ _ a.list c.loop-at.at c.next_part-at.result (omega arith) c.loop-at-test.true (c.loop-at.invariant.below c.loop-at-test.true) c.next_part-at.ensures

pub loop-at-preserved : goal.loop-at-preserved
loop-at-preserved t c =
    let a = c.args in
    let at-loop = c.loop-at in
    let join = c.if-not-is_bare in
    let (step, go) : Stepped a.image.now a.self.now.arena a.self.now.work at-loop.s join.s at-loop.next c.part_at-part.result (is_shape a.self.now.pass) (a.level - 1) join.next × (join.next.reply.kind ≡ 0) =
    elim join.branch [
      | then-not-is_bare+in_ok-met+in-Some+in_ok-next w ↦
          let walked = w.in_ok-next.ensures in
          (stepped_as w.s-is w.next-is (stepped_deeper w.meet_part.auto.s w.in_ok-met.ensures.meets w.in-Some.is walked.walks), ap (λ z. z.reply.kind) w.next-is ∙ walked.ends)
      | then-not-is_bare+in_ok-met+in_default w ↦
          let met = w.in_ok-met.ensures in
          (stepped_as w.s-is w.next-is (stepped_flat w.meet_part.auto.s met.meets (a.level - 1) (ap is_some w.in_default.is)), ap (λ z. z.reply.kind) w.next-is ∙ met.ends)
      | else-not-is_bare w ↦
          let bare = part_bare (is_shape a.self.now.pass) at-loop.invariant.ample c.is_bare.ensures w.if-not-is_bare.false in
          (stepped_as w.s-is w.next-is (stepped_flat refl bare (a.level - 1) refl), ap (λ z. z.reply.kind) w.next-is ∙ at-loop.invariant.ample.going)
    ] in
    let turned = part_turn (is_shape a.self.now.pass) at-loop.at at-loop.invariant.loop at-loop.invariant.ample c.loop-at-test.true c.part_at-part.ensures step in
    record {
      loop = part_found (is_shape a.self.now.pass) at-loop.at turned go c.next_part-at.ensures;
      ample = step.ample go;
      below = c.next_part-at.ensures.below;
    }

pub returns : goal.returns
returns t c = record {
  walks = part_none (is_shape c.args.self.now.pass) c.loop-at.at c.loop-at.invariant.loop (omega (arith, c.loop-at-test.false)) c.args.level (omega (arith, c.if-level-eq0.false));
  ends = c.loop-at.invariant.ample.going;
}
