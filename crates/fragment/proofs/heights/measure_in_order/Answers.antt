-- `heights::measure_in_order` meets its contract. The loop's invariant: the turns so far went well, and nothing but heights has changed.
-- Assumes nothing.
use Rattle.std.proofs.Common.{◌≡◌, sym, subst, ◌∙◌, arith}
use Rattle.std.proofs.Math.Nat.{le_refl}
use Rattle.std.proofs.lemmas.Bool.{false≢true}
use Rattle.lists.proofs.Parts.{outside_none, outside_trans}
use Rattle.tables.specs.Image.{count_at}
use Rattle.tables.specs.Layout.{sets}
use Rattle.fragment.proofs.Ordered.{Turned, none_turned, turn_outside, turn_again, all_turned, turns_kept, no_turn, last_turn, turn_passes, turn_fails}
use Rattle.fragment.proofs.heights.measure_in_order.Goals as goal

pub loop-placed-init : goal.loop-placed-init
loop-placed-init c = (outside_none _ _ _, λ good room sound. none_turned _ _ sound, no_turn _ _)

pub loop-placed-preserved : goal.loop-placed-preserved
loop-placed-preserved c =
    let l = c.loop-placed in
    let n = c.count-placed-end.ensures in
    let turn = c.measure_in_turn.ensures in
    let read = c.set_of-set.ensures in (
      turn_outside _ _ (omega arith) l.invariant.0 turn.0,
      turn_again _ _ (omega arith) l.invariant.0 turn.0 read turn.1 c.if-not-measure_in_turn.false l.invariant.1,
      turn_passes _ _ (omega arith) l.invariant.0 turn.0 read turn.1 c.if-not-measure_in_turn.false l.invariant.2,
    )

pub returns-then-not-measure_in_turn : goal.returns-then-not-measure_in_turn
returns-then-not-measure_in_turn c =
    let l = c.loop-placed in
    let n = c.count-placed-end.ensures in
    let turn = c.measure_in_turn.ensures in
    let read = c.set_of-set.ensures in
    let before = c.clear_heights.ensures.0 in (
      outside_trans before (turn_outside _ _ (omega arith) l.invariant.0 turn.0),
      sym (turn_fails _ _ (omega arith) l.invariant.0 turn.0 read turn.1 c.if-not-measure_in_turn.true) ∙ turns_kept _ _ _ before _ (le_refl _),
      λ e. absurd (false≢true e),
    )

pub returns : goal.returns
returns c =
    let l = c.loop-placed in
    let n = c.count-placed-end.ensures in
    let clean = c.clear_heights.ensures in
    let last : l.placed ≡ count_at c.args.image.now sets = omega arith in (
      outside_trans clean.0 l.invariant.0,
      sym (last_turn _ _ last l.invariant.2) ∙ turns_kept _ _ _ clean.0 _ (le_refl _),
      λ e good room. all_turned good (subst (Turned c.args.image.now _ l.s) last (l.invariant.1 good (omega (arith, clean.0.long)) (clean.1 (omega arith)))),
    )
