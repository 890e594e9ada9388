-- `value_rows::check_values` meets its contract. Assumes nothing.
use Prim.Native.Nat.{◌+◌}
use mathlib.Core.Path.{sym, ◌∙◌}
use Rattle.rows.proofs.ValuePass.{Levels, begins, climbs, stays, good_row, goes_on, stops, ends}
use native.Mathlib.Omega.{arith}
use Rattle.rows.proofs.value_rows.check_values.Goals as goal
use Rattle.rows.proofs.value_rows.check_values.Goals.{then-row-end, else-row-end}

pub loop-row-init : goal.loop-row-init
loop-row-init c = begins _ c.count-unclaimed.ensures (omega arith)

pub returns-then-not-is_value_good-clause-shows : goal.returns-then-not-is_value_good-clause-shows
returns-then-not-is_value_good-clause-shows c =
    let p = c.loop-row.invariant in
    let settled : Levels c.args.image.now c.loop-row.row (c.loop-row.row + 1) c.if-row-end.level c.if-row-end.end =
    elim c.if-row-end.branch [
      | then-row-end w ↦ climbs _ _ p.levels p.next w.if-row-end.true w.level-is w.end-is
      | else-row-end w ↦ stays _ _ p.levels w.if-row-end.false w.level-is w.end-is
    ] in
    stops _ p (omega arith) (sym (good_row _ p settled c.is_value_good.ensures) ∙ c.if-not-is_value_good.true)

pub loop-row-preserved : goal.loop-row-preserved
loop-row-preserved c =
    let p = c.loop-row.invariant in
    let settled : Levels c.args.image.now c.loop-row.row (c.loop-row.row + 1) c.if-row-end.level c.if-row-end.end =
    elim c.if-row-end.branch [
      | then-row-end w ↦ climbs _ _ p.levels p.next w.if-row-end.true w.level-is w.end-is
      | else-row-end w ↦ stays _ _ p.levels w.if-row-end.false w.level-is w.end-is
    ] in
    goes_on _ p (omega arith) (sym (good_row _ p settled c.is_value_good.ensures) ∙ c.if-not-is_value_good.false) c.claimed_by-unclaimed.ensures settled (omega arith)

pub returns-clause-shows : goal.returns-clause-shows
returns-clause-shows c = ends _ c.loop-row.invariant (omega arith)
