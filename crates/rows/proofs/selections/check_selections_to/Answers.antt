-- `selections::check_selections_to` meets its contract. Assumes nothing.
use native.Mathlib.Omega.{arith}
use Rattle.rows.proofs.SelectionPass.{number_fits, takes_row, stops_at}
use Rattle.rows.proofs.selections.check_selections_to.Goals as goal

pub returns-then-not-is_selection_good : goal.returns-then-not-is_selection_good
returns-then-not-is_selection_good c = stops_at _ _ _ _ _ c.loop-row.invariant c.loop-row-test.true c.selection_row-selection.ensures c.is_selection_good.ensures c.if-not-is_selection_good.true

pub overflow_add-next : goal.overflow_add-next
overflow_add-next c =
    let more = takes_row _ _ _ _ _ c.loop-row.invariant c.loop-row-test.true c.selection_row-selection.ensures c.is_selection_good.ensures c.if-not-is_selection_good.false c.owned_by-next.ensures in
    omega (arith, number_fits _ _ _ _ _ more)

pub loop-row-preserved : goal.loop-row-preserved
loop-row-preserved c = takes_row _ _ _ _ _ c.loop-row.invariant c.loop-row-test.true c.selection_row-selection.ensures c.is_selection_good.ensures c.if-not-is_selection_good.false c.owned_by-next.ensures
