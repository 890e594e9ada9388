-- `selections::check_selections` meets its contract. Assumes nothing.
use mathlib.Core.Path.{◌∙◌}
use native.Mathlib.Omega.{arith}
use Rattle.rows.proofs.RowPass.{passed_on}
use Rattle.rows.proofs.SelectionPass.{first_fits, begins, end_fits, enters_set, stopped, leaves_set, enters_none, finished}
use Rattle.rows.proofs.selections.check_selections.Goals as goal

pub overflow_add-next : goal.overflow_add-next
overflow_add-next c = omega (arith, first_fits _ c.requires c.count.ensures c.count-2.ensures)

pub loop-set-init : goal.loop-set-init
loop-set-init c = begins _ c.requires c.count.ensures c.count-2.ensures

pub overflow_add-end : goal.overflow_add-end
overflow_add-end c = omega (arith, end_fits _ c.requires (omega arith) c.set_selections-rows.ensures)

pub check_selections_to-requires : goal.check_selections_to-requires
check_selections_to-requires c = enters_set _ c.requires (omega arith) c.set_selections-rows.ensures c.loop-set.invariant

pub returns-in_err-next-clause-shows : goal.returns-in_err-next-clause-shows
returns-in_err-next-clause-shows c =
    passed_on _ _ c.from_residual.ensures.1 ∙ stopped _ c.requires (omega arith) c.set_selections-rows.ensures c.in_err-next.ensures

pub loop-set-preserved : goal.loop-set-preserved
loop-set-preserved c = leaves_set _ c.requires (omega arith) c.set_selections-rows.ensures c.in_ok-next.ensures

pub check_selections_to-requires-2 : goal.check_selections_to-requires-2
check_selections_to-requires-2 c = enters_none _ c.requires c.loop-set.invariant (omega arith) c.count-3.ensures

pub returns-clause-shows : goal.returns-clause-shows
returns-clause-shows c = finished _ c.count-3.ensures _ c.check_selections_to-2.ensures
