-- `rows::check_lower` meets its contract. Assumes nothing.
use mathlib.Core.Path.{refl, sym, ◌∙◌}
use native.Mathlib.Omega.{arith}
use Rattle.lists.specs.First.{first_fault}
use Rattle.lists.proofs.FirstLaws.{goes_on, stays}
use Rattle.rows.proofs.RowPass.{passed_on}
use Rattle.rows.proofs.check_lower.Goals as goal

pub loop-table-init : goal.loop-table-init
unfolding first_fault
loop-table-init c = refl

pub returns-in_err-check_plain : goal.returns-in_err-check_plain
returns-in_err-check_plain c =
    passed_on _ _ c.from_residual.ensures.1 ∙ sym (stays _ c.loop-table.table 5 _ c.loop-table.invariant (omega arith) (sym c.in_err-check_plain.ensures))

pub loop-table-preserved : goal.loop-table-preserved
loop-table-preserved c = goes_on _ c.loop-table.table c.loop-table.invariant (sym c.in_ok-check_plain.ensures)
