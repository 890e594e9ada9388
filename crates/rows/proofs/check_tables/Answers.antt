-- `rows::check_tables` meets its contract: the first table with a fault is shown, or what is left unclaimed. Assumes nothing.
use mathlib.Core.Path.{sym, ◌∙◌}
use native.Mathlib.Omega.{arith}
use Rattle.lists.proofs.FirstLaws.{goes_on}
use Rattle.rows.proofs.RowPass.{passed_good, passed_on, table_breaks, lower_breaks}
use Rattle.rows.proofs.check_tables.Goals as goal

pub returns-in_err-check_lower : goal.returns-in_err-check_lower
returns-in_err-check_lower c = passed_on _ _ c.from_residual.ensures.1 ∙ lower_breaks _ 5 (omega arith) c.in_err-check_lower.ensures

pub check_selections-requires : goal.check_selections-requires
check_selections-requires c = passed_good _ 5 c.requires (sym c.in_ok-check_lower.ensures)

pub returns-in_err-sets : goal.returns-in_err-sets
returns-in_err-sets c =
    passed_on _ _ c.from_residual-in_err-sets.ensures.1 ∙ table_breaks _ 5 (sym c.in_ok-check_lower.ensures) (omega arith) c.in_err-sets.ensures.shows

pub check_upper-requires-clause-lower_good : goal.check_upper-requires-clause-lower_good
check_upper-requires-clause-lower_good c = goes_on _ 5 (sym c.in_ok-check_lower.ensures) (sym c.in_ok-sets.ensures.shows)
