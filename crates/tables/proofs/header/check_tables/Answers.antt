-- `header::check_tables` meets its contract: as long as the loop goes on, no table passed was wrong. Assumes nothing.
use mathlib.Core.Path.{◌≡◌, refl, sym}
use Rattle.std.proofs.Common.{rules, Err}
use native.Mathlib.Omega.{arith}
use Rattle.lists.proofs.FirstLaws.{goes_on, stays, finishes}
use Rattle.lists.specs.First.{first_fault}
use Rattle.tables.proofs.header.check_tables.Goals as goal

pub loop-table-init : goal.loop-table-init
unfolding first_fault
loop-table-init c = refl

pub returns-in_err-check_table : goal.returns-in_err-check_table
returns-in_err-check_table c =
    let same : c.from_residual.result ≡ Err c.in_err-check_table.field-0.0 = search rules in
    rw same (sym (stays _ c.loop-table.table _ _ (cc) (omega arith) (sym c.in_err-check_table.ensures)))

pub loop-table-preserved : goal.loop-table-preserved
loop-table-preserved c = goes_on _ _ (cc) (sym c.in_ok-check_table.ensures)

pub returns : goal.returns
returns c = finishes _ c.loop-table.table _ (cc) (omega arith)
