-- `header::check_edition` meets its contract: a law for each `return`. Assumes nothing.
use mathlib.Core.Path.{◌≡◌}
use native.Mathlib.Omega.{arith}
use Rattle.std.proofs.Common.{rules, Err}
use Rattle.tables.proofs.Faults.{too_short, no_edition, total_off, table_wrong, end_off, all_right}
use Rattle.tables.proofs.header.check_edition.Goals as goal

pub returns-then-length-words : goal.returns-then-length-words
returns-then-length-words c = too_short _ _ (omega arith)

pub returns-then-edition-lt1 : goal.returns-then-edition-lt1
returns-then-edition-lt1 c = no_edition _ _ (omega arith) c.then-edition-lt1.either

pub returns-then-word-length : goal.returns-then-word-length
returns-then-word-length c = total_off _ _ (omega arith) (omega arith) (omega arith) (omega arith)

pub returns-in_err-check_tables : goal.returns-in_err-check_tables
returns-in_err-check_tables c =
    let same : c.from_residual.result ≡ Err c.in_err-check_tables.field-0.0 = search rules in
    rw same (table_wrong _ _ (omega arith) c.in_err-check_tables.ensures)

pub returns-then-last_end-length : goal.returns-then-last_end-length
returns-then-last_end-length c = end_off _ _ (omega arith) c.in_ok-check_tables.ensures (omega arith) (omega arith)

pub returns : goal.returns
returns c = all_right _ _ (omega arith) c.in_ok-check_tables.ensures (omega arith)
