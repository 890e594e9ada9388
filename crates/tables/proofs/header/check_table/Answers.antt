-- `header::check_table` meets its contract: a law for each `return`. Assumes nothing.
use native.Mathlib.Omega.{arith}
use Rattle.tables.proofs.Faults.{count_over, offset_off, table_right}
use Rattle.tables.proofs.header.check_table.Goals as goal

pub returns-then-most_rows-count : goal.returns-then-most_rows-count
returns-then-most_rows-count c = count_over _ _ _ (omega arith)

pub returns-then-offset-start_of : goal.returns-then-offset-start_of
returns-then-offset-start_of c = offset_off _ _ _ (omega arith) (omega arith)

pub returns : goal.returns
returns c = table_right _ _ _ (omega arith) (omega arith)
