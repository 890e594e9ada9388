-- The loop of `rows::check_lower`. Its invariant: no row of a table passed breaks its rule. Assumes nothing.
use mathlib.Core.Path.{◌≡◌}
use mathlib.Core.Option.{none}
use Rattle.lists.specs.First.{first_fault}
use Rattle.rows.specs.RowFault.{broken_row}
use Rattle.rows.proofs.check_lower.Given as goal

abbrev pub invariant-loop-table : goal.invariant-loop-table
invariant-loop-table l = first_fault (broken_row l.image) l.table ≡ none
