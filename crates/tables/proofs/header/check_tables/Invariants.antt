-- The loop of `header::check_tables`. Its invariant: no table passed was wrong. Assumes nothing.
use mathlib.Core.Option.{none}
use mathlib.Core.Path.{◌≡◌}
use Rattle.lists.specs.First.{first_fault}
use Rattle.tables.specs.Header.{table_fault}
use Rattle.tables.proofs.header.check_tables.Given as goal

abbrev pub invariant-loop-table : goal.invariant-loop-table
invariant-loop-table l = first_fault (table_fault l.image l.edition) l.table ≡ none
