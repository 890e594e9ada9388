-- The loop of `needed::rows_in_all`. Its invariant: the sum is that of the tables passed. Assumes nothing.
use mathlib.Core.Path.{◌≡◌}
use Prim.Native.Nat.{◌*◌, ◌≤◌}
use Rattle.lists.specs.Every.{total}
use Rattle.tables.specs.Image.{count_at}
use Rattle.query.proofs.needed.rows_in_all.Given as goal

abbrev pub invariant-loop-table : goal.invariant-loop-table
invariant-loop-table l = (l.sum ≡ total 0 (count_at l.image) l.table) × (l.sum ≤ l.table * 4294967295)
