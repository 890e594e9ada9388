-- The loop of `keys::are_keys_distinct`. Its invariant: each row passed is the first of its key. Assumes nothing.
use mathlib.Core.Bool.{true}
use Prim.Native.Nat.{ℕ, ◌<◌}
use lib.Dec.{eqb}
use mathlib.Core.Path.{◌≡◌}
use Rattle.tables.specs.Keys.{key_in}
use Rattle.lists.specs.Every.{find}
use Rattle.tables.proofs.keys.are_keys_distinct.Given as goal

abbrev pub invariant-loop-i : goal.invariant-loop-i
invariant-loop-i l = (k : ℕ) → k < l.i → eqb (find l.rows.count (key_in l.image l.table l.rows) (key_in l.image l.table l.rows k)) k ≡ true
