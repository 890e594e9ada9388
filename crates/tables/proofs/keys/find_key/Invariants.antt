-- The loop of `keys::find_key`. Its invariant: no row passed has the key. Assumes nothing.
use Prim.Native.Nat.{ℕ, ◌<◌}
use mathlib.Core.Path.{◌≡◌}
use lib.Dec.{eqb}
use mathlib.Core.Bool.{false}
use Rattle.tables.specs.Keys.{key_in}
use Rattle.tables.proofs.keys.find_key.Given as goal

abbrev pub invariant-loop-i : goal.invariant-loop-i
invariant-loop-i l = (k : ℕ) → k < l.i → eqb (key_in l.image l.table l.rows k) l.key ≡ false
