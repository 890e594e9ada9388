-- The loop of `slot_of`. Its invariant: the key of the rows passed.
use mathlib.Core.Path.{◌≡◌}
use Prim.Native.Nat.{◌≤◌}
use Rattle.known.specs.KnownLists.{key_words}
use Rattle.known.proofs.Registry.slot_of.Given as goal

abbrev pub invariant-loop-i : goal.invariant-loop-i
invariant-loop-i l = (l.key ≡ key_words l.self.keys l.s l.start l.i) × (l.key ≤ l.self.keys)
