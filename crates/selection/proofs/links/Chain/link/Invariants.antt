-- The loop of `Chain::link`. Its invariant: the places below this one are linked. Assumes nothing.
use mathlib.Core.Path.{◌≡◌}
use Prim.Native.Nat.{ℕ, ◌-◌, ◌≤◌}
use lib.ListN.{length}
use Rattle.selection.specs.Linking.{Linkable}
use Rattle.selection.proofs.LinkLaws.{Under}
use Rattle.selection.proofs.links.Chain.link.Given as goal

abbrev pub invariant-loop-place : goal.invariant-loop-place
invariant-loop-place l = (l.place - l.list.start ≤ l.list.end - l.list.start) × (length l.s ≡ length l.initial.s) × ((n : ℕ) (ok : Linkable l.initial.s n l.self l.list) → Under ok l.place l.s)
