-- The loop of `is_known`. Its invariant: the lists that are still to be looked at decide.
use mathlib.Core.Path.{◌≡◌}
use mathlib.Core.List.{List}
use Prim.Native.Nat.{ℕ, ◌+◌, ◌<◌}
use Rattle.lists.specs.Part.{Stores}
use Rattle.merge_theory.specs.Lists.{is_known}
use Rattle.known.specs.declared.Registry.{Registry}
use Rattle.known.specs.KnownLists.{key_of, Trail, Known}
use Rattle.known.proofs.Registry.is_known.Given as goal

-- some lists before those that were looked at decide
abbrev pub Left : List ℕ → Registry → ℕ → ℕ → ℕ → ℕ → Type 0
Left s registry slot rows n next =
    (known : ℕ) (ls : List (List ℕ)) (l : List ℕ) → Known registry s known ls → Stores s rows n l → slot ≡ registry.heads + key_of registry.keys l
    → (end : ℕ) × (rest : List (List ℕ)) × Trail registry s (key_of registry.keys l) end next rest × (is_known l ls ≡ is_known l rest)

abbrev pub invariant-loop-place : goal.invariant-loop-place
invariant-loop-place l = (l.next < 4294967296) × Left l.s l.self l.slot l.rows l.n l.next

abbrev pub decreases-loop-place : goal.decreases-loop-place
decreases-loop-place l = l.next
