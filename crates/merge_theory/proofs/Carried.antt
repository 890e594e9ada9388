-- One induction over the walk: what its steps have, and what two steps have together if each has it, the walk has. `Has` speaks of steps
-- one for each i of a family, so that one walk, two walks, and walks with every budget and room are instances. Assumes nothing.
use mathlib.Core.Path.{◌≡◌, refl}
use mathlib.Core.Option.{Option, none, some}
use mathlib.Core.List.{List, [], ◌∷◌}
use Prim.Native.Nat.{ℕ, zero, suc}
use Rattle.merge_theory.specs.Lists.{◌∈◌, there, is_known}
use Rattle.merge_theory.specs.Document.{Document, Cause}
use Rattle.merge_theory.specs.Expand.{expand}
use Rattle.merge_theory.specs.Steps.{entry, finished, deep, Step, ◌then◌, Found, tell}
use Rattle.merge_theory.specs.Walk.{Pass, against, compare_first, descend, sets_below, meet, walk_parts, walk}
use Rattle.merge_theory.specs.Named.{Met, below}
use Rattle.merge_theory.proofs.ListLaws.{head_in}

module _ {I : Type 0} where
  -- no step, and one after the other
  pub record Joins (Has : (I → Step) → Type 0) : Type 0 where
    pub stays : Has (λ i. finished)
    pub both : (first next : I → Step) → Has first → Has next → Has (λ i. first i then next i)

  -- a comparison, if its conflict may be told; the first field of a part against each other
  module _ (Has : (I → Step) → Type 0) (J : Joins Has) (found : I → Found) (s : ℕ) where
    pub joins_told : (o : Option Cause) (a b : ℕ) → ((c : Cause) → o ≡ some c → Has (λ i. found i (entry s c a b))) → Has (λ i. tell (found i) s o a b)
    unfolding tell
    joins_told none a b h = J.stays
    joins_told (some c) a b h = h c refl

    pub joins_against : (clash : ℕ → ℕ → Option Cause) (a : ℕ) (others : List ℕ) → ((c : Cause) (b : ℕ) → b ∈ others → clash a b ≡ some c → Has (λ i. found i (entry s c a b)))
        → Has (λ i. against (found i) s clash a others)
    unfolding against
    joins_against clash a [] h = J.stays
    joins_against clash a (b ∷ others) h =
        J.both _ _ (joins_told (clash a b) a b (λ c e. h c b head_in e)) (joins_against clash a others (λ c d m. h c d (there m)))

  -- what the walk asks: of comparing a part of a list that it meets, and of meeting a list
  pub record Carries (D : Document) (P : Pass) (s : ℕ) (found : I → Found) (budget : I → ℕ) (Has : (I → Step) → Type 0) : Type 0 where
    pub joins : Joins Has
    pub compares : (sets part : List ℕ) → Met D P s sets → part ∈ P.parts (expand D sets) → Has (λ i. compare_first (found i) s P.clash part)
    pub meets : (fields : List ℕ) (walked : I → Step) → Has walked
        → Has (λ i z. meet (budget i) fields (walked i) (is_known fields z.known) z)
    pub deeps : Has (λ i. deep)

  module _ (D : Document) (P : Pass) (s : ℕ) (found : I → Found) (budget : I → ℕ) (Has : (I → Step) → Type 0)
      (C : Carries D P s found budget Has) where
    -- a walk of the level below, one for each i
    abbrev Walked : (I → List ℕ → Step) → Type 0
    Walked lower = (sets : List ℕ) → Met D P s sets → Has (λ i. lower i sets)

    carried_descend : (lower : I → List ℕ → Step) → Walked lower → Walked (λ i. descend (lower i))
    unfolding descend
    carried_descend lower h [] met = C.joins.stays
    carried_descend lower h (t ∷ sets) met = h (t ∷ sets) met

    carried_parts : (lower : I → List ℕ → Step) → Walked lower → (sets : List ℕ) → Met D P s sets → (parts : List (List ℕ))
        → ((part : List ℕ) → part ∈ parts → part ∈ P.parts (expand D sets)) → Has (λ i. walk_parts D P (found i) s (lower i) parts)
    unfolding walk_parts
    carried_parts lower h sets met [] among = C.joins.stays
    carried_parts lower h sets met (part ∷ parts) among =
        C.joins.both _ _ (C.compares sets part met (among part head_in))
        (C.joins.both _ _ (carried_descend lower h (sets_below D part) (below met (among part head_in)))
        (carried_parts lower h sets met parts (λ p m. among p (there m))))

    pub carried_walk : (levels : ℕ) → Walked (λ i. walk D P (found i) s (budget i) levels)
    unfolding walk
    carried_walk zero sets met = C.deeps
    carried_walk (suc levels) sets met =
        C.meets (expand D sets) _
        (carried_parts (λ i. walk D P (found i) s (budget i) levels) (carried_walk levels) sets met (P.parts (expand D sets)) (λ part m. m))
