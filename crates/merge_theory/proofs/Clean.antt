-- Where no pair clashes that a pass compares, no pair of fields that it asks about fails, at any level: the first field of a part against each
-- other decides about every two. No walk is spoken of. Assumes `Sound`.
use mathlib.Core.Path.{◌≡◌, refl, sym, subst}
use mathlib.Core.Option.{Option, none, some}
use mathlib.Core.List.{List, [], ◌∷◌}
use Prim.Native.Nat.{ℕ}
use Rattle.merge_theory.specs.Lists.{◌∈◌, here, there, Every}
use Rattle.merge_theory.specs.Document.{Document, Cause, Sound, FieldAt}
use Rattle.merge_theory.specs.Expand.{FieldIn, expand}
use Rattle.merge_theory.specs.Walk.{Pass, sets_below}
use Rattle.merge_theory.specs.Rule.{merged}
use Rattle.merge_theory.proofs.ListLaws.{head_in, not_in_nil}
use Rattle.merge_theory.proofs.ExpandLaws.{expand_complete, expand_at}
use Rattle.merge_theory.proofs.Levels.{merged_below, below_at}
use Rattle.merge_theory.proofs.Outcome.{Silent}
use Rattle.merge_theory.proofs.Passes.{PassLaws, Settles}
use Rattle.merge_theory.proofs.Gone.{Under, this_list, next_list}

-- a pair fails in a pass: the two fields clash, or a near pair one level below fails
pub data PairFails (D : Document) (P : Pass) (Near : ℕ → ℕ → Type 0) : ℕ → ℕ → Type 0 where
  clashing : {a b : ℕ} → ¬ Silent (P.clash a b) → PairFails D P Near a b
  below_fails : {a b c d : ℕ} → FieldIn D (merged D a b) c → FieldIn D (merged D a b) d → Near c d → PairFails D P Near c d
      → PairFails D P Near a b

module _ (D : Document) {At : ℕ → Type 0} (S : Sound D At)
    (P : Pass) (Near : ℕ → ℕ → Type 0) (L : PassLaws D P Near) (E : Settles (FieldAt D At) P) where
  -- nothing that the walk of the list compares clashes
  abbrev pub Quiet : List ℕ → Type 0
  Quiet fields = (c : Cause) (a b : ℕ) → ¬ Under D P fields c a b

  silent_of : (o : Option Cause) → ((c : Cause) → ¬ (o ≡ some c)) → Silent o
  silent_of none h = tt
  silent_of (some c) h = h c refl

  -- every two fields of a part are silent
  part_silent : (fields part : List ℕ) → Every (FieldAt D At) part → part ∈ P.parts fields → Quiet fields
      → (a b : ℕ) → a ∈ part → b ∈ part → Silent (P.clash a b)
  part_silent fields [] at m quiet a b i j = absurd (not_in_nil i)
  part_silent fields (f ∷ others) at m quiet a b i j =
      E.silent_trans (at a i) (at f head_in) (at b j) (E.silent_sym (at f head_in) (at a i) (from_first a i)) (from_first b j)
    where
      from_first : (d : ℕ) → d ∈ (f ∷ others) → Silent (P.clash f d)
      from_first d (here e) = subst (λ x. Silent (P.clash f x)) (sym e) (E.silent_refl (at f head_in))
      from_first d (there k) = silent_of (P.clash f d) (λ c e. quiet c f d (this_list m k e))

  -- no near pair of the list fails
  pub quiet_clean : (fields : List ℕ) → Every (FieldAt D At) fields → Quiet fields
      → (a b : ℕ) → a ∈ fields → b ∈ fields → Near a b → ¬ PairFails D P Near a b
  quiet_clean fields at quiet a b i j near (clashing h) =
      let (part, m, k, l) = L.part_covers fields a b i j near in
      h (part_silent fields part (λ f n. at f (L.part_in fields part f m n)) m quiet a b k l)
  quiet_clean fields at quiet a b i j near (below_fails {c = c} {d = d} h g near' bad) =
      let (part, m, k, l) = L.part_covers fields a b i j near in
      let at_part : Every (FieldAt D At) part = λ f n. at f (L.part_in fields part f m n) in
      quiet_clean (expand D (sets_below D part)) (expand_at D S (sets_below D part) (below_at D S at_part))
      (λ c' a' b' u. quiet c' a' b' (next_list m u)) c d
      (expand_complete D S (sets_below D part) (below_at D S at_part) (merged_below D k l h))
      (expand_complete D S (sets_below D part) (below_at D S at_part) (merged_below D k l g)) near' bad
