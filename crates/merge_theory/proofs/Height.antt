-- A number for a list of fields that falls from a list to the lists one level below it: why a known list is none in progress.
-- Assumes `Sound`.
use mathlib.Core.List.{List}
use Prim.Native.Nat.{ℕ, ◌≤◌, ◌<◌, pred}
use native.Mathlib.Nat.{le_refl}
use native.Mathlib.Omega.{arith}
use Rattle.merge_theory.specs.Lists.{◌∈◌, Every, flat_map}
use Rattle.merge_theory.specs.Document.{Document, set_of, Sound, FieldAt}
use Rattle.merge_theory.specs.Expand.{Within, itself, through, FieldIn, field_of, expand}
use Rattle.merge_theory.specs.Links.{most}
use Rattle.merge_theory.proofs.ListLaws.{in_flat_map, from_flat_map}
use Rattle.merge_theory.proofs.ExpandLaws.{expand_sound, within_at, field_sets_at}
use Rattle.merge_theory.proofs.LinkLaws.{most_member, most_bound}

module _ (D : Document) {At : ℕ → Type 0} (S : Sound D At) where
  -- above the rank of every set that the fields lead to
  pub height : List ℕ → ℕ
  height fields = most S.rank (flat_map (set_of D) fields)

  within_rank : {s t : ℕ} → At s → Within D s t → S.rank t ≤ S.rank s
  within_rank at itself = le_refl _
  within_rank {s} {t} at (through {t = v} w i f j) =
      let h₁ : S.rank t < S.rank v = S.falls (within_at D S at w) i j in
      let h₂ : S.rank v ≤ S.rank s = within_rank at w in
      omega arith

  -- what a field of merged sets leads to is below one of them
  pub field_rank : {sets : List ℕ} {f : ℕ} (u : ℕ) → Every At sets → FieldIn D sets f → u ∈ set_of D f
      → (s : ℕ) × (s ∈ sets) × (S.rank u < S.rank s)
  field_rank u all (field_of {s = s} {t = t} m w i is) j =
      let h₁ : S.rank u < S.rank t = S.falls (within_at D S (all s m) w) i j in
      let h₂ : S.rank t ≤ S.rank s = within_rank (all s m) w in
      (s, m, omega arith)

  -- merged sets that stay below n have fields of less height than n, if there is a set at all
  pub height_falls : (n : ℕ) (sets : List ℕ) {t : ℕ} → Every At sets → Every (λ s. S.rank s < n) sets → t ∈ sets
      → height (expand D sets) < n
  unfolding height
  height_falls n sets {t} all low m =
      let h₁ : most S.rank (flat_map (set_of D) (expand D sets)) ≤ pred n =
      most_bound S.rank (pred n) (flat_map (set_of D) (expand D sets)) bound in
      let h₂ : S.rank t < n = low t m in
      omega arith
    where
      bound : (u : ℕ) → u ∈ flat_map (set_of D) (expand D sets) → S.rank u < pred n
      bound u i =
          let (f, j, k) = from_flat_map (set_of D) (expand D sets) i in
          let (s, l, h) = field_rank u all (expand_sound D sets j) k in
          let h' : S.rank s < n = low s l in
          omega arith

  pub height_member : (fields : List ℕ) {a t : ℕ} → a ∈ fields → t ∈ set_of D a → S.rank t < height fields
  unfolding height
  height_member fields i j = most_member S.rank (flat_map (set_of D) fields) (in_flat_map (set_of D) i j)

  pub height_limit : (fields : List ℕ) → Every (FieldAt D At) fields → height fields ≤ D.limit
  unfolding height
  height_limit fields all = most_bound S.rank D.limit (flat_map (set_of D) fields) bound
    where
      bound : (t : ℕ) → t ∈ flat_map (set_of D) fields → S.rank t < D.limit
      bound t m =
          let (f, i, j) = from_flat_map (set_of D) fields m in
          S.bounded (field_sets_at D S (all f i) t j)
