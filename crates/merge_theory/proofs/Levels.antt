-- The fields of merged sets, set by set, and the fields one level below a part. `Sound` is assumed only where it is named.
use mathlib.Core.Path.{sym, subst}
use mathlib.Core.Logic.{◌⊎◌, inl, inr, ⊎_elim}
use mathlib.Core.List.{List, [], ◌∷◌}
use Prim.Native.Nat.{ℕ}
use lib.Dec.{T}
use Rattle.merge_theory.specs.Lists.{◌∈◌, here, there, Every, flat_map}
use Rattle.merge_theory.specs.Document.{Document, NoField, set_of, Sound, FieldAt}
use Rattle.merge_theory.specs.Expand.{Within, itself, through, FieldIn, field_of}
use Rattle.merge_theory.specs.Walk.{has_rows, sets_below}
use Rattle.merge_theory.specs.Rule.{merged, Reached, start, onward}
use Rattle.merge_theory.proofs.ListLaws.{head_in, not_in_nil, in_left, in_right, in_append, in_flat_map, from_flat_map, in_filter, from_filter}
use Rattle.merge_theory.proofs.ExpandLaws.{within_trans, field_sets_at}

module _ (D : Document) where
  -- more sets have more fields
  field_mono : {sets more : List ℕ} {f : ℕ} → ((s : ℕ) → s ∈ sets → s ∈ more) → FieldIn D sets f → FieldIn D more f
  field_mono sub (field_of {s = s} m w i t) = field_of (sub s m) w i t

  -- a field of merged sets is a field of one of them
  pub field_one : {sets : List ℕ} {f : ℕ} → FieldIn D sets f → (s : ℕ) × (s ∈ sets) × FieldIn D (s ∷ []) f
  field_one (field_of {s = s} m w i t) = (s, m, field_of head_in w i t)

  pub no_field : {f : ℕ} → FieldIn D [] f → ⊥
  no_field (field_of m w i t) = not_in_nil m

  -- a field of two fields' merged set is below the one or the other
  pub merged_cases : (a b : ℕ) {f : ℕ} → FieldIn D (merged D a b) f → FieldIn D (set_of D a) f ⊎ FieldIn D (set_of D b) f
  unfolding merged
  merged_cases a b (field_of m w i t) = ⊎_elim (λ l. inl (field_of l w i t)) (λ r. inr (field_of r w i t)) (in_append (set_of D a) m)

  pub merged_left : (a b : ℕ) {f : ℕ} → FieldIn D (set_of D a) f → FieldIn D (merged D a b) f
  unfolding merged
  merged_left a b h = field_mono (λ s m. in_left (set_of D b) m) h

  pub merged_right : (a b : ℕ) {f : ℕ} → FieldIn D (set_of D b) f → FieldIn D (merged D a b) f
  unfolding merged
  merged_right a b h = field_mono (λ s m. in_right (set_of D a) m) h

  -- a set that has a field has rows
  within_rows : {s t row : ℕ} → Within D s t → row ∈ D.rows_of t → T (has_rows (D.rows_of s))
  within_rows itself i = member_rows _ i
    where
      member_rows : {row : ℕ} (rows : List ℕ) → row ∈ rows → T (has_rows rows)
      member_rows (r ∷ rows) i = tt
      member_rows [] i = elim i [ ]
  within_rows (through w j f k) i = within_rows w j

  pub from_sets_below : (part : List ℕ) {s : ℕ} → s ∈ sets_below D part → (a : ℕ) × (a ∈ part) × (s ∈ set_of D a)
  unfolding sets_below
  from_sets_below part m = from_flat_map (set_of D) part (from_filter (λ s. has_rows (D.rows_of s)) (flat_map (set_of D) part) m).0

  -- the fields below a part are the fields of its fields' sets: the empty sets add none
  pub from_below : {part : List ℕ} {f : ℕ} → FieldIn D (sets_below D part) f → (a : ℕ) × (a ∈ part) × FieldIn D (set_of D a) f
  from_below {part} (field_of m w i t) = let (a, k, l) = from_sets_below part m in (a, k, field_of l w i t)

  in_below : {part : List ℕ} {a f : ℕ} → a ∈ part → FieldIn D (set_of D a) f → FieldIn D (sets_below D part) f
  unfolding sets_below
  in_below k (field_of l w i t) = field_of (in_filter (λ s. has_rows (D.rows_of s)) (in_flat_map (set_of D) k l) (within_rows w i)) w i t

  pub merged_below : {part : List ℕ} {a b f : ℕ} → a ∈ part → b ∈ part → FieldIn D (merged D a b) f → FieldIn D (sets_below D part) f
  merged_below {a = a} {b = b} i j h = ⊎_elim (λ l. in_below i l) (λ r. in_below j r) (merged_cases a b h)

  -- the fields of the set that a row leads to: below the row, if it is a field, and else among those of the row's set
  pub below_field : (row : ℕ) {u f : ℕ} → u ∈ set_of D row → FieldIn D (u ∷ []) f → FieldIn D (set_of D row) f
  below_field row {u} j h = field_mono sub h
    where
      sub : (s : ℕ) → s ∈ (u ∷ []) → s ∈ set_of D row
      sub s (here e) = subst (λ x. x ∈ set_of D row) (sym e) j
      sub s (there m) = absurd (not_in_nil m)

  pub below_other : {t row u f : ℕ} → row ∈ D.rows_of t → NoField D row → u ∈ set_of D row → FieldIn D (u ∷ []) f → FieldIn D (t ∷ []) f
  below_other i other j (field_of {t = v} (here e) w k is) =
      field_of head_in (within_trans D (through itself i other j) (subst (λ x. Within D x v) e w)) k is
  below_other i other j (field_of (there m) w k is) = absurd (not_in_nil m)

  pub reached_trans : {s t u : ℕ} → Reached D s t → Reached D t u → Reached D s u
  reached_trans r start = r
  reached_trans r (onward q i j) = onward (reached_trans r q) i j

-- ---- what is at hand stays so

module _ (D : Document) {At : ℕ → Type 0} (S : Sound D At) where
  pub merged_at : {a b : ℕ} → FieldAt D At a → FieldAt D At b → Every At (merged D a b)
  unfolding merged
  merged_at {a} i j t m = ⊎_elim (field_sets_at D S i t) (field_sets_at D S j t) (in_append (set_of D a) m)

  pub below_at : {part : List ℕ} → Every (FieldAt D At) part → Every At (sets_below D part)
  below_at {part} all t m = let (a, i, j) = from_sets_below D part m in field_sets_at D S (all a i) t j

  pub reached_at : {s t : ℕ} → At s → Reached D s t → At t
  reached_at at start = at
  reached_at at (onward r i j) = S.closed (reached_at at r) i j
