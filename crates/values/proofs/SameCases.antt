-- What `same_list`, `same_set` and `same_value` are in each case that the code tells apart: a law for each `return` of the
-- comparers, in terms of the definitions alone.
-- Assumes nothing.
use Prim.Native.Nat.{ℕ, zero, suc, ◌-◌, ◌<◌, ◌≤◌}
use mathlib.Core.Path.{◌≡◌, refl, sym, ◌∙◌}
use mathlib.Core.Bool.{Bool, true, false}
use mathlib.Core.List.{List}
use native.Mathlib.Numerals.{sub-one}
use borrow.Author.Tests.{eq-eqb, ne_eqb}
use lib.Dec.{eqb}
use native.Mathlib.Omega.{arith}
use Rattle.std.specs.Prelude.{Some, None}
use Rattle.lists.specs.Every.{absent, found}
use Rattle.lists.proofs.Tests.{both, second_fails}
use Rattle.lists.proofs.EveryLaws.{every_intro, every_fails, position_le, some_found, none_found}
use Rattle.tables.specs.declared.Range.{Range}
use Rattle.tables.specs.Layout.{values}
use Rattle.tables.specs.Image.{row_in}
use Rattle.tables.specs.Columns.{list, object, value_kind, value_atom, value_members}
use Rattle.tables.specs.Keys.{key_of}
use Rattle.values.specs.Same.{place_of, same_list, has_key, keys_within, matched, same_set, same_by, same_value}

module _ (same : ℕ → ℕ → Bool) (left right : Range) where
  pub list_unlike : (left.count ≡ right.count → ⊥) → same_list same left right ≡ false
  unfolding same_list
  list_unlike ne = rw (ne_eqb _ _ ne)

  pub list_differs : (k : ℕ) → k < left.count → same (row_in left k) (row_in right k) ≡ false → same_list same left right ≡ false
  unfolding same_list
  list_differs k l e = second_fails (eqb left.count right.count) (every_fails _ _ k l e)

  pub list_same : left.count ≡ right.count → ((k : ℕ) → k < left.count → same (row_in left k) (row_in right k) ≡ true)
      → same_list same left right ≡ true
  unfolding same_list
  list_same e all = both (eq-eqb _ _ e) (every_intro _ _ all)

module _ (key : ℕ → ℕ) (rows : Range) (wanted : ℕ) where
  -- the search ended at the count
  pub no_key : place_of key rows wanted ≡ rows.count → has_key key rows wanted ≡ false
  unfolding has_key absent
  no_key e = rw (eq-eqb _ _ e)

  pub some_key : (place_of key rows wanted ≡ rows.count → ⊥) → has_key key rows wanted ≡ true
  unfolding has_key absent
  some_key ne = rw (ne_eqb _ _ ne)

-- what a search found, for the key of a row that was read
module _ (key : ℕ → ℕ) (rows : Range) (row : ℕ) {read wanted : ℕ} (at : read ≡ row) (of_row : wanted ≡ key read) where
  pub key_missing : None ≡ found rows.count (place_of key rows wanted) → place_of key rows (key row) ≡ rows.count
  key_missing e =
      let same : place_of key rows (key row) ≡ place_of key rows wanted = rw (of_row, at) in
      let past : rows.count ≤ place_of key rows wanted = none_found e in
      omega (arith, position_le rows.count (λ k. eqb (key (row_in rows k)) wanted))

  pub key_there : {place : ℕ} → Some place ≡ found rows.count (place_of key rows wanted)
      → (place ≡ place_of key rows (key row)) × (place_of key rows (key row) ≡ rows.count → ⊥)
  key_there {place} e =
      let there = some_found e in
      let same : place_of key rows wanted ≡ place_of key rows (key row) = rw (of_row, at) in
      (sym there.0 ∙ same, λ none. let below : place_of key rows wanted < rows.count = there.1 in omega arith)

module _ (key : ℕ → ℕ) (same : ℕ → ℕ → Bool) (right : Range) (row : ℕ) where
  pub unmatched_key : place_of key right (key row) ≡ right.count → matched key same right row ≡ false
  unfolding matched
  unmatched_key e = rw (no_key key right (key row) e)

  pub unmatched_value : same row (row_in right (place_of key right (key row))) ≡ false → matched key same right row ≡ false
  unfolding matched
  unmatched_value e = second_fails (has_key key right (key row)) e

  pub match_found : (place_of key right (key row) ≡ right.count → ⊥)
      → same row (row_in right (place_of key right (key row))) ≡ true → matched key same right row ≡ true
  unfolding matched
  match_found ne e = both (some_key key right (key row) ne) e

module _ (key : ℕ → ℕ) (same : ℕ → ℕ → Bool) (left right : Range) where
  pub set_differs : (k : ℕ) → k < left.count → matched key same right (row_in left k) ≡ false → same_set key same left right ≡ false
  unfolding same_set
  set_differs k l e = rw (every_fails left.count (λ k. matched key same right (row_in left k)) k l e)

  -- the left's rows are matched: what only the right has decides
  pub set_left : ((k : ℕ) → k < left.count → matched key same right (row_in left k) ≡ true)
      → same_set key same left right ≡ keys_within key right left
  unfolding same_set
  set_left all = rw (every_intro left.count (λ k. matched key same right (row_in left k)) all)

module _ (image : List ℕ) where
  pub value_none : (level left right : ℕ) → level ≡ 0 → same_value image level left right ≡ false
  unfolding same_value
  value_none level left right e = rw e

  -- one level is taken off
  pub value_step : (level left right : ℕ) → (level ≡ 0 → ⊥) → same_value image level left right ≡ same_by image (same_value image (level - 1)) left right
  unfolding same_value
  value_step zero left right ne = absurd (ne refl)
  value_step (suc level) left right ne = rw (sub-one (suc level))

  module _ (same : ℕ → ℕ → Bool) (left right : ℕ) where
    pub by_unlike : (value_kind image left ≡ value_kind image right → ⊥) → same_by image same left right ≡ false
    unfolding same_by
    by_unlike ne = rw (ne_eqb _ _ ne)

    module _ (like : value_kind image left ≡ value_kind image right) where
      pub by_lists : value_kind image left ≡ list
          → same_by image same left right ≡ same_list same (value_members image left) (value_members image right)
      unfolding same_by
      by_lists e = rw (eq-eqb _ _ like, eq-eqb _ _ e)

      pub by_objects : value_kind image left ≡ object
          → same_by image same left right ≡ same_set (key_of image values) same (value_members image left) (value_members image right)
      unfolding same_by
      by_objects e = rw (eq-eqb _ _ like, e)

      pub by_atoms : (value_kind image left ≡ list → ⊥) → (value_kind image left ≡ object → ⊥)
          → same_by image same left right ≡ eqb (value_atom image left) (value_atom image right)
      unfolding same_by
      by_atoms no-list no_object = rw (eq-eqb _ _ like, ne_eqb _ _ no-list, ne_eqb _ _ no_object)

-- the code's ways out, where a level is left and the left's kind is read
module _ (image : List ℕ) (level left right : ℕ) (some : level ≡ 0 → ⊥) where
  pub value_unlike : {a b : ℕ} → a ≡ value_kind image left → b ≡ value_kind image right → (a ≡ b → ⊥) → false ≡ same_value image level left right
  value_unlike ours theirs ne =
      sym (value_step image level left right some ∙ by_unlike image _ left right (λ e. ne (ours ∙ e ∙ sym theirs)))

  module _ {kind : ℕ} (ours : kind ≡ value_kind image left) (theirs : kind ≡ value_kind image right) where
    like : value_kind image left ≡ value_kind image right
    like = sym ours ∙ theirs

    pub value_lists : kind ≡ list → {a b : Range} {r : Bool} → a ≡ value_members image left → b ≡ value_members image right
        → r ≡ same_list (same_value image (level - 1)) a b → r ≡ same_value image level left right
    value_lists e first second answer =
        rw (answer, first, second) (sym (value_step image level left right some ∙ by_lists image _ left right like (sym ours ∙ e)))

    pub value_objects : kind ≡ object → {a b : Range} {r : Bool} → a ≡ value_members image left → b ≡ value_members image right
        → r ≡ same_set (key_of image values) (same_value image (level - 1)) a b → r ≡ same_value image level left right
    value_objects e first second answer =
        rw (answer, first, second) (sym (value_step image level left right some ∙ by_objects image _ left right like (sym ours ∙ e)))

    pub value_atoms : (kind ≡ list → ⊥) → (kind ≡ object → ⊥) → {a b : ℕ} → a ≡ value_atom image left → b ≡ value_atom image right
        → eqb a b ≡ same_value image level left right
    value_atoms no-list no_object first second =
        rw (first, second)
        (sym (value_step image level left right some ∙ by_atoms image _ left right like (λ e. no-list (ours ∙ e)) (λ e. no_object (ours ∙ e))))
