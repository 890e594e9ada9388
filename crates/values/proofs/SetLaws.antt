-- The laws of `same_set`, for any keys and any sameness of rows: objects and arguments are two uses. `SameSet` is what it means.
-- Assumes nothing.
use Prim.Native.Nat.{ℕ, ◌<◌}
use mathlib.Core.Path.{◌≡◌, refl, sym, ap, ◌∙◌, subst}
use mathlib.Core.Bool.{Bool, true, ◌&&◌}
use borrow.Author.Tests.{eq-eqb, eqb-true, eqb-false, not-true}
use lib.Arith.{lt_of_le-ne}
use lib.Dec.{eqb}
use native.Mathlib.Omega.{arith}
use Rattle.lists.specs.Every.{every, absent, Distinct}
use Rattle.lists.proofs.Tests.{both, first_of, second_of}
use Rattle.lists.proofs.EveryLaws.{every_intro, every_at, every_cong, position_le, position_passes, position_below}
use Rattle.tables.specs.declared.Range.{Range}
use Rattle.tables.specs.Image.{row_in}
use Rattle.values.specs.Same.{place_of, has_key, keys_within, matched, same_set}
use Rattle.values.proofs.SameCases.{some_key}

-- no two rows of a range have one key
abbrev pub DistinctIn : (ℕ → ℕ) → Range → Type 0
DistinctIn key rows = Distinct rows.count (λ k. key (row_in rows k))

module _ (key : ℕ → ℕ) (rows : Range) (wanted : ℕ) where
  -- a key that is there is found
  pub has_place : has_key key rows wanted ≡ true → place_of key rows wanted < rows.count
  unfolding has_key absent
  has_place e = lt_of_le-ne (position_le _ (λ k. eqb (key (row_in rows k)) wanted)) (eqb-false _ _ (not-true _ e))

  pub place_has : place_of key rows wanted < rows.count → has_key key rows wanted ≡ true
  place_has l = some_key key rows wanted (λ e. omega arith)

  -- what is found has the key
  pub found_key : place_of key rows wanted < rows.count → key (row_in rows (place_of key rows wanted)) ≡ wanted
  found_key l = eqb-true _ _ (position_passes _ (λ k. eqb (key (row_in rows k)) wanted) l)

  -- something is found where a row has the key
  pub found_below : (k : ℕ) → k < rows.count → key (row_in rows k) ≡ wanted → place_of key rows wanted < rows.count
  found_below k l e = position_below _ (λ k. eqb (key (row_in rows k)) wanted) k l (eq-eqb _ _ e)

  -- where keys are distinct it is that row
  pub found_at : DistinctIn key rows → (k : ℕ) → k < rows.count → key (row_in rows k) ≡ wanted → place_of key rows wanted ≡ k
  found_at distinct k l e = distinct (place_of key rows wanted) k (found_below k l e) l (found_key (found_below k l e) ∙ sym e)

-- what `same_set` says: each left row's key is on the right, with the same value there, and each right row's key is on the left
pub record SameSet (key : ℕ → ℕ) (same : ℕ → ℕ → Bool) (left right : Range) : Type 0 where
  pub found : (k : ℕ) → k < left.count → place_of key right (key (row_in left k)) < right.count
  pub alike : (k : ℕ) → k < left.count → same (row_in left k) (row_in right (place_of key right (key (row_in left k)))) ≡ true
  pub covered : (k : ℕ) → k < right.count → place_of key left (key (row_in right k)) < left.count

module _ (key : ℕ → ℕ) (same : ℕ → ℕ → Bool) (left right : Range) where
  matches : same_set key same left right ≡ true → (k : ℕ) → k < left.count → matched key same right (row_in left k) ≡ true
  unfolding same_set
  matches e =
      every_at left.count (λ k. matched key same right (row_in left k))
      (first_of (every left.count (λ k. matched key same right (row_in left k))) (keys_within key right left) e)

  pub set_holds : same_set key same left right ≡ true → SameSet key same left right
  unfolding same_set matched keys_within
  set_holds e = record {
    found = λ k l. has_place key right _ (first_of _ _ (matches e k l));
    alike = λ k l. second_of (has_key key right (key (row_in left k))) _ (matches e k l);
    covered = λ k l. has_place key left _ (every_at right.count (λ k. has_key key left (key (row_in right k)))
        (second_of (every left.count (λ k. matched key same right (row_in left k))) (every right.count (λ k. has_key key left (key (row_in right k)))) e) k l);
  }

  pub holds_set : SameSet key same left right → same_set key same left right ≡ true
  unfolding same_set matched keys_within
  holds_set s =
      both (every_intro left.count _ (λ k l. both (place_has key right _ (s.found k l)) (s.alike k l)))
      (every_intro right.count _ (λ k l. place_has key left _ (s.covered k l)))

module _ (key : ℕ → ℕ) (same : ℕ → ℕ → Bool) where
  pub set_refl : (rows : Range) → DistinctIn key rows
      → ((k : ℕ) → k < rows.count → same (row_in rows k) (row_in rows k) ≡ true) → same_set key same rows rows ≡ true
  set_refl rows distinct alike =
      holds_set key same rows rows
      (record {
        found = λ k l. found_below key rows _ k l refl;
        alike = λ k l. subst (λ (j : ℕ). same (row_in rows k) (row_in rows j) ≡ true) (sym (found_at key rows _ distinct k l refl)) (alike k l);
        covered = λ k l. found_below key rows _ k l refl;
      })

  pub set_sym : (left right : Range) → DistinctIn key right
      → ((j k : ℕ) → j < left.count → k < right.count → same (row_in left j) (row_in right k) ≡ true → same (row_in right k) (row_in left j) ≡ true)
      → same_set key same left right ≡ true → same_set key same right left ≡ true
  set_sym left right distinct back e = holds_set key same right left (record { found = s.covered; alike = alike; covered = s.found })
    where
      s : SameSet key same left right
      s = set_holds key same left right e

      -- the left row that has the key of the right row k, and where its own key is found
      alike : (k : ℕ) → k < right.count → same (row_in right k) (row_in left (place_of key left (key (row_in right k)))) ≡ true
      alike k l =
          let j = place_of key left (key (row_in right k)) in
          let below = s.covered k l in
          let at = found_at key right (key (row_in left j)) distinct k l (sym (found_key key left _ below)) in
          back j k below l (subst (λ (i : ℕ). same (row_in left j) (row_in right i) ≡ true) at (s.alike j below))

  pub set_trans : (left middle right : Range)
      → ((a b c : ℕ) → same a b ≡ true → same b c ≡ true → same a c ≡ true)
      → same_set key same left middle ≡ true → same_set key same middle right ≡ true → same_set key same left right ≡ true
  set_trans left middle right through e f = holds_set key same left right (record {
    found = λ k l. (onward k l).0;
    alike = λ k l. (onward k l).1;
    covered = covered;
  })
    where
      s : SameSet key same left middle
      s = set_holds key same left middle e

      t : SameSet key same middle right
      t = set_holds key same middle right f

      -- the key of the left row k, found in the middle, is found on the right
      onward : (k : ℕ) → k < left.count
          → (place_of key right (key (row_in left k)) < right.count)
          × (same (row_in left k) (row_in right (place_of key right (key (row_in left k)))) ≡ true)
      onward k l =
          let j = place_of key middle (key (row_in left k)) in
          subst
          (λ (w : ℕ). (place_of key right w < right.count) × (same (row_in left k) (row_in right (place_of key right w)) ≡ true))
          (found_key key middle (key (row_in left k)) (s.found k l))
          (t.found j (s.found k l), through _ _ _ (s.alike k l) (t.alike j (s.found k l)))

      covered : (k : ℕ) → k < right.count → place_of key left (key (row_in right k)) < left.count
      covered k l =
          subst (λ (w : ℕ). place_of key left w < left.count)
          (found_key key middle (key (row_in right k)) (t.covered k l))
          (s.covered (place_of key middle (key (row_in right k))) (t.covered k l))

-- samenesses that agree on the left rows make one sameness of sets
pub set_cong : (key : ℕ → ℕ) (same other : ℕ → ℕ → Bool) (left right : Range)
    → ((k : ℕ) → k < left.count → (row : ℕ) → same (row_in left k) row ≡ other (row_in left k) row)
    → same_set key same left right ≡ same_set key other left right
unfolding same_set matched
set_cong key same other left right agree =
    ap (λ (b : Bool). b && keys_within key right left)
    (every_cong left.count _ _ (λ k l. ap (λ (b : Bool). has_key key right (key (row_in left k)) && b) (agree k l _)))
