-- The laws of `same_list`, for any sameness of rows. Assumes nothing.
use Prim.Native.Nat.{ℕ, ◌<◌}
use mathlib.Core.Path.{◌≡◌, refl, sym, ap, ◌∙◌, subst}
use mathlib.Core.Bool.{Bool, true, ◌&&◌}
use borrow.Author.Tests.{eqb-true}
use lib.Dec.{eqb}
use Rattle.lists.specs.Every.{every}
use Rattle.lists.proofs.Tests.{first_of, second_of}
use Rattle.lists.proofs.EveryLaws.{every_at, every_cong}
use Rattle.tables.specs.declared.Range.{Range}
use Rattle.tables.specs.Image.{row_in}
use Rattle.values.specs.Same.{same_list}
use Rattle.values.proofs.SameCases.{list_same}

-- what `same_list` says
module _ (same : ℕ → ℕ → Bool) (left right : Range) where
  abbrev member : ℕ → Bool
  member k = same (row_in left k) (row_in right k)

  pub one_length : same_list same left right ≡ true → left.count ≡ right.count
  unfolding same_list
  one_length e = eqb-true _ _ (first_of (eqb left.count right.count) (every left.count member) e)

  pub members_same : same_list same left right ≡ true → (k : ℕ) → k < left.count → member k ≡ true
  unfolding same_list
  members_same e = every_at left.count member (second_of (eqb left.count right.count) (every left.count member) e)

module _ (same : ℕ → ℕ → Bool) where
  pub list_refl : (rows : Range) → ((k : ℕ) → k < rows.count → same (row_in rows k) (row_in rows k) ≡ true) → same_list same rows rows ≡ true
  list_refl rows alike = list_same same rows rows refl alike

  pub list_sym : (left right : Range)
      → ((j k : ℕ) → j < left.count → k < right.count → same (row_in left j) (row_in right k) ≡ true → same (row_in right k) (row_in left j) ≡ true)
      → same_list same left right ≡ true → same_list same right left ≡ true
  list_sym left right back e =
      let length = one_length same left right e in
      list_same same right left (sym length)
      (λ k l.
      let l' = subst (λ (n : ℕ). k < n) (sym length) l in
      back k k l' l (members_same same left right e k l'))

  pub list_trans : (left middle right : Range)
      → ((a b c : ℕ) → same a b ≡ true → same b c ≡ true → same a c ≡ true)
      → same_list same left middle ≡ true → same_list same middle right ≡ true → same_list same left right ≡ true
  list_trans left middle right through e f =
      let length = one_length same left middle e in
      list_same same left right (length ∙ one_length same middle right f)
      (λ k l. through _ _ _ (members_same same left middle e k l) (members_same same middle right f k (subst (λ (n : ℕ). k < n) length l)))

-- samenesses that agree on the left rows make one sameness of lists
pub list_cong : (same other : ℕ → ℕ → Bool) (left right : Range)
    → ((k : ℕ) → k < left.count → (row : ℕ) → same (row_in left k) row ≡ other (row_in left k) row)
    → same_list same left right ≡ same_list other left right
unfolding same_list
list_cong same other left right agree =
    ap (λ (b : Bool). eqb left.count right.count && b) (every_cong left.count _ _ (λ k l. agree k l _))
