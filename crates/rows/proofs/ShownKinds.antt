-- The kind that the rows can show: 4. Assumes nothing.
use Prim.Native.Nat.{ℕ}
use mathlib.Core.Path.{◌≡◌, refl}
use mathlib.Core.List.{List}
use Rattle.lists.proofs.FirstLaws.{AllSome, all_expect, all_next, all_first}
use Rattle.tables.specs.Header.{Refusal}
use Rattle.rows.specs.RowFault.{broken_row, left_over, unclaimed_fault, row_fault}

pub row_kind : (image : List ℕ) → AllSome (λ (r : Refusal). r.kind ≡ 4) (row_fault image)
unfolding row_fault broken_row unclaimed_fault left_over
row_kind image =
    all_next P _ _ (all_first P _ _ (λ t. all_expect P _ _ refl))
    (all_next P _ _ (all_expect P _ _ refl) (all_next P _ _ (all_expect P _ _ refl) (all_expect P _ _ refl)))
  where
    P : Refusal → Type 0
    P r = r.kind ≡ 4
