-- The kind that the header can show: 1. Assumes nothing.
use Prim.Native.Nat.{ℕ}
use mathlib.Core.Path.{◌≡◌, refl}
use mathlib.Core.List.{List}
use Rattle.lists.proofs.FirstLaws.{AllSome, all_expect, all_next, all_first}
use Rattle.tables.specs.Header.{Refusal, table_fault, edition_fault, header_fault}

pub header_kind : (image : List ℕ) → AllSome (λ (r : Refusal). r.kind ≡ 1) (header_fault image)
unfolding edition_fault table_fault
header_kind image =
    all_next P _ _ (all_expect P _ _ refl) (all_next P _ _ (all_expect P _ _ refl) (all_next P _ _ (all_expect P _ _ refl) (all_next P _ _ (all_expect P _ _ refl)
    (all_next P _ _ (all_first P _ _ (λ t. all_next P _ _ (all_expect P _ _ refl) (all_expect P _ _ refl))) (all_expect P _ _ refl)))))
  where
    P : Refusal → Type 0
    P r = r.kind ≡ 1
