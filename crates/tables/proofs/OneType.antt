-- A reference stands for one type at most, and in an image without fault for one. Assumes nothing.
use Prim.Native.Nat.{ℕ, zero, suc, ◌<◌, ◌≤◌}
use mathlib.Core.Path.{◌≡◌, refl, sym, ap, ◌∙◌, subst}
use mathlib.Core.List.{List}
use native.Mathlib.Decide.{dec_le, ℕ_discrete}
use native.Mathlib.Omega.{arith}
use Rattle.tables.specs.Layout.{references}
use Rattle.tables.specs.Image.{count_at}
use Rattle.tables.specs.Columns.{reference_kind, reference_child}
use Rattle.tables.specs.Good.{Good, GoodReference}
use Rattle.tables.specs.TypeOf.{Ty, named, list_of, non_null, StandsFor, a_name, a_non_null_name, a_list, a_non_null_list}

module _ (image : List ℕ) where
  -- one child, of which the same is said
  one_child : {c d child : ℕ} {t : Ty} → child ≡ c → child ≡ d → StandsFor image d t → StandsFor image c t
  one_child {t} p q s = subst (λ (x : ℕ). StandsFor image x t) (sym q ∙ p) s

  pub one_type : {r : ℕ} {s t : Ty} → StandsFor image r s → StandsFor image r t → s ≡ t
  one_type (a_name k c) (a_name m d) = ap named (sym c ∙ d)
  one_type (a_name k c) (a_non_null_name m d) = absurd (omega arith)
  one_type (a_name k c) (a_list m d b) = absurd (omega arith)
  one_type (a_name k c) (a_non_null_list m d b) = absurd (omega arith)
  one_type (a_non_null_name k c) (a_name m d) = absurd (omega arith)
  one_type (a_non_null_name k c) (a_non_null_name m d) = ap (λ (n : ℕ). non_null (named n)) (sym c ∙ d)
  one_type (a_non_null_name k c) (a_list m d b) = absurd (omega arith)
  one_type (a_non_null_name k c) (a_non_null_list m d b) = absurd (omega arith)
  one_type (a_list k c a) (a_name m d) = absurd (omega arith)
  one_type (a_list k c a) (a_non_null_name m d) = absurd (omega arith)
  one_type (a_list k c a) (a_list m d b) = ap list_of (one_type a (one_child c d b))
  one_type (a_list k c a) (a_non_null_list m d b) = absurd (omega arith)
  one_type (a_non_null_list k c a) (a_name m d) = absurd (omega arith)
  one_type (a_non_null_list k c a) (a_non_null_name m d) = absurd (omega arith)
  one_type (a_non_null_list k c a) (a_list m d b) = absurd (omega arith)
  one_type (a_non_null_list k c a) (a_non_null_list m d b) = ap (λ (t : Ty). non_null (list_of t)) (one_type a (one_child c d b))

  module _ (good : Good image) where
    type_step : (r : ℕ) → r < count_at image references → ((c : ℕ) → c < r → (t : Ty) × StandsFor image c t) → (t : Ty) × StandsFor image r t
    type_step r known deeper = go (dec_le 2 (reference_kind image r))
      where
        row : GoodReference image r
        row = good.reference r known

        go : Dec (2 ≤ reference_kind image r) → (t : Ty) × StandsFor image r t
        go (yes many) =
            let (t, items) = deeper (reference_child image r) (row.listed many) in
            elim (ℕ_discrete (reference_kind image r) 2) [
              | yes k ↦ (list_of t, a_list k refl items)
              | no k ↦ (non_null (list_of t), a_non_null_list {r = r} (omega (arith, row.kind)) refl items)
            ]
        go (no few) =
            elim (ℕ_discrete (reference_kind image r) 0) [
              | yes k ↦ (named (reference_child image r), a_name k refl)
              | no k ↦ (non_null (named (reference_child image r)), a_non_null_name {r = r} (omega arith) refl)
            ]

    type_below : (n r : ℕ) → r < n → r < count_at image references → (t : Ty) × StandsFor image r t
    type_below zero r less known = absurd (omega arith)
    type_below (suc n) r less known = type_step r known (λ c earlier. type_below n c (omega arith) (omega arith))

    pub a_type : (r : ℕ) → r < count_at image references → (t : Ty) × StandsFor image r t
    a_type r = type_below (suc r) r (omega arith)
