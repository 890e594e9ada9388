-- `same_shape` is what the specification asks of two fields' types: two references of an image without fault have one shape exactly if
-- the types that they stand for are the same to SameResponseShape.
-- Assumes nothing.
use Prim.Native.Nat.{ℕ, ◌<◌, ◌≤◌}
use mathlib.Core.Path.{◌≡◌, refl, sym, ◌∙◌}
use mathlib.Core.Logic.{◌↔◌}
use mathlib.Core.Bool.{true}
use mathlib.Core.List.{List}
use native.Mathlib.Omega.{arith}
use Rattle.tables.specs.Layout.{references}
use Rattle.tables.specs.Image.{count_at}
use Rattle.tables.specs.Columns.{type_kind, reference_kind, reference_child}
use Rattle.tables.specs.Good.{Good}
use Rattle.tables.specs.TypeOf.{Ty, named, list_of, non_null, StandsFor, a_name, a_non_null_name, a_list, a_non_null_list}
use Rattle.tables.proofs.ColumnLaws.{a_composite}
use Rattle.values.specs.Shape.{same_shape}
use Rattle.values.specs.ResponseShape.{SameTypes, non_nulls, items, leaves, composites}
use Rattle.values.proofs.ShapeCases.{a_leaf}
use Rattle.values.proofs.ShapeLaws.{leaf_kind, composite_kind, NamedSays, one_leaf, composites as both-composite, ShapeSays, of_names, of_lists, shape_says, says_shape}
-- every reference stands for a type
pub use Rattle.tables.proofs.OneType.{a_type}

-- a name, a list, a non-null type
form : Ty → ℕ
form (named n) = 0
form (list_of t) = 1
form (non_null t) = 2

one_form : {kind_of : ℕ → ℕ} {s t : Ty} → SameTypes kind_of s t → form s ≡ form t
unfolding form
one_form (non_nulls s) = refl
one_form (items s) = refl
one_form (leaves h same) = refl
one_form (composites h g) = refl

module _ (image : List ℕ) where
  -- ---- two named types

  named_types : (l r : ℕ) → NamedSays image l r → SameTypes (type_kind image) (named l) (named r)
  named_types l r (one_leaf h same) = leaves (leaf_kind _ h) same
  named_types l r (both-composite h g) =
      let a = composite_kind _ h in
      let b = composite_kind _ g in
      composites (record { from_object = a.0; to_union = omega arith }) (record { from_object = b.0; to_union = omega arith })

  types_named : {l r : ℕ} → SameTypes (type_kind image) (named l) (named r) → NamedSays image l r
  types_named (leaves h same) = one_leaf (a_leaf _ h) same
  types_named (composites h g) =
      both-composite (a_composite _ h.from_object (omega (arith, h.to_union))) (a_composite _ g.from_object (omega (arith, g.to_union)))

  -- ---- two references, of which the shape is said

  module _ (l r : ℕ) where
    one_kind : ShapeSays image l r → reference_kind image l ≡ reference_kind image r
    one_kind (of_names low e s) = e
    one_kind (of_lists low high e less s) = e

    module _ {c d : ℕ} (first : reference_child image l ≡ c) (second : reference_child image r ≡ d) where
      two_names : reference_kind image l ≤ 1 → ShapeSays image l r → SameTypes (type_kind image) (named c) (named d)
      two_names few (of_names low e s) = rw (← first, ← second) (named_types _ _ s)
      two_names few (of_lists low high e less s) = absurd (omega arith)

      two_lists : 2 ≤ reference_kind image l → ShapeSays image l r → same_shape image c d ≡ true
      two_lists many (of_names low e s) = absurd (omega arith)
      two_lists many (of_lists low high e less s) = rw (← first, ← second) s

      names_shape : (kind : ℕ) → kind ≤ 1 → reference_kind image l ≡ kind → reference_kind image r ≡ kind → SameTypes (type_kind image) (named c) (named d) → same_shape image l r ≡ true
      names_shape kind few k m s = says_shape image l r (of_names (omega arith) (k ∙ sym m) (rw (first, second) (types_named s)))

      lists_shape : (kind : ℕ) → 2 ≤ kind → kind ≤ 3 → reference_kind image l ≡ kind → reference_kind image r ≡ kind → c < l → same_shape image c d ≡ true → same_shape image l r ≡ true
      lists_shape kind many few k m less s = says_shape image l r (of_lists (omega arith) (omega arith) (k ∙ sym m) (omega arith) (rw (first, second) s))

  -- one shape: the types are the same, in any image
  pub shape_types : {l r : ℕ} {s t : Ty} → StandsFor image l s → StandsFor image r t → same_shape image l r ≡ true → SameTypes (type_kind image) s t
  shape_types (a_name k c) (a_name m d) e = two_names _ _ c d (omega arith) (shape_says image _ _ e)
  shape_types (a_non_null_name k c) (a_non_null_name m d) e = non_nulls (two_names _ _ c d (omega arith) (shape_says image _ _ e))
  shape_types (a_list k c a) (a_list m d b) e = items (shape_types a b (two_lists _ _ c d (omega arith) (shape_says image _ _ e)))
  shape_types (a_non_null_list k c a) (a_non_null_list m d b) e = non_nulls (items (shape_types a b (two_lists _ _ c d (omega arith) (shape_says image _ _ e))))
  shape_types (a_name k c) (a_non_null_name m d) e = absurd (omega (arith, one_kind _ _ (shape_says image _ _ e)))
  shape_types (a_name k c) (a_list m d b) e = absurd (omega (arith, one_kind _ _ (shape_says image _ _ e)))
  shape_types (a_name k c) (a_non_null_list m d b) e = absurd (omega (arith, one_kind _ _ (shape_says image _ _ e)))
  shape_types (a_non_null_name k c) (a_name m d) e = absurd (omega (arith, one_kind _ _ (shape_says image _ _ e)))
  shape_types (a_non_null_name k c) (a_list m d b) e = absurd (omega (arith, one_kind _ _ (shape_says image _ _ e)))
  shape_types (a_non_null_name k c) (a_non_null_list m d b) e = absurd (omega (arith, one_kind _ _ (shape_says image _ _ e)))
  shape_types (a_list k c a) (a_name m d) e = absurd (omega (arith, one_kind _ _ (shape_says image _ _ e)))
  shape_types (a_list k c a) (a_non_null_name m d) e = absurd (omega (arith, one_kind _ _ (shape_says image _ _ e)))
  shape_types (a_list k c a) (a_non_null_list m d b) e = absurd (omega (arith, one_kind _ _ (shape_says image _ _ e)))
  shape_types (a_non_null_list k c a) (a_name m d) e = absurd (omega (arith, one_kind _ _ (shape_says image _ _ e)))
  shape_types (a_non_null_list k c a) (a_non_null_name m d) e = absurd (omega (arith, one_kind _ _ (shape_says image _ _ e)))
  shape_types (a_non_null_list k c a) (a_list m d b) e = absurd (omega (arith, one_kind _ _ (shape_says image _ _ e)))

  -- the types are the same: one shape
  pub types_shape : Good image → {l r : ℕ} {s t : Ty} → l < count_at image references → StandsFor image l s → StandsFor image r t
      → SameTypes (type_kind image) s t → same_shape image l r ≡ true
  unfolding form
  types_shape good known (a_name k c) (a_name m d) s = names_shape _ _ c d 0 (omega arith) k m s
  types_shape good known (a_non_null_name k c) (a_non_null_name m d) (non_nulls s) = names_shape _ _ c d 1 (omega arith) k m s
  types_shape good {l} known (a_list k c a) (a_list m d b) (items s) =
      let less = (good.reference l known).listed (omega arith) in
      lists_shape _ _ c d 2 (omega arith) (omega arith) k m (omega arith) (types_shape good (omega arith) a b s)
  types_shape good {l} known (a_non_null_list k c a) (a_non_null_list m d b) (non_nulls (items s)) =
      let less = (good.reference l known).listed (omega arith) in
      lists_shape _ _ c d 3 (omega arith) (omega arith) k m (omega arith) (types_shape good (omega arith) a b s)
  types_shape good known (a_non_null_name k c) (a_non_null_list m d b) (non_nulls s) = let unlike : ◌≡◌ {A = ℕ} 0 1 = one_form s in absurd (omega arith)
  types_shape good known (a_non_null_list k c a) (a_non_null_name m d) (non_nulls s) = let unlike : ◌≡◌ {A = ℕ} 1 0 = one_form s in absurd (omega arith)
  types_shape good known (a_non_null_name {r = r} {child = child} k c) (a_name m d) s = elim s [ ]
  types_shape good known (a_non_null_name {r = r} {child = child} k c) (a_list {t = t} m d b) s = elim s [ ]
  types_shape good known (a_non_null_list {r = r} {child = child} {t = t} k c a) (a_name m d) s = elim s [ ]
  types_shape good known (a_non_null_list {r = r} {child = child} {t = t} k c a) (a_list m d b) s = elim s [ ]
  types_shape good known (a_name {r = r} {child = child} k c) (a_non_null_name m d) s = elim s [ ]
  types_shape good known (a_name {r = r} {child = child} k c) (a_non_null_list {t = t} m d b) s = elim s [ ]
  types_shape good known (a_name {r = r} {child = child} k c) (a_list {t = t} m d b) s = elim s [ ]
  types_shape good known (a_list {r = r} {child = child} {t = t} k c a) (a_non_null_name m d) s = elim s [ ]
  types_shape good known (a_list {r = r} {child = child} {t = t} k c a) (a_non_null_list m d b) s = elim s [ ]
  types_shape good known (a_list {r = r} {child = child} {t = t} k c a) (a_name m d) s = elim s [ ]

  -- exactly if
  pub shape_decides : Good image → {l r : ℕ} {s t : Ty} → l < count_at image references → StandsFor image l s → StandsFor image r t
      → (same_shape image l r ≡ true) ↔ SameTypes (type_kind image) s t
  shape_decides good known a b = (shape_types a b, types_shape good known a b)
