-- In an image without fault each comparison is an equivalence: of the values of arguments, of ranges of arguments, of output types,
-- and of two fields by their types, their names and their arguments.
-- Assumes nothing.
use Prim.Native.Nat.{ℕ, ◌+◌, ◌<◌}
use mathlib.Core.Path.{◌≡◌, refl, sym, ◌∙◌}
use mathlib.Core.Bool.{Bool, true, false}
use mathlib.Core.List.{List}
use native.Mathlib.Omega.{arith}
use borrow.Author.Tests.{eq-eqb, eqb-true}
use lib.Dec.{T}
use Rattle.tables.specs.declared.Range.{Range}
use Rattle.tables.specs.Layout.{arguments}
use Rattle.tables.specs.Image.{count_at, row_in}
use Rattle.tables.specs.Columns.{field_name, field_type, field_arguments}
use Rattle.tables.specs.Keys.{key_of}
use Rattle.tables.specs.Numbering.{deepest_level}
use Rattle.tables.specs.Good.{Good, GoodField}
use Rattle.tables.proofs.Ranges.{row_in_lem}
use Rattle.values.specs.Same.{same_value, same_arguments}
use Rattle.values.specs.Shape.{same_shape}
use Rattle.values.specs.Fields.{FieldRow, OutputReference, ArgumentRange, types_agree, same_name, same_field_arguments}
use Rattle.values.specs.Equivalence.{Equivalence}
use Rattle.tables.proofs.Counts.{few_rows}
use Rattle.tables.proofs.ColumnLaws.{argument_key}
use Rattle.values.proofs.SetLaws.{DistinctIn, set_refl, set_sym, set_trans}
use Rattle.values.proofs.ValueLaws.{Fits, value_refl, value_sym, value_trans}
use Rattle.values.proofs.ShapeLaws.{shape_refl, shape_sym, shape_trans}

-- ---- an equivalence from equations

holds : (b : Bool) → b ≡ true → T b
holds b e = rw e tt

is_true : (b : Bool) → T b → b ≡ true
is_true true t = refl
is_true false t = absurd t

module _ {A : Type 0} (On : A → Type 0) (same : A → A → Bool) where
  equivalence : ((a : A) → On a → same a a ≡ true)
      → ((a b : A) → On a → On b → same a b ≡ true → same b a ≡ true)
      → ((a b c : A) → same a b ≡ true → same b c ≡ true → same a c ≡ true) → Equivalence On same
  equivalence same_refl same-sym same-trans = record {
    reflexive = λ {a} i. holds _ (same_refl a i);
    symmetric = λ {a} {b} i j t. holds _ (same-sym a b i j (is_true _ t));
    transitive = λ {a} {b} {c} i j k t u. holds _ (same-trans a b c (is_true _ t) (is_true _ u));
  }

-- a comparison of what rows hold is an equivalence where it is one on what they hold
module _ {A B : Type 0} (On : A → Type 0) (At : B → Type 0) (same : A → A → Bool) (part : B → A) (part-on : (b : B) → At b → On (part b)) where
  of_parts : Equivalence On same → Equivalence At (λ a b. same (part a) (part b))
  of_parts E = record {
    reflexive = λ {a} i. E.reflexive (part-on a i);
    symmetric = λ {a} {b} i j. E.symmetric (part-on a i) (part-on b j);
    transitive = λ {a} {b} {c} i j k. E.transitive (part-on a i) (part-on b j) (part-on c k);
  }

module _ (image : List ℕ) (good : Good image) where
  -- ---- values of arguments

  pub argument_fits : (a : ℕ) → a < count_at image arguments → Fits image deepest_level a
  argument_fits a h =
      let row = (good.argument a h).value in
      record { row = row; deep = omega (arith, (good.value a row).argument_level h) }

  pub values_equivalence : Equivalence (λ a. a < count_at image arguments) (same_value image deepest_level)
  values_equivalence =
      equivalence _ _ (λ a i. value_refl image good deepest_level a (argument_fits a i))
      (λ a b i j. value_sym image good deepest_level a b (argument_fits a i) (argument_fits b j)) (value_trans image deepest_level)

  -- ---- ranges of arguments

  pub fit_in : (rows : Range) → ArgumentRange image rows → (k : ℕ) → k < rows.count → Fits image deepest_level (row_in rows k)
  fit_in rows r k l =
      let inside = r.within.ends in
      rw (row_in_lem rows k (omega (arith, few_rows image good.few arguments (omega arith)))) (argument_fits (rows.first + k) (omega arith))

  pub names_distinct : (rows : Range) → ArgumentRange image rows → DistinctIn (key_of image arguments) rows
  names_distinct rows r j k lj lk e = r.distinct j k lj lk (sym (argument_key image _) ∙ e ∙ argument_key image _)

  pub arguments_equivalence : Equivalence (ArgumentRange image) (same_arguments image)
  unfolding same_arguments
  arguments_equivalence =
      equivalence _ _
      (λ a i. set_refl (key_of image arguments) (same_value image deepest_level) a (names_distinct a i)
      (λ k l. value_refl image good deepest_level _ (fit_in a i k l)))
      (λ a b i j. set_sym (key_of image arguments) (same_value image deepest_level) a b (names_distinct b j)
      (λ m k l h. value_sym image good deepest_level _ _ (fit_in a i m l) (fit_in b j k h)))
      (λ a b c. set_trans (key_of image arguments) (same_value image deepest_level) a b c (value_trans image deepest_level))

  -- ---- output types

  pub shapes_equivalence : Equivalence (OutputReference image) (same_shape image)
  shapes_equivalence = equivalence _ _ (shape_refl image good) (λ a b i j. shape_sym image good a b j.row) (shape_trans image)

  -- ---- fields

  good_field_lem : (r : ℕ) → FieldRow image r → GoodField image r
  good_field_lem r f = (good.selection r f.row).field_row f.kind

  pub field_reference : (r : ℕ) → FieldRow image r → OutputReference image (field_type image r)
  field_reference r f = record { row = (good_field_lem r f).reference; output = (good_field_lem r f).output }

  pub field_range : (r : ℕ) → FieldRow image r → ArgumentRange image (field_arguments image r)
  field_range r f = record { within = (good.selection r f.row).arguments_within; distinct = (good_field_lem r f).distinct_names }

  pub types_agree_lem : Equivalence (FieldRow image) (types_agree image)
  types_agree_lem = of_parts (OutputReference image) (FieldRow image) (same_shape image) (field_type image) field_reference shapes_equivalence

  pub same_names : Equivalence (FieldRow image) (same_name image)
  same_names =
      equivalence _ _ (λ a i. eq-eqb (field_name image a) (field_name image a) refl)
      (λ a b i j e. eq-eqb (field_name image b) (field_name image a) (sym (eqb-true _ _ e)))
      (λ a b c e f. eq-eqb (field_name image a) (field_name image c) (eqb-true _ _ e ∙ eqb-true _ _ f))

  pub same_arguments_lem : Equivalence (FieldRow image) (same_field_arguments image)
  same_arguments_lem = of_parts (ArgumentRange image) (FieldRow image) (same_arguments image) (field_arguments image) field_range arguments_equivalence
