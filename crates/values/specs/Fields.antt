-- The three comparisons of two fields, by their rows, and the rows, ranges and references that they compare.
-- Assumes nothing.
use Rattle.std.specs.Prelude.{ℕ, ◌<◌, ◌≡◌, Bool, List, eqb}
use Rattle.lists.specs.Every.{Distinct}
use Rattle.tables.specs.declared.Range.{Range}
use Rattle.tables.specs.Layout.{references, selections, arguments}
use Rattle.tables.specs.Image.{count_at, row_in}
use Rattle.tables.specs.Columns.{field, input_object, type_kind, innermost, selection_kind, field_name, field_type, field_arguments, argument_name}
use Rattle.tables.specs.Good.{Within}
use Rattle.values.specs.Same.{same_arguments}
use Rattle.values.specs.Shape.{same_shape}

module _ (image : List ℕ) where
  pub record FieldRow (r : ℕ) : Type 0 where
    pub row : r < count_at image selections
    pub kind : selection_kind image r ≡ field

  -- a reference that a field's type may be
  pub record OutputReference (r : ℕ) : Type 0 where
    pub row : r < count_at image references
    pub output : type_kind image (innermost image r) ≡ input_object → ⊥

  -- arguments of distinct names
  pub record ArgumentRange (rows : Range) : Type 0 where
    pub within : Within image rows arguments
    pub distinct : Distinct rows.count (λ k. argument_name image (row_in rows k))

  abbrev pub types_agree : ℕ → ℕ → Bool
  types_agree a b = same_shape image (field_type image a) (field_type image b)

  abbrev pub same_name : ℕ → ℕ → Bool
  same_name a b = eqb (field_name image a) (field_name image b)

  abbrev pub same_field_arguments : ℕ → ℕ → Bool
  same_field_arguments a b = same_arguments image (field_arguments image a) (field_arguments image b)
