-- What a selection's rules come to, case by case, in terms of the definitions alone. Assumes nothing.
use Prim.Native.Nat.{ℕ, ◌<◌, ◌≤◌}
use mathlib.Core.Path.{◌≡◌}
use mathlib.Core.Bool.{true, false}
use mathlib.Core.List.{List}
use lib.Dec.{eqb}
use borrow.Author.Tests.{le-leb, lt-ltb, eq-eqb, ne_eqb}
use Rattle.lists.specs.Every.{distinct}
use Rattle.tables.specs.declared.Range.{Range}
use Rattle.tables.specs.declared.columns.Selection.{Selection}
use Rattle.tables.specs.Layout.{NONE, references, fragments, sets, arguments}
use Rattle.tables.specs.Image.{count_at, lies_within}
use Rattle.tables.specs.Columns.{field, spread, inline, input_object, is_composite, innermost, set_parent}
use Rattle.tables.specs.Keys.{key_in}
use Rattle.tables.specs.Numbering.{most_arguments, owns_set}
use Rattle.rows.specs.Selections.{good_arguments, core_kind, good_field_type, good_field, has_no_field_words, good_spread, good_by_itself, agrees_with_parent, good_owned, selection_rule}

-- a field's arguments
pub arguments_there : (image : List ℕ) (rows : Range) → rows.count ≤ most_arguments → lies_within rows (count_at image arguments) ≡ true
    → distinct rows.count (key_in image arguments rows) ≡ good_arguments image rows
unfolding good_arguments
arguments_there image rows few inside = rw (le-leb _ _ few, inside)

module _ (image : List ℕ) (row : Selection) where
  -- a field's type
  module _ (there : row.reference < count_at image references) {kind : ℕ} (core : kind ≡ core_kind image row) where
    pub composite_core : (kind ≡ input_object → ⊥) → is_composite kind ≡ true → true ≡ good_field_type image row
    unfolding good_field_type
    composite_core e composite = rw (lt-ltb _ _ there, ← core, ne_eqb _ _ e, composite)

    pub simple_core : (kind ≡ input_object → ⊥) → is_composite kind ≡ false → eqb row.target NONE ≡ good_field_type image row
    unfolding good_field_type
    simple_core e simple = rw (lt-ltb _ _ there, ← core, ne_eqb _ _ e, simple)

  -- a field, a spread
  pub type_right : good_field_type image row ≡ true → good_arguments image row.arguments ≡ good_field image row
  unfolding good_field
  type_right right = rw right

  pub fragment_there : row.target < count_at image fragments → has_no_field_words row ≡ good_spread image row
  unfolding good_spread
  fragment_there there = rw (lt-ltb _ _ there)

  -- by itself
  module _ (inside : lies_within row.directives (count_at image arguments) ≡ true) where
    pub as_field : row.kind ≡ field → good_field image row ≡ good_by_itself image row
    unfolding good_by_itself
    as_field e = rw (inside, eq-eqb _ _ e)

    pub as_spread : row.kind ≡ spread → good_spread image row ≡ good_by_itself image row
    unfolding good_by_itself
    as_spread e = rw (inside, e)

    pub as_inline : row.kind ≡ inline → has_no_field_words row ≡ good_by_itself image row
    unfolding good_by_itself
    as_inline e = rw (inside, e)

  -- the set that it owns
  module _ (next least : ℕ) where
    module _ (e : row.target ≡ next) (there : row.target < count_at image sets) where
      pub field_set : least ≤ row.target → row.kind ≡ field → {parent core : ℕ} → parent ≡ set_parent image row.target → core ≡ innermost image row.reference
          → eqb parent core ≡ good_owned image row next least
      unfolding good_owned agrees_with_parent
      field_set above kind parent core = rw (eq-eqb _ _ e, lt-ltb _ _ there, le-leb _ _ above, eq-eqb _ _ kind, parent, core)

      pub inline_set : least ≤ row.target → (row.kind ≡ field → ⊥) → true ≡ good_owned image row next least
      unfolding good_owned agrees_with_parent
      inline_set above kind = rw (eq-eqb _ _ e, lt-ltb _ _ there, le-leb _ _ above, ne_eqb _ _ kind)

    -- the whole rule
    pub good_owning_none : good_by_itself image row ≡ true → owns_set row ≡ false → true ≡ selection_rule image row next least
    unfolding selection_rule
    good_owning_none good none = rw (good, none)

    pub good_owning : good_by_itself image row ≡ true → owns_set row ≡ true → good_owned image row next least ≡ selection_rule image row next least
    unfolding selection_rule
    good_owning good owns = rw (good, owns)
