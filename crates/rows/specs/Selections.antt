-- Kind 4, table 5: the rules of a selection. Two of them lean on other rows: which number the set
-- that a selection owns must have, and which set the selection stands in.
-- Assumes nothing.
use Rattle.std.specs.Prelude.{ℕ, suc, Bool, false, cond, not, ◌&&◌, ◌||◌, List, eqb, leb, ltb}
use Rattle.lists.specs.Every.{distinct}
use Rattle.tables.specs.declared.Range.{Range}
use Rattle.tables.specs.declared.columns.Selection.{Selection}
use Rattle.tables.specs.Layout.{NONE, references, fragments, sets, arguments}
use Rattle.tables.specs.Image.{count_at, is_row, lies_within}
use Rattle.tables.specs.Columns.{field, spread, inline, input_object, is_composite, innermost, type_kind, set_parent, selection_at}
use Rattle.tables.specs.Keys.{key_in}
use Rattle.tables.specs.Numbering.{most_arguments, owns_set, next_set, home_set}

-- words 1 to 5 of a spread or an inline are 0
unfoldable pub has_no_field_words : Selection → Bool
has_no_field_words row =
    eqb row.response 0 && eqb row.name 0 && eqb row.reference 0 && eqb row.arguments.first 0 && eqb row.arguments.count 0

module _ (image : List ℕ) where
  -- a field has at most 64 arguments, names distinct
  unfoldable pub good_arguments : Range → Bool
  good_arguments rows =
      leb rows.count most_arguments
      && lies_within rows (count_at image arguments)
      && distinct rows.count (key_in image arguments rows)

  module _ (row : Selection) where
    -- the kind of a field's innermost type
    abbrev pub core_kind : ℕ
    core_kind = type_kind image (innermost image row.reference)

    -- not kind 5; if scalar or enum the field owns no set
    unfoldable pub good_field_type : Bool
    good_field_type =
        is_row image references row.reference
        && not (eqb core_kind input_object)
        && (is_composite core_kind || eqb row.target NONE)

    unfoldable pub good_field : Bool
    good_field = good_field_type && good_arguments row.arguments

    -- a spread's target is a fragment row
    unfoldable pub good_spread : Bool
    good_spread = is_row image fragments row.target && has_no_field_words row

    -- the rules that only the rows which it names have a part in
    unfoldable pub good_by_itself : Bool
    good_by_itself =
        lies_within row.directives (count_at image arguments)
        && cond (eqb row.kind field) good_field
        (cond (eqb row.kind spread) good_spread (cond (eqb row.kind inline) (has_no_field_words row) false))

    -- a set that a field owns has the field's innermost type for its parent
    unfoldable pub agrees_with_parent : Bool
    agrees_with_parent = not (eqb row.kind field) || eqb (set_parent image row.target) (innermost image row.reference)

    -- the set that it owns has the next number, is there, and is not below the least
    unfoldable pub good_owned : (next least : ℕ) → Bool
    good_owned next least = eqb row.target next && is_row image sets row.target && leb least row.target && agrees_with_parent

    unfoldable pub selection_rule : (next least : ℕ) → Bool
    selection_rule next least = good_by_itself && (not (owns_set row) || good_owned next least)

  -- greater than the set it stands in; a selection in no set is spared that
  unfoldable pub least_owned : ℕ → ℕ
  least_owned r = cond (ltb (home_set image r) (count_at image sets)) (suc (home_set image r)) 0

  unfoldable pub good_selection : ℕ → Bool
  good_selection r = selection_rule (selection_at image r) (next_set image r) (least_owned r)
