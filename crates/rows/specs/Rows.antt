-- Kind 4, the tables whose rows are judged one by one: types, type references, operations, fragments, sets, arguments,
-- variables. A rule may lean on lower rows and lower tables: the first fault is named, so where a
-- row is judged those are good.
-- Assumes nothing.
use Rattle.std.specs.Prelude.{ℕ, zero, suc, Bool, true, cond, ◌&&◌, List, eqb, leb, ltb}
use Rattle.tables.specs.Layout.{types, references, sets, selections, arguments, values, variables}
use Rattle.tables.specs.Image.{count_at, is_row, lies_within}
use Rattle.tables.specs.Columns.{type_name, type_kind, reference_kind, reference_child, is_list_reference, is_composite}
use Rattle.tables.specs.Columns.{operation_variables, operation_directives, fragment_directives, fragment_set, set_parent, set_selections}
use Rattle.tables.specs.Columns.{argument_type, argument_default, variable_type, variable_default}
use Rattle.tables.specs.Numbering.{set_start}

module _ (image : List ℕ) where
  -- table 0: the kind is one of six; names ascend strictly
  unfoldable pub ascends : ℕ → Bool
  ascends zero = true
  ascends (suc r) = ltb (type_name image r) (type_name image (suc r))

  unfoldable pub good_type : ℕ → Bool
  good_type r = leb (type_kind image r) 5 && ascends r

  -- table 1: the kind is one of four; children of kinds 0, 1 are type rows, of 2, 3 an earlier reference
  unfoldable pub good_child : ℕ → Bool
  good_child r = cond (is_list_reference (reference_kind image r)) (ltb (reference_child image r) r) (is_row image types (reference_child image r))

  unfoldable pub good_reference : ℕ → Bool
  good_reference r = leb (reference_kind image r) 3 && good_child r

  -- tables 2 and 3: ranges lie within their tables; the set that is owned is there
  unfoldable pub good_operation : ℕ → Bool
  good_operation i =
      lies_within (operation_variables image i) (count_at image variables)
      && lies_within (operation_directives image i) (count_at image arguments)
      && is_row image sets i

  unfoldable pub good_fragment : ℕ → Bool
  good_fragment j = lies_within (fragment_directives image j) (count_at image arguments) && is_row image sets (fragment_set image j)

  -- table 4: the parent is composite; ranges follow one another from selection 0 and lie within the selections
  unfoldable pub good_parent : ℕ → Bool
  good_parent s = is_row image types (set_parent image s) && is_composite (type_kind image (set_parent image s))

  unfoldable pub good_set : ℕ → Bool
  good_set s =
      good_parent s
      && eqb (set_selections image s).first (set_start image s)
      && lies_within (set_selections image s) (count_at image selections)

  -- table 6: argument a has value row a
  unfoldable pub good_argument : ℕ → Bool
  good_argument a = is_row image references (argument_type image a) && leb (argument_default image a) 1 && is_row image values a

  -- table 8
  unfoldable pub good_variable : ℕ → Bool
  good_variable v = is_row image references (variable_type image v) && leb (variable_default image v) 1
