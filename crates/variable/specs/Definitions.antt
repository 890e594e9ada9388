-- Kinds 10 and 11 of one operation, and whether a variable may stand at an argument (kind 13), as the code decides them: by rows,
-- for every image. What they mean stands in specs/Rules. Assumes nothing.
use Rattle.std.specs.Prelude.{◌≡◌, ℕ, zero, suc, Bool, true, false, cond, not, ◌&&◌, ◌||◌, List, eqb, ltb}
use Rattle.lists.specs.Every.{position, find}
use Rattle.tables.specs.declared.Range.{Range}
use Rattle.tables.specs.Image.{row_in}
use Rattle.tables.specs.Columns.{type_kind, reference_kind, reference_child, reference_word, is_list_reference, is_composite, innermost, argument_type, argument_default, variable_name, variable_type, variable_default}
use Rattle.variable.specs.Types.{is_non_null}
use Rattle.tables.specs.declared.columns.ReferenceKind.{ReferenceKind}

module _ (image : List ℕ) where
  -- the name of the variable that stands k rows into a range
  abbrev pub name_in : Range → ℕ → ℕ
  name_in variables k = variable_name image (row_in variables k)

  -- how far into a range the first variable of that name stands; the count where there is none
  abbrev pub find_name : Range → ℕ → ℕ
  find_name variables name = find variables.count (name_in variables) name

  -- 10: the innermost type is no input type
  abbrev pub is_output : ℕ → Bool
  is_output v = is_composite (type_kind image (innermost image (variable_type image v)))

  -- how far into a range the first such variable stands; the count where there is none
  unfoldable pub first_output : Range → ℕ
  first_output variables = position variables.count (λ k. is_output (row_in variables k))

  -- 11: an earlier variable has the name
  abbrev pub is_repeated : Range → ℕ → Bool
  is_repeated variables k = not (eqb (find_name variables (name_in variables k)) k)

  unfoldable pub first_repeated : Range → ℕ
  first_repeated variables = position variables.count (is_repeated variables)

-- a kind that a word is read as says the same of lists and of null
pub record ReadsAs (word : ℕ) (kind : ReferenceKind) : Type 0 where
  pub list : is_list_reference (reference_word kind) ≡ is_list_reference word
  pub non_null : is_non_null (reference_word kind) ≡ is_non_null word

-- 13, at one level: both are lists or neither, and a non-null place wants a non-null variable unless its non-null is dropped
unfoldable pub alike : (variable place : ℕ) → Bool
alike variable place = cond (is_list_reference variable) (is_list_reference place) (ltb place 2)

unfoldable pub agrees_at : (variable place : ℕ) (dropped : Bool) → Bool
agrees_at variable place dropped = alike variable place && (dropped || not (is_non_null place) || is_non_null variable)

module _ (image : List ℕ) where
  -- the references of a variable and a place, the place's outer non-null dropped or not
  unfoldable pub compatible_in : (steps variable place : ℕ) (dropped : Bool) → Bool
  compatible_in zero v l dropped = false
  compatible_in (suc steps) v l dropped =
      let items = compatible_in steps (reference_child image v) (reference_child image l) false in
      agrees_at (reference_kind image v) (reference_kind image l) dropped &&
      cond (is_list_reference (reference_kind image v)) (ltb (reference_child image v) v && items) (eqb (reference_child image v) (reference_child image l))

  -- children are earlier, so one step more than the row's number suffices
  unfoldable pub compatible : (variable place : ℕ) (dropped : Bool) → Bool
  compatible v l dropped = compatible_in (suc v) v l dropped

  abbrev pub has_default : (v a : ℕ) → Bool
  has_default v a = not (eqb (variable_default image v) 0) || not (eqb (argument_default image a) 0)

  -- a variable row at an argument row
  unfoldable pub usage_allowed : (v a : ℕ) → Bool
  usage_allowed v a =
      let dropped = is_non_null (reference_kind image (argument_type image a)) && not (is_non_null (reference_kind image (variable_type image v))) in
      cond dropped (has_default v a) true && compatible (variable_type image v) (argument_type image a) dropped
