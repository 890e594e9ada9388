-- Kind 4, table 7: the rules of a value. Two of them lean on other rows: which value rows the next
-- list or object claims, and at which level a value stands.
-- Assumes nothing.
use Rattle.std.specs.Prelude.{ℕ, Bool, true, cond, not, ◌&&◌, ◌||◌, List, eqb, leb, ltb}
use Rattle.lists.specs.Every.{every, absent, distinct}
use Rattle.tables.specs.declared.Range.{Range}
use Rattle.tables.specs.Layout.{NONE, arguments, values}
use Rattle.tables.specs.Image.{count_at, is_row, lies_within}
use Rattle.tables.specs.Columns.{null, boolean, list, object, value_kind, value_key, value_atom, value_members}
use Rattle.tables.specs.Keys.{key_in}
use Rattle.tables.specs.Numbering.{most_members, deepest_level, is_holder, next_value, level}

module _ (image : List ℕ) where
  -- null's atom is 0, boolean's 0 or 1; counts are 0 for kinds 0 to 6
  unfoldable pub good_atom : ℕ → Bool
  good_atom v =
      eqb (value_members image v).count 0
      && cond (eqb (value_kind image v) null) (eqb (value_atom image v) 0)
      (cond (eqb (value_kind image v) boolean) (leb (value_atom image v) 1) true)

  -- list members have key NONE
  unfoldable pub good_list_keys : Range → Bool
  good_list_keys rows = every rows.count (λ k. eqb (key_in image values rows k) NONE)

  -- object members are at most 256, their keys distinct and not NONE
  unfoldable pub good_object_keys : Range → Bool
  good_object_keys rows = leb rows.count most_members && absent rows.count (key_in image values rows) NONE && distinct rows.count (key_in image values rows)

  unfoldable pub good_keys : ℕ → Bool
  good_keys v = cond (eqb (value_kind image v) list) (good_list_keys (value_members image v)) (good_object_keys (value_members image v))

  -- what a list or an object claims are the next unclaimed rows, which lie after it and inside the table; at level 64 none
  unfoldable pub good_claim : (v next at_level : ℕ) → Bool
  good_claim v next at_level =
      ltb v next
      && eqb (value_members image v).first next
      && lies_within (value_members image v) (count_at image values)
      && (ltb at_level deepest_level || eqb (value_members image v).count 0)

  -- an argument's value has key NONE
  unfoldable pub good_own_key : ℕ → Bool
  good_own_key v = not (is_row image arguments v) || eqb (value_key image v) NONE

  unfoldable pub value_rule : (v next at_level : ℕ) → Bool
  value_rule v next at_level =
      leb (value_kind image v) object
      && good_own_key v
      && cond (is_holder image v) (good_claim v next at_level && good_keys v) (good_atom v)

  unfoldable pub good_value : ℕ → Bool
  good_value v = value_rule v (next_value image v) (level image v)
