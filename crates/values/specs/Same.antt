-- When two values, and the arguments of two fields, are the same (arguments as unordered sets;
-- lists of unlike length differ). It is what GraphQL's Field Selection Merging calls identical sets of arguments.
-- Assumes nothing.
use Rattle.std.specs.Prelude.{ℕ, zero, suc, Bool, false, cond, not, ◌&&◌, List, eqb}
use Rattle.lists.specs.Every.{every, find, absent}
use Rattle.tables.specs.declared.Range.{Range}
use Rattle.tables.specs.Layout.{arguments, values}
use Rattle.tables.specs.Image.{row_in}
use Rattle.tables.specs.Columns.{list, object, value_kind, value_atom, value_members}
use Rattle.tables.specs.Keys.{key_of}
use Rattle.tables.specs.Numbering.{deepest_level}

-- lists: of one length, and the same member by member
unfoldable pub same_list : (ℕ → ℕ → Bool) → Range → Range → Bool
same_list same left right = eqb left.count right.count && every left.count (λ k. same (row_in left k) (row_in right k))

-- unordered sets, whose rows are told from one another by a key
module _ (key : ℕ → ℕ) where
  -- how far into a range the first row of that key stands
  abbrev pub place_of : Range → ℕ → ℕ
  place_of rows wanted = find rows.count (λ k. key (row_in rows k)) wanted

  unfoldable pub has_key : Range → ℕ → Bool
  has_key rows wanted = not (absent rows.count (λ k. key (row_in rows k)) wanted)

  -- each key of the one is a key of the other
  unfoldable pub keys_within : (inner outer : Range) → Bool
  keys_within inner outer = every inner.count (λ k. has_key outer (key (row_in inner k)))

  module _ (same : ℕ → ℕ → Bool) where
    -- the right has the row's key, and the same value there
    unfoldable pub matched : Range → ℕ → Bool
    matched right row = has_key right (key row) && same row (row_in right (place_of right (key row)))

    -- the left's rows in order, then what only the right has
    unfoldable pub same_set : (left right : Range) → Bool
    same_set left right = every left.count (λ k. matched right (row_in left k)) && keys_within right left

module _ (image : List ℕ) where
  -- two values are of one kind, and the same members or atoms, where `same` compares members
  unfoldable pub same_by : (ℕ → ℕ → Bool) → ℕ → ℕ → Bool
  same_by same left right =
      eqb (value_kind image left) (value_kind image right)
      && cond (eqb (value_kind image left) list) (same_list same (value_members image left) (value_members image right))
      (cond (eqb (value_kind image left) object) (same_set (key_of image values) same (value_members image left) (value_members image right))
      (eqb (value_atom image left) (value_atom image right)))

  -- down to so many levels: what lies deeper is never the same
  unfoldable pub same_value : (level left right : ℕ) → Bool
  same_value zero left right = false
  same_value (suc level) left right = same_by (λ l r. same_value level l r) left right

  -- arguments as unordered sets by name; argument a has value row a
  unfoldable pub same_arguments : Range → Range → Bool
  same_arguments = same_set (key_of image arguments) (same_value deepest_level)
