-- The promise of the table reader: what every crate above may rely on of an image without fault, and nothing else. Rows are
-- spoken of by the columns' names; each record says what is right of one row.
-- Assumes nothing.
use Rattle.std.specs.Prelude.{ℕ, suc, ◌+◌, ◌<◌, ◌≤◌, ◌≡◌, true, List}
use Rattle.lists.specs.Every.{Distinct}
use Rattle.tables.specs.declared.Range.{Range}
use Rattle.tables.specs.Layout.{NONE, types, references, operations, fragments, sets, selections, arguments, values, variables, most_rows, table_count}
use Rattle.tables.specs.Image.{word_at, count_at, row_in}
use Rattle.tables.specs.Columns.{type_name, type_kind, reference_kind, reference_child, is_composite, innermost, input_object}
use Rattle.tables.specs.Columns.{operation_variables, operation_directives, fragment_directives, fragment_set, set_parent, set_selections}
use Rattle.tables.specs.Columns.{field, spread, inline, selection_kind, field_type, field_arguments, selection_target, selection_directives, selection_at}
use Rattle.tables.specs.Columns.{argument_name, argument_type, argument_default, variable_type, variable_default, null, boolean, list, object, value_kind, value_key, value_atom, value_members}
use Rattle.tables.specs.Numbering.{set_end, set_start, owns_set, home_set, next_set, most_arguments, next_value, level, most_members, deepest_level}

module _ (image : List ℕ) where
  -- a range of a table's rows
  pub record Within (rows : Range) (t : ℕ) : Type 0 where
    pub ends : rows.first + rows.count ≤ count_at image t

  pub record GoodReference (r : ℕ) : Type 0 where
    pub kind : reference_kind image r ≤ 3
    pub named : reference_kind image r < 2 → reference_child image r < count_at image types
    pub listed : 2 ≤ reference_kind image r → reference_child image r < r
    pub core : innermost image r < count_at image types

  pub record GoodOperation (i : ℕ) : Type 0 where
    pub variables_within : Within (operation_variables image i) variables
    pub directives_within : Within (operation_directives image i) arguments
    pub set : i < count_at image sets

  pub record GoodFragment (j : ℕ) : Type 0 where
    pub directives_within : Within (fragment_directives image j) arguments
    pub set_number : fragment_set image j ≡ count_at image operations + j
    pub set : fragment_set image j < count_at image sets

  -- a row of table 5 stands in a set
  pub record StandsIn (r s : ℕ) : Type 0 where
    pub known : s < count_at image sets
    pub from : (set_selections image s).first ≤ r
    pub below : r < set_end image s

  pub record GoodSet (s : ℕ) : Type 0 where
    pub parent : set_parent image s < count_at image types
    pub composite : is_composite (type_kind image (set_parent image s)) ≡ true
    pub starts : (set_selections image s).first ≡ set_start image s
    pub within : Within (set_selections image s) selections

  -- the set that a selection of row r owns: the next number, later than the set that the selection stands in
  pub record GoodOwned (r : ℕ) : Type 0 where
    pub known : selection_target image r < count_at image sets
    pub number : selection_target image r ≡ next_set image r
    pub own : count_at image operations + count_at image fragments ≤ selection_target image r
    pub later : home_set image r < selection_target image r

  pub record GoodField (r : ℕ) : Type 0 where
    pub reference : field_type image r < count_at image references
    pub output : type_kind image (innermost image (field_type image r)) ≡ input_object → ⊥
    pub few_arguments : (field_arguments image r).count ≤ most_arguments
    pub distinct_names : Distinct (field_arguments image r).count (λ k. argument_name image (row_in (field_arguments image r) k))
    -- a field that owns a set is composite, and the set's parent is its innermost type
    pub owned : (selection_target image r ≡ NONE → ⊥) → GoodOwned r
    pub composite : (selection_target image r ≡ NONE → ⊥) → is_composite (type_kind image (innermost image (field_type image r))) ≡ true
    pub parent : (selection_target image r ≡ NONE → ⊥) → set_parent image (selection_target image r) ≡ innermost image (field_type image r)

  pub record GoodSelection (r : ℕ) : Type 0 where
    pub kind : selection_kind image r ≤ inline
    pub home : StandsIn r (home_set image r)
    pub directives_within : Within (selection_directives image r) arguments
    pub arguments_within : Within (field_arguments image r) arguments
    pub field_row : selection_kind image r ≡ field → GoodField r
    pub spread_target : selection_kind image r ≡ spread → selection_target image r < count_at image fragments
    pub inline_owned : selection_kind image r ≡ inline → GoodOwned r
    -- words 1 to 5 of spreads and inlines
    pub no_arguments : (selection_kind image r ≡ field → ⊥) → (field_arguments image r).count ≡ 0

  pub record GoodArgument (a : ℕ) : Type 0 where
    pub reference : argument_type image a < count_at image references
    pub default : argument_default image a ≤ 1
    pub value : a < count_at image values
    pub no_key : value_key image a ≡ NONE

  -- the members of a list or an object of row v
  pub record GoodMembers (v : ℕ) : Type 0 where
    pub within : Within (value_members image v) values
    pub later : v < (value_members image v).first
    pub unlike_arguments : count_at image arguments ≤ (value_members image v).first
    pub levels : (k : ℕ) → k < (value_members image v).count → level image ((value_members image v).first + k) ≡ suc (level image v)

  pub record GoodObject (v : ℕ) : Type 0 where
    pub few_members : (value_members image v).count ≤ most_members
    pub keys : (k : ℕ) → k < (value_members image v).count → value_key image (row_in (value_members image v) k) ≡ NONE → ⊥
    pub distinct_keys : Distinct (value_members image v).count (λ k. value_key image (row_in (value_members image v) k))

  pub record GoodValue (v : ℕ) : Type 0 where
    pub kind : value_kind image v ≤ object
    pub null_atom : value_kind image v ≡ null → value_atom image v ≡ 0
    pub boolean_atom : value_kind image v ≡ boolean → value_atom image v ≤ 1
    pub no_members : value_kind image v < list → (value_members image v).count ≡ 0
    pub members : list ≤ value_kind image v → GoodMembers v
    pub list_keys : value_kind image v ≡ list → (k : ℕ) → k < (value_members image v).count → value_key image (row_in (value_members image v) k) ≡ NONE
    pub object_row : value_kind image v ≡ object → GoodObject v
    -- arguments are level 1; no value stands deeper than 64
    pub argument_level : v < count_at image arguments → level image v ≡ 1
    pub shallow : level image v ≤ deepest_level

  pub record GoodVariable (v : ℕ) : Type 0 where
    pub reference : variable_type image v < count_at image references
    pub default : variable_default image v ≤ 1

-- The promise.
pub record Good (image : List ℕ) : Type 0 where
  -- nine tables at least, each with no more rows than its layout allows
  pub nine : 9 ≤ table_count (word_at image 0)
  pub few : (t : ℕ) → t < table_count (word_at image 0) → count_at image t ≤ most_rows (word_at image 0) t
  pub type_kinds : (r : ℕ) → r < count_at image types → type_kind image r ≤ 5
  pub types_ascend : (q r : ℕ) → q < r → r < count_at image types → type_name image q < type_name image r
  pub reference : (r : ℕ) → r < count_at image references → GoodReference image r
  pub operation : (i : ℕ) → i < count_at image operations → GoodOperation image i
  pub fragment : (j : ℕ) → j < count_at image fragments → GoodFragment image j
  pub set : (s : ℕ) → s < count_at image sets → GoodSet image s
  pub selection : (r : ℕ) → r < count_at image selections → GoodSelection image r
  pub argument : (a : ℕ) → a < count_at image arguments → GoodArgument image a
  pub value : (v : ℕ) → v < count_at image values → GoodValue image v
  pub variable : (v : ℕ) → v < count_at image variables → GoodVariable image v
  -- sets partition the selections: no row stands in two of them
  pub one_home : (r s : ℕ) → StandsIn image r s → s ≡ home_set image r
  pub all_stand : set_start image (count_at image sets) ≡ count_at image selections
  -- operations and fragments own the first sets, and each selection that owns one another of the rest
  pub own_sets : count_at image operations + count_at image fragments ≤ count_at image sets
  pub all_owned : next_set image (count_at image selections) ≡ count_at image sets
  pub one_owner : (q r : ℕ) → owns_set (selection_at image q) ≡ true → owns_set (selection_at image r) ≡ true → next_set image q ≡ next_set image r → q ≡ r
  -- every value is an argument's, or a member of a list or an object
  pub all_claimed : next_value image (count_at image values) ≡ count_at image values
