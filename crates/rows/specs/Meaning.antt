-- Kind 4 by meaning: what each row keeps, by table (the rules in quotation marks are the words of the check's description), that nothing is
-- left over, and which row is shown where something breaks. Relations over the rows, no tests and no steps; proofs/Exactly says that the
-- tests of the check are these. A row is judged by lower tables and lower rows, which keep theirs wherever it is the one at fault.
-- Assumes nothing.
use Rattle.std.specs.Prelude.{ℕ, suc, ◌+◌, ◌<◌, ◌≤◌, ◌≡◌, ◌⊎◌, List}
use Rattle.lists.specs.Every.{Distinct}
use Rattle.tables.specs.Layout.{NONE, types, references, operations, fragments, sets, selections, arguments, values, variables}
use Rattle.tables.specs.Image.{count_at}
use Rattle.tables.specs.Columns.{type_name, type_kind, reference_kind, reference_child, input_object}
use Rattle.tables.specs.Columns.{operation_variables, operation_directives, fragment_directives, set_parent, set_selections}
use Rattle.tables.specs.Columns.{field, spread, inline, selection_kind, response_name, field_name, field_type, field_arguments, selection_target, selection_directives}
use Rattle.tables.specs.Columns.{argument_name, argument_type, argument_default, variable_type, variable_default}
use Rattle.tables.specs.Columns.{null, boolean, list, object, value_kind, value_key, value_atom, value_members}
use Rattle.tables.specs.Good.{Within, StandsIn}

-- the row before r that is the last of its sort
pub record LastBefore (Sort : ℕ → Type 0) (q r : ℕ) : Type 0 where
  pub earlier : q < r
  pub one : Sort q
  pub last : (k : ℕ) → q < k → k < r → Sort k → ⊥

module _ (image : List ℕ) where
  -- ---- table 0, types

  pub record KeepsType (r : ℕ) : Type 0 where
    -- "kinds and default words are among those listed"
    pub kind : type_kind image r ≤ 5
    -- "type names ascend strictly"; "an order or numbering breaks at the later row"
    pub ascends : (q : ℕ) → q < r → type_name image q < type_name image r

  -- ---- table 1, type references

  pub record KeepsReference (r : ℕ) : Type 0 where
    pub kind : reference_kind image r ≤ 3
    -- "children of kinds 0, 1 are type rows; of 2, 3 an earlier reference"
    pub named : reference_kind image r ≤ 1 → reference_child image r < count_at image types
    pub listed : 2 ≤ reference_kind image r → reference_child image r < r

  -- the type at the core of a reference: that of a name is its child, that of a list its child's
  pub data Innermost : ℕ → ℕ → Type 0 where
    of_name : {r core : ℕ} → reference_kind image r ≤ 1 → reference_child image r ≡ core → Innermost r core
    of_list : {r child core : ℕ} → 2 ≤ reference_kind image r → reference_child image r ≡ child → Innermost child core → Innermost r core

  -- ---- tables 2 and 3, operations and fragments

  -- "every first plus count is at most its table's count"; "operation i owns set i"; one "lacking its set .. is itself at fault"
  pub record KeepsOperation (i : ℕ) : Type 0 where
    pub variables_within : Within image (operation_variables image i) variables
    pub directives_within : Within image (operation_directives image i) arguments
    pub set : i < count_at image sets

  -- "fragment j owns set (operations + j)"
  pub record KeepsFragment (j : ℕ) : Type 0 where
    pub directives_within : Within image (fragment_directives image j) arguments
    pub set : count_at image operations + j < count_at image sets

  -- ---- table 4, sets

  pub record KeepsSet (s : ℕ) : Type 0 where
    -- "parents are composite (kinds 1 to 3)"
    pub parent : set_parent image s < count_at image types
    pub from_object : 1 ≤ type_kind image (set_parent image s)
    pub to_union : type_kind image (set_parent image s) ≤ 3
    -- "set ranges follow one another from selection 0"
    pub begins : s ≡ 0 → (set_selections image s).first ≡ 0
    pub follows : (q : ℕ) → suc q ≡ s → (set_selections image s).first ≡ (set_selections image q).first + (set_selections image q).count
    pub within : Within image (set_selections image s) selections

  -- ---- table 5, selections

  -- "an inline owns a set"; a field "owns one or NONE"
  pub data OwnsSet (r : ℕ) : Type 0 where
    an_inline : selection_kind image r ≡ inline → OwnsSet r
    a_field : selection_kind image r ≡ field → (selection_target image r ≡ NONE → ⊥) → OwnsSet r

  -- "selections owning a set take the following numbers in row order, each greater than the set it stands in": one in no set is spared that
  pub record KeepsOwned (r : ℕ) : Type 0 where
    pub first_number : ((q : ℕ) → q < r → OwnsSet q → ⊥) → selection_target image r ≡ count_at image operations + count_at image fragments
    pub next_number : (q : ℕ) → LastBefore OwnsSet q r → selection_target image r ≡ suc (selection_target image q)
    pub known : selection_target image r < count_at image sets
    pub greater : (s : ℕ) → StandsIn image r s → s < selection_target image r

  pub record KeepsField (r : ℕ) : Type 0 where
    -- "type references are rows of table 1"
    pub reference : field_type image r < count_at image references
    -- "a field's innermost type is not kind 5"
    pub core : ℕ
    pub innermost : Innermost (field_type image r) core
    pub output : type_kind image core ≡ input_object → ⊥
    -- "if scalar or enum it owns no set (target NONE)"
    pub leaf : (type_kind image core ≡ 0) ⊎ (type_kind image core ≡ 4) → selection_target image r ≡ NONE
    -- "a composite field owns one or NONE, and that set's parent is its innermost type"
    pub parent : (selection_target image r ≡ NONE → ⊥) → set_parent image (selection_target image r) ≡ core
    -- "a field has at most 64 arguments, names distinct"
    pub few_arguments : (field_arguments image r).count ≤ 64
    pub arguments_within : Within image (field_arguments image r) arguments
    pub distinct_names : Distinct (field_arguments image r).count (λ k. argument_name image ((field_arguments image r).first + k))

  -- "both have words 1 to 5 zero"
  pub record NoFieldWords (r : ℕ) : Type 0 where
    pub response : response_name image r ≡ 0
    pub name : field_name image r ≡ 0
    pub reference : field_type image r ≡ 0
    pub first : (field_arguments image r).first ≡ 0
    pub count : (field_arguments image r).count ≡ 0

  pub record KeepsSelection (r : ℕ) : Type 0 where
    pub kind : selection_kind image r ≤ inline
    pub directives_within : Within image (selection_directives image r) arguments
    pub owned : OwnsSet r → KeepsOwned r
    pub field_row : selection_kind image r ≡ field → KeepsField r
    -- "a spread's target is a fragment row"
    pub spread_target : selection_kind image r ≡ spread → selection_target image r < count_at image fragments
    pub no_words : (selection_kind image r ≡ field → ⊥) → NoFieldWords r

  -- ---- table 6, arguments

  -- "argument a has value row a, key NONE (else that value row is at fault)"
  pub record KeepsArgument (a : ℕ) : Type 0 where
    pub reference : argument_type image a < count_at image references
    pub default : argument_default image a ≤ 1
    pub value : a < count_at image values

  -- ---- table 7, values

  -- lists and objects
  abbrev pub IsHolder : ℕ → Type 0
  IsHolder v = list ≤ value_kind image v

  -- row v is a member of the list or object u
  pub record MemberOf (u v : ℕ) : Type 0 where
    pub holder : IsHolder u
    pub from : (value_members image u).first ≤ v
    pub to : v < (value_members image u).first + (value_members image u).count

  -- "arguments are level 1, members one more": members of an earlier row, since the rows that one claims lie after it
  pub data LevelOf : ℕ → ℕ → Type 0 where
    argument : {v : ℕ} → v < count_at image arguments → LevelOf v 1
    member : {u v n : ℕ} → u < v → MemberOf u v → LevelOf u n → LevelOf v (suc n)

  -- "lists and objects, in row order, claim the next unclaimed value rows, beginning after the arguments": an empty one names them too
  pub record KeepsMembers (v : ℕ) : Type 0 where
    pub first_claim : ((u : ℕ) → u < v → IsHolder u → ⊥) → (value_members image v).first ≡ count_at image arguments
    pub next_claim : (u : ℕ) → LastBefore IsHolder u v → (value_members image v).first ≡ (value_members image u).first + (value_members image u).count
    -- "the next unclaimed row always lies after the claiming one"
    pub after : v < (value_members image v).first
    pub within : Within image (value_members image v) values
    -- "a list or object at level 64 has no members"
    pub deepest : LevelOf v 64 → (value_members image v).count ≡ 0

  -- "object members at most 256, keys distinct and not NONE"
  pub record KeepsObject (v : ℕ) : Type 0 where
    pub few_members : (value_members image v).count ≤ 256
    pub keys : (k : ℕ) → k < (value_members image v).count → value_key image ((value_members image v).first + k) ≡ NONE → ⊥
    pub distinct_keys : Distinct (value_members image v).count (λ k. value_key image ((value_members image v).first + k))

  pub record KeepsValue (v : ℕ) : Type 0 where
    pub kind : value_kind image v ≤ object
    pub argument_key : v < count_at image arguments → value_key image v ≡ NONE
    -- "null's atom is 0, boolean's 0 or 1, counts are 0 for kinds 0 to 6"
    pub null_atom : value_kind image v ≡ null → value_atom image v ≡ 0
    pub boolean_atom : value_kind image v ≡ boolean → value_atom image v ≤ 1
    pub no_members : value_kind image v ≤ 6 → (value_members image v).count ≡ 0
    pub members : IsHolder v → KeepsMembers v
    -- "list members have key NONE"
    pub list_keys : value_kind image v ≡ list → (k : ℕ) → k < (value_members image v).count → value_key image ((value_members image v).first + k) ≡ NONE
    pub object_row : value_kind image v ≡ object → KeepsObject v

  -- ---- table 8, variables

  pub record KeepsVariable (v : ℕ) : Type 0 where
    pub reference : variable_type image v < count_at image references
    pub default : variable_default image v ≤ 1

  -- ---- a row of any table

  pub record Keeps (t r : ℕ) : Type 0 where
    pub type_row : t ≡ types → KeepsType r
    pub reference_row : t ≡ references → KeepsReference r
    pub operation_row : t ≡ operations → KeepsOperation r
    pub fragment_row : t ≡ fragments → KeepsFragment r
    pub set_row : t ≡ sets → KeepsSet r
    pub selection_row : t ≡ selections → KeepsSelection r
    pub argument_row : t ≡ arguments → KeepsArgument r
    pub value_row : t ≡ values → KeepsValue r
    pub variable_row : t ≡ variables → KeepsVariable r

  -- every row of the tables below t
  abbrev pub KeepsBelow : ℕ → Type 0
  KeepsBelow t = (u : ℕ) → u < t → (r : ℕ) → r < count_at image u → Keeps u r

  -- ---- what is left unclaimed, the rows being right

  -- a set is an operation's, a fragment's, or a selection's
  pub data IsOwned (s : ℕ) : Type 0 where
    by_operation : s < count_at image operations → IsOwned s
    by_fragment : (j : ℕ) → j < count_at image fragments → s ≡ count_at image operations + j → IsOwned s
    by_selection : (r : ℕ) → r < count_at image selections → OwnsSet r → selection_target image r ≡ s → IsOwned s

  abbrev pub NoSetLeft : Type 0
  NoSetLeft = (s : ℕ) → s < count_at image sets → IsOwned s

  abbrev pub NoSelectionLeft : Type 0
  NoSelectionLeft = (r : ℕ) → r < count_at image selections → (s : ℕ) × StandsIn image r s

  -- a value is an argument's, or a member
  pub data IsClaimed (v : ℕ) : Type 0 where
    by_argument : v < count_at image arguments → IsClaimed v
    by_holder : (u : ℕ) → u < count_at image values → MemberOf u v → IsClaimed v

  abbrev pub NoValueLeft : Type 0
  NoValueLeft = (v : ℕ) → v < count_at image values → IsClaimed v

  -- ---- the rules as one, and where they break

  pub record KeepsRowRules : Type 0 where
    pub rows : KeepsBelow 9
    pub no_set_left : NoSetLeft
    pub no_selection_left : NoSelectionLeft
    pub no_value_left : NoValueLeft

  -- "a row rule broken: lowest table, lowest row; when none, sets, selections, then values left unclaimed", and what is shown of it:
  -- "a: table, b: row (if unclaimed, that table's count)"
  pub data BrokenAt (t r : ℕ) : Type 0 where
    a_row : t < 9 → r < count_at image t → KeepsBelow t → ((q : ℕ) → q < r → Keeps t q) → (Keeps t r → ⊥) → BrokenAt t r
    sets_left : t ≡ sets → r ≡ count_at image sets → KeepsBelow 9 → (NoSetLeft → ⊥) → BrokenAt t r
    selections_left : t ≡ selections → r ≡ count_at image selections → KeepsBelow 9 → NoSetLeft → (NoSelectionLeft → ⊥) → BrokenAt t r
    values_left : t ≡ values → r ≡ count_at image values → KeepsBelow 9 → NoSetLeft → NoSelectionLeft → (NoValueLeft → ⊥) → BrokenAt t r
