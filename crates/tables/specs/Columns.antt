-- The words of each table's rows by name, in their order, and what they mean together.
-- Assumes nothing.
use Rattle.std.specs.Prelude.{ℕ, zero, suc, ◌+◌, ◌<◌, ◌≡◌, min, Bool, cond, ◌&&◌, List, eqb, leb, ltb, Option, Some, None}
use Rattle.tables.specs.Layout.{NONE, types, references, operations, fragments, sets, selections, arguments, values, variables}
use Rattle.tables.specs.Image.{count_at, cell_at}
use Rattle.tables.specs.declared.Range.{Range}
use Rattle.tables.specs.declared.columns.Set.{Set}
use Rattle.tables.specs.declared.columns.Selection.{Selection}
use Rattle.tables.specs.declared.columns.TypeKind.{TypeKind}
use Rattle.tables.specs.declared.columns.TypeKind.TheVariants as TypeIs
use Rattle.tables.specs.declared.columns.ReferenceKind.{ReferenceKind}
use Rattle.tables.specs.declared.columns.ReferenceKind.TheVariants as ReferenceIs
use Rattle.tables.specs.declared.columns.SelectionKind.{SelectionKind}
use Rattle.tables.specs.declared.columns.SelectionKind.TheVariants.{Field, Spread, Inline}
use Rattle.tables.specs.declared.columns.ValueKind.{ValueKind}
use Rattle.tables.specs.declared.columns.ValueKind.TheVariants as ValueIs

-- words k and k + 1 of a row, as first and count
abbrev pub range_at : List ℕ → ℕ → ℕ → ℕ → Range
range_at image t r k = record { first = cell_at image t r k; count = cell_at image t r (suc k) }

module _ (image : List ℕ) (r : ℕ) where
  -- table 0, types
  abbrev pub type_name : ℕ
  type_name = cell_at image types r 0

  abbrev pub type_kind : ℕ
  type_kind = cell_at image types r 1

  -- table 1, type references
  abbrev pub reference_kind : ℕ
  reference_kind = cell_at image references r 0

  abbrev pub reference_child : ℕ
  reference_child = cell_at image references r 1

  -- table 2, operations
  abbrev pub operation_variables : Range
  operation_variables = range_at image operations r 0

  abbrev pub operation_directives : Range
  operation_directives = range_at image operations r 2

  -- table 3, fragments
  abbrev pub fragment_directives : Range
  fragment_directives = range_at image fragments r 0

  -- table 4, sets
  abbrev pub set_parent : ℕ
  set_parent = cell_at image sets r 0

  abbrev pub set_selections : Range
  set_selections = range_at image sets r 1

  -- table 5, selections
  abbrev pub selection_kind : ℕ
  selection_kind = cell_at image selections r 0

  abbrev pub response_name : ℕ
  response_name = cell_at image selections r 1

  abbrev pub field_name : ℕ
  field_name = cell_at image selections r 2

  abbrev pub field_type : ℕ
  field_type = cell_at image selections r 3

  abbrev pub field_arguments : Range
  field_arguments = range_at image selections r 4

  abbrev pub selection_target : ℕ
  selection_target = cell_at image selections r 6

  abbrev pub selection_directives : Range
  selection_directives = range_at image selections r 7

  -- table 6, arguments: the type and the default are those of the place that the argument goes to
  abbrev pub argument_name : ℕ
  argument_name = cell_at image arguments r 0

  abbrev pub argument_type : ℕ
  argument_type = cell_at image arguments r 1

  abbrev pub argument_default : ℕ
  argument_default = cell_at image arguments r 2

  -- table 7, values: word 2 is the atom, or the first member
  abbrev pub value_kind : ℕ
  value_kind = cell_at image values r 0

  abbrev pub value_key : ℕ
  value_key = cell_at image values r 1

  abbrev pub value_atom : ℕ
  value_atom = cell_at image values r 2

  abbrev pub value_members : Range
  value_members = range_at image values r 2

  -- table 8, variables
  abbrev pub variable_name : ℕ
  variable_name = cell_at image variables r 0

  abbrev pub variable_type : ℕ
  variable_type = cell_at image variables r 1

  abbrev pub variable_default : ℕ
  variable_default = cell_at image variables r 2

-- a whole row of table 4
abbrev pub set_at : List ℕ → ℕ → Set
set_at image r = record { parent = set_parent image r; selections = set_selections image r }

-- a whole row of table 5, whose words are read by `at` from the place on
abbrev pub selection_from : (ℕ → ℕ) → ℕ → Selection
selection_from at place = record {
  kind = at (place + 0);
  response = at (place + 1);
  name = at (place + 2);
  reference = at (place + 3);
  arguments = record { first = at (place + 4); count = at (place + 5) };
  target = at (place + 6);
  directives = record { first = at (place + 7); count = at (place + 8) };
}

abbrev pub selection_at : List ℕ → ℕ → Selection
selection_at image r = record {
  kind = selection_kind image r;
  response = response_name image r;
  name = field_name image r;
  reference = field_type image r;
  arguments = field_arguments image r;
  target = selection_target image r;
  directives = selection_directives image r;
}

-- type kinds: 0 scalar, 1 object, 2 interface, 3 union, 4 enum, 5 input object
abbrev pub object_type : ℕ
object_type = 1

abbrev pub input_object : ℕ
input_object = 5

abbrev pub type_word : TypeKind → ℕ
type_word TypeIs.Scalar = 0
type_word TypeIs.Object = object_type
type_word TypeIs.Interface = 2
type_word TypeIs.Union = 3
type_word TypeIs.Enum = 4
type_word TypeIs.InputObject = input_object

-- the kind that a word stands for
abbrev pub IsTypeKind : ℕ → Option TypeKind → Type 0
IsTypeKind word (Some kind) = word ≡ type_word kind
IsTypeKind word None = input_object < word

unfoldable pub is_composite : ℕ → Bool
is_composite kind = leb 1 kind && leb kind 3

-- reference kinds: 0 named, 1 non-null named, 2 list, 3 non-null list
abbrev pub reference_word : ReferenceKind → ℕ
reference_word ReferenceIs.Named = 0
reference_word ReferenceIs.NonNullNamed = 1
reference_word ReferenceIs.List = 2
reference_word ReferenceIs.NonNullList = 3

abbrev pub IsReferenceKind : ℕ → Option ReferenceKind → Type 0
IsReferenceKind word (Some kind) = word ≡ reference_word kind
IsReferenceKind word None = 3 < word

abbrev pub is_list_reference : ℕ → Bool
is_list_reference kind = leb 2 kind

-- The type at the core of a reference, in so many steps: NONE where a list's child is no earlier reference.
unfoldable pub innermost_in : List ℕ → (steps reference : ℕ) → ℕ
innermost_in image zero reference = NONE
innermost_in image (suc steps) reference =
    let child = reference_child image reference in
    let below = innermost_in image steps child in
    cond (is_list_reference (reference_kind image reference)) (cond (ltb child reference) below NONE) child

-- children are earlier, so one step more than the row's number reaches it
unfoldable pub innermost : List ℕ → ℕ → ℕ
innermost image reference = innermost_in image (suc reference) reference

-- selection kinds
abbrev pub field : ℕ
field = 0

abbrev pub spread : ℕ
spread = 1

abbrev pub inline : ℕ
inline = 2

abbrev pub selection_word : SelectionKind → ℕ
selection_word Field = field
selection_word Spread = spread
selection_word Inline = inline

abbrev pub IsSelectionKind : ℕ → Option SelectionKind → Type 0
IsSelectionKind word (Some kind) = word ≡ selection_word kind
IsSelectionKind word None = inline < word

-- value kinds: null, boolean, int, float, string, enum, variable, list, object
abbrev pub null : ℕ
null = 0

abbrev pub boolean : ℕ
boolean = 1

abbrev pub variable : ℕ
variable = 6

abbrev pub list : ℕ
list = 7

abbrev pub object : ℕ
object = 8

abbrev pub value_word : ValueKind → ℕ
value_word ValueIs.Null = null
value_word ValueIs.Boolean = boolean
value_word ValueIs.Int = 2
value_word ValueIs.Float = 3
value_word ValueIs.String = 4
value_word ValueIs.Enum = 5
value_word ValueIs.Variable = variable
value_word ValueIs.List = list
value_word ValueIs.Object = object

abbrev pub IsValueKind : ℕ → Option ValueKind → Type 0
IsValueKind word (Some kind) = word ≡ value_word kind
IsValueKind word None = object < word

-- operation i owns set i, fragment j the set (operations + j); NONE past all rows
unfoldable pub fragment_set : List ℕ → ℕ → ℕ
fragment_set image j = min (count_at image operations + j) NONE

unfoldable pub is_fragment_set : List ℕ → ℕ → Bool
is_fragment_set image s = leb (count_at image operations) s && ltb s (count_at image operations + count_at image fragments)

-- the set that a selection leads to: its own, its fragment's, or NONE
unfoldable pub set_below : List ℕ → Selection → ℕ
set_below image row = cond (eqb row.kind spread) (fragment_set image row.target) row.target

-- the set that a word names; NONE names none
abbrev pub set_or_none : ℕ → Option ℕ
set_or_none word = cond (eqb word NONE) None (Some word)

abbrev pub is_empty_set : List ℕ → ℕ → Bool
is_empty_set image s = eqb (set_selections image s).count 0
