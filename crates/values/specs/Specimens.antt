-- Specimens of values and types: fields of one small image of edition 1, and what each pair is
-- by its types and by its arguments. One table that antt computes.
-- Assumes nothing.
use Rattle.std.specs.Prelude.{◌≡◌, refl, Bool, true, false, List, [], ◌∷◌, map, ℕ}
use Rattle.lists.specs.Every.{every, position, absent}
use Rattle.tables.specs.Layout.{NONE, tables_of, row_width}
use Rattle.tables.specs.Image.{word_at, cell_at, row_in}
use Rattle.tables.specs.Columns.{is_composite}
use Rattle.tables.specs.Keys.{key_of}
use Rattle.values.specs.Same.{same_list, has_key, keys_within, matched, same_set, same_by, same_value, same_arguments}
use Rattle.values.specs.Shape.{is_leaf, are_names, are_lists, same_named, same_shape_in, same_shape}
use Rattle.values.specs.Fields.{types_agree, same_field_arguments}

-- two fields by their rows: whether their types agree, and whether their arguments are the same
pub record Specimen : Type 0 where
  pub left : ℕ
  pub right : ℕ
  pub types : Bool
  pub arguments : Bool

abbrev specimen : ℕ → ℕ → Bool → Bool → Specimen
specimen left right types arguments = record { left = left; right = right; types = types; arguments = arguments }

unfoldable pub fields : List ℕ
fields =
    1 ∷ 281 ∷
    6 ∷ 20 ∷ 8 ∷ 32 ∷ 1 ∷ 48 ∷ 0 ∷ 52 ∷ 1 ∷ 52 ∷ 15 ∷ 55 ∷ 9 ∷ 190 ∷ 16 ∷ 217 ∷ 0 ∷ 281 ∷
    10 ∷ 0 ∷  -- type 0, String
    11 ∷ 1 ∷  -- type 1, Query
    12 ∷ 1 ∷  -- type 2, Cat
    13 ∷ 1 ∷  -- type 3, Dog
    14 ∷ 2 ∷  -- type 4, Pet, an interface
    15 ∷ 0 ∷  -- type 5, Int
    0 ∷ 0 ∷  -- reference 0, String
    1 ∷ 0 ∷  -- reference 1, String!
    0 ∷ 2 ∷  -- reference 2, Cat
    0 ∷ 3 ∷  -- reference 3, Dog
    0 ∷ 4 ∷  -- reference 4, Pet
    2 ∷ 0 ∷  -- reference 5, [String]
    2 ∷ 1 ∷  -- reference 6, [String!]
    0 ∷ 5 ∷  -- reference 7, Int
    0 ∷ 0 ∷ 0 ∷ 0 ∷  -- operation 0
    1 ∷ 0 ∷ 15 ∷  -- set 0, on Query
    0 ∷ 20 ∷ 20 ∷ 0 ∷ 0 ∷ 1 ∷ NONE ∷ 1 ∷ 0 ∷  -- field 0, a(v: [1]): String
    0 ∷ 20 ∷ 20 ∷ 0 ∷ 1 ∷ 1 ∷ NONE ∷ 2 ∷ 0 ∷  -- field 1, a(v: [1, 2]): String
    0 ∷ 20 ∷ 20 ∷ 0 ∷ 2 ∷ 1 ∷ NONE ∷ 3 ∷ 0 ∷  -- field 2, a(v: {x: 1, y: 2}): String
    0 ∷ 20 ∷ 20 ∷ 0 ∷ 3 ∷ 1 ∷ NONE ∷ 4 ∷ 0 ∷  -- field 3, a(v: {y: 2, x: 1}): String
    0 ∷ 20 ∷ 20 ∷ 0 ∷ 4 ∷ 2 ∷ NONE ∷ 6 ∷ 0 ∷  -- field 4, a(v: 1, w: 2): String
    0 ∷ 20 ∷ 20 ∷ 0 ∷ 6 ∷ 2 ∷ NONE ∷ 8 ∷ 0 ∷  -- field 5, a(w: 2, v: 1): String
    0 ∷ 20 ∷ 20 ∷ 0 ∷ 8 ∷ 1 ∷ NONE ∷ 9 ∷ 0 ∷  -- field 6, a(v: 1): String
    0 ∷ 20 ∷ 20 ∷ 0 ∷ 9 ∷ 0 ∷ NONE ∷ 9 ∷ 0 ∷  -- field 7, a: String
    0 ∷ 20 ∷ 20 ∷ 1 ∷ 9 ∷ 0 ∷ NONE ∷ 9 ∷ 0 ∷  -- field 8, a: String!
    0 ∷ 20 ∷ 20 ∷ 2 ∷ 9 ∷ 0 ∷ NONE ∷ 9 ∷ 0 ∷  -- field 9, a: Cat
    0 ∷ 20 ∷ 20 ∷ 3 ∷ 9 ∷ 0 ∷ NONE ∷ 9 ∷ 0 ∷  -- field 10, a: Dog
    0 ∷ 20 ∷ 20 ∷ 4 ∷ 9 ∷ 0 ∷ NONE ∷ 9 ∷ 0 ∷  -- field 11, a: Pet
    0 ∷ 20 ∷ 20 ∷ 5 ∷ 9 ∷ 0 ∷ NONE ∷ 9 ∷ 0 ∷  -- field 12, a: [String]
    0 ∷ 20 ∷ 20 ∷ 6 ∷ 9 ∷ 0 ∷ NONE ∷ 9 ∷ 0 ∷  -- field 13, a: [String!]
    0 ∷ 20 ∷ 20 ∷ 7 ∷ 9 ∷ 0 ∷ NONE ∷ 9 ∷ 0 ∷  -- field 14, a: Int
    30 ∷ 0 ∷ 0 ∷  -- argument 0, v
    30 ∷ 0 ∷ 0 ∷  -- argument 1, v
    30 ∷ 0 ∷ 0 ∷  -- argument 2, v
    30 ∷ 0 ∷ 0 ∷  -- argument 3, v
    30 ∷ 0 ∷ 0 ∷  -- argument 4, v
    31 ∷ 0 ∷ 0 ∷  -- argument 5, w
    31 ∷ 0 ∷ 0 ∷  -- argument 6, w
    30 ∷ 0 ∷ 0 ∷  -- argument 7, v
    30 ∷ 0 ∷ 0 ∷  -- argument 8, v
    7 ∷ NONE ∷ 9 ∷ 1 ∷  -- value 0, [1]
    7 ∷ NONE ∷ 10 ∷ 2 ∷  -- value 1, [1, 2]
    8 ∷ NONE ∷ 12 ∷ 2 ∷  -- value 2, {x: 1, y: 2}
    8 ∷ NONE ∷ 14 ∷ 2 ∷  -- value 3, {y: 2, x: 1}
    2 ∷ NONE ∷ 1 ∷ 0 ∷  -- value 4, 1
    2 ∷ NONE ∷ 2 ∷ 0 ∷  -- value 5, 2
    2 ∷ NONE ∷ 2 ∷ 0 ∷  -- value 6, 2
    2 ∷ NONE ∷ 1 ∷ 0 ∷  -- value 7, 1
    2 ∷ NONE ∷ 1 ∷ 0 ∷  -- value 8, 1
    2 ∷ NONE ∷ 1 ∷ 0 ∷  -- value 9, 1
    2 ∷ NONE ∷ 1 ∷ 0 ∷  -- value 10, 1
    2 ∷ NONE ∷ 2 ∷ 0 ∷  -- value 11, 2
    2 ∷ 21 ∷ 1 ∷ 0 ∷  -- value 12, x: 1
    2 ∷ 22 ∷ 2 ∷ 0 ∷  -- value 13, y: 2
    2 ∷ 22 ∷ 2 ∷ 0 ∷  -- value 14, y: 2
    2 ∷ 21 ∷ 1 ∷ 0 ∷ []  -- value 15, x: 1

unfoldable pub specimens : List Specimen
specimens =
    specimen 0 1 true false ∷  -- a(v: [1]): String and a(v: [1, 2]): String
    specimen 1 0 true false ∷  -- a(v: [1, 2]): String and a(v: [1]): String
    specimen 2 3 true true ∷  -- a(v: {x: 1, y: 2}): String and a(v: {y: 2, x: 1}): String
    specimen 4 5 true true ∷  -- a(v: 1, w: 2): String and a(w: 2, v: 1): String
    specimen 4 6 true false ∷  -- a(v: 1, w: 2): String and a(v: 1): String
    specimen 6 4 true false ∷  -- a(v: 1): String and a(v: 1, w: 2): String
    specimen 7 8 false true ∷  -- a: String and a: String!
    specimen 9 10 true true ∷  -- a: Cat and a: Dog
    specimen 9 11 true true ∷  -- a: Cat and a: Pet
    specimen 7 9 false true ∷  -- a: String and a: Cat
    specimen 9 7 false true ∷  -- a: Cat and a: String
    specimen 7 12 false true ∷  -- a: String and a: [String]
    specimen 12 13 false true ∷  -- a: [String] and a: [String!]
    specimen 13 13 true true ∷  -- a: [String!] and a: [String!]
    specimen 7 14 false true ∷ []  -- a: String and a: Int

-- what the definitions give
unfoldable pub compared : Specimen → Specimen
compared s = specimen s.left s.right (types_agree fields s.left s.right) (same_field_arguments fields s.left s.right)

pub specimens_hold : map compared specimens ≡ specimens
unfolding specimens fields compared word_at cell_at row_in tables_of row_width key_of is_composite every position absent same_list has_key keys_within matched same_set same_by same_value same_arguments is_leaf are_names are_lists same_named same_shape_in same_shape
specimens_hold = refl
