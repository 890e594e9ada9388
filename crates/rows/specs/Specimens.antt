-- Images, what the row check shows of each, and where the selections of one set stand: specimens of the tables, and a damaged
-- image for each condition of the row rules; for each limit an image that just keeps it and one past it. One condition has no image of its
-- own: that a leaf owns no set follows from two others. Written by tools/specimens.py. Assumes nothing.
use Rattle.std.specs.Prelude.{ℕ, zero, suc, ◌+◌, ◌-◌, ◌*◌, List, [], ◌∷◌, ◌++◌, set}

pub record Specimen : Type 0 where
  pub image : List ℕ
  -- what kind 1 or 4 shows; all 0 where there is no fault
  pub kind : ℕ
  pub a : ℕ
  pub b : ℕ
  -- a set, and its selections' first word and length
  pub set : ℕ
  pub start : ℕ
  pub words : ℕ

-- an image with the word at a place changed
abbrev pub changed : List ℕ → (at word : ℕ) → List ℕ
changed image at word = set image at word

-- so many rows, each made of its number, which is counted from some number on
abbrev pub rows_of : (n from : ℕ) → (ℕ → List ℕ) → List ℕ
rows_of zero from row = []
rows_of (suc n) from row = row from ++ rows_of n (suc from) row

-- `{a}` with so many arguments and values, whose rows follow
abbrev pub field_with : (n m : ℕ) → List ℕ → List ℕ
field_with n m rows =
    1 ∷ (42 + 3 * n + 4 * m) ∷ 2 ∷ 20 ∷ 1 ∷ 24 ∷ 1 ∷ 26 ∷ 0 ∷ 30 ∷ 1 ∷ 30 ∷ 1 ∷ 33 ∷ n ∷ 42 ∷ m ∷ (42 + 3 * n) ∷ 0 ∷ (42 + 3 * n + 4 * m) ∷
    10 ∷ 0 ∷ 11 ∷ 1 ∷ 0 ∷ 0 ∷ 0 ∷ 0 ∷ 0 ∷ 0 ∷ 1 ∷ 0 ∷ 1 ∷ 0 ∷ 20 ∷ 20 ∷ 0 ∷ 0 ∷ n ∷ 4294967295 ∷ 0 ∷ 0 ∷ rows

-- a field with n arguments
abbrev pub with_arguments : ℕ → List ℕ
with_arguments n = field_with n n (rows_of n 30 (λ i. i ∷ 0 ∷ 0 ∷ []) ++ rows_of n 0 (λ i. 2 ∷ 4294967295 ∷ 7 ∷ 0 ∷ []))

-- an argument whose value is an object of n members
abbrev pub with_members : ℕ → List ℕ
with_members n = field_with 1 (1 + n) (30 ∷ 0 ∷ 0 ∷ 8 ∷ 4294967295 ∷ 1 ∷ n ∷ rows_of n 50 (λ i. 2 ∷ i ∷ 7 ∷ 0 ∷ []))

-- an argument whose value is lists in each other, n levels of them; the innermost is empty
abbrev pub with_levels : ℕ → List ℕ
with_levels n = field_with 1 n (30 ∷ 0 ∷ 0 ∷ (rows_of (n - 1) 1 (λ i. 7 ∷ 4294967295 ∷ i ∷ 1 ∷ []) ++ (7 ∷ 4294967295 ∷ n ∷ 0 ∷ [])))

-- the specimen `{a}`
abbrev pub small : List ℕ
small =
    1 ∷ 42 ∷ 2 ∷ 20 ∷ 1 ∷ 24 ∷ 1 ∷ 26 ∷ 0 ∷ 30 ∷ 1 ∷ 30 ∷ 1 ∷ 33 ∷ 0 ∷ 42 ∷ 0 ∷ 42 ∷ 0 ∷ 42 ∷
    10 ∷ 0 ∷ 11 ∷ 1 ∷
    0 ∷ 0 ∷
    0 ∷ 0 ∷ 0 ∷ 0 ∷
    1 ∷ 0 ∷ 1 ∷
    0 ∷ 20 ∷ 20 ∷ 0 ∷ 0 ∷ 0 ∷ 4294967295 ∷ 0 ∷ 0 ∷ []

-- a query with a row of every kind
abbrev pub whole : List ℕ
whole =
    1 ∷ 159 ∷ 4 ∷ 20 ∷ 5 ∷ 28 ∷ 1 ∷ 38 ∷ 1 ∷ 42 ∷ 4 ∷ 44 ∷ 7 ∷ 56 ∷ 3 ∷ 119 ∷ 7 ∷ 128 ∷ 1 ∷ 156 ∷
    10 ∷ 0 ∷ 11 ∷ 1 ∷ 12 ∷ 2 ∷ 13 ∷ 5 ∷
    0 ∷ 0 ∷ 0 ∷ 1 ∷ 3 ∷ 1 ∷ 1 ∷ 0 ∷ 0 ∷ 3 ∷
    0 ∷ 1 ∷ 2 ∷ 1 ∷
    3 ∷ 0 ∷
    1 ∷ 0 ∷ 3 ∷ 2 ∷ 3 ∷ 2 ∷ 1 ∷ 5 ∷ 1 ∷ 1 ∷ 6 ∷ 1 ∷
    0 ∷ 20 ∷ 20 ∷ 0 ∷ 0 ∷ 2 ∷ 4294967295 ∷ 2 ∷ 0 ∷
    0 ∷ 21 ∷ 21 ∷ 2 ∷ 2 ∷ 0 ∷ 2 ∷ 2 ∷ 0 ∷
    1 ∷ 0 ∷ 0 ∷ 0 ∷ 0 ∷ 0 ∷ 0 ∷ 2 ∷ 0 ∷
    2 ∷ 0 ∷ 0 ∷ 0 ∷ 0 ∷ 0 ∷ 3 ∷ 2 ∷ 1 ∷
    0 ∷ 22 ∷ 22 ∷ 3 ∷ 0 ∷ 0 ∷ 4294967295 ∷ 0 ∷ 0 ∷
    0 ∷ 23 ∷ 23 ∷ 0 ∷ 0 ∷ 0 ∷ 4294967295 ∷ 0 ∷ 0 ∷
    0 ∷ 24 ∷ 24 ∷ 0 ∷ 0 ∷ 0 ∷ 4294967295 ∷ 0 ∷ 0 ∷
    30 ∷ 0 ∷ 0 ∷ 31 ∷ 4 ∷ 1 ∷ 32 ∷ 0 ∷ 0 ∷
    7 ∷ 4294967295 ∷ 3 ∷ 2 ∷
    8 ∷ 4294967295 ∷ 5 ∷ 2 ∷
    6 ∷ 4294967295 ∷ 40 ∷ 0 ∷
    2 ∷ 4294967295 ∷ 7 ∷ 0 ∷
    0 ∷ 4294967295 ∷ 0 ∷ 0 ∷
    1 ∷ 50 ∷ 1 ∷ 0 ∷
    7 ∷ 51 ∷ 7 ∷ 0 ∷
    40 ∷ 3 ∷ 1 ∷ []

-- an operation on an object, whose set has two inlines that own a set each, the first on a union
abbrev pub inlines : List ℕ
inlines =
    1 ∷ 59 ∷ 4 ∷ 20 ∷ 0 ∷ 28 ∷ 1 ∷ 28 ∷ 0 ∷ 32 ∷ 3 ∷ 32 ∷ 2 ∷ 41 ∷ 0 ∷ 59 ∷ 0 ∷ 59 ∷ 0 ∷ 59 ∷
    11 ∷ 1 ∷ 12 ∷ 3 ∷ 13 ∷ 4 ∷ 14 ∷ 0 ∷
    0 ∷ 0 ∷ 0 ∷ 0 ∷
    0 ∷ 0 ∷ 2 ∷ 1 ∷ 2 ∷ 0 ∷ 0 ∷ 2 ∷ 0 ∷
    2 ∷ 0 ∷ 0 ∷ 0 ∷ 0 ∷ 0 ∷ 1 ∷ 0 ∷ 0 ∷
    2 ∷ 0 ∷ 0 ∷ 0 ∷ 0 ∷ 0 ∷ 2 ∷ 0 ∷ 0 ∷ []

abbrev pub specimens : List Specimen
specimens =
    -- no rows at all
    record { image = 1 ∷ 20 ∷ 0 ∷ 20 ∷ 0 ∷ 20 ∷ 0 ∷ 20 ∷ 0 ∷ 20 ∷ 0 ∷ 20 ∷ 0 ∷ 20 ∷ 0 ∷ 20 ∷ 0 ∷ 20 ∷ 0 ∷ 20 ∷ []; kind = 0; a = 0; b = 0; set = 0; start = 20; words = 0 } ∷
    -- `{a}`
    record { image = small; kind = 0; a = 0; b = 0; set = 0; start = 33; words = 9 } ∷
    -- a query with a row of every kind
    record { image = whole; kind = 0; a = 0; b = 0; set = 1; start = 83; words = 18 } ∷
    -- there is no such set
    record { image = whole; kind = 0; a = 0; b = 0; set = 4; start = 159; words = 0 } ∷
    -- sets under an object and under a union
    record { image = inlines; kind = 0; a = 0; b = 0; set = 0; start = 41; words = 18 } ∷
    -- no words
    record { image = []; kind = 1; a = 0; b = 0; set = 0; start = 0; words = 0 } ∷
    -- one word too few for a header
    record { image = 1 ∷ 42 ∷ 2 ∷ 20 ∷ 1 ∷ 24 ∷ 1 ∷ 26 ∷ 0 ∷ 30 ∷ 1 ∷ 30 ∷ 1 ∷ 33 ∷ 0 ∷ 42 ∷ 0 ∷ 42 ∷ 0 ∷ []; kind = 1; a = 19; b = 0; set = 0; start = 19; words = 0 } ∷
    -- edition 0
    record { image = changed (changed small 0 0) 1 7; kind = 1; a = 0; b = 0; set = 0; start = 42; words = 0 } ∷
    -- an edition that is not yet
    record { image = changed small 0 2; kind = 1; a = 0; b = 0; set = 0; start = 42; words = 0 } ∷
    -- the total is not the length
    record { image = changed small 1 41; kind = 1; a = 1; b = 0; set = 0; start = 42; words = 0 } ∷
    -- one type too many
    record { image = changed small 2 4097; kind = 1; a = 2; b = 0; set = 0; start = 42; words = 0 } ∷
    -- a count of NONE
    record { image = changed small 18 4294967295; kind = 1; a = 18; b = 0; set = 0; start = 42; words = 0 } ∷
    -- the first offset
    record { image = changed small 3 21; kind = 1; a = 3; b = 0; set = 0; start = 42; words = 0 } ∷
    -- a wrong count shows as the next offset
    record { image = changed small 10 2; kind = 1; a = 13; b = 0; set = 0; start = 42; words = 0 } ∷
    -- only the last end is wrong
    record { image = changed small 18 1; kind = 1; a = 20; b = 0; set = 0; start = 42; words = 0 } ∷
    -- a type's kind
    record { image = changed whole 21 6; kind = 4; a = 0; b = 0; set = 0; start = 56; words = 27 } ∷
    -- type names that do not ascend
    record { image = changed whole 22 10; kind = 4; a = 0; b = 1; set = 0; start = 56; words = 27 } ∷
    -- a reference's kind
    record { image = changed whole 32 4; kind = 4; a = 1; b = 2; set = 0; start = 56; words = 27 } ∷
    -- a named child that is no type
    record { image = changed whole 35 4; kind = 4; a = 1; b = 3; set = 0; start = 56; words = 27 } ∷
    -- a list of itself
    record { image = changed whole 33 2; kind = 4; a = 1; b = 2; set = 0; start = 56; words = 27 } ∷
    -- an operation's variables
    record { image = changed whole 39 2; kind = 4; a = 2; b = 0; set = 0; start = 56; words = 27 } ∷
    -- an operation's directives
    record { image = changed whole 40 4294967295; kind = 4; a = 2; b = 0; set = 0; start = 56; words = 27 } ∷
    -- an operation without its set
    record { image = 1 ∷ 24 ∷ 0 ∷ 20 ∷ 0 ∷ 20 ∷ 1 ∷ 20 ∷ 0 ∷ 24 ∷ 0 ∷ 24 ∷ 0 ∷ 24 ∷ 0 ∷ 24 ∷ 0 ∷ 24 ∷ 0 ∷ 24 ∷ 0 ∷ 0 ∷ 0 ∷ 0 ∷ []; kind = 4; a = 2; b = 0; set = 0; start = 24; words = 0 } ∷
    -- a fragment's directives
    record { image = changed whole 42 4; kind = 4; a = 3; b = 0; set = 0; start = 56; words = 27 } ∷
    -- a fragment without its set
    record { image = 1 ∷ 31 ∷ 1 ∷ 20 ∷ 0 ∷ 22 ∷ 1 ∷ 22 ∷ 1 ∷ 26 ∷ 1 ∷ 28 ∷ 0 ∷ 31 ∷ 0 ∷ 31 ∷ 0 ∷ 31 ∷ 0 ∷ 31 ∷ 11 ∷ 1 ∷ 0 ∷ 0 ∷ 0 ∷ 0 ∷ 0 ∷ 0 ∷ 0 ∷ 0 ∷ 0 ∷ []; kind = 4; a = 3; b = 0; set = 0; start = 31; words = 0 } ∷
    -- a parent that is a scalar
    record { image = changed inlines 35 3; kind = 4; a = 4; b = 1; set = 0; start = 41; words = 18 } ∷
    -- a parent that is an enum
    record { image = changed inlines 35 2; kind = 4; a = 4; b = 1; set = 0; start = 41; words = 18 } ∷
    -- a parent that is no type, though what is read there is composite
    record { image = changed whole 53 5; kind = 4; a = 4; b = 3; set = 0; start = 56; words = 27 } ∷
    -- a gap between two sets
    record { image = changed whole 48 4; kind = 4; a = 4; b = 1; set = 1; start = 92; words = 18 } ∷
    -- two sets that share a selection
    record { image = changed whole 48 2; kind = 4; a = 4; b = 1; set = 1; start = 74; words = 18 } ∷
    -- a set past the selections
    record { image = changed whole 55 2; kind = 4; a = 4; b = 3; set = 3; start = 159; words = 0 } ∷
    -- a selection's kind
    record { image = changed whole 56 3; kind = 4; a = 5; b = 0; set = 0; start = 56; words = 27 } ∷
    -- a field's reference
    record { image = changed whole 59 5; kind = 4; a = 5; b = 0; set = 0; start = 56; words = 27 } ∷
    -- a field of an input type
    record { image = changed whole 59 4; kind = 4; a = 5; b = 0; set = 0; start = 56; words = 27 } ∷
    -- a leaf that owns a set
    record { image = changed whole 62 2; kind = 4; a = 5; b = 0; set = 0; start = 56; words = 27 } ∷
    -- a field's arguments
    record { image = changed whole 61 4; kind = 4; a = 5; b = 0; set = 0; start = 56; words = 27 } ∷
    -- two arguments of one name
    record { image = changed whole 122 30; kind = 4; a = 5; b = 0; set = 0; start = 56; words = 27 } ∷
    -- 64 arguments
    record { image = with_arguments 64; kind = 0; a = 0; b = 0; set = 0; start = 33; words = 9 } ∷
    -- 65 arguments
    record { image = with_arguments 65; kind = 4; a = 5; b = 0; set = 0; start = 33; words = 9 } ∷
    -- a selection's directives
    record { image = changed whole 91 2; kind = 4; a = 5; b = 3; set = 0; start = 56; words = 27 } ∷
    -- a set number that is too high
    record { image = changed whole 71 3; kind = 4; a = 5; b = 1; set = 0; start = 56; words = 27 } ∷
    -- a set number that is too low
    record { image = changed inlines 56 1; kind = 4; a = 5; b = 1; set = 0; start = 41; words = 18 } ∷
    -- an inline without a set
    record { image = changed whole 89 4294967295; kind = 4; a = 5; b = 3; set = 0; start = 56; words = 27 } ∷
    -- a parent unlike the field's innermost type
    record { image = changed whole 50 2; kind = 4; a = 5; b = 1; set = 0; start = 56; words = 27 } ∷
    -- a spread of no fragment
    record { image = changed whole 80 1; kind = 4; a = 5; b = 2; set = 0; start = 56; words = 27 } ∷
    -- a spread with a response name
    record { image = changed whole 75 9; kind = 4; a = 5; b = 2; set = 0; start = 56; words = 27 } ∷
    -- a spread with a name
    record { image = changed whole 76 9; kind = 4; a = 5; b = 2; set = 0; start = 56; words = 27 } ∷
    -- an inline with a type
    record { image = changed whole 86 1; kind = 4; a = 5; b = 3; set = 0; start = 56; words = 27 } ∷
    -- a spread with a first argument
    record { image = changed whole 78 1; kind = 4; a = 5; b = 2; set = 0; start = 56; words = 27 } ∷
    -- an inline with an argument count
    record { image = changed whole 88 1; kind = 4; a = 5; b = 3; set = 0; start = 56; words = 27 } ∷
    -- an inline that stands in the set it owns
    record { image = 1 ∷ 41 ∷ 1 ∷ 20 ∷ 0 ∷ 22 ∷ 1 ∷ 22 ∷ 0 ∷ 26 ∷ 2 ∷ 26 ∷ 1 ∷ 32 ∷ 0 ∷ 41 ∷ 0 ∷ 41 ∷ 0 ∷ 41 ∷ 11 ∷ 1 ∷ 0 ∷ 0 ∷ 0 ∷ 0 ∷ 0 ∷ 0 ∷ 0 ∷ 0 ∷ 0 ∷ 1 ∷ 2 ∷ 0 ∷ 0 ∷ 0 ∷ 0 ∷ 0 ∷ 1 ∷ 0 ∷ 0 ∷ []; kind = 4; a = 5; b = 0; set = 1; start = 32; words = 9 } ∷
    -- an inline whose set is not there
    record { image = 1 ∷ 38 ∷ 1 ∷ 20 ∷ 0 ∷ 22 ∷ 1 ∷ 22 ∷ 0 ∷ 26 ∷ 1 ∷ 26 ∷ 1 ∷ 29 ∷ 0 ∷ 38 ∷ 0 ∷ 38 ∷ 0 ∷ 38 ∷ 11 ∷ 1 ∷ 0 ∷ 0 ∷ 0 ∷ 0 ∷ 0 ∷ 0 ∷ 1 ∷ 2 ∷ 0 ∷ 0 ∷ 0 ∷ 0 ∷ 0 ∷ 1 ∷ 0 ∷ 0 ∷ []; kind = 4; a = 5; b = 0; set = 0; start = 29; words = 9 } ∷
    -- an argument's reference
    record { image = changed whole 120 5; kind = 4; a = 6; b = 0; set = 0; start = 56; words = 27 } ∷
    -- an argument's default
    record { image = changed whole 124 2; kind = 4; a = 6; b = 1; set = 0; start = 56; words = 27 } ∷
    -- an argument without a value
    record { image = 1 ∷ 27 ∷ 1 ∷ 20 ∷ 1 ∷ 22 ∷ 0 ∷ 24 ∷ 0 ∷ 24 ∷ 0 ∷ 24 ∷ 0 ∷ 24 ∷ 1 ∷ 24 ∷ 0 ∷ 27 ∷ 0 ∷ 27 ∷ 10 ∷ 0 ∷ 0 ∷ 0 ∷ 30 ∷ 0 ∷ 0 ∷ []; kind = 4; a = 6; b = 0; set = 0; start = 27; words = 0 } ∷
    -- a value's kind
    record { image = changed whole 152 9; kind = 4; a = 7; b = 6; set = 0; start = 56; words = 27 } ∷
    -- an argument's value with a key
    record { image = changed whole 129 5; kind = 4; a = 7; b = 0; set = 0; start = 56; words = 27 } ∷
    -- null's atom
    record { image = changed whole 146 1; kind = 4; a = 7; b = 4; set = 0; start = 56; words = 27 } ∷
    -- boolean's atom
    record { image = changed whole 150 2; kind = 4; a = 7; b = 5; set = 0; start = 56; words = 27 } ∷
    -- a count where there are no members
    record { image = changed whole 143 1; kind = 4; a = 7; b = 3; set = 0; start = 56; words = 27 } ∷
    -- a list that claims a row before the next
    record { image = changed whole 130 2; kind = 4; a = 7; b = 0; set = 0; start = 56; words = 27 } ∷
    -- a list that claims a row behind the next
    record { image = 1 ∷ 39 ∷ 1 ∷ 20 ∷ 1 ∷ 22 ∷ 0 ∷ 24 ∷ 0 ∷ 24 ∷ 0 ∷ 24 ∷ 0 ∷ 24 ∷ 1 ∷ 24 ∷ 3 ∷ 27 ∷ 0 ∷ 39 ∷ 10 ∷ 0 ∷ 0 ∷ 0 ∷ 30 ∷ 0 ∷ 0 ∷ 7 ∷ 4294967295 ∷ 2 ∷ 1 ∷ 2 ∷ 4294967295 ∷ 1 ∷ 0 ∷ 2 ∷ 4294967295 ∷ 2 ∷ 0 ∷ []; kind = 4; a = 7; b = 0; set = 0; start = 39; words = 0 } ∷
    -- an empty list that begins before the next
    record { image = changed whole 154 6; kind = 4; a = 7; b = 6; set = 0; start = 56; words = 27 } ∷
    -- an empty list that begins behind the next
    record { image = 1 ∷ 39 ∷ 1 ∷ 20 ∷ 1 ∷ 22 ∷ 0 ∷ 24 ∷ 0 ∷ 24 ∷ 0 ∷ 24 ∷ 0 ∷ 24 ∷ 1 ∷ 24 ∷ 3 ∷ 27 ∷ 0 ∷ 39 ∷ 10 ∷ 0 ∷ 0 ∷ 0 ∷ 30 ∷ 0 ∷ 0 ∷ 7 ∷ 4294967295 ∷ 2 ∷ 0 ∷ 2 ∷ 4294967295 ∷ 1 ∷ 0 ∷ 2 ∷ 4294967295 ∷ 2 ∷ 0 ∷ []; kind = 4; a = 7; b = 0; set = 0; start = 39; words = 0 } ∷
    -- an empty list in a row that nobody claimed
    record { image = 1 ∷ 24 ∷ 0 ∷ 20 ∷ 0 ∷ 20 ∷ 0 ∷ 20 ∷ 0 ∷ 20 ∷ 0 ∷ 20 ∷ 0 ∷ 20 ∷ 0 ∷ 20 ∷ 1 ∷ 20 ∷ 0 ∷ 24 ∷ 7 ∷ 4294967295 ∷ 0 ∷ 0 ∷ []; kind = 4; a = 7; b = 0; set = 0; start = 24; words = 0 } ∷
    -- a list past the values
    record { image = changed whole 155 1; kind = 4; a = 7; b = 6; set = 0; start = 56; words = 27 } ∷
    -- a list that claims itself
    record { image = 1 ∷ 24 ∷ 0 ∷ 20 ∷ 0 ∷ 20 ∷ 0 ∷ 20 ∷ 0 ∷ 20 ∷ 0 ∷ 20 ∷ 0 ∷ 20 ∷ 0 ∷ 20 ∷ 1 ∷ 20 ∷ 0 ∷ 24 ∷ 7 ∷ 4294967295 ∷ 0 ∷ 1 ∷ []; kind = 4; a = 7; b = 0; set = 0; start = 24; words = 0 } ∷
    -- a list's member with a key
    record { image = changed whole 141 5; kind = 4; a = 7; b = 0; set = 0; start = 56; words = 27 } ∷
    -- an object's member without a key
    record { image = changed whole 149 4294967295; kind = 4; a = 7; b = 1; set = 0; start = 56; words = 27 } ∷
    -- two members of one key
    record { image = changed whole 153 50; kind = 4; a = 7; b = 1; set = 0; start = 56; words = 27 } ∷
    -- 256 members
    record { image = with_members 256; kind = 0; a = 0; b = 0; set = 0; start = 33; words = 9 } ∷
    -- 257 members
    record { image = with_members 257; kind = 4; a = 7; b = 0; set = 0; start = 33; words = 9 } ∷
    -- 64 levels of values
    record { image = with_levels 64; kind = 0; a = 0; b = 0; set = 0; start = 33; words = 9 } ∷
    -- 65 levels of values
    record { image = with_levels 65; kind = 4; a = 7; b = 63; set = 0; start = 33; words = 9 } ∷
    -- a variable's reference
    record { image = changed whole 157 5; kind = 4; a = 8; b = 0; set = 0; start = 56; words = 27 } ∷
    -- a variable's default
    record { image = changed whole 158 2; kind = 4; a = 8; b = 0; set = 0; start = 56; words = 27 } ∷
    -- a set that nothing owns
    record { image = 1 ∷ 45 ∷ 2 ∷ 20 ∷ 1 ∷ 24 ∷ 1 ∷ 26 ∷ 0 ∷ 30 ∷ 2 ∷ 30 ∷ 1 ∷ 36 ∷ 0 ∷ 45 ∷ 0 ∷ 45 ∷ 0 ∷ 45 ∷ 10 ∷ 0 ∷ 11 ∷ 1 ∷ 0 ∷ 0 ∷ 0 ∷ 0 ∷ 0 ∷ 0 ∷ 1 ∷ 0 ∷ 1 ∷ 1 ∷ 1 ∷ 0 ∷ 0 ∷ 20 ∷ 20 ∷ 0 ∷ 0 ∷ 0 ∷ 4294967295 ∷ 0 ∷ 0 ∷ []; kind = 4; a = 4; b = 2; set = 1; start = 45; words = 0 } ∷
    -- a selection in no set
    record { image = 1 ∷ 51 ∷ 2 ∷ 20 ∷ 1 ∷ 24 ∷ 1 ∷ 26 ∷ 0 ∷ 30 ∷ 1 ∷ 30 ∷ 2 ∷ 33 ∷ 0 ∷ 51 ∷ 0 ∷ 51 ∷ 0 ∷ 51 ∷ 10 ∷ 0 ∷ 11 ∷ 1 ∷ 0 ∷ 0 ∷ 0 ∷ 0 ∷ 0 ∷ 0 ∷ 1 ∷ 0 ∷ 1 ∷ 0 ∷ 20 ∷ 20 ∷ 0 ∷ 0 ∷ 0 ∷ 4294967295 ∷ 0 ∷ 0 ∷ 0 ∷ 20 ∷ 20 ∷ 0 ∷ 0 ∷ 0 ∷ 4294967295 ∷ 0 ∷ 0 ∷ []; kind = 4; a = 5; b = 2; set = 0; start = 33; words = 9 } ∷
    -- a value that nothing claims
    record { image = 1 ∷ 24 ∷ 0 ∷ 20 ∷ 0 ∷ 20 ∷ 0 ∷ 20 ∷ 0 ∷ 20 ∷ 0 ∷ 20 ∷ 0 ∷ 20 ∷ 0 ∷ 20 ∷ 1 ∷ 20 ∷ 0 ∷ 24 ∷ 2 ∷ 4294967295 ∷ 8 ∷ 0 ∷ []; kind = 4; a = 7; b = 1; set = 0; start = 24; words = 0 } ∷
    []
