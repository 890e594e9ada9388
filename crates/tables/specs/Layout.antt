-- What each edition lays down: its tables, the words in their rows, and how many rows at most. Header, cells and
-- lookup take these numbers from here: to them a later edition is one list more. They stand again in the code (src/lib.rt), as the nine rules of
-- the row check (rows/specs/RowFault), and in proofs, as bounds on how many tables and rows there are (tables, rows, reach, variable, selection,
-- query). Assumes nothing.
use Rattle.std.specs.Prelude.{ℕ, ◌+◌, ◌*◌, ◌-◌, List, [], ◌∷◌, length, get_or}

pub record Table : Type 0 where
  pub width : ℕ
  pub most : ℕ

abbrev pub table : ℕ → ℕ → Table
table width most = record { width = width; most = most }

-- edition 1: types, type references, operations, fragments, sets, selections, arguments, values, variables
abbrev pub edition1 : List Table
edition1 =
    table 2 4096 ∷ table 2 8192 ∷ table 4 64 ∷ table 2 512 ∷ table 3 4096 ∷ table 9 8192 ∷ table 3 8192 ∷ table 4 16384 ∷
    table 3 1024 ∷ []

-- from edition 1 on
abbrev pub editions : List (List Table)
editions = edition1 ∷ []

abbrev pub newest_edition : ℕ
newest_edition = length editions

-- a number that is no edition is read as edition 1
unfoldable pub tables_of : ℕ → List Table
tables_of e = get_or editions (e - 1) edition1

unfoldable pub table_count : ℕ → ℕ
table_count e = length (tables_of e)

-- edition, total, and two words for each table
abbrev pub header_words : ℕ → ℕ
header_words e = 2 + 2 * table_count e

-- 0 where there is no such table
unfoldable pub row_width : ℕ → ℕ → ℕ
row_width e t = (get_or (tables_of e) t (table 0 0)).width

unfoldable pub most_rows : ℕ → ℕ → ℕ
most_rows e t = (get_or (tables_of e) t (table 0 0)).most

-- the word that stands for no row
abbrev pub NONE : ℕ
NONE = 4294967295

-- the tables by number
abbrev pub types : ℕ
types = 0

abbrev pub references : ℕ
references = 1

abbrev pub operations : ℕ
operations = 2

abbrev pub fragments : ℕ
fragments = 3

abbrev pub sets : ℕ
sets = 4

abbrev pub selections : ℕ
selections = 5

abbrev pub arguments : ℕ
arguments = 6

abbrev pub values : ℕ
values = 7

abbrev pub variables : ℕ
variables = 8
