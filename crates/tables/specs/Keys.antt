-- Keys: the names of arguments and the keys of object members (tables 6 and 7).
-- Assumes nothing.
use Rattle.std.specs.Prelude.{ℕ, cond, List, eqb}
use Rattle.tables.specs.declared.Range.{Range}
use Rattle.tables.specs.Layout.{arguments}
use Rattle.tables.specs.Image.{row_in}
use Rattle.tables.specs.Columns.{argument_name, value_key}

-- the key of a row: of table 6 its name, of table 7 its key
unfoldable pub key_of : List ℕ → ℕ → ℕ → ℕ
key_of image t r = cond (eqb t arguments) (argument_name image r) (value_key image r)

-- the key of the row that stands k rows into a range
abbrev pub key_in : List ℕ → ℕ → Range → ℕ → ℕ
key_in image t rows k = key_of image t (row_in rows k)
