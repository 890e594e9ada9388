-- The words of an image, what its header says of a table, and the cells of a table.
-- Assumes nothing.
use Rattle.std.specs.Prelude.{ℕ, zero, suc, ◌+◌, ◌*◌, min, Bool, List, leb, ltb, get_or}
use Rattle.tables.specs.Layout.{NONE, header_words, row_width}
use Rattle.tables.specs.declared.Range.{Range}

-- word k; 0 past the end
unfoldable pub word_at : List ℕ → ℕ → ℕ
word_at image k = get_or image k 0

abbrev pub count_at : List ℕ → ℕ → ℕ
count_at image t = word_at image (2 + 2 * t)

-- table t has a row r
abbrev pub is_row : List ℕ → ℕ → ℕ → Bool
is_row image t r = ltb r (count_at image t)

abbrev pub offset_at : List ℕ → ℕ → ℕ
offset_at image t = word_at image (3 + 2 * t)

-- the word after a table's last: its offset plus count times row width
unfoldable pub end_of : List ℕ → ℕ → ℕ → ℕ
end_of image e t = offset_at image t + count_at image t * row_width e t

-- where a table must start: the first after the header, each next where the one before ends
unfoldable pub start_of : List ℕ → ℕ → ℕ → ℕ
start_of image e zero = header_words e
start_of image e (suc t) = end_of image e t

-- the row width of table t in this image's edition
abbrev pub width_at : List ℕ → ℕ → ℕ
width_at image t = row_width (word_at image 0) t

-- word k of row r of table t
unfoldable pub cell_at : List ℕ → ℕ → ℕ → ℕ → ℕ
cell_at image t r k = word_at image (offset_at image t + r * width_at image t + k)

-- the row that stands k rows into a range; NONE past all rows
unfoldable pub row_in : Range → ℕ → ℕ
row_in range k = min (range.first + k) NONE

-- first plus count is at most so many rows: a sum of plain numbers
abbrev pub lies_within : Range → ℕ → Bool
lies_within range rows = leb (range.first + range.count) rows
