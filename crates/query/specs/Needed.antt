-- The words of scratch that an image and a budget need. Assumes nothing.
use Rattle.std.specs.Prelude.{ℕ, ◌+◌, ◌*◌, List}
use Rattle.lists.specs.Every.{total}
use Rattle.tables.specs.Layout.{table_count}
use Rattle.tables.specs.Image.{word_at, count_at}
-- the largest budget
pub use Rattle.selection.specs.Refining.{most_work}

-- the sum of the counts of all tables
unfoldable pub rows_in_all : List ℕ → ℕ
rows_in_all image = total 0 (count_at image) (table_count (word_at image 0))

-- 8 × work + 16 × (sum of the counts) + 4096
unfoldable pub scratch_needed : List ℕ → ℕ → ℕ
scratch_needed image work = 8 * work + 16 * rows_in_all image + 4096
