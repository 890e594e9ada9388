-- How many rows each table has at most, where none has more than its layout allows: so under a good header, and in a good image. And of any
-- image, that a count is a word. Assumes nothing.
use Prim.Native.Nat.{ℕ, ◌+◌, ◌*◌, ◌<◌, ◌≤◌}
use mathlib.Core.List.{List, map}
use native.Mathlib.Omega.{arith}
use lib.ListN.{get_or}
use Rattle.tables.specs.Layout.{NONE, Table, edition1, table_count, most_rows}
use Rattle.tables.specs.Image.{word_at, count_at}
use Rattle.tables.proofs.Widths.{most_of}
use Rattle.tables.proofs.Tidy.{nine_tables}

-- the column of limits, read at the table
abbrev pub limit_of : ℕ → ℕ
limit_of t = get_or (map (λ (x : Table). x.most) edition1) t 0

pub few_rows : (image : List ℕ) → ((t : ℕ) → t < table_count (word_at image 0) → count_at image t ≤ most_rows (word_at image 0) t)
    → (t : ℕ) → t < 9 → count_at image t ≤ limit_of t
few_rows image few t h = rw (most_of (word_at image 0) t) at (few t (omega (arith, nine_tables (word_at image 0))))

-- an image of words counts no more rows than a word can
pub count_fits : (image : List ℕ) → ((k : ℕ) → get_or image k 0 ≤ NONE) → (t : ℕ) → count_at image t ≤ NONE
unfolding word_at
count_fits image words t = words (2 + 2 * t)
