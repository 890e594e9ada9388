-- What a good header promises of n tables in an edition: few enough rows, each table inside the image, and none over another.
-- Assumes nothing.
use Rattle.std.specs.Prelude.{ℕ, ◌<◌, ◌≤◌, List, length}
use Rattle.tables.specs.Layout.{header_words, most_rows}
use Rattle.tables.specs.Image.{count_at, offset_at, end_of}

pub record Tidy (image : List ℕ) (e n : ℕ) : Type 0 where
  pub few : (t : ℕ) → t < n → count_at image t ≤ most_rows e t
  pub after_header : (t : ℕ) → t < n → header_words e ≤ offset_at image t
  pub apart : (s t : ℕ) → s < t → t < n → end_of image e s ≤ offset_at image t
  pub inside : (t : ℕ) → t < n → end_of image e t ≤ length image
