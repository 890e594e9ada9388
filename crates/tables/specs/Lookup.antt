-- The selections of a set, as the very part of the image (the public lookup).
-- Assumes nothing.
use Rattle.std.specs.Prelude.{ℕ, ◌+◌, ◌*◌, ◌≡◌, List, cond, length, take, drop, ltb, Option, Some, None}
use Rattle.std.proofs.Math.Option.{none, some}
use Rattle.std.proofs.Math.Option as Math
use Rattle.std.specs.Borrow.{Bor}
use Rattle.tables.specs.Layout.{sets, selections}
use Rattle.tables.specs.Image.{count_at, offset_at, width_at, lies_within}
use Rattle.tables.specs.Header.{Refusal, header_fault}
use Rattle.tables.specs.Columns.{set_selections}
use Rattle.tables.specs.declared.Range.{Range}
use Rattle.tables.specs.declared.lookup.Place.{Place}

-- a place in an image that nothing is wrong with
abbrev pub unless : Math.Option Refusal → Option Place → Option Place
unless none place = place
unless (some fault) place = None

-- so many words past table 5's start, and so long, at its row width
unfoldable pub rows_place : List ℕ → Range → Place
rows_place image rows =
    let width = width_at image selections in
    record { start = offset_at image selections + rows.first * width; words = rows.count * width }

-- on a bad header, set number or range there is no place
unfoldable pub set_place : List ℕ → ℕ → Option Place
set_place image set =
    let rows = set_selections image set in
    unless (header_fault image)
    (cond (ltb set (count_at image sets))
    (cond (lies_within rows (count_at image selections))
    (Some (rows_place image rows))
    None)
    None)

-- the words at a place, and nowhere the empty part at the end
abbrev pub start_at : List ℕ → Option Place → ℕ
start_at image (Some place) = place.start
start_at image None = length image

abbrev pub words_at : Option Place → ℕ
words_at (Some place) = place.words
words_at None = 0

-- the very part of a slice of words: what it holds, and where it lies in memory, at 4 bytes a word
pub record PartOf (whole : Bor (List ℕ)) (place : Option Place) (part : Bor (List ℕ)) : Type 0 where
  pub holds : part.now ≡ take (words_at place) (drop (start_at whole.now place) whole.now)
  pub block : part.ref_ptr.0 ≡ whole.ref_ptr.0
  pub lies : part.ref_ptr.1 ≡ whole.ref_ptr.1 + start_at whole.now place * 4
