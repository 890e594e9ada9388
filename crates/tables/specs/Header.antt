-- Kind 1: the header of an image, or the first wrong word.
-- Assumes nothing.
use Rattle.std.specs.Prelude.{ℕ, ◌+◌, ◌*◌, List, length, leb, eqb, Result, Ok, Err}
use Rattle.std.proofs.Math.Option.{Option, none, some}
use Rattle.lists.specs.First.{expect, ◌▷◌, first_fault}
use Rattle.tables.specs.Layout.{newest_edition, table_count, header_words, most_rows}
use Rattle.tables.specs.Image.{word_at, count_at, offset_at, start_of}
use Rattle.tables.specs.declared.header.BadHeader.{BadHeader}

-- what a reply shows of a refused image: its kind, and its numbers a and b
pub record Refusal : Type 0 where
  pub kind : ℕ
  pub a : ℕ
  pub b : ℕ

abbrev pub bad_word : ℕ → Refusal
bad_word a = record { kind = 1; a = a; b = 0 }

-- the answer of the header's reader, by its number
abbrev pub header_shows : Result (Unit {0}) BadHeader → Option Refusal
header_shows (Ok _) = none
header_shows (Err bad) = some (bad_word bad.word)

-- table t: its count, then its offset
unfoldable pub table_fault : List ℕ → ℕ → ℕ → Option Refusal
table_fault image e t =
    expect (leb (count_at image t) (most_rows e t)) (bad_word (2 + 2 * t)) ▷
    expect (eqb (offset_at image t) (start_of image e t)) (bad_word (3 + 2 * t))

-- in this order: the length, the edition, the total, the tables, the last end
unfoldable pub edition_fault : List ℕ → ℕ → Option Refusal
edition_fault image e =
    expect (leb (header_words e) (length image)) (bad_word (length image)) ▷
    expect (leb 1 e) (bad_word 0) ▷
    expect (leb e newest_edition) (bad_word 0) ▷
    expect (eqb (word_at image 1) (length image)) (bad_word 1) ▷
    first_fault (table_fault image e) (table_count e) ▷
    expect (eqb (start_of image e (table_count e)) (length image)) (bad_word (header_words e))

-- the header of an image, whose first word is its edition
abbrev pub header_fault : List ℕ → Option Refusal
header_fault image = edition_fault image (word_at image 0)
