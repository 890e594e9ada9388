-- When a header has which fault: a law for each `return` of the code, in terms of the definitions alone. So an answer to a
-- need names a law, and `omega` finds its premises in what the callees ensure and the tests say.
-- Assumes nothing.
use Prim.Native.Nat.{ℕ, ◌+◌, ◌*◌, ◌<◌, ◌≤◌}
use mathlib.Core.Path.{◌≡◌}
use mathlib.Core.List.{List}
use mathlib.Core.Logic.{◌⊎◌, ⊎_elim}
use mathlib.Core.Option.{none, some}
use borrow.Author.Tests.{le-leb, lt-leb, eq-eqb, ne_eqb}
use lib.Dec.{eqb}
use lib.ListN.{length}
use Rattle.lists.specs.First.{expect, ◌▷◌, first_fault}
use Rattle.tables.specs.Layout.{newest_edition, table_count, header_words, most_rows}
use Rattle.tables.specs.Image.{word_at, count_at, offset_at, start_of}
use Rattle.tables.specs.Header.{Refusal, bad_word, table_fault, edition_fault}

module _ (image : List ℕ) (e t : ℕ) where
  pub count_over : most_rows e t < count_at image t → some (bad_word (2 + 2 * t)) ≡ table_fault image e t
  unfolding table_fault expect ◌▷◌
  count_over over = simp (lt-leb _ _ over)

  pub offset_off : count_at image t ≤ most_rows e t → (offset_at image t ≡ start_of image e t → ⊥) → some (bad_word (3 + 2 * t)) ≡ table_fault image e t
  unfolding table_fault expect ◌▷◌
  offset_off few off = simp (le-leb _ _ few, ne_eqb _ _ off)

  pub table_right : count_at image t ≤ most_rows e t → offset_at image t ≡ start_of image e t → none ≡ table_fault image e t
  unfolding table_fault expect ◌▷◌
  table_right few right = simp (le-leb _ _ few, eq-eqb _ _ right)

-- the words before the tables are right
pub record Begun (image : List ℕ) (e : ℕ) : Type 0 where
  pub long : header_words e ≤ length image
  pub some_edition : 1 ≤ e
  pub known : e ≤ newest_edition
  pub total : word_at image 1 ≡ length image

module _ (image : List ℕ) (e : ℕ) where
  pub too_short : length image < header_words e → some (bad_word (length image)) ≡ edition_fault image e
  unfolding edition_fault expect ◌▷◌
  too_short short = simp (lt-leb _ _ short)

  below_editions : header_words e ≤ length image → e < 1 → some (bad_word 0) ≡ edition_fault image e
  unfolding edition_fault expect ◌▷◌
  below_editions long below = simp (le-leb _ _ long, lt-leb _ _ below)

  above_editions : header_words e ≤ length image → 1 ≤ e → newest_edition < e → some (bad_word 0) ≡ edition_fault image e
  unfolding edition_fault expect ◌▷◌
  above_editions long least above = simp (le-leb _ _ long, le-leb _ _ least, lt-leb _ _ above)

  pub no_edition : header_words e ≤ length image → (e < 1) ⊎ ((1 ≤ e) × (newest_edition < e)) → some (bad_word 0) ≡ edition_fault image e
  no_edition long off = ⊎_elim (below_editions long) (λ above. above_editions long above.0 above.1) off

  pub total_off : header_words e ≤ length image → 1 ≤ e → e ≤ newest_edition → (word_at image 1 ≡ length image → ⊥) → some (bad_word 1) ≡ edition_fault image e
  unfolding edition_fault expect ◌▷◌
  total_off long least known off = simp (le-leb _ _ long, le-leb _ _ least, le-leb _ _ known, ne_eqb _ _ off)

  -- then the tables decide, and after them the last end
  begun : Begun image e → edition_fault image e ≡ (first_fault (table_fault image e) (table_count e) ▷ expect (eqb (start_of image e (table_count e)) (length image)) (bad_word (header_words e)))
  unfolding edition_fault expect ◌▷◌
  begun b = simp (le-leb _ _ b.long, le-leb _ _ b.some_edition, le-leb _ _ b.known, eq-eqb _ _ b.total)

  pub table_wrong : Begun image e → {bad : Refusal} → some bad ≡ first_fault (table_fault image e) (table_count e) → some bad ≡ edition_fault image e
  unfolding expect ◌▷◌
  table_wrong b this = rw (begun b, ← this)

  pub end_off : Begun image e → none ≡ first_fault (table_fault image e) (table_count e) → (start_of image e (table_count e) ≡ length image → ⊥) → {words : ℕ} → words ≡ header_words e → some (bad_word words) ≡ edition_fault image e
  unfolding expect ◌▷◌
  end_off b good off words = rw (begun b, ← good, ne_eqb _ _ off, words)

  pub all_right : Begun image e → none ≡ first_fault (table_fault image e) (table_count e) → start_of image e (table_count e) ≡ length image → none ≡ edition_fault image e
  unfolding expect ◌▷◌
  all_right b good right = rw (begun b, ← good, eq-eqb _ _ right)
