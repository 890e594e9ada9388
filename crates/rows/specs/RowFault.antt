-- Kind 4: the first row rule that is broken, and what is left unclaimed (the table of kinds in README).
-- Assumes nothing.
use Rattle.std.specs.Prelude.{ℕ, ◌<◌, ◌≡◌, Bool, true, not, List, [], ◌∷◌, leb, length, get_or, Result, Ok, Err}
use Rattle.std.proofs.Math.Option.{Option, none, some}
use Rattle.lists.specs.Every.{position}
use Rattle.lists.specs.First.{expect, ◌▷◌, first_fault}
use Rattle.tables.specs.Layout.{sets, selections, values}
use Rattle.tables.specs.Image.{count_at}
use Rattle.tables.specs.Header.{Refusal, bad_word, header_fault}
use Rattle.rows.specs.Rows.{good_type, good_reference, good_operation, good_fragment, good_set, good_argument, good_variable}
use Rattle.tables.specs.Numbering.{set_start, next_set, next_value}
use Rattle.rows.specs.Selections.{good_selection}
use Rattle.rows.specs.Values.{good_value}
use Rattle.rows.specs.declared.BadImage.{BadImage}
use Rattle.rows.specs.declared.BadImage.TheVariants.{Header, Row}

abbrev pub bad_row : ℕ → ℕ → Refusal
bad_row table row = record { kind = 4; a = table; b = row }

abbrev pub error_shows : BadImage → Refusal
error_shows (Header bad) = bad_word bad.word
error_shows (Row table row) = bad_row table row

-- the answer of the row check, or of a part of it, whatever that gives where all is good
abbrev pub rows_show : {A : Type 0} → Result A BadImage → Option Refusal
rows_show (Ok x) = none
rows_show (Err bad) = some (error_shows bad)

module _ (image : List ℕ) where
  -- a rule for the rows of each table, in the order of the tables
  abbrev pub row_rules : List (ℕ → Bool)
  row_rules =
      good_type image ∷ good_reference image ∷ good_operation image ∷ good_fragment image ∷ good_set image ∷ good_selection image ∷
      good_argument image ∷ good_value image ∷ good_variable image ∷ []

  unfoldable pub row_rule : ℕ → ℕ → Bool
  row_rule t = get_or row_rules t (λ _. true)

  -- the first row of a table that breaks its rule; the number of rows where none does
  unfoldable pub first_bad : ℕ → ℕ
  first_bad t = position (count_at image t) (λ r. not (row_rule t r))

  unfoldable pub broken_row : ℕ → Option Refusal
  broken_row t = expect (leb (count_at image t) (first_bad t)) (bad_row t (first_bad t))

  -- so many rows of a table are claimed: none is left over, or the fault shows the table's count
  unfoldable pub left_over : (t claimed : ℕ) → Option Refusal
  left_over t claimed = expect (leb (count_at image t) claimed) (bad_row t (count_at image t))

  -- so many sets and values are claimed, and the selections up to the end of the last set
  unfoldable pub unclaimed_fault : (claimed-sets claimed-values : ℕ) → Option Refusal
  unclaimed_fault claimed-sets claimed-values =
      left_over sets claimed-sets ▷
      left_over selections (set_start image (count_at image sets)) ▷
      left_over values claimed-values

  -- lowest table, lowest row; when none, sets, selections, then values left unclaimed
  unfoldable pub row_fault : Option Refusal
  row_fault =
      first_fault broken_row (length row_rules) ▷
      unclaimed_fault (next_set image (count_at image selections)) (next_value image (count_at image values))

  -- kinds 1 and 4: the rows are read only where the header is good
  unfoldable pub image_fault : Option Refusal
  image_fault = header_fault image ▷ row_fault

-- the header is good, and so is every row of the tables below n: what the check of table n may take for granted
pub record GoodBelow (image : List ℕ) (n : ℕ) : Type 0 where
  pub header : header_fault image ≡ none
  pub rows : (t : ℕ) → t < n → (r : ℕ) → r < count_at image t → row_rule image t r ≡ true

-- the tables whose rows are judged one by one: all but the selections and the values
pub record IsPlain (t : ℕ) : Type 0 where
  pub known : t < 9
  pub no_selections : t ≡ selections → ⊥
  pub no_values : t ≡ values → ⊥
