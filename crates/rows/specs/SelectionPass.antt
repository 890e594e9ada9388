-- The pass over the selections: what its loop over the rows of one set takes for granted, and what it leaves.
-- Assumes nothing.
use Rattle.std.specs.Prelude.{ℕ, ◌+◌, ◌<◌, ◌≤◌, ◌≡◌, true, false, List, Result, Ok, Err}
use Rattle.tables.specs.Layout.{NONE, operations, fragments, selections}
use Rattle.tables.specs.Image.{count_at}
use Rattle.tables.specs.Numbering.{next_set}
use Rattle.rows.specs.Selections.{least_owned, good_selection}
use Rattle.rows.specs.declared.BadImage.{BadImage}
use Rattle.rows.specs.declared.BadImage.TheVariants.{Row}

-- the rows before this one are good, and leave this set number
pub record GoodTo (image : List ℕ) (row next : ℕ) : Type 0 where
  pub good : (r : ℕ) → r < row → good_selection image r ≡ true
  pub leaves : next ≡ next_set image row

-- from here to the end the rows have one least number for the sets that they own, and so few own one that their numbers fit
pub record Passing (image : List ℕ) (row next end least : ℕ) : Type 0 where
  pub so_far : GoodTo image row next
  pub before_end : row ≤ end
  pub one_home : (r : ℕ) → row ≤ r → r < end → least_owned image r ≡ least
  pub few : count_at image operations + count_at image fragments + end ≤ NONE

-- the pass stopped at the first row that is not good, and says which
pub record StoppedAt (image : List ℕ) (end : ℕ) (bad : BadImage) : Type 0 where
  pub row : ℕ
  pub before_end : row < end
  pub good : (r : ℕ) → r < row → good_selection image r ≡ true
  pub stops : good_selection image row ≡ false
  pub shown : bad ≡ Row selections row

-- all rows to the end are good, and leave this set number; or the pass stopped
abbrev pub Passed : (image : List ℕ) (end : ℕ) → Result ℕ BadImage → Type 0
Passed image end (Ok next) = GoodTo image end next
Passed image end (Err bad) = StoppedAt image end bad
