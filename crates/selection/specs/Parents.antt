-- What writing the parents promises: each selection's word is the parent type of its set. Assumes nothing.
use Rattle.std.specs.Prelude.{◌≡◌, List, ℕ, ◌+◌, ◌≤◌, ◌<◌, length, get_or}
use Rattle.lists.specs.Part.{Outside}
use Rattle.tables.specs.Layout.{NONE, selections}
use Rattle.tables.specs.Image.{count_at}
use Rattle.tables.specs.Columns.{set_parent}
use Rattle.tables.specs.Numbering.{home_set}
use Rattle.tables.specs.Good.{Good}

-- n words from `first` on are v, where row numbers fit a word and the words are there; the others are as before
pub record Filled (first n v : ℕ) (s s' : List ℕ) : Type 0 where
  pub long : length s' ≡ length s
  pub frame : first + n ≤ NONE → Outside first n s s'
  pub words : first + n ≤ NONE → first + n ≤ length s → (k : ℕ) → first ≤ k → k < first + n → get_or s' k 0 ≡ v

-- the words of the rows below n are their parents; the others are as before
pub record ParentsBelow (image : List ℕ) (n : ℕ) (s s' : List ℕ) : Type 0 where
  pub words : (r : ℕ) → r < n → get_or s' r 0 ≡ set_parent image (home_set image r)
  pub frame : Outside 0 n s s'

pub record Parents (image s s' : List ℕ) : Type 0 where
  pub long : length s' ≡ length s
  pub written : Good image → count_at image selections ≤ length s → ParentsBelow image (count_at image selections) s s'
