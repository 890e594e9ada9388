-- How rows are numbered by other rows: where a set's selections begin and end, which set a selection stands in, which number
-- the next set has that a selection owns, which value rows the next list or object claims, and at which level a value stands;
-- and the limits on these. What is good of them is said in Good.
-- Assumes nothing.
use Rattle.std.specs.Prelude.{ℕ, zero, suc, ◌+◌, Bool, cond, not, ◌&&◌, ◌||◌, List, eqb, leb, ltb}
use Rattle.lists.specs.Every.{position, total}
use Rattle.tables.specs.declared.columns.Selection.{Selection}
use Rattle.tables.specs.Layout.{NONE, operations, fragments, sets, arguments}
use Rattle.tables.specs.Image.{count_at, is_row}
use Rattle.tables.specs.Columns.{field, inline, list, set_selections, selection_at, value_kind, value_members}

abbrev pub most_arguments : ℕ
most_arguments = 64

abbrev pub most_members : ℕ
most_members = 256

abbrev pub deepest_level : ℕ
deepest_level = 64

-- an inline owns a set; a field owns one or NONE
unfoldable pub owns_set : Selection → Bool
owns_set row = eqb row.kind inline || (eqb row.kind field && not (eqb row.target NONE))

module _ (image : List ℕ) where
  -- the sets' ranges follow one another from selection 0
  unfoldable pub set_end : ℕ → ℕ
  set_end s = (set_selections image s).first + (set_selections image s).count

  unfoldable pub set_start : ℕ → ℕ
  set_start zero = 0
  set_start (suc s) = set_end s

  -- the set that a row stands in; the number of sets where it stands in none
  abbrev pub stands_in : (r s : ℕ) → Bool
  stands_in r s = leb (set_selections image s).first r && ltb r (set_end s)

  unfoldable pub home_set : ℕ → ℕ
  home_set r = position (count_at image sets) (stands_in r)

  -- selections owning a set take the following numbers in row order: what the next one takes, the rows before r having theirs
  abbrev pub owned : ℕ → ℕ
  owned r = cond (owns_set (selection_at image r)) 1 0

  unfoldable pub next_set : ℕ → ℕ
  next_set r = total (count_at image operations + count_at image fragments) owned r

  -- lists and objects are the values with members
  unfoldable pub is_holder : ℕ → Bool
  is_holder v = leb list (value_kind image v)

  -- Lists and objects, in row order, claim the next unclaimed rows, beginning after the arguments: the next, once those before
  -- row v have theirs.
  abbrev pub claimed : ℕ → ℕ
  claimed v = cond (is_holder v) (value_members image v).count 0

  unfoldable pub next_value : ℕ → ℕ
  next_value v = total (count_at image arguments) claimed v

  -- the list or object before row v that has it for a member; v where none has
  abbrev pub holds : (v u : ℕ) → Bool
  holds v u = is_holder u && leb (value_members image u).first v && ltb v ((value_members image u).first + (value_members image u).count)

  unfoldable pub holder_of : ℕ → ℕ
  holder_of v = position v (holds v)

  -- Arguments are level 1, members one more; a row that nobody claimed has level 0. Holders are earlier rows, so one step more
  -- than the row's number suffices.
  unfoldable pub level_in : (steps v : ℕ) → ℕ
  level_in zero v = 0
  level_in (suc steps) v =
      let above = level_in steps (holder_of v) in
      cond (is_row image arguments v) 1 (cond (ltb (holder_of v) v) (suc above) 0)

  unfoldable pub level : ℕ → ℕ
  level v = level_in (suc v) v
