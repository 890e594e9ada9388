-- An order of the sets in the words behind the heights: a place for each set, from 1, then the sets, the first last. And what is asked
-- of a set in its turn: it has that place, and its selections lead to lower places alone.
-- Assumes nothing.
use Rattle.std.specs.Prelude.{ℕ, zero, suc, ◌+◌, ◌*◌, ◌-◌, Bool, true, cond, ◌&&◌, ◌||◌, List, eqb, ltb, get_or}
use Rattle.tables.specs.Layout.{NONE, sets}
use Rattle.tables.specs.Image.{count_at, row_in}
use Rattle.tables.specs.Columns.{set_selections}
use Rattle.fragment.specs.Chains.{below}
use Rattle.fragment.specs.Rounds.{measured}

module _ (image s : List ℕ) where
  -- the place of a set, and the set of a place
  unfoldable pub place_of : ℕ → ℕ
  place_of t = get_or s (3 * count_at image sets + t) 0

  unfoldable pub set_of : ℕ → ℕ
  set_of place = get_or s (5 * count_at image sets - place) 0

  -- a selection leads nowhere, or to a set of a lower place
  unfoldable pub leads_lower : (place r : ℕ) → Bool
  leads_lower place r = eqb (below image r) NONE || ltb (place_of (below image r)) place

  -- and so do the first n selections of a set
  unfoldable pub all_lower : (place t n : ℕ) → Bool
  all_lower place t zero = true
  all_lower place t (suc n) = all_lower place t n && leads_lower place (row_in (set_selections image t) n)

  unfoldable pub is_in_turn : (place t : ℕ) → Bool
  is_in_turn place t = ltb t (count_at image sets) && eqb (place_of t) place && all_lower place t (set_selections image t).count

  -- the sets of the first n places are all in their turns
  unfoldable pub all_in_turn : ℕ → Bool
  all_in_turn zero = true
  all_in_turn (suc n) = all_in_turn n && is_in_turn (suc n) (set_of (suc n))

  -- a set in its turn is measured
  unfoldable pub in_turn : (place t : ℕ) → List ℕ
  in_turn place t = cond (is_in_turn place t) (measured image s t) s
