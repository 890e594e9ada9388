-- How far links rise in an order of the sets, whose places stand in lent words, behind a word for each set.
-- Assumes nothing.
use Rattle.std.specs.Prelude.{ℕ, zero, suc, ◌+◌, ◌<◌, ◌≤◌, max, ◌⊎◌, cond, ◌||◌, List, eqb, ltb, get_or}
use Rattle.tables.specs.Layout.{NONE, sets}
use Rattle.tables.specs.Image.{count_at, row_in}
use Rattle.tables.specs.Columns.{set_selections}
use Rattle.fragment.specs.Chains.{below, Link}

module _ (image s : List ℕ) where
  unfoldable pub place_at : ℕ → ℕ
  place_at t = get_or s (count_at image sets + t) 0

  -- the place that a selection leads to from one of its own, where that is no lower one; else 0
  unfoldable pub rise_of : (place r : ℕ) → ℕ
  rise_of place r = cond (eqb (below image r) NONE || ltb (place_at (below image r)) place) 0 (place_at (below image r))

  -- the greatest of the first n selections of a set
  unfoldable pub rise_in : (t n : ℕ) → ℕ
  rise_in t zero = 0
  rise_in t (suc n) = max (rise_in t n) (rise_of (place_at t) (row_in (set_selections image t) n))

  -- and of the first n sets
  unfoldable pub highest_rise : ℕ → ℕ
  highest_rise zero = 0
  highest_rise (suc n) = max (highest_rise n) (rise_in n (set_selections image n).count)

-- each link leads to a lower place, or to none past this one
abbrev pub RisesTo : List ℕ → (place : ℕ → ℕ) (rise : ℕ) → Type 0
RisesTo image place rise = (t r u : ℕ) → Link image t r u → (place u < place t) ⊎ (place u ≤ rise)
