-- Heights: how many selections count at most in a chain from a set, each number cut off one past its limit (kinds 6
-- to 8). `height_in` has fuel: proofs/Exact has the law that `enough` steps suffice.
-- Assumes nothing.
use Rattle.std.specs.Prelude.{ℕ, zero, suc, ◌+◌, ◌*◌, min, max, Bool, cond, List, eqb}
use Rattle.tables.specs.Layout.{NONE, sets}
use Rattle.tables.specs.Image.{count_at, row_in}
use Rattle.tables.specs.Columns.{set_selections}
use Rattle.fragment.specs.Chains.{below, one_if, is_spread, is_link, nests}

-- the limits of kinds 6, 7 and 8
abbrev pub most_chain : ℕ
most_chain = 100

abbrev pub most_links : ℕ
most_links = 500

abbrev pub most_nested : ℕ
most_nested = 128

-- cut off one past the limit
abbrev pub cut_off : (limit n : ℕ) → ℕ
cut_off limit n = min n (limit + 1)

module _ (image : List ℕ) (counts : ℕ → Bool) (limit : ℕ) where
  -- h has the heights of the sets below
  module _ (h : ℕ → ℕ) where
    -- the way down through a selection
    unfoldable pub through : ℕ → ℕ
    through r = cut_off limit (one_if (counts r) + cond (eqb (below image r) NONE) 0 (h (below image r)))

    -- the highest way down through the first n selections of a set
    unfoldable pub highest : ℕ → ℕ → ℕ
    highest s zero = 0
    highest s (suc n) = max (highest s n) (through (row_in (set_selections image s) n))

    abbrev pub height_of : ℕ → ℕ
    height_of s = highest s (set_selections image s).count

  -- of chains with so many links at most
  unfoldable pub height_in : (steps s : ℕ) → ℕ
  height_in zero s = 0
  height_in (suc steps) s = height_of (height_in steps) s

-- between two spreads a chain meets each set once at most; and past the limit's number of spreads nothing matters
abbrev pub enough : List ℕ → ℕ
enough image = (most_chain + 2) * count_at image sets

module _ (image : List ℕ) (s : ℕ) where
  -- spreads, links and nested field sets from set s down
  unfoldable pub spreads_from : ℕ
  spreads_from = height_in image (is_spread image) most_chain (enough image) s

  unfoldable pub links_from : ℕ
  links_from = height_in image is_link most_links (enough image) s

  unfoldable pub nested_from : ℕ
  nested_from = height_in image (nests image) most_nested (enough image) s
