-- Chains of links: the ways down from a set, selection by selection, and what is counted along them (kinds 6 to 8).
-- Relations over the rows of an image, without fuel. Assumes nothing.
use Rattle.std.specs.Prelude.{ℕ, ◌+◌, ◌≤◌, ◌≡◌, Bool, true, cond, not, ◌&&◌, List, [], ◌∷◌, eqb, Option, Some, None, false}
use Rattle.tables.specs.Layout.{NONE}
use Rattle.tables.specs.Columns.{field, spread, selection_kind, selection_at, set_below, is_empty_set}
use Rattle.tables.specs.Good.{StandsIn}

-- the set that a selection leads to: its own, its fragment's, or NONE
abbrev pub below : List ℕ → ℕ → ℕ
below image r = set_below image (selection_at image r)

-- a selection of set s leads to set t
pub record Link (image : List ℕ) (s r t : ℕ) : Type 0 where
  pub stands : StandsIn image r s
  pub leads : below image r ≡ t
  pub some : t ≡ NONE → ⊥

-- selections, the first in the set, each next in the set that the one before leads to; the last may be a leaf
pub data Chain (image : List ℕ) : ℕ → List ℕ → Type 0 where
  end : {s : ℕ} → Chain image s []
  last : {s r : ℕ} → StandsIn image r s → Chain image s (r ∷ [])
  link : {s r t : ℕ} {rows : List ℕ} → Link image s r t → Chain image t rows → Chain image s (r ∷ rows)

abbrev pub one_if : Bool → ℕ
one_if b = cond b 1 0

-- how many selections of a chain count
unfoldable pub weigh : (ℕ → Bool) → List ℕ → ℕ
weigh counts [] = 0
weigh counts (r ∷ rows) = one_if (counts r) + weigh counts rows

-- kind 6 counts spreads: each leads to one fragment more
unfoldable pub is_spread : List ℕ → ℕ → Bool
is_spread image r = eqb (selection_kind image r) spread

-- kind 7: each field, spread and inline is one link
abbrev pub is_link : ℕ → Bool
is_link r = true

-- kind 8 counts fields with a non-empty set
unfoldable pub is_nesting : List ℕ → (kind t : ℕ) → Bool
is_nesting image kind t = eqb kind field && not (eqb t NONE) && not (is_empty_set image t)

-- the same, where the set is there or not
abbrev pub nests_in : List ℕ → (kind : ℕ) → Option ℕ → Bool
nests_in image kind (Some t) = eqb kind field && not (is_empty_set image t)
nests_in image kind None = false

abbrev pub nests : List ℕ → ℕ → Bool
nests image r = is_nesting image (selection_kind image r) (below image r)

-- from set s starts a chain in which at least n selections count
pub record AtLeast (image : List ℕ) (counts : ℕ → Bool) (n s : ℕ) : Type 0 where
  pub rows : List ℕ
  pub chain : Chain image s rows
  pub weighs : n ≤ weigh counts rows

-- n is at most the number that counts in the longest chain from set s, and is cut off one past the limit
pub record Sound (image : List ℕ) (counts : ℕ → Bool) (limit n s : ℕ) : Type 0 where
  pub cut : n ≤ limit + 1
  pub reached : AtLeast image counts n s
