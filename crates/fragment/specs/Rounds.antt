-- The heights in lent words, three for each set, and the rounds that find them: each measures all sets anew, highest first.
-- Assumes nothing.
use Rattle.std.specs.Prelude.{ℕ, zero, suc, ◌+◌, ◌*◌, ◌<◌, ◌≤◌, ◌≡◌, Bool, false, cond, not, ◌&&◌, ◌||◌, List, eqb, get_or, set, Option, Some, None}
use Rattle.tables.specs.Layout.{NONE, fragments, sets}
use Rattle.tables.specs.Image.{count_at}
use Rattle.tables.specs.Columns.{set_selections, is_fragment_set, fragment_set}
use Rattle.fragment.specs.declared.heights.Height.{Height}
use Rattle.fragment.specs.Chains.{is_spread, is_link, nests, Sound}
use Rattle.fragment.specs.Heights.{most_chain, most_links, most_nested, through, highest, spreads_from, links_from, nested_from}

abbrev pub height_at : List ℕ → ℕ → Height
height_at s t = record { chain = get_or s (3 * t) 0; links = get_or s (3 * t + 1) 0; nested = get_or s (3 * t + 2) 0 }

abbrev pub with_height : List ℕ → ℕ → Height → List ℕ
with_height s t h = set (set (set s (3 * t) h.chain) (3 * t + 1) h.links) (3 * t + 2) h.nested

unfoldable pub same_height : Height → Height → Bool
same_height g h = eqb g.chain h.chain && eqb g.links h.links && eqb g.nested h.nested

abbrev pub no_height : Height
no_height = record { chain = 0; links = 0; nested = 0 }

-- the height of a set below; 0 of none
unfoldable pub height_below : (ℕ → Height) → ℕ → Height
height_below h t =
    record { chain = cond (eqb t NONE) 0 (h t).chain; links = cond (eqb t NONE) 0 (h t).links; nested = cond (eqb t NONE) 0 (h t).nested }

-- the same, where the set is there or not
abbrev pub height_of : (ℕ → Height) → Option ℕ → Height
height_of h (Some t) = h t
height_of h None = no_height

module _ (image : List ℕ) (h : ℕ → Height) where
  -- under the three weights at once
  abbrev pub row_height : ℕ → Height
  row_height r = record {
    chain = through image (is_spread image) most_chain (λ t. (h t).chain) r;
    links = through image is_link most_links (λ t. (h t).links) r;
    nested = through image (nests image) most_nested (λ t. (h t).nested) r;
  }

  abbrev pub highest_of : (s n : ℕ) → Height
  highest_of s n = record {
    chain = highest image (is_spread image) most_chain (λ t. (h t).chain) s n;
    links = highest image is_link most_links (λ t. (h t).links) s n;
    nested = highest image (nests image) most_nested (λ t. (h t).nested) s n;
  }

  abbrev pub set_height : ℕ → Height
  set_height s = highest_of s (set_selections image s).count

module _ (image : List ℕ) where
  -- one set measured anew, and whether that changes a fragment's set
  unfoldable pub measured : List ℕ → ℕ → List ℕ
  measured s t = with_height s t (set_height image (height_at s) t)

  unfoldable pub changes : List ℕ → ℕ → Bool
  changes s t = is_fragment_set image t && not (same_height (height_at s t) (set_height image (height_at s) t))

  -- the sets below n measured anew, highest first, and whether that changes a fragment's set
  unfoldable pub sweep : List ℕ → ℕ → List ℕ
  sweep s zero = s
  sweep s (suc n) = sweep (measured s n) n

  unfoldable pub sweep_changes : List ℕ → ℕ → Bool
  sweep_changes s zero = false
  sweep_changes s (suc n) = changes s n || sweep_changes (measured s n) n

-- no fragment starts a chain of over 100 fragments, itself counted
abbrev pub ShortChains : List ℕ → Type 0
ShortChains image = (f : ℕ) → f < count_at image fragments → suc (spreads_from image (fragment_set image f)) ≤ most_chain

-- the words of a set hold its heights
pub record Measured (image s : List ℕ) (t : ℕ) : Type 0 where
  pub chain : (height_at s t).chain ≡ spreads_from image t
  pub links : ShortChains image → (height_at s t).links ≡ links_from image t
  pub nested : ShortChains image → (height_at s t).nested ≡ nested_from image t

-- none of a set's words is past its height: so it is before the first round, and after any measuring
pub record SoundAt (image s : List ℕ) (t : ℕ) : Type 0 where
  pub chain : Sound image (is_spread image) most_chain (height_at s t).chain t
  pub links : Sound image is_link most_links (height_at s t).links t
  pub nested : Sound image (nests image) most_nested (height_at s t).nested t

abbrev pub SoundHeights : (image s : List ℕ) → Type 0
SoundHeights image s = (t : ℕ) → t < count_at image sets → SoundAt image s t
