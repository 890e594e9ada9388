-- The lent words behind the heights: what may change there, and what an order of the sets or a walk over reached sets leaves.
-- Assumes nothing.
use Rattle.std.specs.Prelude.{ℕ, ◌*◌, ◌<◌, ◌≤◌, ◌≡◌, false, List, length, Result}
use Rattle.std.proofs.Math.Option as math
use Rattle.lists.specs.Part.{Stores, Outside}
use Rattle.tables.specs.Layout.{fragments, sets}
use Rattle.tables.specs.Image.{count_at}
use Rattle.tables.specs.Good.{Good}
use Rattle.tables.specs.declared.Range.{Range}
use Rattle.reach.specs.Reach.{reached_from}
use Rattle.fragment.specs.declared.rules.FragmentError.{FragmentError}
use Rattle.fragment.specs.Rounds.{Measured}
use Rattle.fragment.specs.Rules.{Refusal, fragments_words, fragments_show, reaches_itself}

-- where the words of the walk begin
abbrev pub behind : List ℕ → ℕ
behind image = 3 * count_at image sets

-- only the words of the walk have changed: the heights are as before
abbrev pub HeightsKept : (image s s' : List ℕ) → Type 0
HeightsKept image s s' = Outside (behind image) (2 * count_at image sets) s s'

-- the marks of the sets that a range reaches stand there
abbrev pub Marked : (image : List ℕ) → Range → List ℕ → Type 0
Marked image range s = Stores s (behind image) (count_at image sets) (reached_from image range).marks

-- no word past the needed ones has changed, and of a good image with words enough an answer shows this fault, or that there is none
abbrev pub Validates : (image : List ℕ) → math.Option Refusal → (s s' : List ℕ) → Result (Unit {0}) FragmentError → Type 0
Validates image fault s s' answer = Outside 0 (fragments_words image) s s' × (Good image → fragments_words image ≤ length s → fragments_show answer ≡ fault)

-- the image is good, there are words enough, and the first hold the heights of all sets
pub record Ready (image s : List ℕ) : Type 0 where
  pub good : Good image
  pub room : fragments_words image ≤ length s
  pub heights : (t : ℕ) → t < count_at image sets → Measured image s t

-- the sets were measured in an order in which none leads to a later one: so the words hold their heights, and no fragment reaches itself
pub record InOrder (image s : List ℕ) : Type 0 where
  pub heights : (t : ℕ) → t < count_at image sets → Measured image s t
  pub no_cycle : (f : ℕ) → f < count_at image fragments → reaches_itself image f ≡ false
