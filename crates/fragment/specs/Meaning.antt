-- What kinds 5 to 9 stand for, as relations over the rows of an image, without fuel: the rules of the GraphQL specification, October
-- 2021, with their numbers and words, and the limits.
-- Assumes nothing.
use Rattle.std.specs.Prelude.{ℕ, suc, ◌<◌, ◌≤◌, ◌≡◌, Bool, List}
use Rattle.std.proofs.Math.Option.{Option, none, some}
use Rattle.tables.specs.Layout.{operations, fragments, sets}
use Rattle.tables.specs.Image.{count_at}
use Rattle.tables.specs.Columns.{spread, selection_kind, selection_target, fragment_set}
use Rattle.tables.specs.Good.{StandsIn}
use Rattle.reach.specs.Reach.{SpreadsIn, SpreadFrom}
use Rattle.fragment.specs.Chains.{is_spread, is_link, nests, Link, AtLeast}
use Rattle.fragment.specs.Heights.{most_chain, most_links, most_nested}
use Rattle.fragment.specs.Rules.{Refusal, refusal, operation_sets}

-- ---- 5.5.2.2 Fragment Spreads Must Not Form Cycles

-- "at any depth of fields and inline fragments": set t is s, or is owned by a selection of a set inside s
pub data Inside (image : List ℕ) (s : ℕ) : ℕ → Type 0 where
  at_top : Inside image s s
  deeper : {t r u : ℕ} → Inside image s t → StandsIn image r t → (selection_kind image r ≡ spread → ⊥) → selection_target image r ≡ u → u < count_at image sets → Inside image s u

-- fragment f spreads g
pub record Spreads (image : List ℕ) (f g : ℕ) : Type 0 where
  pub via : ℕ
  pub inside : Inside image (fragment_set image f) via
  pub spreads : SpreadsIn image via g

-- "by following spreads": f spreads h, or what f leads to does
pub data Follows (image : List ℕ) (f : ℕ) : ℕ → Type 0 where
  one : {h : ℕ} → Spreads image f h → Follows image f h
  more : {g h : ℕ} → Follows image f g → Spreads image g h → Follows image f h

-- "No fragment reaches itself by following spreads, itself included."
abbrev pub NoCycles : List ℕ → Type 0
NoCycles image = (f : ℕ) → f < count_at image fragments → Follows image f f → ⊥

-- ---- 5.5.1.4 Fragments Must Be Used

-- a spread of f stands in the document
pub record SpreadSomewhere (image : List ℕ) (f : ℕ) : Type 0 where
  pub set : ℕ
  pub spreads : SpreadsIn image set f

-- "Each fragment defined is the target of at least one spread in the document."
abbrev pub AllSpread : List ℕ → Type 0
AllSpread image = (f : ℕ) → f < count_at image fragments → SpreadSomewhere image f

-- kind 9 goes by reach: a spread of f stands in a set that an operation reaches
abbrev pub Reached : List ℕ → ℕ → Type 0
Reached image f = SpreadFrom image (operation_sets image) f

abbrev pub AllReached : List ℕ → Type 0
AllReached image = (f : ℕ) → f < count_at image fragments → Reached image f

-- ---- the limits

-- 6: a chain of over 100 fragments, itself counted: 100 spreads lead from it to 100 more
abbrev pub LongChain : List ℕ → ℕ → Type 0
LongChain image f = AtLeast image (is_spread image) most_chain (fragment_set image f)

-- 7: over 500 links from an operation's set
abbrev pub ManyLinks : List ℕ → ℕ → Type 0
ManyLinks image i = AtLeast image is_link (suc most_links) i

-- 8: over 128 non-empty field sets nested below the top set
abbrev pub DeepNesting : List ℕ → ℕ → Type 0
DeepNesting image i = AtLeast image (nests image) (suc most_nested) i

-- n is how many selections count at most in a chain from set s, cut off one past the limit
pub record Longest (image : List ℕ) (counts : ℕ → Bool) (limit n s : ℕ) : Type 0 where
  pub cut : n ≤ suc limit
  pub reached : AtLeast image counts n s
  pub passed_by_none : (m : ℕ) → m ≤ suc limit → AtLeast image counts m s → m ≤ n

-- ---- what a kind says

-- the lowest of n rows that fails
pub record Lowest (n : ℕ) (Fails : ℕ → Type 0) (p : ℕ) : Type 0 where
  pub known : p < n
  pub fails : Fails p
  pub none_below : (k : ℕ) → k < p → Fails k → ⊥

-- a fault is given exactly if a row fails, and shows the lowest
pub data Decides (n : ℕ) (Fails : ℕ → Type 0) (shows : ℕ → Refusal) : Option Refusal → Type 0 where
  holds : ((k : ℕ) → k < n → Fails k → ⊥) → Decides n Fails shows none
  broken : {p : ℕ} → Lowest n Fails p → Decides n Fails shows (some (shows p))

-- ---- kinds 5 to 9 in their order: each given exactly if those before it are absent and a row fails, and it shows the lowest

abbrev pub Absent : ℕ → (ℕ → Type 0) → Type 0
Absent n Fails = (k : ℕ) → k < n → Fails k → ⊥

abbrev pub Cyclic : List ℕ → ℕ → Type 0
Cyclic image f = Follows image f f

abbrev pub Unreached : List ℕ → ℕ → Type 0
Unreached image f = Reached image f → ⊥

-- kinds 5 and 6 are absent
pub record Flat (image : List ℕ) : Type 0 where
  pub no_cycles : Absent (count_at image fragments) (Cyclic image)
  pub no_chains : Absent (count_at image fragments) (LongChain image)

-- and 7 and 8
pub record Shallow (image : List ℕ) : Type 0 where
  pub flat : Flat image
  pub few_links : Absent (count_at image operations) (ManyLinks image)
  pub low_nesting : Absent (count_at image operations) (DeepNesting image)

pub data Finds (image : List ℕ) : Option Refusal → Type 0 where
  cycle : {f : ℕ} → Lowest (count_at image fragments) (Cyclic image) f → Finds image (some (refusal 5 0 f))
  chain : {f : ℕ} → Absent (count_at image fragments) (Cyclic image) → Lowest (count_at image fragments) (LongChain image) f → Finds image (some (refusal 6 0 f))
  links : {i : ℕ} → Flat image → Lowest (count_at image operations) (ManyLinks image) i → Finds image (some (refusal 7 i 0))
  nesting : {i : ℕ} → Flat image → Absent (count_at image operations) (ManyLinks image) → Lowest (count_at image operations) (DeepNesting image) i → Finds image (some (refusal 8 i 0))
  unused : {f : ℕ} → Shallow image → Lowest (count_at image fragments) (Unreached image) f → Finds image (some (refusal 9 0 f))
  nothing : Shallow image → Absent (count_at image fragments) (Unreached image) → Finds image none

-- The sets at hand lead to no others, and have a rank that falls along every link and stays below a limit: what the merge rules need.
pub record Ranked (image : List ℕ) (At : ℕ → Type 0) (rank : ℕ → ℕ) (limit : ℕ) : Type 0 where
  pub closed : {s r t : ℕ} → At s → Link image s r t → At t
  pub falls : {s r t : ℕ} → At s → Link image s r t → rank t < rank s
  pub bounded : {s : ℕ} → At s → rank s < limit
