-- Kinds 5 to 9 as executable definitions: whether a fragment or an operation breaks a rule, the lowest that does, and the kinds in their
-- order (the table of kinds in README). What they mean is in specs/Meaning.
-- Assumes nothing.
use Rattle.std.specs.Prelude.{ℕ, ◌*◌, min, Bool, not, List, eqb, leb, ltb, length, get_or, replicate, Result, Ok, Err}
use Rattle.std.proofs.Math.Option.{Option, none, some}
use Rattle.lists.specs.Every.{position}
use Rattle.lists.specs.First.{expect, ◌▷◌}
use Rattle.lists.specs.Part.{write}
use Rattle.tables.specs.Layout.{operations, fragments, sets}
use Rattle.tables.specs.Image.{count_at}
use Rattle.tables.specs.Columns.{fragment_set}
use Rattle.tables.specs.declared.Range.{Range}
use Rattle.reach.specs.Reach.{reached_from, led}
use Rattle.fragment.specs.declared.rules.FragmentError.{FragmentError}
use Rattle.fragment.specs.declared.rules.FragmentError.TheVariants.{Cycle, LongChain, ManyLinks, DeepNesting, Unused}
use Rattle.fragment.specs.Heights.{most_chain, most_links, most_nested, spreads_from, links_from, nested_from}

-- what a reply shows: its kind, its operation and its number a
pub record Refusal : Type 0 where
  pub kind : ℕ
  pub operation : ℕ
  pub a : ℕ

abbrev pub refusal : (kind operation a : ℕ) → Refusal
refusal kind operation a = record { kind = kind; operation = operation; a = a }

-- the answer of the rules, by its number
abbrev pub error_shows : FragmentError → Refusal
error_shows (Cycle f) = refusal 5 0 f
error_shows (LongChain f) = refusal 6 0 f
error_shows (ManyLinks i) = refusal 7 i 0
error_shows (DeepNesting i) = refusal 8 i 0
error_shows (Unused f) = refusal 9 0 f

abbrev pub fragments_show : Result (Unit {0}) FragmentError → Option Refusal
fragments_show (Ok _) = none
fragments_show (Err e) = some (error_shows e)

-- the lowest of n rows that fails
unfoldable pub lowest : ℕ → (ℕ → Bool) → (ℕ → Refusal) → Option Refusal
lowest n fails shows = expect (leb n (position n fails)) (shows (position n fails))

module _ (image : List ℕ) where
  -- the sets to start from: a fragment's, or those of all operations
  abbrev pub own_set : ℕ → Range
  own_set f = record { first = fragment_set image f; count = 1 }

  abbrev pub operation_sets : Range
  operation_sets = record { first = 0; count = count_at image operations }

  -- fragment f is spread in a set that these sets reach
  unfoldable pub is_spread_from : Range → ℕ → Bool
  is_spread_from range f = eqb (get_or (reached_from image range).marks (fragment_set image f) 0) led

  -- 5: a fragment reaches itself by spreads
  unfoldable pub reaches_itself : ℕ → Bool
  reaches_itself f = is_spread_from (own_set f) f

  -- 6: a chain of over 100 fragments, itself counted: each spread leads to one more
  unfoldable pub starts_long_chain : ℕ → Bool
  starts_long_chain f = leb most_chain (spreads_from image (fragment_set image f))

  -- 7: over 500 links from an operation's set
  unfoldable pub has_many_links : ℕ → Bool
  has_many_links i = ltb most_links (links_from image i)

  -- 8: over 128 non-empty field sets nested below the top set
  unfoldable pub nests_deep : ℕ → Bool
  nests_deep i = ltb most_nested (nested_from image i)

  -- 9: a fragment that no operation reaches
  unfoldable pub is_unused : ℕ → Bool
  is_unused f = not (is_spread_from operation_sets f)

  unfoldable pub cycle_fault : Option Refusal
  cycle_fault = lowest (count_at image fragments) reaches_itself (refusal 5 0)

  unfoldable pub chain_fault : Option Refusal
  chain_fault = lowest (count_at image fragments) starts_long_chain (refusal 6 0)

  unfoldable pub links_fault : Option Refusal
  links_fault = lowest (count_at image operations) has_many_links (λ i. refusal 7 i 0)

  unfoldable pub nesting_fault : Option Refusal
  nesting_fault = lowest (count_at image operations) nests_deep (λ i. refusal 8 i 0)

  unfoldable pub unused_fault : Option Refusal
  unused_fault = lowest (count_at image fragments) is_unused (refusal 9 0)

  -- in this order
  unfoldable pub fragments_fault : Option Refusal
  fragments_fault = (cycle_fault ▷ chain_fault) ▷ (links_fault ▷ nesting_fault) ▷ unused_fault

  -- the lent words: three for each set, and two more for the walk over reached sets
  abbrev pub fragments_words : ℕ
  fragments_words = 5 * count_at image sets

-- the first n words 0, the rest as before
unfoldable pub cleared : List ℕ → ℕ → List ℕ
cleared s n = write s 0 (replicate (min n (length s)) 0)
