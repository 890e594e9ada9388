-- What `lowest` says, and a search of the rows. Assumes nothing.
use Prim.Native.Nat.{ℕ, zero-le, ◌<◌, ◌≤◌}
use mathlib.Core.Path.{◌≡◌, refl, sym, ap}
use mathlib.Core.Bool.{Bool, true, false}
use mathlib.Core.List.{List}
use mathlib.Core.Option as math
use native.Mathlib.Omega.{arith}
use native.Mathlib.Nat.{le_refl, lt_of_lt_of_le}
use borrow.Author.Tests.{le-leb, lt-leb, leb-true, leb-false}
use Rattle.std.specs.Prelude.{Option, Some, None, MatchOption}
use Rattle.std.proofs.lemmas.Option.{MatchOption-at_some, MatchOption-at_none}
use Rattle.lists.specs.Every.{position}
use Rattle.lists.specs.First.{expect, ◌▷◌}
use Rattle.lists.proofs.EveryLaws.{position_found, position_none, before_position}
use Rattle.lists.proofs.FirstLaws.{passed}
use lib.Dec.{leb, ltb}
use Rattle.tables.specs.Layout.{operations, fragments}
use Rattle.tables.specs.Image.{count_at}
use Rattle.tables.specs.Columns.{fragment_set}
use Rattle.fragment.specs.Heights.{most_chain, most_links, most_nested}
use Rattle.fragment.specs.Rounds.{height_at, ShortChains}
use Rattle.fragment.specs.Rules.{Refusal, refusal, lowest, reaches_itself, starts_long_chain, has_many_links, nests_deep, is_unused, cycle_fault, chain_fault, links_fault, nesting_fault, unused_fault, fragments_fault}
use Rattle.fragment.specs.Walks.{Ready}
use Rattle.fragment.proofs.Links.{fragment_set_in}

-- ---- the lowest that fails

module _ (n : ℕ) (fails : ℕ → Bool) (shows : ℕ → Refusal) where
  pub none_fails : ((k : ℕ) → k < n → fails k ≡ false) → lowest n fails shows ≡ math.none
  unfolding lowest expect
  none_fails all = rw (le-leb n (position n fails) (rw (position_none n fails all) (le_refl n)))

  pub lowest_fails : {p : ℕ} → p ≡ position n fails → p < n → lowest n fails shows ≡ math.some (shows p)
  unfolding lowest expect
  lowest_fails e l = rw (← e, lt-leb _ _ l)

  -- a row that fails, below which none does
  pub fails_at : (i : ℕ) → i < n → ((k : ℕ) → k < i → fails k ≡ false) → fails i ≡ true → lowest n fails shows ≡ math.some (shows i)
  fails_at i l below here = lowest_fails (sym (position_found n fails i l below here)) l

  pub none_failed : lowest n fails shows ≡ math.none → (k : ℕ) → k < n → fails k ≡ false
  unfolding lowest
  none_failed e k l = before_position n fails k (lt_of_lt_of_le l (leb-true _ _ (passed _ _ e)))

-- ---- what a search of the rows found

-- the first of m rows that fails, or none: what `find` says where each of n rows is known to fail or not
abbrev pub Search : (m n : ℕ) → (ℕ → Bool) → Option ℕ → Type 0
Search m n fails r =
    MatchOption r ((k : ℕ) → 0 ≤ k → k < m → k < n → fails k ≡ false)
    (λ i. (0 ≤ i) × (i < m) × (i < n → fails i ≡ true) × ((k : ℕ) → 0 ≤ k → k < i → k < n → fails k ≡ false))

module _ (n : ℕ) (fails : ℕ → Bool) (shows : ℕ → Refusal) (m : ℕ) (all : m ≡ n) (r : Option ℕ) (search : Search m n fails r) where
  pub found_lowest : (i : ℕ) → r ≡ Some i → lowest n fails shows ≡ math.some (shows i)
  found_lowest i e =
      let (from, l, here, below) = MatchOption-at_some _ _ i e search in
      fails_at n fails shows i (omega arith) (λ k h. below k zero-le h (omega arith)) (here (omega arith))

  pub found_none : r ≡ None → lowest n fails shows ≡ math.none
  found_none e = none_fails n fails shows (λ k h. MatchOption-at_none _ _ e search k zero-le (omega arith) h)

-- ---- kind 5

pub none_cyclic : (image : List ℕ) → ((f : ℕ) → f < count_at image fragments → reaches_itself image f ≡ false) → math.none ≡ cycle_fault image
unfolding cycle_fault
none_cyclic image each = sym (none_fails _ _ _ each)

-- the same, of the place where a search for the first such fragment ended
pub a_cycle : (image : List ℕ) {n cyclic : ℕ} (all : n ≡ count_at image fragments) (lowest-cyclic : cyclic ≡ position (count_at image fragments) (reaches_itself image))
    → cyclic < n → math.some (refusal 5 0 cyclic) ≡ fragments_fault image
unfolding fragments_fault cycle_fault ◌▷◌
a_cycle image all lowest-cyclic l = rw (lowest_fails _ _ (refusal 5 0) lowest-cyclic (omega arith))

pub one_cyclic : (image : List ℕ) (f : ℕ) → f < count_at image fragments → ((k : ℕ) → k < f → reaches_itself image k ≡ false) → reaches_itself image f ≡ true → math.some (refusal 5 0 f) ≡ cycle_fault image
unfolding cycle_fault
one_cyclic image f l below here = sym (fails_at _ _ (refusal 5 0) f l below here)

-- ---- kind 6

pub long_same : {image s : List ℕ} → Ready image s → (f : ℕ) → f < count_at image fragments → starts_long_chain image f ≡ leb most_chain (height_at s (fragment_set image f)).chain
unfolding starts_long_chain
long_same {image} ready f l = ap (leb most_chain) (sym (ready.heights (fragment_set image f) (fragment_set_in ready.good f l)).chain)

module _ (image : List ℕ) {m : ℕ} (all : m ≡ count_at image fragments) {r : Option ℕ} (search : Search m (count_at image fragments) (starts_long_chain image) r) where
  pub a_chain : (f : ℕ) → r ≡ Some f → math.some (refusal 6 0 f) ≡ chain_fault image
  unfolding chain_fault
  a_chain f e = sym (found_lowest _ _ (refusal 6 0) _ all r search f e)

  pub no_chain : r ≡ None → math.none ≡ chain_fault image
  unfolding chain_fault
  no_chain e = sym (found_none _ _ (refusal 6 0) _ all r search e)

-- ---- kinds 7 and 8

pub no_fault_short : (image : List ℕ) → chain_fault image ≡ math.none → ShortChains image
unfolding chain_fault starts_long_chain
no_fault_short image fine f l = leb-false _ _ (none_failed _ _ _ fine f l)

module _ {image s : List ℕ} (ready : Ready image s) (fine : chain_fault image ≡ math.none) where
  pub links_same : (i : ℕ) → i < count_at image operations → has_many_links image i ≡ ltb most_links (height_at s i).links
  unfolding has_many_links
  links_same i l = ap (ltb most_links) (sym ((ready.heights i (ready.good.operation i l).set).links (no_fault_short image fine)))

  pub nesting_same : (i : ℕ) → i < count_at image operations → nests_deep image i ≡ ltb most_nested (height_at s i).nested
  unfolding nests_deep
  nesting_same i l = ap (ltb most_nested) (sym ((ready.heights i (ready.good.operation i l).set).nested (no_fault_short image fine)))

module _ (image : List ℕ) {m : ℕ} (all : m ≡ count_at image operations) {linked : Option ℕ} (links : Search m (count_at image operations) (has_many_links image) linked) where
  pub many_links : (i : ℕ) → linked ≡ Some i → math.some (refusal 7 i 0) ≡ (links_fault image ▷ nesting_fault image)
  unfolding links_fault ◌▷◌
  many_links i e = rw (found_lowest _ _ (λ i. refusal 7 i 0) _ all linked links i e)

  few_links : linked ≡ None → links_fault image ≡ math.none
  unfolding links_fault
  few_links e = found_none _ _ (λ i. refusal 7 i 0) _ all linked links e

  module _ (few : linked ≡ None) {nested : Option ℕ} (nesting : Search m (count_at image operations) (nests_deep image) nested) where
    pub deep_nesting : (i : ℕ) → nested ≡ Some i → math.some (refusal 8 i 0) ≡ (links_fault image ▷ nesting_fault image)
    unfolding nesting_fault ◌▷◌
    deep_nesting i e = rw (few_links few, found_lowest _ _ (λ i. refusal 8 i 0) _ all nested nesting i e)

    pub all_low : nested ≡ None → math.none ≡ (links_fault image ▷ nesting_fault image)
    unfolding nesting_fault ◌▷◌
    all_low e = rw (few_links few, found_none _ _ (λ i. refusal 8 i 0) _ all nested nesting e)

-- ---- kind 9

module _ (image : List ℕ) {m : ℕ} (all : m ≡ count_at image fragments) {r : Option ℕ} (search : Search m (count_at image fragments) (is_unused image) r) where
  pub one_unused : (f : ℕ) → r ≡ Some f → math.some (refusal 9 0 f) ≡ unused_fault image
  unfolding unused_fault
  one_unused f e = sym (found_lowest _ _ (refusal 9 0) _ all r search f e)

  pub none_unused : r ≡ None → math.none ≡ unused_fault image
  unfolding unused_fault
  none_unused e = sym (found_none _ _ (refusal 9 0) _ all r search e)

-- ---- all kinds, each where those before it are absent

pub cycle_first : (image : List ℕ) {shown : Refusal} → math.some shown ≡ cycle_fault image → math.some shown ≡ fragments_fault image
unfolding fragments_fault ◌▷◌
cycle_first image e = rw (← e)

first_of_three : (a b c : math.Option Refusal) → (a ▷ b ▷ c) ≡ ((a ▷ b) ▷ c)
unfolding ◌▷◌
first_of_three math.none b c = refl
first_of_three (math.some x) b c = refl

module _ (image : List ℕ) (acyclic : cycle_fault image ≡ math.none) where
  -- without a cycle the fault is that of the kinds after 5
  limits_first : fragments_fault image ≡ ((chain_fault image ▷ (links_fault image ▷ nesting_fault image)) ▷ unused_fault image)
  unfolding fragments_fault ◌▷◌
  limits_first = rw acyclic (first_of_three (chain_fault image) (links_fault image ▷ nesting_fault image) (unused_fault image))

  pub long_chain : {shown : Refusal} → math.some shown ≡ chain_fault image → math.some shown ≡ fragments_fault image
  unfolding ◌▷◌
  long_chain e = rw (limits_first, ← e)

  module _ (fine : math.none ≡ chain_fault image) where
    pub past_limits : {shown : Refusal} → math.some shown ≡ (links_fault image ▷ nesting_fault image) → math.some shown ≡ fragments_fault image
    unfolding ◌▷◌
    past_limits e = rw (limits_first, ← fine, ← e)

    pub used_or_not : {shown : math.Option Refusal} → math.none ≡ (links_fault image ▷ nesting_fault image) → shown ≡ unused_fault image → shown ≡ fragments_fault image
    unfolding ◌▷◌
    used_or_not low e = rw (limits_first, ← fine, ← low) e
