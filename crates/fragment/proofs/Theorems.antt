-- The theorems of kinds 5 to 9, on good images: each kind is given exactly if its rule fails, and shows the lowest row; and the rank
-- that the merge rules need. Assumes nothing.
use Prim.Native.Nat.{ℕ, suc, ◌+◌, ◌<◌, ◌≤◌}
use mathlib.Core.Path.{◌≡◌, refl, sym, ◌∙◌}
use mathlib.Core.Bool.{Bool, true, false, not, false≢true}
use mathlib.Core.List.{List}
use mathlib.Core.Option.{Option, none}
use native.Mathlib.Omega.{arith}
use native.Mathlib.Decide.{dec_le}
use borrow.Author.Tests.{le-leb, leb-true, lt-ltb, ltb-true, ltb-false, eq-eqb, eqb-true}
use lib.ListN.{length}
use Rattle.lists.specs.Every.{position}
use Rattle.lists.proofs.EveryLaws.{position_passes, before_position}
use Rattle.lists.specs.First.{◌▷◌}
use Rattle.tables.specs.Layout.{operations, fragments, sets}
use Rattle.tables.specs.Image.{count_at}
use Rattle.tables.specs.Columns.{fragment_set}
use Rattle.tables.specs.Good.{Good}
use Rattle.reach.specs.Reach.{Reaches, itself, onward}
use Rattle.reach.proofs.ReachMeaning.{marked_spread, spread_marked}
use Rattle.fragment.specs.Chains.{is_spread, weigh, is_link, nests, Link, Chain, link, AtLeast}
use Rattle.fragment.specs.Heights.{most_chain, most_links, most_nested, height_in, enough, spreads_from, links_from, nested_from}
use Rattle.fragment.specs.Rounds.{ShortChains}
use Rattle.fragment.specs.Rules.{Refusal, refusal, lowest, is_spread_from, operation_sets, reaches_itself, starts_long_chain, has_many_links, nests_deep, is_unused, cycle_fault, chain_fault, links_fault, nesting_fault, unused_fault, fragments_fault}
use Rattle.fragment.specs.Meaning.{Longest, Follows, Reached, Cyclic, LongChain, ManyLinks, DeepNesting, Unreached, Decides, holds, broken, Flat, Finds, cycle, chain, links, nesting, unused, nothing, Ranked}
use Rattle.fragment.proofs.Links.{fragment_set_in}
use Rattle.fragment.proofs.ChainLaws.{weigh_links, link_in}
use Rattle.fragment.proofs.Covered.{steps_sound}
use Rattle.fragment.proofs.Exact.{spreads_reached, spreads_passed, all_passed}
use Rattle.fragment.proofs.Cycles.{itself_spread, spread_itself, lead_link}
use Rattle.fragment.proofs.Following.{follows_from, from_follows}
use Rattle.fragment.proofs.RuleLaws.{none_fails, lowest_fails, none_failed, no_fault_short}

-- a test that decides a rule row by row decides it for all
pub decided : (n : ℕ) (fails : ℕ → Bool) (shows : ℕ → Refusal) (Fails : ℕ → Type 0) → ((k : ℕ) → k < n → fails k ≡ true → Fails k) → ((k : ℕ) → k < n → Fails k → fails k ≡ true)
    → Decides n Fails shows (lowest n fails shows)
decided n fails shows Fails sound complete =
    elim (dec_le n (position n fails)) [
      | yes past ↦
          let all : (k : ℕ) → k < n → fails k ≡ false = λ k l. before_position n fails k (omega arith) in
          rw (none_fails n fails shows all) (holds (λ k l w. false≢true (sym (all k l) ∙ complete k l w)))
      | no found ↦
          let l : position n fails < n = omega arith in
          rw (lowest_fails n fails shows refl l)
          (broken (record {
            known = l;
            fails = sound _ l (position_passes n fails l);
            none_below = λ k m w. false≢true (sym (before_position n fails k m) ∙ complete k (omega arith) w);
          }))
    ]

-- ---- what is measured: the chains of spreads always, those of links and of nested sets where no chain of fragments is too long

pub spreads_longest : {image : List ℕ} → Good image → (s : ℕ) → s < count_at image sets → Longest image (is_spread image) most_chain (spreads_from image s) s
unfolding spreads_from
spreads_longest {image} good s known =
    let sound = steps_sound good (is_spread image) most_chain (enough image) s known in
    record { cut = omega (arith, sound.cut); reached = sound.reached; passed_by_none = λ m l. spreads_passed good s known m (omega arith) }

module _ {image : List ℕ} (good : Good image) (no_chain : chain_fault image ≡ none) (s : ℕ) (known : s < count_at image sets) where
  longest : (counts : ℕ → Bool) (limit : ℕ) → Longest image counts limit (height_in image counts limit (enough image) s) s
  longest counts limit =
      let sound = steps_sound good counts limit (enough image) s known in
      record {
        cut = omega (arith, sound.cut);
        reached = sound.reached;
        passed_by_none = λ m l r. omega (arith, r.weighs, all_passed good (no_fault_short image no_chain) counts limit s known r.chain);
      }

  pub links_longest : Longest image is_link most_links (links_from image s) s
  unfolding links_from
  links_longest = longest is_link most_links

  pub nested_longest : Longest image (nests image) most_nested (nested_from image s) s
  unfolding nested_from
  nested_longest = longest (nests image) most_nested

-- ---- each kind

module _ {image : List ℕ} (good : Good image) where
  -- kind 5, 5.5.2.2
  pub cycles_decided : Decides (count_at image fragments) (λ f. Follows image f f) (refusal 5 0) (cycle_fault image)
  unfolding cycle_fault
  cycles_decided =
      decided _ (reaches_itself image) (refusal 5 0) (λ f. Follows image f f) (λ f l e. follows_from good (itself_spread good f l e))
      (λ f l w. spread_itself good f l (from_follows good w))

  -- kind 6
  pub chains_decided : Decides (count_at image fragments) (LongChain image) (refusal 6 0) (chain_fault image)
  unfolding chain_fault starts_long_chain
  chains_decided =
      decided _ (starts_long_chain image) (refusal 6 0) (LongChain image)
      (λ f l e. spreads_reached good (fragment_set image f) (fragment_set_in good f l) most_chain (leb-true _ _ e))
      (λ f l w. le-leb _ _ (spreads_passed good (fragment_set image f) (fragment_set_in good f l) most_chain (omega arith) w))

  -- kind 9: by reach
  pub unused_decided : Decides (count_at image fragments) (λ f. Reached image f → ⊥) (refusal 9 0) (unused_fault image)
  unfolding unused_fault is_unused is_spread_from
  unused_decided =
      decided _ (is_unused image) (refusal 9 0) (λ f. Reached image f → ⊥)
      (λ f l e r. false≢true (sym (not_spread f e) ∙ eq-eqb _ _ (spread_marked image good (operation_sets image) within f l r)))
      (λ f l no-reach. go f (is_spread_from image (operation_sets image) f) refl (λ e. no-reach (marked_spread image good (operation_sets image) within f l (eqb-true _ _ e))))
    where
      within : 0 + count_at image operations ≤ count_at image sets
      within = omega (arith, good.own_sets)

      not_spread : (f : ℕ) → is_unused image f ≡ true → is_spread_from image (operation_sets image) f ≡ false
      not_spread f e = flip (is_spread_from image (operation_sets image) f) e
        where
          flip : (b : Bool) → not b ≡ true → b ≡ false
          flip true e = absurd (false≢true e)
          flip false e = refl

      go : (f : ℕ) (b : Bool) → is_spread_from image (operation_sets image) f ≡ b → (is_spread_from image (operation_sets image) f ≡ true → ⊥) → is_unused image f ≡ true
      go f true e no-mark = absurd (no-mark e)
      go f false e no-mark = rw e

  -- kinds 7 and 8, where 6 is absent
  module _ (no_chain : chain_fault image ≡ none) where
    short : ShortChains image
    short = no_fault_short image no_chain

    beyond : (counts : ℕ → Bool) (limit i : ℕ) → i < count_at image operations → limit < height_in image counts limit (enough image) i → AtLeast image counts (suc limit) i
    beyond counts limit i l h =
        let r = (steps_sound good counts limit (enough image) i (good.operation i l).set).reached in
        record { rows = r.rows; chain = r.chain; weighs = omega (arith, r.weighs) }

    within : (counts : ℕ → Bool) (limit i : ℕ) → i < count_at image operations → AtLeast image counts (suc limit) i → limit < height_in image counts limit (enough image) i
    within counts limit i l r =
        let le = all_passed good short counts limit i (good.operation i l).set r.chain in
        omega (arith, r.weighs)

    pub links_decided : Decides (count_at image operations) (ManyLinks image) (λ i. refusal 7 i 0) (links_fault image)
    unfolding links_fault has_many_links links_from
    links_decided =
        decided _ (has_many_links image) (λ i. refusal 7 i 0) (ManyLinks image) (λ i l e. beyond is_link most_links i l (ltb-true _ _ e))
        (λ i l w. lt-ltb _ _ (within is_link most_links i l w))

    pub nesting_decided : Decides (count_at image operations) (DeepNesting image) (λ i. refusal 8 i 0) (nesting_fault image)
    unfolding nesting_fault nests_deep nested_from
    nesting_decided =
        decided _ (nests_deep image) (λ i. refusal 8 i 0) (DeepNesting image) (λ i l e. beyond (nests image) most_nested i l (ltb-true _ _ e))
        (λ i l w. lt-ltb _ _ (within (nests image) most_nested i l w))

-- ---- all kinds in their order

in_order : (image : List ℕ) {cycles chains many deep idle : Option Refusal}
    → Decides (count_at image fragments) (Cyclic image) (refusal 5 0) cycles
    → Decides (count_at image fragments) (LongChain image) (refusal 6 0) chains
    → (chains ≡ none → Decides (count_at image operations) (ManyLinks image) (λ i. refusal 7 i 0) many)
    → (chains ≡ none → Decides (count_at image operations) (DeepNesting image) (λ i. refusal 8 i 0) deep)
    → Decides (count_at image fragments) (Unreached image) (refusal 9 0) idle
    → Finds image ((cycles ▷ chains) ▷ (many ▷ deep) ▷ idle)
unfolding ◌▷◌
in_order image (broken w) chains many deep idle = cycle w
in_order image (holds a) (broken w) many deep idle = chain a w
in_order image (holds a) (holds b) many deep idle = go (many refl) (deep refl) idle
  where
    flat : Flat image
    flat = record { no_cycles = a; no_chains = b }

    go : {m d i : Option Refusal} → Decides (count_at image operations) (ManyLinks image) (λ i. refusal 7 i 0) m
        → Decides (count_at image operations) (DeepNesting image) (λ i. refusal 8 i 0) d → Decides (count_at image fragments) (Unreached image) (refusal 9 0) i → Finds image ((m ▷ d) ▷ i)
    go (broken w) d i = links flat w
    go (holds c) (broken w) i = nesting flat c w
    go (holds c) (holds d) (broken w) = unused (record { flat = flat; few_links = c; low_nesting = d }) w
    go (holds c) (holds d) (holds e) = nothing (record { flat = flat; few_links = c; low_nesting = d }) e

pub fragments_decided : {image : List ℕ} → Good image → Finds image (fragments_fault image)
unfolding fragments_fault
fragments_decided {image} good = in_order image (cycles_decided good) (chains_decided good) (links_decided good) (nesting_decided good) (unused_decided good)

-- ---- where no kind of 5 to 8 is given (6 and 7 matter)

module _ {image : List ℕ} (good : Good image) (no_chain : chain_fault image ≡ none) (no-links : links_fault image ≡ none) where
  short_chains : ShortChains image
  short_chains = no_fault_short image no_chain

  -- the number of links from a set that has at most 500 falls along every link
  links_fall : {s r t : ℕ} → Link image s r t → links_from image s ≤ most_links → links_from image t < links_from image s
  unfolding links_from weigh
  links_fall {s} l few =
      let r = (steps_sound good is_link most_links (enough image) _ (link_in good l)).reached in
      let le = all_passed good short_chains is_link most_links s l.stands.known (link l r.chain) in
      omega (arith, r.weighs)

  few_links : (i : ℕ) → i < count_at image operations → links_from image i ≤ most_links
  unfolding links_fault has_many_links
  few_links i l = ltb-false _ _ (none_failed _ _ _ no-links i l)

  links_bounded : {i s : ℕ} → i < count_at image operations → Reaches image i s → links_from image s ≤ most_links
  links_bounded {i} l itself = few_links i l
  links_bounded l (onward q lead) =
      let h = links_bounded l q in
      let f = links_fall (lead_link good lead) h in
      omega arith

  -- the sets that an operation reaches have a rank below 501: their number of links
  pub reached_ranked : (i : ℕ) → i < count_at image operations → Ranked image (Reaches image i) (links_from image) (suc most_links)
  reached_ranked i l = record {
    closed = λ at k. onward at (record { row = _; stands = k.stands; below = k.leads; known = link_in good k });
    falls = λ at k. links_fall k (links_bounded l at);
    bounded = λ at. let h = links_bounded l at in omega arith;
  }

  -- and no chain from an operation's set is longer than 500
  pub chains_bounded : {i : ℕ} {rows : List ℕ} → i < count_at image operations → Chain image i rows → length rows ≤ most_links
  unfolding links_from
  chains_bounded {i} {rows} l c =
      let le = all_passed good short_chains is_link most_links i (good.operation i l).set c in
      let h : height_in image is_link most_links (enough image) i ≤ most_links = few_links i l in
      omega (arith, weigh_links rows)
