-- The heart of kinds 6 to 8: heights that are sound and cover chains with fewer spreads than two past the limit are THE heights: of
-- spreads always, of links and nested sets where no chain of fragments passes its limit. And the law that `enough` steps suffice. Assumes nothing.
use Prim.Native.Nat.{ℕ, suc, ◌+◌, ◌*◌, ◌<◌, ◌≤◌}
use mathlib.Core.Path.{◌≡◌, refl, sym, ap, ◌∙◌}
use mathlib.Core.Bool.{Bool, true, false}
use mathlib.Core.List.{List, []}
use native.Mathlib.Decide.{dec_le}
use native.Mathlib.Nat.{mul-le-mul_right}
use native.Mathlib.Omega.{arith}
use lib.ListN.{length}
use Rattle.tables.specs.Layout.{sets}
use Rattle.tables.specs.Image.{count_at}
use Rattle.tables.specs.Columns.{fragment_set, selection_target}
use Rattle.tables.specs.Good.{Good}
use Rattle.fragment.specs.Chains.{one_if, weigh, is_spread, is_link, nests, Chain, end, last, link, AtLeast, Sound}
use Rattle.fragment.specs.Heights.{most_chain, most_links, most_nested, cut_off, height_in, enough, spreads_from, links_from, nested_from}
use Rattle.fragment.specs.Rounds.{height_at, no_height, measured, sweep, sweep_changes, ShortChains, Measured, SoundHeights}
use Rattle.fragment.proofs.Links.{LeadsOn, nowhere, to_own, to_fragment, leads}
use Rattle.fragment.proofs.ChainLaws.{beginning, link_in, links_few}
use Rattle.fragment.proofs.Covered.{Covers, steps_sound, steps_cover}
use Rattle.fragment.proofs.Sweeps.{Weight, Told, measured_sound, round_tells, quiet_round_tells}

module _ {image : List ℕ} (good : Good image) where
  -- so many steps suffice
  pub enough_cover : (counts : ℕ → Bool) (limit s : ℕ) → s < count_at image sets → Covers image counts limit (most_chain + 2) (height_in image counts limit (enough image) s) s
  enough_cover counts limit s h = record {
    passed_by_none = λ rows c m.
        let few = links_few good h c in
        let more : weigh (is_spread image) rows * count_at image sets ≤ (most_chain + 1) * count_at image sets = mul-le-mul_right (count_at image sets) (omega arith) in
        steps_cover good counts limit (enough image) c (omega arith);
  }

  module _ (s : ℕ) (known : s < count_at image sets) where
    -- ---- spreads: a beginning of a chain that passes the limit is long enough

    spreads_within : (a b : ℕ) → Sound image (is_spread image) most_chain a s → Covers image (is_spread image) most_chain (most_chain + 2) b s → a ≤ b
    spreads_within a b x y =
        let cut = x.cut in
        let r = x.reached in
        let p = beginning (is_spread image) a r.chain r.weighs in
        let e = p.weighs in
        let le = y.passed_by_none p.rows p.chain (omega arith) in
        omega arith

    pub spreads_exact : (n : ℕ) → Sound image (is_spread image) most_chain n s → Covers image (is_spread image) most_chain (most_chain + 2) n s → n ≡ spreads_from image s
    unfolding spreads_from
    spreads_exact n x y =
        let x' = steps_sound good (is_spread image) most_chain (enough image) s known in
        let y' = enough_cover (is_spread image) most_chain s known in
        let a = spreads_within n _ x y' in
        let b = spreads_within _ n x' y in
        omega arith

    spreads_sound : Sound image (is_spread image) most_chain (spreads_from image s) s
    unfolding spreads_from
    spreads_sound = steps_sound good (is_spread image) most_chain (enough image) s known

    spreads_cover : Covers image (is_spread image) most_chain (most_chain + 2) (spreads_from image s) s
    unfolding spreads_from
    spreads_cover = enough_cover (is_spread image) most_chain s known

    -- as many spreads from a set as one likes, up to one past the limit, or fewer: decided by the height
    pub spreads_reached : (n : ℕ) → n ≤ spreads_from image s → AtLeast image (is_spread image) n s
    spreads_reached n h =
        let r = spreads_sound.reached in
        record { rows = r.rows; chain = r.chain; weighs = omega (arith, r.weighs) }

    pub spreads_passed : (n : ℕ) → n ≤ most_chain + 1 → AtLeast image (is_spread image) n s → n ≤ spreads_from image s
    spreads_passed n m r =
        let p = beginning (is_spread image) n r.chain r.weighs in
        let e = p.weighs in
        let le = spreads_cover.passed_by_none p.rows p.chain (omega arith) in
        omega arith

  -- ---- where no fragment starts a long chain

  module _ (short : ShortChains image) where
    -- no chain has more than 100 spreads
    pub few_spreads : {s : ℕ} {rows : List ℕ} → Chain image s rows → weigh (is_spread image) rows ≤ most_chain
    unfolding weigh
    few_spreads end = omega arith
    few_spreads (last {r = r} st) = go (is_spread image r)
      where
        go : (b : Bool) → one_if b + 0 ≤ most_chain
        go true = omega arith
        go false = omega arith
    few_spreads {s} (link {r = r} {t = t} {rows = rows} l c) = go (leads good l.stands) (few_spreads c)
      where
        go : LeadsOn image s r → weigh (is_spread image) rows ≤ most_chain → one_if (is_spread image r) + weigh (is_spread image) rows ≤ most_chain
        go (nowhere e ns) ih = absurd (l.some (sym l.leads ∙ e))
        go (to_own ns after known) ih = rw ns (omega arith)
        go (to_fragment sp known e) ih =
            let f = selection_target image r in
            let at : fragment_set image f ≡ t = sym e ∙ l.leads in
            let less : suc (spreads_from image t) ≤ most_chain = rw (← at) (short f known) in
            elim (dec_le most_chain (weigh (is_spread image) rows)) [
              | yes long ↦
                  let more : most_chain ≤ spreads_from image t = spreads_passed t (link_in good l) most_chain (omega arith) (record { rows = rows; chain = c; weighs = long }) in
                  absurd (omega arith)
              | no few ↦ rw sp (omega arith)
            ]

    module _ (counts : ℕ → Bool) (limit s : ℕ) (known : s < count_at image sets) where
      all_within : (a b : ℕ) → Sound image counts limit a s → Covers image counts limit (most_chain + 2) b s → a ≤ b
      all_within a b x y =
          let cut = x.cut in
          let r = x.reached in
          let w = r.weighs in
          let few = few_spreads r.chain in
          let le = y.passed_by_none r.rows r.chain (omega arith) in
          omega arith

      pub all_exact : (n : ℕ) → Sound image counts limit n s → Covers image counts limit (most_chain + 2) n s → n ≡ height_in image counts limit (enough image) s
      all_exact n x y =
          let a = all_within n _ x (enough_cover counts limit s known) in
          let b = all_within _ n (steps_sound good counts limit (enough image) s known) y in
          omega arith

      -- a chain that passes the height is cut off
      pub all_passed : {rows : List ℕ} → Chain image s rows → cut_off limit (weigh counts rows) ≤ height_in image counts limit (enough image) s
      all_passed {rows} c = let few = few_spreads c in (enough_cover counts limit s known).passed_by_none rows c (omega arith)

-- ---- the three weights at once

pub record Known (image : List ℕ) (k : ℕ) (s : List ℕ) : Type 0 where
  pub chain : Told image (is_spread image) most_chain (λ h. h.chain) k s
  pub links : Told image is_link most_links (λ h. h.links) k s
  pub nested : Told image (nests image) most_nested (λ h. h.nested) k s

module _ (image : List ℕ) where
  pub by_chain : Weight image (is_spread image) most_chain (λ h. h.chain)
  by_chain = record { by_sets = λ h s. refl }

  pub by_links : Weight image is_link most_links (λ h. h.links)
  by_links = record { by_sets = λ h s. refl }

  pub by_nested : Weight image (nests image) most_nested (λ h. h.nested)
  by_nested = record { by_sets = λ h s. refl }

  -- before the first round the heights need only be sound
  pub known_first : (s : List ℕ) → SoundHeights image s → Known image 0 s
  known_first s sound = record {
    chain = record { sound = λ t h. (sound t h).chain; covers = λ t h. record { passed_by_none = λ rows c m. absurd (omega arith) } };
    links = record { sound = λ t h. (sound t h).links; covers = λ t h. record { passed_by_none = λ rows c m. absurd (omega arith) } };
    nested = record { sound = λ t h. (sound t h).nested; covers = λ t h. record { passed_by_none = λ rows c m. absurd (omega arith) } };
  }

  -- as they are where all are 0
  none_sound : (counts : ℕ → Bool) (limit : ℕ) {n : ℕ} (t : ℕ) → n ≡ 0 → Sound image counts limit n t
  none_sound counts limit t e = record { cut = omega arith; reached = record { rows = []; chain = end; weighs = omega arith } }

  pub cleared_sound : (s : List ℕ) → ((t : ℕ) → t < count_at image sets → height_at s t ≡ no_height) → SoundHeights image s
  cleared_sound s cleared t h =
      let e = cleared t h in
      record { chain = none_sound _ _ t (ap (λ h. h.chain) e); links = none_sound _ _ t (ap (λ h. h.links) e); nested = none_sound _ _ t (ap (λ h. h.nested) e) }

  -- and once any set is measured anew
  pub sound_measured : Good image → (s : List ℕ) (n : ℕ) → 3 * n + 3 ≤ length s → n < count_at image sets → SoundHeights image s → SoundHeights image (measured image s n)
  sound_measured good s n room l sound t h = record {
    chain = measured_sound good by_chain s n room l (λ t h. (sound t h).chain) t h;
    links = measured_sound good by_links s n room l (λ t h. (sound t h).links) t h;
    nested = measured_sound good by_nested s n room l (λ t h. (sound t h).nested) t h;
  }

  module _ (good : Good image) (s : List ℕ) (room : 3 * count_at image sets ≤ length s) {k : ℕ} (known : Known image k s) where
    pub known_next : Known image (suc k) (sweep image s (count_at image sets))
    known_next = record {
      chain = round_tells good by_chain s room known.chain;
      links = round_tells good by_links s room known.links;
      nested = round_tells good by_nested s room known.nested;
    }

    pub known_settled : sweep_changes image s (count_at image sets) ≡ false → (j : ℕ) → Known image j (sweep image s (count_at image sets))
    known_settled e j = record {
      chain = quiet_round_tells good by_chain s room known.chain e j;
      links = quiet_round_tells good by_links s room known.links e j;
      nested = quiet_round_tells good by_nested s room known.nested e j;
    }

  pub known_last : Good image → (s : List ℕ) → Known image (most_chain + 2) s → (t : ℕ) → t < count_at image sets → Measured image s t
  unfolding links_from nested_from
  known_last good s known t h = record {
    chain = spreads_exact good t h _ (known.chain.sound t h) (known.chain.covers t h);
    links = λ short. all_exact good short is_link most_links t h _ (known.links.sound t h) (known.links.covers t h);
    nested = λ short. all_exact good short (nests image) most_nested t h _ (known.nested.sound t h) (known.nested.covers t h);
  }
