-- Sets that are measured in their turns: each comes after all that it leads to, so what is measured stands, and nothing leads back.
-- Assumes nothing.
use Prim.Native.Nat.{ℕ, zero, suc, ◌+◌, ◌*◌, ◌<◌, ◌≤◌}
use mathlib.Core.Path.{◌≡◌, refl, sym, ap, subst, ◌∙◌}
use mathlib.Core.Logic.{inl}
use mathlib.Core.Bool.{Bool, true, false, cond, ◌&&◌}
use mathlib.Core.List.{List}
use native.Mathlib.Decide.{ℕ_discrete}
use native.Mathlib.Nat.{le_refl}
use native.Mathlib.Omega.{arith}
use borrow.Author.Tests.{eq-eqb, ne_eqb, eqb-true, ltb-true}
use lib.Dec.{eqb, ltb}
use lib.ListN.{length}
use Rattle.lists.specs.Part.{Outside}
use Rattle.lists.proofs.Parts.{outside_trans}
use Rattle.lists.proofs.Tests.{both, first_of, second_of, first_fails, second_fails}
use Rattle.tables.specs.Layout.{NONE, sets}
use Rattle.tables.specs.Image.{count_at, row_in}
use Rattle.tables.specs.Columns.{set_selections, fragment_set}
use Rattle.tables.specs.Good.{Good}
use Rattle.reach.proofs.ReachMeaning.{stands_member}
use Rattle.fragment.specs.declared.heights.Height.{Height}
use Rattle.fragment.specs.Chains.{below, Link, Sound}
use Rattle.fragment.specs.Heights.{most_chain}
use Rattle.fragment.specs.Rounds.{height_at, set_height, measured, SoundHeights}
use Rattle.fragment.specs.Order.{place_of, set_of, leads_lower, all_lower, is_in_turn, all_in_turn, in_turn}
use Rattle.fragment.specs.Walks.{InOrder}
use Rattle.fragment.proofs.HeightLaws.{all_three}
use Rattle.fragment.proofs.Links.{fragment_set_in}
use Rattle.fragment.proofs.Covered.{fixed_covers}
use Rattle.fragment.proofs.Sweeps.{Weight, Told, highest_cong, elsewhere, stored_here, measured_outside}
use Rattle.fragment.proofs.Exact.{Known, by_chain, by_links, by_nested, sound_measured, known_last}
use Rattle.fragment.proofs.Pigeons.{Twice, pigeons}
use Rattle.fragment.proofs.Cycles.{above_rise}

-- only the heights have changed since w: places and order are as they were
module _ (image w s : List ℕ) (kept : Outside 0 (3 * count_at image sets) w s) where
  pub place_kept : (t : ℕ) → place_of image s t ≡ place_of image w t
  unfolding place_of
  place_kept t = kept.above _ (omega arith)

  pub set_kept : (place : ℕ) → place ≤ count_at image sets → set_of image s place ≡ set_of image w place
  unfolding set_of
  set_kept place h = kept.above _ (omega arith)

  turn_kept : (place t : ℕ) → is_in_turn image s place t ≡ is_in_turn image w place t
  unfolding is_in_turn leads_lower all_lower
  turn_kept place t = rw (place_kept t, lower_kept (set_selections image t).count)
    where
      lower_kept : (n : ℕ) → all_lower image s place t n ≡ all_lower image w place t n
      lower_kept zero = refl
      lower_kept (suc n) = rw (lower_kept n, place_kept (below image (row_in (set_selections image t) n)))

  pub turns_kept : (n : ℕ) → n ≤ count_at image sets → all_in_turn image s n ≡ all_in_turn image w n
  unfolding all_in_turn
  turns_kept zero h = refl
  turns_kept (suc n) h = rw (turns_kept n (omega arith), set_kept (suc n) h, turn_kept (suc n) (set_of image w (suc n)))

-- ---- a set in its turn

module _ (image s : List ℕ) where
  pub turn_known : (place t : ℕ) → is_in_turn image s place t ≡ true → t < count_at image sets
  unfolding is_in_turn
  turn_known place t e =
      ltb-true _ _ (first_of (ltb t (count_at image sets)) (eqb (place_of image s t) place) (first_of (ltb t (count_at image sets) && eqb (place_of image s t) place) (all_lower image s place t (set_selections image t).count) e))

  pub turn_place : (place t : ℕ) → is_in_turn image s place t ≡ true → place_of image s t ≡ place
  unfolding is_in_turn
  turn_place place t e =
      eqb-true _ _ (second_of (ltb t (count_at image sets)) (eqb (place_of image s t) place) (first_of (ltb t (count_at image sets) && eqb (place_of image s t) place) (all_lower image s place t (set_selections image t).count) e))

  turn_lower : (place t : ℕ) → is_in_turn image s place t ≡ true → all_lower image s place t (set_selections image t).count ≡ true
  unfolding is_in_turn
  turn_lower place t e = second_of (ltb t (count_at image sets) && eqb (place_of image s t) place) (all_lower image s place t (set_selections image t).count) e

  each_lower : (place t n : ℕ) → all_lower image s place t n ≡ true → (k : ℕ) → k < n → leads_lower image s place (row_in (set_selections image t) k) ≡ true
  unfolding all_lower
  each_lower place t zero e k l = absurd (omega arith)
  each_lower place t (suc n) e k l =
      elim (ℕ_discrete k n) [
        | yes p ↦ rw p (second_of (all_lower image s place t n) (leads_lower image s place (row_in (set_selections image t) n)) e)
        | no q ↦ each_lower place t n (first_of (all_lower image s place t n) (leads_lower image s place (row_in (set_selections image t) n)) e) k (omega arith)
      ]

  one_lower : (place r : ℕ) → leads_lower image s place r ≡ true → (below image r ≡ NONE → ⊥) → place_of image s (below image r) < place
  unfolding leads_lower
  one_lower place r e some = ltb-true _ _ (rw (ne_eqb _ _ some) at e)

  -- its links lead to lower places
  pub link_lower : Good image → (place t : ℕ) → is_in_turn image s place t ≡ true → {r u : ℕ} → Link image t r u → place_of image s u < place
  link_lower good place t e {r} {u} l =
      let (k, inside, row) = stands_member image good r t l.stands in
      let here : leads_lower image s place r ≡ true = rw (← row) (each_lower place t _ (turn_lower place t e) k inside) in
      rw (← l.leads) (one_lower place r here (λ none. l.some (sym l.leads ∙ none)))

  pub turn_taken : (place t : ℕ) → is_in_turn image s place t ≡ true → in_turn image s place t ≡ measured image s t
  unfolding in_turn
  turn_taken place t e = rw e

  pub turn_missed : (place t : ℕ) → is_in_turn image s place t ≡ false → in_turn image s place t ≡ s
  unfolding in_turn
  turn_missed place t e = rw e

-- only the sets that a set leads to matter
height_cong : {image : List ℕ} → Good image → (g h : ℕ → Height) (t : ℕ) → t < count_at image sets → ((r u : ℕ) → Link image t r u → g u ≡ h u) → set_height image g t ≡ set_height image h t
height_cong {image} good g h t known same =
    all_three
    (highest_cong good (by_chain image) (λ u. (g u).chain) (λ u. (h u).chain) t _ known (le_refl _) (λ r u l. ap (λ (x : Height). x.chain) (same r u l)))
    (highest_cong good (by_links image) (λ u. (g u).links) (λ u. (h u).links) t _ known (le_refl _) (λ r u l. ap (λ (x : Height). x.links) (same r u l)))
    (highest_cong good (by_nested image) (λ u. (g u).nested) (λ u. (h u).nested) t _ known (le_refl _) (λ r u l. ap (λ (x : Height). x.nested) (same r u l)))

-- all turns go well, or one does not
module _ (image w : List ℕ) where
  pub no_turn : all_in_turn image w 0 ≡ true
  unfolding all_in_turn
  no_turn = refl

  pub last_turn : {k : ℕ} → k ≡ count_at image sets → all_in_turn image w k ≡ true → all_in_turn image w (count_at image sets) ≡ true
  last_turn e before = rw (← e) before

  turn_more : (k : ℕ) → all_in_turn image w k ≡ true → is_in_turn image w (suc k) (set_of image w (suc k)) ≡ true → all_in_turn image w (suc k) ≡ true
  unfolding all_in_turn
  turn_more k before this = both before this

  one_fails : (k n : ℕ) → k < n → is_in_turn image w (suc k) (set_of image w (suc k)) ≡ false → all_in_turn image w n ≡ false
  unfolding all_in_turn
  one_fails k zero l e = absurd (omega arith)
  one_fails k (suc n) l e =
      elim (ℕ_discrete k n) [
        | yes p ↦ second_fails (all_in_turn image w n) (rw (← p) e)
        | no q ↦ first_fails (is_in_turn image w (suc n) (set_of image w (suc n))) (one_fails k n (omega arith) e)
      ]

-- ---- turn by turn

-- the first n turns went well; w are the words that they began with
pub record Turned (image w s : List ℕ) (n : ℕ) : Type 0 where
  pub known : (j : ℕ) → j < n → set_of image w (suc j) < count_at image sets
  pub place : (j : ℕ) → j < n → place_of image w (set_of image w (suc j)) ≡ suc j
  pub lower : (j : ℕ) → j < n → (r t : ℕ) → Link image (set_of image w (suc j)) r t → place_of image w t < suc j
  pub settled : (j : ℕ) → j < n → height_at s (set_of image w (suc j)) ≡ set_height image (height_at s) (set_of image w (suc j))
  pub sound : SoundHeights image s

pub none_turned : (image w : List ℕ) → SoundHeights image w → Turned image w w 0
none_turned image w sound = record {
  known = λ j l. absurd (omega arith);
  place = λ j l. absurd (omega arith);
  lower = λ j l. absurd (omega arith);
  settled = λ j l. absurd (omega arith);
  sound = sound;
}

module _ {image : List ℕ} (good : Good image) {w s : List ℕ} {k : ℕ} (room : 3 * count_at image sets ≤ length w) (inside : k < count_at image sets) (kept : Outside 0 (3 * count_at image sets) w s) (turned : Turned image w s k)
    (turn : is_in_turn image s (suc k) (set_of image w (suc k)) ≡ true) where
  abbrev t : ℕ
  t = set_of image w (suc k)

  t_known : t < count_at image sets
  t_known = turn_known image s (suc k) t turn

  t_place : place_of image w t ≡ suc k
  t_place = sym (place_kept image w s kept t) ∙ turn_place image s (suc k) t turn

  t_lower : (r u : ℕ) → Link image t r u → place_of image w u < suc k
  t_lower r u l = rw (place_kept image w s kept u) at (link_lower image s good (suc k) t turn l)

  -- a set of another place is as before
  apart : (u : ℕ) → (place_of image w u ≡ suc k → ⊥) → height_at (measured image s t) u ≡ height_at s u
  apart u other = elsewhere image s t u (λ e. other (ap (place_of image w) e ∙ t_place))

  lower_apart : (j u : ℕ) → j ≤ k → place_of image w u < suc j → height_at s u ≡ height_at (measured image s t) u
  lower_apart j u le less = sym (apart u (λ e. omega arith))

  this_settled : height_at (measured image s t) t ≡ set_height image (height_at (measured image s t)) t
  unfolding measured
  this_settled =
      stored_here s t _ (omega (arith, kept.long, t_known))
      ∙ height_cong good (height_at s) (height_at (measured image s t)) t t_known (λ r u l. lower_apart k u (le_refl k) (t_lower r u l))

  still_settled : (j : ℕ) → j < k → height_at (measured image s t) (set_of image w (suc j)) ≡ set_height image (height_at (measured image s t)) (set_of image w (suc j))
  still_settled j l =
      let v = set_of image w (suc j) in
      apart v (λ e. omega (arith, turned.place j l, e))
      ∙ turned.settled j l
      ∙ height_cong good (height_at s) (height_at (measured image s t)) v (turned.known j l) (λ r u h. lower_apart j u (omega arith) (turned.lower j l r u h))

  pub one_turned : Turned image w (measured image s t) (suc k)
  one_turned = record {
    known = λ j l. elim (ℕ_discrete j k) [ yes e ↦ rw e t_known | no ne ↦ turned.known j (omega arith) ];
    place = λ j l. elim (ℕ_discrete j k) [ yes e ↦ rw e t_place | no ne ↦ turned.place j (omega arith) ];
    lower = λ j l. elim (ℕ_discrete j k) [ yes e ↦ rw e t_lower | no ne ↦ turned.lower j (omega arith) ];
    settled = λ j l. elim (ℕ_discrete j k) [ yes e ↦ rw e this_settled | no ne ↦ still_settled j (omega arith) ];
    sound = sound_measured image good s t (omega (arith, kept.long, t_known)) t_known turned.sound;
  }

-- a turn of the code
module _ (image : List ℕ) {w s s' : List ℕ} {k : ℕ} (t : ℕ) (inside : k < count_at image sets) (kept : Outside 0 (3 * count_at image sets) w s) (e : s' ≡ in_turn image s (k + 1) t) where
  pub turn_outside : Outside 0 (3 * count_at image sets) w s'
  turn_outside = go (is_in_turn image s (k + 1) t) refl
    where
      go : (b : Bool) → is_in_turn image s (k + 1) t ≡ b → Outside 0 (3 * count_at image sets) w s'
      go true turn = rw (e, turn_taken image s (k + 1) t turn) (outside_trans kept (measured_outside image s t _ (turn_known image s (k + 1) t turn)))
      go false turn = rw (e, turn_missed image s (k + 1) t turn) kept

  -- whether this turn goes well, by the words at the beginning
  turn_said : {b : Bool} → t ≡ set_of image s (k + 1) → b ≡ is_in_turn image s (k + 1) t → is_in_turn image w (suc k) (set_of image w (suc k)) ≡ b
  turn_said read said =
      let next : k + 1 ≡ suc k = omega arith in
      let here : t ≡ set_of image w (k + 1) = read ∙ set_kept image w s kept (k + 1) (omega arith) in
      rw (← next, ← here) (sym (turn_kept image w s kept (k + 1) t) ∙ sym said)

  pub turn_passes : {b : Bool} → t ≡ set_of image s (k + 1) → b ≡ is_in_turn image s (k + 1) t → b ≡ true → all_in_turn image w k ≡ true → all_in_turn image w (k + 1) ≡ true
  turn_passes read said well before =
      let next : k + 1 ≡ suc k = omega arith in
      rw next (turn_more image w k before (turn_said read said ∙ well))

  pub turn_fails : {b : Bool} → t ≡ set_of image s (k + 1) → b ≡ is_in_turn image s (k + 1) t → b ≡ false → all_in_turn image w (count_at image sets) ≡ false
  turn_fails read said ill = one_fails image w k (count_at image sets) (omega arith) (turn_said read said ∙ ill)

  pub turn_again : {b : Bool} → t ≡ set_of image s (k + 1) → b ≡ is_in_turn image s (k + 1) t → b ≡ true
      → (Good image → 5 * count_at image sets ≤ length w → SoundHeights image w → Turned image w s k)
      → Good image → 5 * count_at image sets ≤ length w → SoundHeights image w → Turned image w s' (k + 1)
  turn_again read said well turned good room sound =
      let turn : is_in_turn image s (k + 1) t ≡ true = sym said ∙ well in
      let next : k + 1 ≡ suc k = omega arith in
      let here : t ≡ set_of image w (k + 1) = read ∙ set_kept image w s kept (k + 1) (omega arith) in
      let turn' : is_in_turn image s (suc k) (set_of image w (suc k)) ≡ true = rw (← next, ← here) turn in
      let all : s' ≡ measured image s (set_of image w (suc k)) = rw (← next, ← here) (e ∙ turn_taken image s (k + 1) t turn) in
      rw (next, all) (one_turned good (omega arith) (omega arith) kept (turned good room sound) turn')

-- ---- all turns

module _ {image : List ℕ} (good : Good image) {w s : List ℕ} (turned : Turned image w s (count_at image sets)) where
  -- every set had its turn
  had_turn : (t : ℕ) → t < count_at image sets → (j : ℕ) × (j < count_at image sets) × (set_of image w (suc j) ≡ t)
  had_turn t known = from (pigeons n (suc n) key (omega arith) below_n)
    where
      n : ℕ
      n = count_at image sets

      key : ℕ → ℕ
      key i = cond (eqb i n) t (set_of image w (suc i))

      last : (i : ℕ) → i ≡ n → key i ≡ t
      last i e = rw (eq-eqb _ _ e)

      other : (i : ℕ) → (i ≡ n → ⊥) → key i ≡ set_of image w (suc i)
      other i ne = rw (ne_eqb _ _ ne)

      below_n : (i : ℕ) → i < suc n → key i < n
      below_n i l = elim (ℕ_discrete i n) [ yes e ↦ rw (last i e) known | no ne ↦ rw (other i ne) (turned.known i (omega arith)) ]

      from : Twice (suc n) key → (j : ℕ) × (j < n) × (set_of image w (suc j) ≡ t)
      from d =
          let less = d.apart in
          let inside = d.inside in
          let low : key d.lower ≡ set_of image w (suc d.lower) = other d.lower (λ e. omega arith) in
          elim (ℕ_discrete d.upper n) [
            | yes e ↦ (d.lower, omega arith, sym low ∙ d.same ∙ last d.upper e)
            | no ne ↦
                let same : set_of image w (suc d.lower) ≡ set_of image w (suc d.upper) = sym low ∙ d.same ∙ other d.upper ne in
                let p : suc d.lower ≡ suc d.upper = sym (turned.place d.lower (omega arith)) ∙ ap (place_of image w) same ∙ turned.place d.upper (omega arith) in
                absurd (omega arith)
          ]

  all_settled : (t : ℕ) → t < count_at image sets → height_at s t ≡ set_height image (height_at s) t
  all_settled t known =
      let (j, l, e) = had_turn t known in
      rw (← e) (turned.settled j l)

  link_falls : {t r u : ℕ} → Link image t r u → place_of image w u < place_of image w t
  link_falls {t} {r} {u} l =
      let (j, m, e) = had_turn t l.stands.known in
      let at : place_of image w t ≡ suc j = ap (place_of image w) (sym e) ∙ turned.place j m in
      rw at (turned.lower j m r u (subst (λ (x : ℕ). Link image x r u) (sym e) l))

  told : {counts : ℕ → Bool} {limit : ℕ} {pick : Height → ℕ} → Weight image counts limit pick → ((t : ℕ) → t < count_at image sets → Sound image counts limit (pick (height_at s t)) t) → (j : ℕ) → Told image counts limit pick j s
  told {counts} {limit} {pick} weight sound j = record {
    sound = sound;
    covers = λ t m. record {
      passed_by_none = λ rows c b. fixed_covers good counts limit (λ u. pick (height_at s u)) (λ u l. ap pick (all_settled u l) ∙ weight.by_sets (height_at s) u) m c;
    };
  }

  all_known : (j : ℕ) → Known image j s
  all_known j = record {
    chain = told (by_chain image) (λ t h. (turned.sound t h).chain) j;
    links = told (by_links image) (λ t h. (turned.sound t h).links) j;
    nested = told (by_nested image) (λ t h. (turned.sound t h).nested) j;
  }

  pub all_turned : InOrder image s
  all_turned = record {
    heights = known_last image good s (all_known (most_chain + 2));
    no_cycle = λ f known.
        let (j, l, e) = had_turn (fragment_set image f) (fragment_set_in good f known) in
        let place : place_of image w (fragment_set image f) ≡ suc j = ap (place_of image w) (sym e) ∙ turned.place j l in
        above_rise good f known (place_of image w) 0 (λ t r u k. inl (link_falls k)) (omega arith);
  }
