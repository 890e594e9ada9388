-- What rounds know of the heights, under any weight: they are sound, cover one spread more with each round, and a round that changes
-- no fragment's set leaves a fixed point. Assumes nothing.
use Prim.Native.Nat.{ℕ, zero, suc, ◌+◌, ◌*◌, ◌<◌, ◌≤◌, max, zero-le}
use mathlib.Core.Path.{◌≡◌, refl, sym, ap, ap₂, ◌∙◌}
use mathlib.Core.Logic.{◌⊎◌, inl, inr}
use mathlib.Core.Bool.{Bool, true, false, ◌&&◌, ◌||◌, false≢true}
use mathlib.Core.List.{List}
use native.Mathlib.Decide.{dec_le, ℕ_discrete}
use native.Mathlib.Nat.{le_refl}
use native.Mathlib.Omega.{arith}
use borrow.Author.Tests.{eq-eqb, ne_eqb, eqb-true}
use lib.Dec.{eqb}
use lib.ListN.{length, get_or, set, length-set}
use lib.Seq.{get_or-set_same, get_or-set_other}
use Rattle.lists.specs.Part.{Outside}
use Rattle.lists.proofs.Parts.{set_outside, outside_trans, outside_wider, outside_none}
use Rattle.lists.proofs.Tests.{not_false, first_of, second_of}
use Rattle.tables.specs.Layout.{NONE, sets}
use Rattle.tables.specs.Image.{count_at, row_in}
use Rattle.tables.specs.Columns.{set_selections, is_fragment_set}
use Rattle.tables.specs.Good.{Good, StandsIn}
use Rattle.reach.proofs.ReachMeaning.{member_stands}
use Rattle.fragment.specs.declared.heights.Height.{Height}
use Rattle.fragment.specs.Chains.{below, Link, Sound}
use Rattle.fragment.specs.Heights.{through, highest, height_of}
use Rattle.fragment.specs.Rounds.{height_at, with_height, same_height, set_height, measured, changes, sweep, sweep_changes}
use Rattle.fragment.proofs.HeightLaws as laws
use Rattle.tables.proofs.ColumnLaws.{is_fragment_set_lem}
use Rattle.fragment.proofs.Links.{LeadsOn, nowhere, to_own, to_fragment, leads}
use Rattle.fragment.proofs.Covered.{Covers, height_sound, height_covers, fixed_covers}

-- ---- one set stored

module _ (s : List ℕ) (t : ℕ) (h : Height) where
  abbrev first : List ℕ
  first = set s (3 * t) h.chain

  abbrev second : List ℕ
  second = set first (3 * t + 1) h.links

  skipped : (k : ℕ) → (k ≡ 3 * t → ⊥) → (k ≡ 3 * t + 1 → ⊥) → (k ≡ 3 * t + 2 → ⊥) → get_or (with_height s t h) k 0 ≡ get_or s k 0
  skipped k a b c =
      get_or-set_other second (3 * t + 2) k h.nested 0 (omega arith)
      ∙ get_or-set_other first (3 * t + 1) k h.links 0 (omega arith)
      ∙ get_or-set_other s (3 * t) k h.chain 0 (omega arith)

  untouched : (k : ℕ) → (k < 3 * t) ⊎ (3 * t + 3 ≤ k) → get_or (with_height s t h) k 0 ≡ get_or s k 0
  untouched k (inl l) = skipped k (omega arith) (omega arith) (omega arith)
  untouched k (inr l) = skipped k (omega arith) (omega arith) (omega arith)

  stored_elsewhere : (u : ℕ) → (u ≡ t → ⊥) → height_at (with_height s t h) u ≡ height_at s u
  stored_elsewhere u ne = laws.all_three (kept (3 * u) (omega arith) (omega arith)) (kept (3 * u + 1) (omega arith) (omega arith)) (kept (3 * u + 2) (omega arith) (omega arith))
    where
      apart : (k : ℕ) → 3 * u ≤ k → k < 3 * u + 3 → (k < 3 * t) ⊎ (3 * t + 3 ≤ k)
      apart k from to = elim (dec_le u t) [ yes p ↦ inl (omega arith) | no q ↦ inr (omega arith) ]

      kept : (k : ℕ) → 3 * u ≤ k → k < 3 * u + 3 → get_or (with_height s t h) k 0 ≡ get_or s k 0
      kept k from to = untouched k (apart k from to)

  pub stored_here : 3 * t + 3 ≤ length s → height_at (with_height s t h) t ≡ h
  stored_here room =
      let long : length first ≡ length s = length-set s (3 * t) h.chain in
      let long' : length second ≡ length first = length-set first (3 * t + 1) h.links in
      laws.all_three
      (get_or-set_other second (3 * t + 2) (3 * t) _ 0 (omega arith) ∙ get_or-set_other first (3 * t + 1) (3 * t) _ 0 (omega arith) ∙ get_or-set_same s (3 * t) _ 0 (omega arith))
      (get_or-set_other second (3 * t + 2) (3 * t + 1) _ 0 (omega arith) ∙ get_or-set_same first (3 * t + 1) _ 0 (omega arith))
      (get_or-set_same second (3 * t + 2) _ 0 (omega arith))

  stored_outside : (n : ℕ) → t < n → Outside 0 (3 * n) s (with_height s t h)
  stored_outside n l =
      let wide : (q : List ℕ) (at v : ℕ) → at < 3 * n → Outside 0 (3 * n) q (set q at v) = λ q at v b. outside_wider (set_outside q at v) 0 (3 * n) zero-le (omega arith) in
      outside_trans (outside_trans (wide _ _ _ (omega arith)) (wide _ _ _ (omega arith))) (wide _ _ _ (omega arith))

module _ (image : List ℕ) where
  pub elsewhere : (s : List ℕ) (t u : ℕ) → (u ≡ t → ⊥) → height_at (measured image s t) u ≡ height_at s u
  unfolding measured
  elsewhere s t u ne = stored_elsewhere s t _ u ne

  pub measured_outside : (s : List ℕ) (t n : ℕ) → t < n → Outside 0 (3 * n) s (measured image s t)
  unfolding measured
  measured_outside s t n l = stored_outside s t _ n l

  pub sweep_outside : (s : List ℕ) (n m : ℕ) → n ≤ m → Outside 0 (3 * m) s (sweep image s n)
  unfolding sweep
  sweep_outside s zero m l = outside_none 0 (3 * m) s
  sweep_outside s (suc n) m l = outside_trans (measured_outside s n m l) (sweep_outside (measured image s n) n m (omega arith))

  -- the sets from n on are as before
  kept_above : (s : List ℕ) (n u : ℕ) → n ≤ u → height_at (sweep image s n) u ≡ height_at s u
  unfolding sweep
  kept_above s zero u l = refl
  kept_above s (suc n) u l = kept_above (measured image s n) n u (omega arith) ∙ elsewhere s n u (omega arith)

  neither : (a b : Bool) → (a || b) ≡ false → (a ≡ false) × (b ≡ false)
  neither true b e = absurd (false≢true (sym e))
  neither false b e = (refl, e)

  same_heights : (g h : Height) → same_height g h ≡ true → g ≡ h
  unfolding same_height
  same_heights g h e =
      let front = first_of (eqb g.chain h.chain && eqb g.links h.links) (eqb g.nested h.nested) e in
      laws.all_three
      (eqb-true _ _ (first_of (eqb g.chain h.chain) (eqb g.links h.links) front))
      (eqb-true _ _ (second_of (eqb g.chain h.chain) (eqb g.links h.links) front))
      (eqb-true _ _ (second_of (eqb g.chain h.chain && eqb g.links h.links) (eqb g.nested h.nested) e))

  -- a fragment's set that does not change
  unchanged : (s : List ℕ) (t : ℕ) → 3 * t + 3 ≤ length s → is_fragment_set image t ≡ true → changes image s t ≡ false → height_at (measured image s t) t ≡ height_at s t
  unfolding changes measured
  unchanged s t room one e =
      let same : same_height (height_at s t) (set_height image (height_at s) t) ≡ true = not_false _ (rw one at e) in
      stored_here s t _ room ∙ sym (same_heights _ _ same)

  quiet : (s : List ℕ) (n u : ℕ) → 3 * n ≤ length s → is_fragment_set image u ≡ true → sweep_changes image s n ≡ false → height_at (sweep image s n) u ≡ height_at s u
  unfolding sweep sweep_changes
  quiet s zero u room one e = refl
  quiet s (suc n) u room one e =
      let (this, rest) = neither (changes image s n) (sweep_changes image (measured image s n) n) e in
      let long = laws.same_words image s n in
      quiet (measured image s n) n u (omega arith) one rest
      ∙ elim (ℕ_discrete u n) [
        | yes p ↦ rw p (unchanged s n (omega arith) (rw (← p) one) this)
        | no q ↦ elsewhere s n u q
      ]

-- ---- under one weight

-- a weight, its limit, and which of the three numbers has its heights
pub record Weight (image : List ℕ) (counts : ℕ → Bool) (limit : ℕ) (pick : Height → ℕ) : Type 0 where
  pub by_sets : (h : ℕ → Height) (s : ℕ) → pick (set_height image h s) ≡ height_of image counts limit (λ t. pick (h t)) s

-- the heights of all sets are sound, and cover chains with fewer than k spreads
pub record Told (image : List ℕ) (counts : ℕ → Bool) (limit : ℕ) (pick : Height → ℕ) (k : ℕ) (s : List ℕ) : Type 0 where
  pub sound : (t : ℕ) → t < count_at image sets → Sound image counts limit (pick (height_at s t)) t
  pub covers : (t : ℕ) → t < count_at image sets → Covers image counts limit k (pick (height_at s t)) t

module _ {image : List ℕ} (good : Good image) {counts : ℕ → Bool} {limit : ℕ} {pick : Height → ℕ} (weight : Weight image counts limit pick) where
  here : (s : List ℕ) (t : ℕ) → 3 * t + 3 ≤ length s → pick (height_at (measured image s t) t) ≡ height_of image counts limit (λ u. pick (height_at s u)) t
  unfolding measured
  here s t room = ap pick (stored_here s t _ room) ∙ weight.by_sets (height_at s) t

  pub measured_sound : (s : List ℕ) (n : ℕ) → 3 * n + 3 ≤ length s → n < count_at image sets
      → ((t : ℕ) → t < count_at image sets → Sound image counts limit (pick (height_at s t)) t)
      → (t : ℕ) → t < count_at image sets → Sound image counts limit (pick (height_at (measured image s n) t)) t
  measured_sound s n room l sound t m =
      elim (ℕ_discrete t n) [
        | yes p ↦ rw (p, here s n room) (height_sound good counts limit (λ u. pick (height_at s u)) sound n l)
        | no q ↦ rw (elsewhere image s n t q) (sound t m)
      ]

  sweep_sound : (s : List ℕ) (n : ℕ) → 3 * n ≤ length s → n ≤ count_at image sets
      → ((t : ℕ) → t < count_at image sets → Sound image counts limit (pick (height_at s t)) t)
      → (t : ℕ) → t < count_at image sets → Sound image counts limit (pick (height_at (sweep image s n) t)) t
  unfolding sweep
  sweep_sound s zero room l sound = sound
  sweep_sound s (suc n) room l sound =
      let long = laws.same_words image s n in
      sweep_sound (measured image s n) n (omega arith) (omega arith) (measured_sound s n (omega arith) l sound)

  less_covers : {k n t : ℕ} → Covers image counts limit (suc k) n t → Covers image counts limit k n t
  less_covers x = record { passed_by_none = λ rows c m. x.passed_by_none rows c (omega arith) }

  -- the sets from n on cover one spread more already
  sweep_covers : (s : List ℕ) (n k : ℕ) → 3 * n ≤ length s → n ≤ count_at image sets
      → ((t : ℕ) → n ≤ t → t < count_at image sets → Covers image counts limit (suc k) (pick (height_at s t)) t)
      → ((t : ℕ) → t < count_at image sets → Covers image counts limit k (pick (height_at s t)) t)
      → (t : ℕ) → t < count_at image sets → Covers image counts limit (suc k) (pick (height_at (sweep image s n) t)) t
  unfolding sweep
  sweep_covers s zero k room l later all = λ t m. later t zero-le m
  sweep_covers s (suc n) k room l later all = sweep_covers (measured image s n) n k (omega (arith, long)) (omega arith) later' all'
    where
      long : length (measured image s n) ≡ length s
      long = laws.same_words image s n

      top : Covers image counts limit (suc k) (pick (height_at (measured image s n) n)) n
      top = rw (here s n (omega arith)) (height_covers good counts limit (λ u. pick (height_at s u)) n k later all)

      later' : (t : ℕ) → n ≤ t → t < count_at image sets → Covers image counts limit (suc k) (pick (height_at (measured image s n) t)) t
      later' t h m =
          elim (ℕ_discrete t n) [
            | yes p ↦ rw p top
            | no q ↦ rw (elsewhere image s n t q) (later t (omega arith) m)
          ]

      all' : (t : ℕ) → t < count_at image sets → Covers image counts limit k (pick (height_at (measured image s n) t)) t
      all' t m =
          elim (ℕ_discrete t n) [
            | yes p ↦ rw p (less_covers top)
            | no q ↦ rw (elsewhere image s n t q) (all t m)
          ]

  -- only the sets that a set's selections lead to matter
  through_cong : (g h : ℕ → ℕ) {s r : ℕ} → ((t : ℕ) → Link image s r t → g t ≡ h t) → StandsIn image r s → through image counts limit g r ≡ through image counts limit h r
  unfolding through
  through_cong g h {s} {r} same st =
      elim (ℕ_discrete (below image r) NONE) [
        | yes e ↦ rw (eq-eqb _ _ e)
        | no ne ↦ rw (ne_eqb _ _ ne, same (below image r) (record { stands = st; leads = refl; some = ne }))
      ]

  pub highest_cong : (g h : ℕ → ℕ) (s n : ℕ) → s < count_at image sets → n ≤ (set_selections image s).count → ((r t : ℕ) → Link image s r t → g t ≡ h t)
      → highest image counts limit g s n ≡ highest image counts limit h s n
  unfolding highest
  highest_cong g h s zero l m same = refl
  highest_cong g h s (suc n) l m same =
      ap₂ max (highest_cong g h s n l (omega arith) same) (through_cong g h (same (row_in (set_selections image s) n)) (member_stands image good s n l m))

  -- where no fragment's set changes, what a round leaves is a fixed point
  fixed : (s : List ℕ) (n : ℕ) → 3 * n ≤ length s → n ≤ count_at image sets → sweep_changes image s n ≡ false → (u : ℕ) → u < n
      → pick (height_at (sweep image s n) u) ≡ height_of image counts limit (λ t. pick (height_at (sweep image s n) t)) u
  unfolding sweep sweep_changes
  fixed s zero room l e u m = absurd (omega arith)
  fixed s (suc n) room l e u m =
      elim (ℕ_discrete u n) [
        | yes p ↦ rw p top
        | no q ↦ fixed (measured image s n) n (omega (arith, long)) (omega arith) rest u (omega arith)
      ]
    where
      long : length (measured image s n) ≡ length s
      long = laws.same_words image s n

      rest : sweep_changes image (measured image s n) n ≡ false
      rest = (neither image (changes image s n) (sweep_changes image (measured image s n) n) e).1

      final : List ℕ
      final = sweep image (measured image s n) n

      same : (r t : ℕ) → Link image n r t → pick (height_at s t) ≡ pick (height_at final t)
      same r t k = go (leads good k.stands)
        where
          go : LeadsOn image n r → pick (height_at s t) ≡ pick (height_at final t)
          go (nowhere f ns) = absurd (k.some (sym k.leads ∙ f))
          go (to_own ns after known) = sym (ap pick (kept_above image s (suc n) t (rw (← k.leads) after)))
          go (to_fragment sp known f) = sym (ap pick (quiet image s (suc n) t room (rw (sym k.leads ∙ f) (is_fragment_set_lem good _ known)) e))

      top : pick (height_at final n) ≡ height_of image counts limit (λ t. pick (height_at final t)) n
      top =
          ap pick (kept_above image (measured image s n) n n (le_refl n))
          ∙ here s n (omega arith)
          ∙ highest_cong (λ t. pick (height_at s t)) (λ t. pick (height_at final t)) n _ l (le_refl _) same

  -- ---- a round

  module _ (s : List ℕ) (room : 3 * count_at image sets ≤ length s) {k : ℕ} (told : Told image counts limit pick k s) where
    pub round_tells : Told image counts limit pick (suc k) (sweep image s (count_at image sets))
    round_tells = record {
      sound = sweep_sound s _ room (le_refl _) told.sound;
      covers = sweep_covers s _ k room (le_refl _) (λ t h m. absurd (omega arith)) told.covers;
    }

    pub quiet_round_tells : sweep_changes image s (count_at image sets) ≡ false → (j : ℕ) → Told image counts limit pick j (sweep image s (count_at image sets))
    quiet_round_tells e j = record {
      sound = sweep_sound s _ room (le_refl _) told.sound;
      covers = λ t m. record { passed_by_none = λ rows c b. fixed_covers good counts limit (λ u. pick (height_at (sweep image s (count_at image sets)) u)) (fixed s _ room (le_refl _) e) m c };
    }
