-- What a height says: it is reached by a chain (`Sound`), and no chain of so many spreads passes it (`Covers`). Both go from the
-- sets below to the set above. Assumes nothing.
use Prim.Native.Nat.{ℕ, zero, suc, ◌+◌, ◌<◌, ◌≤◌, max, zero-le}
use mathlib.Core.Path.{◌≡◌, refl, sym, ◌∙◌}
use mathlib.Core.Bool.{Bool}
use mathlib.Core.List.{List, [], ◌∷◌}
use native.Mathlib.Decide.{dec_le, ℕ_discrete}
use native.Mathlib.Nat.{le_refl}
use native.Mathlib.Omega.{arith}
use borrow.Author.Tests.{eq-eqb, ne_eqb}
use lib.ListN.{length}
use Rattle.tables.specs.Layout.{NONE, sets}
use Rattle.tables.specs.Image.{count_at, row_in}
use Rattle.tables.specs.Columns.{set_selections}
use Rattle.tables.specs.Good.{Good, StandsIn}
use Rattle.reach.proofs.ReachMeaning.{member_stands, stands_member}
use Rattle.fragment.specs.Chains.{below, one_if, weigh, is_spread, Link, Chain, end, last, link, Sound}
use Rattle.fragment.specs.Heights.{cut_off, through, highest, height_of, height_in}
use Rattle.fragment.proofs.Links.{LeadsOn, nowhere, to_own, to_fragment, leads, known_some, fragment_set_in}
use Rattle.fragment.proofs.ChainLaws.{link_in}

-- n is a height of set s at least, as far as chains with fewer than k spreads go
pub record Covers (image : List ℕ) (counts : ℕ → Bool) (limit k n s : ℕ) : Type 0 where
  pub passed_by_none : (rows : List ℕ) → Chain image s rows → weigh (is_spread image) rows < k → cut_off limit (weigh counts rows) ≤ n

module _ {image : List ℕ} (good : Good image) (counts : ℕ → Bool) (limit : ℕ) (h : ℕ → ℕ) where
  -- ---- reached by a chain

  module _ (sound : (t : ℕ) → t < count_at image sets → Sound image counts limit (h t) t) where
    through_sound : {s r : ℕ} → StandsIn image r s → Sound image counts limit (through image counts limit h r) s
    unfolding through weigh
    through_sound {s} {r} st = go (leads good st)
      where
        some : below image r < count_at image sets → Sound image counts limit (through image counts limit h r) s
        some known =
            let x = (sound (below image r) known).reached in
            let ne = known_some good known in
            let l : Link image s r (below image r) = record { stands = st; leads = refl; some = ne } in
            record { cut = omega arith; reached = record { rows = r ∷ x.rows; chain = link l x.chain; weighs = rw (ne_eqb _ _ ne) (omega (arith, x.weighs)) } }

        go : LeadsOn image s r → Sound image counts limit (through image counts limit h r) s
        go (nowhere e ns) = record { cut = omega arith; reached = record { rows = r ∷ []; chain = last st; weighs = rw (eq-eqb _ _ e) (omega arith) } }
        go (to_own ns later known) = some known
        go (to_fragment sp known e) = some (rw e (fragment_set_in good _ known))

    pub highest_sound : (s n : ℕ) → s < count_at image sets → n ≤ (set_selections image s).count → Sound image counts limit (highest image counts limit h s n) s
    unfolding highest
    highest_sound s zero l m = record { cut = omega arith; reached = record { rows = []; chain = end; weighs = zero-le } }
    highest_sound s (suc n) l m = go _ _ (highest_sound s n l (omega arith)) (through_sound (member_stands image good s n l m))
      where
        go : (a b : ℕ) → Sound image counts limit a s → Sound image counts limit b s → Sound image counts limit (max a b) s
        go a b x y =
            elim (dec_le a b) [
              | yes p ↦ let e : max a b ≡ b = omega arith in rw e y
              | no q ↦ let e : max a b ≡ a = omega arith in rw e x
            ]

    pub height_sound : (s : ℕ) → s < count_at image sets → Sound image counts limit (height_of image counts limit h s) s
    height_sound s l = highest_sound s _ l (le_refl _)

  -- ---- passed by none

  through_counted : (s k n : ℕ) → k < n → through image counts limit h (row_in (set_selections image s) k) ≤ highest image counts limit h s n
  unfolding highest
  through_counted s k zero l = absurd (omega arith)
  through_counted s k (suc n) l =
      elim (ℕ_discrete k n) [
        | yes e ↦ rw e (omega arith)
        | no ne ↦ let ih = through_counted s k n (omega arith) in omega arith
      ]

  through_height : {s r : ℕ} → StandsIn image r s → through image counts limit h r ≤ height_of image counts limit h s
  through_height {s} {r} st =
      let (k, inside, row) = stands_member image good r s st in
      let le = through_counted s k _ inside in
      rw row at le

  pub last_covered : {s r : ℕ} → StandsIn image r s → cut_off limit (weigh counts (r ∷ [])) ≤ height_of image counts limit h s
  unfolding through weigh
  last_covered {s} {r} st = let g : through image counts limit h r ≤ height_of image counts limit h s = through_height st in omega arith

  pub link_covered : {s r t : ℕ} (rows : List ℕ) → Link image s r t → cut_off limit (weigh counts rows) ≤ h t → cut_off limit (weigh counts (r ∷ rows)) ≤ height_of image counts limit h s
  unfolding through weigh
  link_covered {s} {r} {t} rows l le =
      let g : through image counts limit h r ≤ height_of image counts limit h s = through_height l.stands in
      let ne = ne_eqb t NONE l.some in
      let g' : cut_off limit (one_if (counts r) + h t) ≤ height_of image counts limit h s = rw (l.leads, ne) at g in
      omega arith

  -- later sets cover one spread more
  pub height_covers : (s k : ℕ)
      → ((t : ℕ) → s < t → t < count_at image sets → Covers image counts limit (suc k) (h t) t)
      → ((t : ℕ) → t < count_at image sets → Covers image counts limit k (h t) t)
      → Covers image counts limit (suc k) (height_of image counts limit h s) s
  unfolding weigh
  height_covers s k later all = record { passed_by_none = go }
    where
      go : (rows : List ℕ) → Chain image s rows → weigh (is_spread image) rows < suc k → cut_off limit (weigh counts rows) ≤ height_of image counts limit h s
      go rows end m = omega arith
      go rows (last st) m = last_covered st
      go rows (link {r = r} {t = t} {rows = rest} l c) m = link_covered rest l (by (leads good l.stands))
        where
          by : LeadsOn image s r → cut_off limit (weigh counts rest) ≤ h t
          by (nowhere e ns) = absurd (l.some (sym l.leads ∙ e))
          by (to_own ns after known) = let m' : 0 + weigh (is_spread image) rest < suc k = rw ns at m in (later t (rw (← l.leads) after) (link_in good l)).passed_by_none rest c (omega arith)
          by (to_fragment sp known e) = let m' : 1 + weigh (is_spread image) rest < suc k = rw sp at m in (all t (link_in good l)).passed_by_none rest c (omega arith)

  -- a fixed point covers every chain
  pub fixed_covers : ((s : ℕ) → s < count_at image sets → h s ≡ height_of image counts limit h s) → {s : ℕ} {rows : List ℕ} → s < count_at image sets → Chain image s rows → cut_off limit (weigh counts rows) ≤ h s
  unfolding weigh
  fixed_covers fixed l end = omega arith
  fixed_covers fixed {s} l (last st) = rw (fixed s l) (last_covered st)
  fixed_covers fixed {s} l (link {rows = rest} k c) = rw (fixed s l) (link_covered rest k (fixed_covers fixed (link_in good k) c))

module _ {image : List ℕ} (good : Good image) (counts : ℕ → Bool) (limit : ℕ) where
  pub steps_sound : (n s : ℕ) → s < count_at image sets → Sound image counts limit (height_in image counts limit n s) s
  unfolding height_in
  steps_sound zero s l = record { cut = omega arith; reached = record { rows = []; chain = end; weighs = zero-le } }
  steps_sound (suc n) s l = height_sound good counts limit (height_in image counts limit n) (steps_sound n) s l

  pub steps_cover : (n : ℕ) {s : ℕ} {rows : List ℕ} → Chain image s rows → length rows ≤ n → cut_off limit (weigh counts rows) ≤ height_in image counts limit n s
  unfolding height_in weigh
  steps_cover zero end m = omega arith
  steps_cover (suc n) end m = omega arith
  steps_cover zero (last st) m = absurd (omega arith)
  steps_cover (suc n) (last st) m = last_covered good counts limit (height_in image counts limit n) st
  steps_cover zero (link l c) m = absurd (omega arith)
  steps_cover (suc n) (link {rows = rest} l c) m = link_covered good counts limit (height_in image counts limit n) rest l (steps_cover n c (omega arith))
