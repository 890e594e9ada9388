-- The highest rise: no link leads past it but down, and a fragment above it does not reach itself. Assumes nothing.
use Prim.Native.Nat.{ℕ, zero, suc, ◌+◌, ◌*◌, ◌<◌, ◌≤◌, max}
use mathlib.Core.Path.{◌≡◌, refl, sym, ap, ◌∙◌}
use mathlib.Core.Logic.{inl, inr}
use mathlib.Core.List.{List}
use native.Mathlib.Decide.{dec_le, ℕ_discrete}
use native.Mathlib.Numerals.{add-one}
use native.Mathlib.Omega.{arith}
use borrow.Author.Tests.{ne_eqb, le-ltb}
use lib.ListN.{get_or}
use Rattle.tables.specs.Layout.{NONE, sets}
use Rattle.tables.specs.Image.{count_at, row_in}
use Rattle.tables.specs.Columns.{set_selections}
use Rattle.tables.specs.Good.{Good}
use Rattle.reach.proofs.ReachMeaning.{stands_member}
use Rattle.fragment.specs.Chains.{below}
use Rattle.fragment.specs.Rise.{place_at, rise_of, rise_in, highest_rise, RisesTo}
use Rattle.fragment.specs.Walks.{HeightsKept}
use Rattle.fragment.proofs.ChainLaws.{link_in}

module _ (image s : List ℕ) where
  -- an order that stands behind one word for each set
  pub front_place : (t : ℕ) {p : ℕ} → p ≡ get_or s (1 * count_at image sets + t) 0 → p ≡ place_at image s t
  unfolding place_at
  front_place t e = e ∙ ap (λ (k : ℕ). get_or s k 0) (omega arith)

  -- ---- the loops

  pub none_risen : (t : ℕ) → 0 ≡ rise_in image s t 0
  unfolding rise_in
  none_risen t = refl

  pub one_risen : (t n : ℕ) {a b c r p : ℕ} → a ≡ rise_in image s t n → p ≡ place_at image s t → r ≡ row_in (set_selections image t) n → b ≡ rise_of image s p r → c ≡ max a b → c ≡ rise_in image s t (n + 1)
  unfolding rise_in
  one_risen t n so_far place row next e = rw (add-one, e, so_far, next, place, row)

  pub no_set_risen : 0 ≡ highest_rise image s 0
  unfolding highest_rise
  no_set_risen = refl

  pub one_set_risen : (n : ℕ) {a b c : ℕ} → a ≡ highest_rise image s n → b ≡ rise_in image s n (set_selections image n).count → c ≡ max a b → c ≡ highest_rise image s (n + 1)
  unfolding highest_rise
  one_set_risen n so_far next e = rw (add-one, e, so_far, next)

  -- ---- what it says

  rises_there : (place r : ℕ) → (below image r ≡ NONE → ⊥) → place ≤ place_at image s (below image r) → place_at image s (below image r) ≡ rise_of image s place r
  unfolding rise_of
  rises_there place r some l = rw (ne_eqb _ _ some, le-ltb _ _ l)

  row_counted : (t k n : ℕ) → k < n → rise_of image s (place_at image s t) (row_in (set_selections image t) k) ≤ rise_in image s t n
  unfolding rise_in
  row_counted t k zero l = absurd (omega arith)
  row_counted t k (suc n) l =
      elim (ℕ_discrete k n) [
        | yes e ↦ rw e (omega arith)
        | no ne ↦ let ih = row_counted t k n (omega arith) in omega arith
      ]

  set_counted : (t n : ℕ) → t < n → rise_in image s t (set_selections image t).count ≤ highest_rise image s n
  unfolding highest_rise
  set_counted t zero l = absurd (omega arith)
  set_counted t (suc n) l =
      elim (ℕ_discrete t n) [
        | yes e ↦ rw e (omega arith)
        | no ne ↦ let ih = set_counted t n (omega arith) in omega arith
      ]

  pub risen : Good image → {rise : ℕ} → rise ≡ highest_rise image s (count_at image sets) → RisesTo image (place_at image s) rise
  risen good {rise} e t r u l =
      let (k, inside, row) = stands_member image good r t l.stands in
      let a : rise_of image s (place_at image s t) r ≤ rise_in image s t (set_selections image t).count = rw row at (row_counted t k _ inside) in
      let b = set_counted t _ l.stands.known in
      let some : below image r ≡ NONE → ⊥ = λ none. l.some (sym l.leads ∙ none) in
      let here : place_at image s (below image r) ≡ place_at image s u = ap (place_at image s) l.leads in
      elim (dec_le (place_at image s t) (place_at image s u)) [
        | no less ↦ inl (omega arith)
        | yes up ↦ inr (let c = rises_there (place_at image s t) r some (omega arith) in omega arith)
      ]

-- walks change no places
pub risen_still : {image s s' : List ℕ} {rise : ℕ} → Good image → HeightsKept image s s' → RisesTo image (place_at image s) rise → RisesTo image (place_at image s') rise
unfolding place_at
risen_still {image} {s} {s'} good kept rises t r u l =
    let a : get_or s' (count_at image sets + t) 0 ≡ get_or s (count_at image sets + t) 0 = kept.below _ (omega (arith, l.stands.known)) in
    let b : get_or s' (count_at image sets + u) 0 ≡ get_or s (count_at image sets + u) 0 = kept.below _ (omega (arith, link_in good l)) in
    rw (a, b) (rises t r u l)
