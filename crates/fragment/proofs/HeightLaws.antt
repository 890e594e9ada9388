-- Laws of what is measured of one selection, of one set, and in a round. Assumes nothing.
use Prim.Native.Nat.{ℕ, zero, suc, ◌+◌, ◌-◌, ◌<◌, max}
use mathlib.Core.Path.{◌≡◌, refl, sym, ap, ◌∙◌}
use mathlib.Core.Bool.{Bool, true, false, not, ◌&&◌, ◌||◌}
use Rattle.std.specs.Prelude.{Option, Some, None, cond}
use Rattle.std.proofs.Math.Bool.{and_assoc, or_assoc}
use Rattle.fragment.specs.Order.{leads_lower, all_lower}
use mathlib.Core.List.{List}
use native.Mathlib.Numerals.{add-one}
use native.Mathlib.Omega.{arith}
use lib.Dec.{eqb}
use lib.ListN.{length, length-set}
use Rattle.tables.specs.Layout.{NONE}
use Rattle.tables.specs.Image.{row_in}
use Rattle.tables.specs.Columns.{field, spread, selection_at, set_below, set_or_none, set_selections, is_empty_set}
use Rattle.tables.specs.declared.columns.Selection.{Selection}
use Rattle.fragment.specs.declared.heights.Height.{Height}
use Rattle.fragment.specs.Chains.{one_if, is_spread, is_nesting, nests_in}
use Rattle.fragment.specs.Heights.{cut_off, most_chain, most_links, most_nested, through, highest}
use Rattle.fragment.specs.Rounds.{same_height, no_height, height_below, height_of, row_height, highest_of, measured, changes, sweep, sweep_changes}

-- a set that a word names, or none
height_named : (h : ℕ → Height) (t : ℕ) → height_of h (set_or_none t) ≡ height_below h t
unfolding height_below
height_named h t = go (eqb t NONE)
  where
    go : (b : Bool) → height_of h (cond b None (Some t)) ≡ record { chain = cond b 0 (h t).chain; links = cond b 0 (h t).links; nested = cond b 0 (h t).nested }
    go true = refl
    go false = refl

nests_named : (image : List ℕ) (kind t : ℕ) → nests_in image kind (set_or_none t) ≡ is_nesting image kind t
unfolding is_nesting
nests_named image kind t = go (eqb kind field) refl (eqb t NONE)
  where
    go : (a : Bool) → eqb kind field ≡ a → (b : Bool) → nests_in image kind (cond b None (Some t)) ≡ (a && not b && not (is_empty_set image t))
    go true e true = refl
    go false e true = refl
    go true e false = rw e
    go false e false = rw e

-- the three numbers of a selection
module _ (image : List ℕ) (h : ℕ → Height) (r : ℕ) {row : Selection} {set : Option ℕ} {below : Height} (read : row ≡ selection_at image r) (leads : set ≡ set_or_none (set_below image row)) (under : below ≡ height_of h set) where
  there : set ≡ set_or_none (set_below image (selection_at image r))
  there = rw (← read) leads

  below_is : below ≡ height_below h (set_below image (selection_at image r))
  below_is = rw (under, there) (height_named h _)

  pub chain_through : {n : ℕ} → n ≡ cut_off most_chain (one_if (eqb row.kind spread) + below.chain) → n ≡ (row_height image h r).chain
  unfolding through is_spread height_below
  chain_through e = rw (e, below_is, read)

  pub links_through : {n : ℕ} → n ≡ cut_off most_links (one_if true + below.links) → n ≡ (row_height image h r).links
  unfolding through height_below
  links_through e = rw (e, below_is)

  pub nested_through : {n : ℕ} {b : Bool} → b ≡ nests_in image row.kind set → n ≡ cut_off most_nested (one_if b + below.nested) → n ≡ (row_height image h r).nested
  unfolding through height_below
  nested_through f e = rw (e, f, below_is, read, there, nests_named)

pub all_three : {a b : Height} → a.chain ≡ b.chain → a.links ≡ b.links → a.nested ≡ b.nested → a ≡ b
all_three {a} {b} p q r =
    ap (λ (x : ℕ). record { chain = x; links = a.links; nested = a.nested }) p
    ∙ ap (λ (x : ℕ). record { chain = b.chain; links = x; nested = a.nested }) q
    ∙ ap (λ (x : ℕ). record { chain = b.chain; links = b.links; nested = x }) r

-- one selection more
module _ (image : List ℕ) (h : ℕ → Height) (s n : ℕ) where
  pub none_passed : no_height ≡ highest_of image h s 0
  unfolding highest
  none_passed = refl

  pub one_passed : {a b c : Height} {r : ℕ} → a ≡ highest_of image h s n → r ≡ row_in (set_selections image s) n → b ≡ row_height image h r
      → (c.chain ≡ max a.chain b.chain) × (c.links ≡ max a.links b.links) × (c.nested ≡ max a.nested b.nested)
      → c ≡ highest_of image h s (n + 1)
  unfolding highest
  one_passed {c = c} so_far row next (p, q, r) = rw add-one (all_three (rw (p, so_far, next, row)) (rw (q, so_far, next, row)) (rw (r, so_far, next, row)))

-- the equality of heights, as derived
pub same_by : (g h : Height) → (eqb g.chain h.chain && (eqb g.links h.links && eqb g.nested h.nested)) ≡ same_height g h
unfolding same_height
same_by g h = sym (and_assoc (eqb g.chain h.chain) _ _)

pub same_words : (image s : List ℕ) (t : ℕ) → length (measured image s t) ≡ length s
unfolding measured
same_words image s t = simp length-set

-- a turn of the round, from so many sets left
module _ (image : List ℕ) where
  pub sweep_turn : (s : List ℕ) (left : ℕ) {s' : List ℕ} → 0 < left → s' ≡ measured image s (left - 1) → sweep image s' (left - 1) ≡ sweep image s left
  unfolding sweep
  sweep_turn s zero some e = absurd (omega arith)
  sweep_turn s (suc n) some e = let p : suc n - 1 ≡ n = omega arith in rw (e, p)

  pub changes_turn : (s : List ℕ) (left : ℕ) (so_far : Bool) {s' : List ℕ} {b : Bool} → 0 < left → s' ≡ measured image s (left - 1) → b ≡ changes image s (left - 1)
      → ((so_far || b) || sweep_changes image s' (left - 1)) ≡ (so_far || sweep_changes image s left)
  unfolding sweep_changes
  changes_turn s zero so_far some here e = absurd (omega arith)
  changes_turn s (suc n) so_far some here e = let p : suc n - 1 ≡ n = omega arith in rw (here, e, p) (or_assoc so_far _ _)

  pub sweep_done : (s : List ℕ) (left : ℕ) → left ≡ 0 → sweep image s left ≡ s
  unfolding sweep
  sweep_done s left e = rw e

  pub changes_done : (s : List ℕ) (left : ℕ) (so_far : Bool) → left ≡ 0 → (so_far || sweep_changes image s left) ≡ so_far
  unfolding sweep_changes
  changes_done s left true e = refl
  changes_done s left false e = rw e

-- and whether all lead lower
pub one_lower_more : (image s : List ℕ) (place t n : ℕ) {a b c : Bool} {r : ℕ} → a ≡ all_lower image s place t n → r ≡ row_in (set_selections image t) n → b ≡ leads_lower image s place r → c ≡ (a && b) → c ≡ all_lower image s place t (n + 1)
unfolding all_lower
one_lower_more image s place t n so_far row next e = rw (add-one, e, so_far, next, row)
