-- Where selections stand, the sets being good: their ranges follow one another from 0, so a row between a set's start and end
-- stands in that set, and a row past the last end in none.
-- Assumes nothing.
use Prim.Native.Nat.{ℕ, zero, suc, ◌+◌, ◌<◌, ◌≤◌}
use mathlib.Core.Path.{◌≡◌}
use mathlib.Core.Bool.{false}
use mathlib.Core.List.{List}
use native.Mathlib.Nat.{le_refl}
use native.Mathlib.Numerals.{add-one}
use native.Mathlib.Decide.{le_ind, dec_le}
use native.Mathlib.Omega.{arith}
use lib.Dec.{leb}
use borrow.Author.Tests.{le-leb, lt-ltb, le-ltb}
use Rattle.lists.proofs.Tests.{both, second_fails}
use Rattle.lists.proofs.EveryLaws.{position_found, position_none}
use Rattle.tables.specs.Layout.{sets, selections}
use Rattle.tables.specs.Image.{count_at}
use Rattle.tables.specs.Columns.{set_selections}
use Rattle.tables.specs.Numbering.{set_end, set_start, stands_in, home_set}
use Rattle.rows.specs.Selections.{least_owned}
use Rattle.rows.specs.RowFault.{GoodBelow}
use Rattle.rows.proofs.PlainPromise.{set_row}

module _ (image : List ℕ) (good : GoodBelow image 5) where
  -- a set starts where the one before ends, and ends within the selections
  pub set_first : (s : ℕ) → s < count_at image sets → (set_selections image s).first ≡ set_start image s
  set_first s h = (set_row image 5 good (omega arith) s h).starts

  pub set_inside : (s : ℕ) → s < count_at image sets → set_end image s ≤ count_at image selections
  unfolding set_end
  set_inside s h = (set_row image 5 good (omega arith) s h).within.ends

  pub set_end_lem : (s : ℕ) → s < count_at image sets → set_start image s ≤ set_end image s
  unfolding set_end
  set_end_lem s h = omega (arith, set_first s h)

  pub start_inside : (s : ℕ) → s ≤ count_at image sets → set_start image s ≤ count_at image selections
  unfolding set_start
  start_inside zero h = omega arith
  start_inside (suc s) h = set_inside s h

  pub starts_grow : (s t : ℕ) → s ≤ t → t ≤ count_at image sets → set_start image s ≤ set_start image t
  unfolding set_start set_end
  starts_grow s t h =
      le_ind (λ (k : ℕ). k ≤ count_at image sets → set_start image s ≤ set_start image k) (λ _. le_refl _)
      (λ k _ ih more. omega (arith, ih (omega arith), set_first k more)) t h

  -- a row at or past a set's start stands in no set before it
  not_before : (s r : ℕ) → s ≤ count_at image sets → set_start image s ≤ r → (k : ℕ) → k < s → stands_in image r k ≡ false
  unfolding set_start
  not_before s r within from k less =
      let past : set_end image k ≤ r = omega (arith, starts_grow (suc k) s less within) in
      second_fails (leb (set_selections image k).first r) (le-ltb _ _ past)

  -- a row below the end of the last set stands below the end of some first
  pub some_set : (n r : ℕ) → n ≤ count_at image sets → r < set_start image n → (s : ℕ) × (s < count_at image sets) × (set_start image s ≤ r) × (r < set_end image s)
  unfolding set_start
  some_set zero r few less = absurd (omega arith)
  some_set (suc n) r few less =
      elim (dec_le (set_start image n) r) [
        | yes from ↦ (n, few, from, less)
        | no before ↦ some_set n r (omega arith) (omega arith)
      ]

  pub home_set_lem : (s r : ℕ) → s < count_at image sets → set_start image s ≤ r → r < set_end image s → home_set image r ≡ s
  unfolding home_set
  home_set_lem s r here from to =
      let first : (set_selections image s).first ≤ r = omega (arith, set_first s here) in
      position_found _ _ s here (not_before s r (omega arith) from) (both (le-leb _ _ first) (lt-ltb _ _ to))

  pub no_home : (r : ℕ) → set_start image (count_at image sets) ≤ r → home_set image r ≡ count_at image sets
  unfolding home_set
  no_home r from = position_none _ _ (not_before (count_at image sets) r (le_refl _) from)

  -- the least number of a set that the row may own
  pub least_in_set : (s r : ℕ) → s < count_at image sets → set_start image s ≤ r → r < set_end image s → least_owned image r ≡ s + 1
  unfolding least_owned
  least_in_set s r here from to = rw (home_set_lem s r here from to, lt-ltb _ _ here, add-one)

  pub least_in_none : (r : ℕ) → set_start image (count_at image sets) ≤ r → least_owned image r ≡ 0
  unfolding least_owned
  least_in_none r from = rw (no_home r from, le-ltb _ _ (le_refl _))
