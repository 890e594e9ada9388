-- Where the selections of a good image lead: to a fragment's set, to a later set of their own, or nowhere.
-- Assumes nothing.
use Prim.Native.Nat.{ℕ, ◌<◌}
use mathlib.Core.Path.{◌≡◌, ◌∙◌}
use mathlib.Core.Bool.{true, false}
use mathlib.Core.List.{List}
use native.Mathlib.Decide.{ℕ_discrete}
use native.Mathlib.Omega.{arith}
use borrow.Author.Tests.{eq-eqb, ne_eqb}
use Rattle.tables.specs.Layout.{NONE, fragments, sets}
use Rattle.tables.specs.Image.{count_at}
use Rattle.tables.specs.Columns.{field, spread, selection_kind, selection_target, fragment_set}
use Rattle.tables.specs.Good.{Good, StandsIn, GoodOwned}
use Rattle.tables.proofs.ColumnLaws.{below_spread, below_own}
use Rattle.reach.proofs.ReachMeaning.{few_sets, stands_row}
use Rattle.fragment.specs.Chains.{below, is_spread}

-- where a selection of set s leads
pub data LeadsOn (image : List ℕ) (s r : ℕ) : Type 0 where
  nowhere : below image r ≡ NONE → is_spread image r ≡ false → LeadsOn image s r
  to_own : is_spread image r ≡ false → s < below image r → below image r < count_at image sets → LeadsOn image s r
  to_fragment : is_spread image r ≡ true → selection_target image r < count_at image fragments → below image r ≡ fragment_set image (selection_target image r) → LeadsOn image s r

module _ {image : List ℕ} (good : Good image) where
  pub fragment_set_in : (f : ℕ) → f < count_at image fragments → fragment_set image f < count_at image sets
  fragment_set_in f h = (good.fragment f h).set

  -- an existing set is not NONE
  pub known_some : {t : ℕ} → t < count_at image sets → t ≡ NONE → ⊥
  known_some h e = omega (arith, few_sets image good)

  module _ {s r : ℕ} (st : StandsIn image r s) where
    own : (selection_kind image r ≡ spread → ⊥) → GoodOwned image r → LeadsOn image s r
    unfolding is_spread
    own ne o =
        let home = good.one_home r s st in
        let target = below_own image r ne in
        to_own (ne_eqb _ _ ne) (rw target (rw (← home) at o.later)) (rw target o.known)

    pub leads : LeadsOn image s r
    unfolding is_spread
    leads =
        let g = good.selection r (stands_row image good r s st) in
        elim (ℕ_discrete (selection_kind image r) spread) [
          | yes e ↦ to_fragment (eq-eqb _ _ e) (g.spread_target e) (below_spread image r e)
          | no ne ↦ elim (ℕ_discrete (selection_kind image r) field) [
            | yes f ↦ elim (ℕ_discrete (selection_target image r) NONE) [
              | yes n ↦ nowhere (below_own image r ne ∙ n) (ne_eqb _ _ ne)
              | no m ↦ own ne ((g.field_row f).owned m)
            ]
            | no nf ↦ own ne (g.inline_owned (omega (arith, g.kind)))
          ]
        ]
