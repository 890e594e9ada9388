-- What is left unclaimed where every row is right: a number short of its table's count, or, as specs/Meaning has it, a set that nobody
-- owns, a selection in no set, a value that nobody claims. Assumes nothing.
use Prim.Native.Nat.{ℕ, zero, suc, ◌+◌, ◌-◌, ◌<◌, ◌≤◌}
use mathlib.Core.Path.{◌≡◌, refl}
use mathlib.Core.Logic.{◌↔◌}
use mathlib.Core.Bool.{Bool, true, false, cond}
use mathlib.Core.List.{List}
use native.Mathlib.Nat.{le_refl}
use native.Mathlib.Numerals.{add-one}
use native.Mathlib.Decide.{dec_lt}
use native.Mathlib.Omega.{arith}
use Rattle.lists.proofs.EveryLaws.{all_below, total_grows}
use Rattle.tables.specs.Layout.{operations, fragments, sets, selections, arguments, values}
use Rattle.tables.specs.Image.{count_at}
use Rattle.tables.specs.Columns.{selection_target, selection_at}
use Rattle.tables.specs.Numbering.{set_start, owns_set, owned, next_set, next_value}
use Rattle.tables.specs.Good.{StandsIn}
use Rattle.tables.proofs.ColumnLaws.{next_set_first, next_set_more}
use Rattle.rows.specs.RowFault.{row_rule, GoodBelow}
use Rattle.rows.specs.Meaning.{IsOwned, by_operation, by_fragment, by_selection, NoSetLeft, NoSelectionLeft, IsClaimed, by_argument, by_holder, NoValueLeft}
use Rattle.rows.proofs.HomeLaws.{set_first, some_set, starts_grow}
use Rattle.rows.proofs.LevelLaws.{Held, GoodBefore, good_values, next_start, next_grows, held_by}
use Rattle.rows.proofs.ValueMeaning.{member_claimed, claimed_member}
use Rattle.rows.proofs.SelectionMeaning.{owner_means, owned_number}

module _ (image : List ℕ) (good : GoodBelow image 9) where
  lower : GoodBelow image 5
  lower = record { header = good.header; rows = λ t ht. good.rows t (omega arith) }

  -- ---- sets

  numbers_grow : (q r : ℕ) → q ≤ r → next_set image q ≤ next_set image r
  unfolding next_set
  numbers_grow q r h = total_grows (count_at image operations + count_at image fragments) (owned image) q r h

  number : (r : ℕ) → r < count_at image selections → owns_set (selection_at image r) ≡ true → selection_target image r ≡ next_set image r
  unfolding row_rule
  number r h owns = owned_number image r (good.rows selections (omega arith) r h) owns

  -- the owner of a set whose number the first n selections take
  owner : (n s : ℕ) → n ≤ count_at image selections → count_at image operations + count_at image fragments ≤ s → s < next_set image n → IsOwned image s
  owner zero s few past less = absurd (omega (arith, next_set_first image))
  owner (suc n) s few past less =
      elim (dec_lt s (next_set image n)) [
        | yes earlier ↦ owner n s (omega arith) past earlier
        | no here ↦ go (owns_set (selection_at image n)) refl (omega arith)
      ]
    where
      more : (b : Bool) → owns_set (selection_at image n) ≡ b → next_set image (suc n) ≡ next_set image n + cond b 1 0
      more b e = rw (← add-one n, next_set_more image n, e)

      go : (b : Bool) → owns_set (selection_at image n) ≡ b → next_set image n ≤ s → IsOwned image s
      go true owns from = by_selection n few ((owner_means image n).0 owns) (omega (arith, number n few owns, more true owns))
      go false owning_none from = absurd (omega (arith, more false owning_none))

  pub sets_exactly : (count_at image sets ≤ next_set image (count_at image selections)) ↔ NoSetLeft image
  sets_exactly = (says, λ all. all_below _ _ (λ s h. taken s (all s h)))
    where
      says : count_at image sets ≤ next_set image (count_at image selections) → NoSetLeft image
      says few s h =
          elim (dec_lt s (count_at image operations)) [
            | yes own ↦ by_operation own
            | no past ↦ elim (dec_lt s (count_at image operations + count_at image fragments)) [
              | yes own ↦ by_fragment (s - count_at image operations) (omega arith) (omega arith)
              | no last ↦ owner (count_at image selections) s (le_refl _) (omega arith) (omega arith)
            ]
          ]

      least : count_at image operations + count_at image fragments ≤ next_set image (count_at image selections)
      least = omega (arith, next_set_first image, numbers_grow 0 (count_at image selections) (omega arith))

      by_owner : (r s : ℕ) → r < count_at image selections → owns_set (selection_at image r) ≡ true → selection_target image r ≡ s → s < next_set image (count_at image selections)
      by_owner r s h owns to =
          let more : next_set image (r + 1) ≡ next_set image r + 1 = rw (next_set_more image r, owns) in
          omega (arith, number r h owns, numbers_grow (r + 1) (count_at image selections) (omega arith))

      taken : (s : ℕ) → IsOwned image s → s < next_set image (count_at image selections)
      taken s (by_operation own) = omega (arith, least)
      taken s (by_fragment j few e) = omega (arith, least)
      taken s (by_selection r few owns to) = by_owner r s few ((owner_means image r).1 owns) to

  -- ---- selections

  pub selections_exactly : (count_at image selections ≤ set_start image (count_at image sets)) ↔ NoSelectionLeft image
  unfolding set_start
  selections_exactly = (says, λ all. all_below _ _ (λ r h. stands r (all r h).0 (all r h).1))
    where
      says : count_at image selections ≤ set_start image (count_at image sets) → NoSelectionLeft image
      says few r h =
          let place = some_set image lower (count_at image sets) r (le_refl _) (omega arith) in
          (place.0, record { known = place.1; from = omega (arith, set_first image lower place.0 place.1, place.2); below = place.3 })

      stands : (r s : ℕ) → StandsIn image r s → r < set_start image (count_at image sets)
      stands r s st = omega (arith, st.below, starts_grow image lower (suc s) (count_at image sets) st.known (le_refl _))

  -- ---- values

  before : GoodBefore image (count_at image values)
  before = good_values good (omega arith)

  pub values_exactly : (count_at image values ≤ next_value image (count_at image values)) ↔ NoValueLeft image
  values_exactly = (says, λ all. all_below _ _ (λ v h. taken v (all v h)))
    where
      says : count_at image values ≤ next_value image (count_at image values) → NoValueLeft image
      says few v h =
          elim (dec_lt v (count_at image arguments)) [
            | yes own ↦ by_argument own
            | no past ↦
                let held : Held image (count_at image values) v = held_by image (count_at image values) v (omega arith) (omega arith) in
                by_holder held.holder held.earlier (claimed_member image held.holder v (before held.holder held.earlier) held.from held.to)
          ]

      taken : (v : ℕ) → IsClaimed image v → v < next_value image (count_at image values)
      taken v (by_argument own) = omega (arith, next_start image, next_grows image 0 (count_at image values) (omega arith))
      taken v (by_holder u h m) = omega (arith, (member_claimed image u v (before u h) m).1, next_grows image (u + 1) (count_at image values) (omega arith))
