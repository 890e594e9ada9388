-- Every set of a good image lies inside an operation or a fragment. Assumes nothing.
use Prim.Native.Nat.{ℕ, zero, suc, ◌+◌, ◌-◌, ◌<◌, ◌≤◌}
use mathlib.Core.Path.{◌≡◌, refl, subst, ◌∙◌}
use mathlib.Core.Logic.{⊎_elim}
use mathlib.Core.Bool.{Bool, true, false, cond}
use mathlib.Core.List.{List}
use native.Mathlib.Omega.{arith}
use native.Mathlib.Decide.{dec_le}
use Rattle.tables.specs.Layout.{operations, fragments, sets, selections}
use Rattle.tables.specs.Image.{count_at}
use Rattle.tables.specs.Columns.{spread, selection_kind, selection_target, selection_at, fragment_set}
use Rattle.tables.specs.Numbering.{owns_set, next_set}
use Rattle.tables.specs.Good.{Good, GoodOwned, StandsIn}
use Rattle.tables.proofs.ColumnLaws.{owners, next_set_first, next_set_more}
use Rattle.fragment.specs.Meaning.{Inside, at_top, deeper}

pub data Owner (image : List ℕ) (s : ℕ) : Type 0 where
  of_operation : {i : ℕ} → i < count_at image operations → Inside image i s → Owner image s
  of_fragment : {f : ℕ} → f < count_at image fragments → Inside image (fragment_set image f) s → Owner image s

-- a selection that owns set s
record Owning (image : List ℕ) (s : ℕ) : Type 0 where
  row : ℕ
  known : row < count_at image selections
  owns : owns_set (selection_at image row) ≡ true
  number : next_set image row ≡ s

module _ {image : List ℕ} (good : Good image) where
  owning_below : (n s : ℕ) → n ≤ count_at image selections → count_at image operations + count_at image fragments ≤ s → s < next_set image n → Owning image s
  owning_below zero s le from to = absurd (omega (arith, next_set_first image))
  owning_below (suc n) s le from to =
      elim (dec_le (suc s) (next_set image n)) [
        | yes before ↦ owning_below n s (omega arith) from before
        | no here ↦ go (owns_set (selection_at image n)) refl (omega arith) (rw (more, next_set_more image n) at to)
      ]
    where
      more : suc n ≡ n + 1
      more = omega arith

      go : (b : Bool) → owns_set (selection_at image n) ≡ b → next_set image n ≤ s → s < next_set image n + cond b 1 0 → Owning image s
      go true e least most = record { row = n; known = le; owns = e; number = omega arith }
      go false e least most = absurd (omega arith)

  owned_by : {s : ℕ} (o : Owning image s) → GoodOwned image o.row × (selection_kind image o.row ≡ spread → ⊥)
  owned_by o =
      let row = good.selection o.row o.known in
      ⊎_elim (λ i. (row.inline_owned i, λ e. omega arith)) (λ f. ((row.field_row f.0).owned f.1, λ e. omega (arith, f.0))) (owners image o.row o.owns)

  in_owner : {t r u : ℕ} → Owner image t → StandsIn image r t → (selection_kind image r ≡ spread → ⊥) → selection_target image r ≡ u → u < count_at image sets → Owner image u
  in_owner (of_operation l i) st ne e known = of_operation l (deeper i st ne e known)
  in_owner (of_fragment l i) st ne e known = of_fragment l (deeper i st ne e known)

  owner_in : (n s : ℕ) → s < n → s < count_at image sets → Owner image s
  owner_in zero s less known = absurd (omega arith)
  owner_in (suc n) s less known =
      elim (dec_le (count_at image operations) s) [
        | no op ↦ of_operation {i = s} (omega arith) at_top
        | yes past ↦ elim (dec_le (count_at image operations + count_at image fragments) s) [
          | no fr ↦
              let f = s - count_at image operations in
              let l : f < count_at image fragments = omega arith in
              let e : fragment_set image f ≡ s = (good.fragment f l).set_number ∙ omega arith in
              of_fragment l (subst (Inside image (fragment_set image f)) e at_top)
          | yes own ↦
              let o = owning_below (count_at image selections) s (omega arith) own (omega (arith, good.all_owned)) in
              let (g, ne) = owned_by o in
              let number : selection_target image o.row ≡ s = g.number ∙ o.number in
              let home = (good.selection o.row o.known).home in
              let later = g.later in
              in_owner (owner_in n _ (omega arith) home.known) home ne number known
        ]
      ]

  pub owner : (s : ℕ) → s < count_at image sets → Owner image s
  owner s known = owner_in (suc s) s (omega arith) known
