-- The loop over the operations: what holds after i of them.
use Prim.Native.Nat.{ℕ, suc, ◌+◌, ◌-◌, ◌<◌, ◌≤◌}
use mathlib.Core.Path.{◌≡◌, refl, sym, ap, ◌∙◌, subst}
use mathlib.Core.List.{List}
use native.Mathlib.Omega.{arith}
use lib.ListN.{length}
use Rattle.merge_theory.specs.Walk.{check}
use Rattle.merge_theory.proofs.Engines.{check_decides}
use Rattle.tables.specs.Layout.{operations}
use Rattle.tables.specs.Image.{count_at}
use Rattle.selection.specs.declared.arena.Reply.{Reply}
use Rattle.query.specs.Reply.{answer, operations_from, walked_reply}
use Rattle.query.specs.Operation.{operation_reply, Lent, Checked, CheckedAll}
use Rattle.query.proofs.OneOperation.{stops, goes_on, used_within}

-- i operations pass, and the reply is what the others say from there
pub record Going (image : List ℕ) (work : ℕ) (s₀ s : List ℕ) (i used : ℕ) : Type 0 where
  pub long : length s ≡ length s₀
  pub lent : Lent image work s
  pub within : used ≤ work
  pub few : i ≤ count_at image operations
  pub goes : walked_reply check image work ≡ operations_from check image work (count_at image operations - i) i used

all : (n : ℕ) → n ≡ n - 0
all n = omega arith

module _ {image : List ℕ} {work : ℕ} where
  pub going_first : {s : List ℕ} → Lent image work s → Going image work s s 0 0
  going_first lent = record { long = refl; lent = lent; within = omega arith; few = omega arith; goes = ap (λ (n : ℕ). operations_from check image work n 0 0) (all (count_at image operations)) }

  module _ {s₀ s : List ℕ} {i used : ℕ} (going : Going image work s₀ s i used) where
    one_more : i < count_at image operations → count_at image operations - i ≡ suc (count_at image operations - suc i)
    one_more own = omega arith

    module _ {s' : List ℕ} (own : i < count_at image operations) where
      pub going_next : {u : ℕ} → Checked image work s s' i used (answer 0 i 0 0 u) → Going image work s₀ s' (i + 1) u
      going_next {u} checked =
          let next : i + 1 ≡ suc i = omega arith in
          let here : operations_from check image work (count_at image operations - i) i used ≡ operations_from check image work (suc (count_at image operations - suc i)) i used = ap (λ (n : ℕ). operations_from check image work n i used) (one_more own) in
          let spent = ap (λ (r : Reply). r.used) checked.says in
          let after = goes_on check image work i (count_at image operations - suc i) used (sym (ap (λ (r : Reply). r.kind) checked.says)) in
          let later : operations_from check image work (count_at image operations - suc i) (suc i) (operation_reply check image work i used).used ≡ operations_from check image work (count_at image operations - (i + 1)) (i + 1) u = rw (spent, next) refl in
          record {
            long = checked.long ∙ going.long;
            lent = checked.lent;
            within = subst (λ (u : ℕ). u ≤ work) (sym spent) (used_within check image work i check_decides used going.within);
            few = omega arith;
            goes = going.goes ∙ here ∙ after ∙ later;
          }

      pub going_stops : {r : Reply} → Checked image work s s' i used r → (r.kind ≡ 0 → ⊥) → CheckedAll image work s₀ s' r
      going_stops checked wrong =
          let here : operations_from check image work (count_at image operations - i) i used ≡ operations_from check image work (suc (count_at image operations - suc i)) i used = ap (λ (n : ℕ). operations_from check image work n i used) (one_more own) in
          let last = stops check image work i (count_at image operations - suc i) used (λ e. wrong (ap (λ (r : Reply). r.kind) checked.says ∙ e)) in
          record { long = checked.long ∙ going.long; says = checked.says ∙ last ∙ sym (going.goes ∙ here) }

    pub going_done : (i < count_at image operations → ⊥) → CheckedAll image work s₀ s (answer 0 0 0 0 used)
    unfolding operations_from
    going_done all =
        let none_left : count_at image operations - i ≡ 0 = omega (arith, going.few) in
        record { long = going.long; says = sym (going.goes ∙ ap (λ (n : ℕ). operations_from check image work n i used) none_left) }
