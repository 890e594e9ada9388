-- Laws of the first fault of many: `a ▷ b`, and `first_fault`. Assumes nothing.
use Prim.Native.Nat.{ℕ, zero, suc, ◌+◌, ◌<◌, ◌≤◌}
use mathlib.Core.Path.{◌≡◌, refl, sym}
use mathlib.Core.Bool.{Bool, true, false}
use mathlib.Core.Option.{Option, none, some}
use native.Mathlib.Omega.{arith}
use native.Mathlib.Nat.{not-suc-le-zero}
use native.Mathlib.Numerals.{add-one}
use native.Mathlib.Decide.{le_ind, ℕ_discrete}
use Rattle.lists.specs.First.{expect, ◌▷◌, first_fault}

module _ {A : Type 0} where
  pub some_is_not_none : {P : Type 0} {x : A} → some x ≡ none → P
  some_is_not_none {x} e = let z : ◌≡◌ {A = ℕ} 0 1 = cc in absurd (omega arith)

  pub first_none : (a b : Option A) → (a ▷ b) ≡ none → a ≡ none
  unfolding ◌▷◌
  first_none none b e = refl
  first_none (some x) b e = e

  pub next_none : (a b : Option A) → (a ▷ b) ≡ none → b ≡ none
  unfolding ◌▷◌
  next_none none b e = e
  next_none (some x) b e = some_is_not_none e

  pub passed : (test : Bool) (x : A) → expect test x ≡ none → test ≡ true
  unfolding expect
  passed true x e = refl
  passed false x e = some_is_not_none e

module _ {A : Type 0} (fault : ℕ → Option A) where
  pub goes_on : (m : ℕ) → first_fault fault m ≡ none → fault m ≡ none → first_fault fault (m + 1) ≡ none
  unfolding first_fault ◌▷◌
  goes_on m before this = rw (add-one, before, this)

  -- once found, the fault stays as it is however many follow
  pub stays : (m n : ℕ) (x : A) → first_fault fault m ≡ none → m < n → fault m ≡ some x → first_fault fault n ≡ some x
  unfolding first_fault ◌▷◌
  stays m n x before more this =
      le_ind (λ (k : ℕ). first_fault fault k ≡ some x) (rw (before, this)) (λ k _ ih. rw ih) n more

  -- all have been passed
  pub finishes : (m n : ℕ) → first_fault fault m ≡ none → m ≡ n → none ≡ first_fault fault n
  finishes m n before all = rw (← all) (sym before)

  pub kept : (m n : ℕ) (x : A) → first_fault fault m ≡ some x → m ≤ n → first_fault fault n ≡ some x
  unfolding first_fault ◌▷◌
  kept m n x this more = le_ind (λ (k : ℕ). first_fault fault k ≡ some x) this (λ k _ ih. rw ih) n more

  -- where there is none, each is none
  pub each_none : (n : ℕ) → first_fault fault n ≡ none → (t : ℕ) → t < n → fault t ≡ none
  unfolding first_fault ◌▷◌
  each_none zero e t h = absurd (not-suc-le-zero h)
  each_none (suc n) e t h =
      elim (ℕ_discrete t n) [
        | yes p ↦ rw p (next_none (first_fault fault n) (fault n) e)
        | no q ↦ each_none n (first_none (first_fault fault n) (fault n) e) t (omega arith)
      ]

-- ---- what every fault has

-- a fault, if there is one, has the property
abbrev pub AllSome : {A : Type 0} → (A → Type 0) → Option A → Type 0
AllSome P none = Unit {0}
AllSome P (some x) = P x

module _ {A : Type 0} (P : A → Type 0) where
  pub all_expect : (b : Bool) (x : A) → P x → AllSome P (expect b x)
  unfolding expect
  all_expect true x p = tt
  all_expect false x p = p

  pub all_next : (a b : Option A) → AllSome P a → AllSome P b → AllSome P (a ▷ b)
  unfolding ◌▷◌
  all_next none b p q = q
  all_next (some x) b p q = p

  pub all_first : (f : ℕ → Option A) (n : ℕ) → ((t : ℕ) → AllSome P (f t)) → AllSome P (first_fault f n)
  unfolding first_fault
  all_first f zero all = tt
  all_first f (suc n) all = all_next (first_fault f n) (f n) (all_first f n all) (all n)

  pub of_some : {x : A} (o : Option A) → o ≡ some x → AllSome P o → P x
  of_some o e all = rw e at all
