-- What a `for` or a `find` over numbers found is the position below n. Assumes nothing.
use mathlib.Core.Path.{◌≡◌, sym}
use mathlib.Core.Bool.{Bool, true, false, not}
use mathlib.Core.List.{List}
use Prim.Native.Nat.{ℕ, ◌<◌, ◌≤◌}
use native.Mathlib.Nat.{le_refl, not-suc-le-zero}
use native.Mathlib.Decide.{dec_le}
use native.Mathlib.Omega.{arith}
use denote.Param.Members.{Mut}
use denote.Ref.{Bor}
use Rattle.std.specs.declared.option.Option.{Option}
use Rattle.std.specs.declared.option.Option.TheVariants.{Some, None}
use Rattle.std.specs.declared.ops.Range.{Range}
use Rattle.std.specs.Fn.{CalledAt}
use Rattle.std.specs.Iterator.{YieldsThen}
use Rattle.std.specs.List.{FoldsTo}
use Rattle.std.specs.Bool.{⊤}
use Rattle.std.specs.Option.{MatchOption, unwrap_or}
use Rattle.std.proofs.iter.Yields.{nat_range_steps}
use Rattle.std.proofs.lemmas.Iterator.{first_from_Range}
use Rattle.lists.specs.Every.{position, found}
use Rattle.lists.proofs.EveryLaws.{found_some, found_none, found_here, found_nowhere, unwrap_found, first_bad_lem, none_bad}

-- the first number that fails its rule
module _ (good : ℕ → Bool) where
  pub bad_found : (n i : ℕ) → i < n → ((k : ℕ) → k < i → good k ≡ true) → good i ≡ false → Some i ≡ found n (position n (λ k. not (good k)))
  bad_found n i less below here = rw (first_bad_lem good n i less below here) (sym (found_some less))

  pub all_good : (n : ℕ) → ((k : ℕ) → k < n → good k ≡ true) → None ≡ found n (position n (λ k. not (good k)))
  all_good n all = rw (none_bad good n all) (sym (found_none (le_refl n)))

-- a `find` over m..n, whose closure tests p below n, where no number below m passes
pub find_found_from : {F : Type 0} {g : Mut F (Bor ℕ × Unit {0}) Bool} (m n : ℕ) (p : ℕ → Bool) (u : Range ℕ) (f : F) (r : Option ℕ)
    → (xs : List ℕ) × (j : F) × YieldsThen nat_range_steps (record { start = m; end = n }) xs r u × FoldsTo (λ p x q. CalledAt g p x false q) f xs j × MatchOption r ⊤ (λ x. (h : F) × CalledAt g j x true h)
    → ((x : ℕ) (b : Bool) (q : F) → CalledAt g f x b q → (q ≡ f) × (x < n → b ≡ p x)) → ((k : ℕ) → k < m → p k ≡ false) → r ≡ found n (position n p)
find_found_from m n p u f r ran test before =
    by r (first_from_Range _ u f r (λ i. i < n → p i ≡ true) (λ i. i < n → p i ≡ false) ran (λ x q k l. sym ((test x true q k).1 l)) (λ x q k. ((test x false q k).0, λ l. sym ((test x false q k).1 l))))
  where
    all : {i : ℕ} → i ≤ n → ((k : ℕ) → m ≤ k → k < i → k < n → p k ≡ false) → (k : ℕ) → k < i → p k ≡ false
    all inside later k l = elim (dec_le m k) [
      | yes h ↦ later k h l (omega arith)
      | no h ↦ before k (omega arith)
    ]

    by : (r : Option ℕ) → MatchOption r ((k : ℕ) → m ≤ k → k < n → k < n → p k ≡ false) (λ i. (m ≤ i) × (i < n) × (i < n → p i ≡ true) × ((k : ℕ) → m ≤ k → k < i → k < n → p k ≡ false)) → r ≡ found n (position n p)
    by None h = found_nowhere n p (all (le_refl n) h)
    by (Some i) h = found_here n p i h.1 (all (let less : i < n = h.1 in omega arith) h.3) (h.2 h.1)

-- a `find` over 0..n
pub find_found : {F : Type 0} {g : Mut F (Bor ℕ × Unit {0}) Bool} (n : ℕ) (p : ℕ → Bool) (u : Range ℕ) (f : F) (r : Option ℕ)
    → (xs : List ℕ) × (j : F) × YieldsThen nat_range_steps (record { start = 0; end = n }) xs r u × FoldsTo (λ p x q. CalledAt g p x false q) f xs j × MatchOption r ⊤ (λ x. (h : F) × CalledAt g j x true h)
    → ((x : ℕ) (b : Bool) (q : F) → CalledAt g f x b q → (q ≡ f) × (x < n → b ≡ p x)) → r ≡ found n (position n p)
find_found n p u f r ran test = find_found_from 0 n p u f r ran test (λ k l. absurd (not-suc-le-zero l))

-- the position, as what is found or the count
pub found_or : (n : ℕ) (p : ℕ → Bool) (r : Option ℕ) → r ≡ found n (position n p) → unwrap_or r n ≡ position n p
found_or n p r e = rw e (unwrap_found n p)
