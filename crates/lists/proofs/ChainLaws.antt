-- What a chain over the numbers below n answers: `(0..n).all(p)` is `every n p`, and `(0..n).find(p)` is `found n (position n p)`.
-- Each law takes the call's clause `ran` and what the closure says of a number. Assumes nothing.
use mathlib.Core.Path.{◌≡◌, refl, sym, ap, ◌∙◌}
use mathlib.Core.Bool.{Bool, true, false}
use Prim.Native.Nat.{ℕ, zero, suc, ◌+◌, ◌≤◌, ◌<◌}
use native.Mathlib.Omega.{arith}
use denote.Param.Members.{Mut}
use denote.Ref.{Bor}
use Rattle.std.specs.Bool.{⊤}
use Rattle.std.specs.Fn.{Called, CalledAt}
use Rattle.std.specs.Iterator.{YieldsThen}
use Rattle.std.specs.List.{FoldsTo, list_all, range_with_len}
use Rattle.std.specs.Option.{MatchOption}
use Rattle.std.specs.Prelude.{List, Option, Some, None}
use Rattle.std.proofs.iter.Yields.{nat_range_steps}
use Rattle.std.proofs.lemmas.Iterator.{YieldsList-from_range, first_from_Range}
use Rattle.std.proofs.lemmas.Iterator.Search.{all_from_yields_List}
use Rattle.std.specs.declared.ops.Range.{Range}
use Rattle.lists.specs.Every.{every, position, found}
use Rattle.lists.proofs.EveryLaws.{found_here, found_nowhere}

-- the numbers from a on, tested one by one
all_over : (a n : ℕ) (p q : ℕ → Bool) → ((k : ℕ) → p (a + k) ≡ q k) → list_all p (range_with_len a n) ≡ every n q
unfolding every
all_over a zero p q same = refl
all_over a (suc n) p q same =
    let here : p a ≡ q 0 = ap p (omega arith) ∙ same 0 in
    let rest : list_all p (range_with_len (a + 1) n) ≡ every n (λ k. q (suc k)) = all_over (a + 1) n p (λ k. q (suc k)) (λ k. ap p (omega arith) ∙ same (suc k)) in
    rw (here, rest)

pub every_from_all : {F : Type 0} {g : Mut F (ℕ × Unit {0}) Bool} (n : ℕ) (p : ℕ → Bool) (u : Range ℕ) (f : F) (r : Bool)
    → (xs : List ℕ) × (o : Option ℕ) × (j : F) × YieldsThen nat_range_steps (record { start = 0; end = n }) xs o u × FoldsTo (λ a x b. Called g a (x, tt) true b) f xs j × MatchOption o (r ≡ true) (λ x. (r ≡ false) × ((h : F) × Called g j (x, tt) false h))
    → ((x : ℕ) (b : Bool) (h : F) → Called g f (x, tt) b h → (h ≡ f) × (b ≡ p x)) → r ≡ every n p
every_from_all n p u f r ran closure =
    all_from_yields_List p u f r ran (YieldsList-from_range 0 n n refl (omega arith)) closure ∙ all_over 0 n p p (λ k. ap p (omega arith))

pub found_from_find : {F : Type 0} {g : Mut F (Bor ℕ × Unit {0}) Bool} (n : ℕ) (p : ℕ → Bool) (u : Range ℕ) (f : F) (r : Option ℕ)
    → (xs : List ℕ) × (j : F) × YieldsThen nat_range_steps (record { start = 0; end = n }) xs r u × FoldsTo (λ a x b. CalledAt g a x false b) f xs j × MatchOption r ⊤ (λ x. (h : F) × CalledAt g j x true h)
    → ((x : ℕ) (b : Bool) (h : F) → CalledAt g f x b h → (h ≡ f) × (b ≡ p x)) → r ≡ found n (position n p)
found_from_find n p u f r ran closure =
    answer r (first_from_Range (record { start = 0; end = n }) u f r (λ x. true ≡ p x) (λ x. false ≡ p x) ran (λ x h c. (closure x true h c).1) (λ x h c. closure x false h c))
  where
    answer : (o : Option ℕ) → MatchOption o ((k : ℕ) → 0 ≤ k → k < n → false ≡ p k) (λ i. (0 ≤ i) × (i < n) × (true ≡ p i) × ((k : ℕ) → 0 ≤ k → k < i → false ≡ p k))
        → o ≡ found n (position n p)
    answer None h = found_nowhere n p (λ k l. sym (h k (omega arith) l))
    answer (Some i) h = found_here n p i h.1 (λ k l. sym (h.3 k (omega arith) l)) (sym h.2)
