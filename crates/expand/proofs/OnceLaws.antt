-- Lists without repetition: how they are put together, and how long they can be. Assumes nothing.
use mathlib.Core.Path.{◌≡◌, refl, sym, subst}
use mathlib.Core.Logic.{◌⊎◌, inl, inr, ⊎_elim}
use mathlib.Core.Bool.{Bool, true, false, not}
use mathlib.Core.List.{List, [], ◌∷◌, ◌++◌}
use Prim.Native.Nat.{ℕ, zero, suc, ◌≤◌, ◌<◌}
use native.Mathlib.Omega.{arith}
use lib.Dec.{T, eqb, eqb→eq, eqb_refl, T_not}
use lib.ListN.{length}
use Rattle.merge_theory.specs.Lists.{◌∈◌, here, there, Every, flat_map, keep, filter}
use Rattle.merge_theory.proofs.ListLaws.{head_in, in_left, in_append, from_flat_map, from_filter, decide}
use Rattle.expand.specs.Expanding.{Once, once_none, once_more}

pub once_append : (xs : List ℕ) {ys : List ℕ} → Once xs → Once ys → ((x : ℕ) → x ∈ xs → x ∈ ys → ⊥) → Once (xs ++ ys)
once_append [] p q apart = q
once_append (x ∷ xs) (once_more out p) q apart =
    once_more (λ m. ⊎_elim out (apart x head_in) (in_append xs m)) (once_append xs p q (λ y m. apart y (there m)))

pub once_left : (xs ys : List ℕ) → Once (xs ++ ys) → Once xs
once_left [] ys p = once_none
once_left (x ∷ xs) ys (once_more out p) = once_more (λ m. out (in_left ys m)) (once_left xs ys p)

-- lists that share no member, one after the other
pub once_flat_map : (f : ℕ → List ℕ) (xs : List ℕ) → Once xs → ((x : ℕ) → x ∈ xs → Once (f x))
    → ((x y r : ℕ) → x ∈ xs → y ∈ xs → r ∈ f x → r ∈ f y → x ≡ y) → Once (flat_map f xs)
unfolding flat_map
once_flat_map f [] p each apart = once_none
once_flat_map f (x ∷ xs) (once_more out p) each apart =
    once_append (f x) (each x head_in)
    (once_flat_map f xs p (λ y m. each y (there m)) (λ y z r m n i j. apart y z r (there m) (there n) i j))
    (λ r m n.
    let (y, i, j) = from_flat_map f xs n in
    out (subst (λ z. z ∈ xs) (sym (apart x y r head_in (there i) m j)) i))

-- ---- filters

keep_once : (b : Bool) (x : ℕ) {xs : List ℕ} → (x ∈ xs → ⊥) → Once xs → Once (keep b x xs)
keep_once true x out p = once_more out p
keep_once false x out p = p

pub once_filter : (p : ℕ → Bool) (xs : List ℕ) → Once xs → Once (filter p xs)
unfolding filter
once_filter p [] o = once_none
once_filter p (x ∷ xs) (once_more out o) = keep_once (p x) x (λ m. out (from_filter p xs m).0) (once_filter p xs o)

keep_shorter : (b : Bool) (x : ℕ) (xs : List ℕ) → length (keep b x xs) ≤ suc (length xs)
keep_shorter true x xs = omega arith
keep_shorter false x xs = omega arith

pub filter_shorter : (p : ℕ → Bool) (xs : List ℕ) → length (filter p xs) ≤ length xs
unfolding filter
filter_shorter p [] = omega arith
filter_shorter p (x ∷ xs) = omega (arith, keep_shorter (p x) x (filter p xs), filter_shorter p xs)

-- ---- the pigeonhole: distinct numbers below n are n at most

abbrev others : ℕ → List ℕ → List ℕ
others n xs = filter (λ y. not (eqb y n)) xs

keep_longer : (b : Bool) (x : ℕ) (xs : List ℕ) → length xs ≤ length (keep b x xs)
keep_longer true x xs = omega arith
keep_longer false x xs = omega arith

kept : (b : Bool) (x : ℕ) (xs : List ℕ) → T b → length (keep b x xs) ≡ suc (length xs)
kept true x xs h = refl
kept false x xs h = elim h [ ]

-- n is no member: none is left out
all_others : (n : ℕ) (xs : List ℕ) → (n ∈ xs → ⊥) → length (others n xs) ≡ length xs
unfolding filter
all_others n [] out = refl
all_others n (x ∷ xs) out = pick (decide (eqb x n)) (all_others n xs (λ m. out (there m)))
  where
    pick : T (eqb x n) ⊎ T (not (eqb x n)) → length (others n xs) ≡ length xs → length (keep (not (eqb x n)) x (others n xs)) ≡ suc (length xs)
    pick (inl same) rest = absurd (out (here (sym (eqb→eq x n same))))
    pick (inr other) rest = rw (kept (not (eqb x n)) x (others n xs) other, rest)

-- at most one member is n
one_less : (n : ℕ) (xs : List ℕ) → Once xs → length xs ≤ suc (length (others n xs))
unfolding filter
one_less n [] o = omega arith
one_less n (x ∷ xs) (once_more out o) = pick (decide (eqb x n)) (one_less n xs o)
  where
    pick : T (eqb x n) ⊎ T (not (eqb x n)) → length xs ≤ suc (length (others n xs)) → suc (length xs) ≤ suc (length (keep (not (eqb x n)) x (others n xs)))
    pick (inl same) rest =
        let all = all_others n xs (λ m. out (subst (λ y. y ∈ xs) (sym (eqb→eq x n same)) m)) in
        omega (arith, keep_longer (not (eqb x n)) x (others n xs))
    pick (inr other) rest = omega (arith, kept (not (eqb x n)) x (others n xs) other)

pub once_below : (n : ℕ) (xs : List ℕ) → Once xs → Every (λ x. x < n) xs → length xs ≤ n
once_below zero [] o below = omega arith
once_below zero (x ∷ xs) o below = absurd (let h : x < 0 = below x head_in in omega arith)
once_below (suc n) xs o below =
    let less = once_below n (others n xs) (once_filter (λ y. not (eqb y n)) xs o) (λ x m. fits x (from_filter (λ y. not (eqb y n)) xs m)) in
    omega (arith, one_less n xs o)
  where
    fits : (x : ℕ) → (x ∈ xs) × T (not (eqb x n)) → x < n
    fits x (m, other) =
        let h : x < suc n = below x m in
        let differ : x ≡ n → ⊥ = λ e. T_not (eqb x n) other (subst (λ y. T (eqb x y)) e (eqb_refl x)) in
        omega arith
