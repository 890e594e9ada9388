-- Laws of the list functions: membership in each, and what the tests say. Assumes nothing.
use mathlib.Core.Path.{◌≡◌, refl, sym, ap, subst}
use mathlib.Core.Logic.{◌⊎◌, inl, inr, ⊎_map}
use mathlib.Core.Bool.{Bool, true, false, not, ◌&&◌, ◌||◌}
use mathlib.Core.List.{List, [], ◌∷◌, ◌++◌, map}
use Prim.Native.Nat.{ℕ}
use lib.Dec.{T, eqb, eqb→eq, eqb_refl}
use Rattle.merge_theory.specs.Lists.{◌∈◌, here, there, Every, flat_map, keep, filter, distinct, is_in, same_list, is_known}

-- ---- tests

-- a test passes or fails
pub decide : (b : Bool) → T b ⊎ T (not b)
decide true = inl tt
decide false = inr tt

-- one of two tests passes; both do
pub or_cases : (b c : Bool) → T (b || c) → T b ⊎ T c
or_cases true c t = inl tt
or_cases false c t = inr t

pub or_of : (b c : Bool) → T b ⊎ T c → T (b || c)
or_of true c h = tt
or_of false c (inl t) = absurd t
or_of false c (inr t) = t

pub and_of : (b c : Bool) → T b → T c → T (b && c)
and_of true c t u = u
and_of false c t u = elim t [ ]

pub and_cases : (b c : Bool) → T (b && c) → T b × T c
and_cases true c t = (tt, t)
and_cases false c t = elim t [ ]

-- ---- membership

pub head_in : {A : Type 0} {a : A} {xs : List A} → a ∈ (a ∷ xs)
head_in = here refl

pub not_in_nil : {A : Type 0} {a : A} → a ∈ [] → ⊥
not_in_nil m = elim m [ ]

-- what holds of s holds of every member of the list of s alone
pub only : (Has : ℕ → Type 0) {s : ℕ} → Has s → Every Has (s ∷ [])
only Has h s (here e) = subst Has (sym e) h
only Has h s (there m) = absurd (not_in_nil m)

-- ---- `◌++◌`

pub in_left : {A : Type 0} {a : A} {xs : List A} (ys : List A) → a ∈ xs → a ∈ (xs ++ ys)
in_left ys (here e) = here e
in_left ys (there m) = there (in_left ys m)

pub in_right : {A : Type 0} {a : A} (xs : List A) {ys : List A} → a ∈ ys → a ∈ (xs ++ ys)
in_right [] m = m
in_right (x ∷ xs) m = there (in_right xs m)

pub in_append : {A : Type 0} {a : A} (xs : List A) {ys : List A} → a ∈ (xs ++ ys) → (a ∈ xs) ⊎ (a ∈ ys)
in_append [] m = inr m
in_append (x ∷ xs) (here e) = inl (here e)
in_append (x ∷ xs) (there m) = ⊎_map there (λ r. r) (in_append xs m)

-- ---- `map`

pub in_map : {A B : Type 0} (f : A → B) {a : A} {xs : List A} → a ∈ xs → f a ∈ map f xs
in_map f (here e) = here (ap f e)
in_map f (there m) = there (in_map f m)

pub from_map : {A B : Type 0} (f : A → B) {b : B} (xs : List A) → b ∈ map f xs → (a : A) × (a ∈ xs) × (b ≡ f a)
from_map f (x ∷ xs) (here e) = (x, head_in, e)
from_map f (x ∷ xs) (there m) = let (a, i, e) = from_map f xs m in (a, there i, e)
from_map {A = A} {B = B} f {b = b} [] x' = elim x' [ ]

-- ---- `flat_map`

pub in_flat_map : {A B : Type 0} (f : A → List B) {a : A} {b : B} {xs : List A} → a ∈ xs → b ∈ f a → b ∈ flat_map f xs
unfolding flat_map
in_flat_map f {b = b} (here {xs = xs} e) m = in_left (flat_map f xs) (subst (λ x. b ∈ f x) e m)
in_flat_map f (there {x = x} i) m = in_right (f x) (in_flat_map f i m)

pub from_flat_map : {A B : Type 0} (f : A → List B) {b : B} (xs : List A) → b ∈ flat_map f xs → (a : A) × (a ∈ xs) × (b ∈ f a)
unfolding flat_map
from_flat_map f [] m = absurd (not_in_nil m)
from_flat_map {A} f {b} (x ∷ xs) m = pick (in_append (f x) m) (λ m. from_flat_map f xs m)
  where
    pick : (b ∈ f x) ⊎ (b ∈ flat_map f xs) → (b ∈ flat_map f xs → (a : A) × (a ∈ xs) × (b ∈ f a)) → (a : A) × (a ∈ (x ∷ xs)) × (b ∈ f a)
    pick (inl l) rest = (x, head_in, l)
    pick (inr r) rest = let (a, i, m) = rest r in (a, there i, m)

-- ---- `filter`

keep_head : {A : Type 0} {a x : A} (xs : List A) (b : Bool) → T b → a ≡ x → a ∈ keep b x xs
keep_head xs true t e = here e
keep_head {A = A} {a = a} xs false t e = elim t [ ]

keep_tail : {A : Type 0} {a : A} {xs : List A} (x : A) (b : Bool) → a ∈ xs → a ∈ keep b x xs
keep_tail x true m = there m
keep_tail x false m = m

from_keep : {A : Type 0} {a x : A} {xs : List A} (b : Bool) → a ∈ keep b x xs → ((a ≡ x) × T b) ⊎ (a ∈ xs)
from_keep true (here e) = inl (e, tt)
from_keep true (there m) = inr m
from_keep false m = inr m

pub in_filter : {A : Type 0} (p : A → Bool) {a : A} {xs : List A} → a ∈ xs → T (p a) → a ∈ filter p xs
unfolding filter
in_filter p (here {x = x} {xs = xs} e) t = keep_head (filter p xs) (p x) (subst (λ y. T (p y)) e t) e
in_filter p (there {x = x} m) t = keep_tail x (p x) (in_filter p m t)

pub from_filter : {A : Type 0} (p : A → Bool) {a : A} (xs : List A) → a ∈ filter p xs → (a ∈ xs) × T (p a)
unfolding filter
from_filter p [] m = absurd (not_in_nil m)
from_filter p {a} (x ∷ xs) m = pick (from_keep (p x) m) (λ m. from_filter p xs m)
  where
    pick : ((a ≡ x) × T (p x)) ⊎ (a ∈ filter p xs) → (a ∈ filter p xs → (a ∈ xs) × T (p a)) → (a ∈ (x ∷ xs)) × T (p a)
    pick (inl h) rest = (here h.0, subst (λ y. T (p y)) (sym h.0) h.1)
    pick (inr r) rest = let (i, t) = rest r in (there i, t)

-- ---- `distinct`

pub in_distinct : {a : ℕ} {xs : List ℕ} → a ∈ xs → a ∈ distinct xs
unfolding distinct
in_distinct (here e) = here e
in_distinct {a} (there {x = x} {xs = xs} m) = pick (decide (eqb a x)) (in_distinct m)
  where
    pick : T (eqb a x) ⊎ T (not (eqb a x)) → a ∈ distinct xs → a ∈ (x ∷ filter (λ y. not (eqb y x)) (distinct xs))
    pick (inl t) m = here (eqb→eq a x t)
    pick (inr f) m = there (in_filter (λ y. not (eqb y x)) m f)

-- ---- what is found is listed, and the other way round

pub is_in→in : (a : ℕ) (xs : List ℕ) → T (is_in a xs) → a ∈ xs
unfolding is_in
is_in→in a (x ∷ xs) t = pick (or_cases (eqb a x) (is_in a xs) t) (λ t. is_in→in a xs t)
  where
    pick : T (eqb a x) ⊎ T (is_in a xs) → (T (is_in a xs) → a ∈ xs) → a ∈ (x ∷ xs)
    pick (inl t) rest = here (eqb→eq a x t)
    pick (inr t) rest = there (rest t)
is_in→in a [] t = elim t [ ]

same_list→eq : (xs ys : List ℕ) → T (same_list xs ys) → xs ≡ ys
unfolding same_list
same_list→eq [] [] t = refl
same_list→eq (x ∷ xs) (y ∷ ys) t =
    let (t₁, t₂) = and_cases (eqb x y) (same_list xs ys) t in
    λ i. eqb→eq x y t₁ i ∷ same_list→eq xs ys t₂ i
same_list→eq [] (y ∷ ys) t = elim t [ ]
same_list→eq (x ∷ xs) [] t = elim t [ ]

pub is_known→in : (l : List ℕ) (ks : List (List ℕ)) → T (is_known l ks) → l ∈ ks
unfolding is_known
is_known→in l (k ∷ ks) t = pick (or_cases (same_list l k) (is_known l ks) t) (λ t. is_known→in l ks t)
  where
    pick : T (same_list l k) ⊎ T (is_known l ks) → (T (is_known l ks) → l ∈ ks) → l ∈ (k ∷ ks)
    pick (inl t) rest = here (same_list→eq l k t)
    pick (inr t) rest = there (rest t)
is_known→in l [] t = elim t [ ]

pub in→is_in : {a : ℕ} {xs : List ℕ} → a ∈ xs → T (is_in a xs)
unfolding is_in
in→is_in {a} (here {x = x} {xs = xs} e) = or_of (eqb a x) (is_in a xs) (inl (subst (λ y. T (eqb a y)) e (eqb_refl a)))
in→is_in {a} (there {x = x} {xs = xs} m) = or_of (eqb a x) (is_in a xs) (inr (in→is_in m))

same_list_refl : (l : List ℕ) → T (same_list l l)
unfolding same_list
same_list_refl [] = tt
same_list_refl (x ∷ xs) = and_of (eqb x x) (same_list xs xs) (eqb_refl x) (same_list_refl xs)

pub in→is_known : {l : List ℕ} {ks : List (List ℕ)} → l ∈ ks → T (is_known l ks)
unfolding is_known
in→is_known {l} (here {x = k} {xs = ks} e) =
    or_of (same_list l k) (is_known l ks) (inl (subst (λ (x : List ℕ). T (same_list l x)) e (same_list_refl l)))
in→is_known {l} (there {x = k} {xs = ks} m) = or_of (same_list l k) (is_known l ks) (inr (in→is_known m))
