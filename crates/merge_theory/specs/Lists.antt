-- The list functions that the rule and the walk are written with. Assumes nothing.
use Rattle.std.specs.Prelude.{◌≡◌, Bool, true, false, not, ◌&&◌, ◌||◌, List, [], ◌∷◌, ◌++◌, ℕ, eqb}

-- a is a member of the list
infix 50 ◌∈◌
pub data ◌∈◌ {A : Type 0} (a : A) : List A → Type 0 where
  here : {x : A} {xs : List A} → a ≡ x → a ∈ (x ∷ xs)
  there : {x : A} {xs : List A} → a ∈ xs → a ∈ (x ∷ xs)

-- every member has the property
abbrev pub Every : (ℕ → Type 0) → List ℕ → Type 0
Every Has xs = (x : ℕ) → x ∈ xs → Has x

-- the lists that f gives for the members, one after the other
unfoldable pub flat_map : {A B : Type 0} → (A → List B) → List A → List B
flat_map f [] = []
flat_map f (x ∷ xs) = f x ++ flat_map f xs

-- x before the list, if the test passed
abbrev pub keep : {A : Type 0} → Bool → A → List A → List A
keep true x xs = x ∷ xs
keep false x xs = xs

-- the members that pass the test
unfoldable pub filter : {A : Type 0} → (A → Bool) → List A → List A
filter p [] = []
filter p (x ∷ xs) = keep (p x) x (filter p xs)

-- each number once, in order of first appearance
unfoldable pub distinct : List ℕ → List ℕ
distinct [] = []
distinct (x ∷ xs) = x ∷ filter (λ y. not (eqb y x)) (distinct xs)

-- whether a number is listed
unfoldable pub is_in : ℕ → List ℕ → Bool
is_in a [] = false
is_in a (x ∷ xs) = eqb a x || is_in a xs

-- whether two lists have the same numbers in the same order
unfoldable pub same_list : List ℕ → List ℕ → Bool
same_list [] [] = true
same_list [] (y ∷ ys) = false
same_list (x ∷ xs) [] = false
same_list (x ∷ xs) (y ∷ ys) = eqb x y && same_list xs ys

-- whether an equal list is among those known
unfoldable pub is_known : List ℕ → List (List ℕ) → Bool
is_known l [] = false
is_known l (k ∷ ks) = same_list l k || is_known l ks
