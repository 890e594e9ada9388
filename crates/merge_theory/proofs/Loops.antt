-- Laws for code that goes up a list and has done a front of it: each function of the walk at `front ++ rest`. Assumes nothing.
-- (`queued` and `marked` have theirs in QueueLaws.)
use mathlib.Core.Path.{◌≡◌, refl, sym, ap, ◌∙◌}
use mathlib.Core.Bool.{Bool, true, false, not, ◌||◌, or_assoc}
use mathlib.Core.Option.{Option}
use mathlib.Core.List.{List, [], ◌∷◌, ◌++◌, append_assoc, map}
use Prim.Native.Nat.{ℕ}
use lib.Dec.{eqb}
use Rattle.merge_theory.specs.Lists.{flat_map, keep, filter, distinct, is_in, same_list, is_known}
use Rattle.merge_theory.specs.Document.{Document, Cause}
use Rattle.merge_theory.specs.Groups.{keys_of}
use Rattle.merge_theory.specs.Steps.{State, Result, finished, conflict, out, deep, Step, after, ◌then◌, Found, tell}
use Rattle.merge_theory.specs.Walk.{Pass, against, compare_first, descend, sets_below, walk_parts}

-- ---- lists

pub flat_map_append : {A B : Type 0} (f : A → List B) (xs ys : List A) → flat_map f (xs ++ ys) ≡ flat_map f xs ++ flat_map f ys
unfolding flat_map
flat_map_append f [] ys = refl
flat_map_append {B = B} f (x ∷ xs) ys =
    ap (λ (l : List B). f x ++ l) (flat_map_append f xs ys) ∙ sym (append_assoc (f x) (flat_map f xs) (flat_map f ys))

keep_append : {A : Type 0} (b : Bool) (x : A) (xs ys : List A) → keep b x (xs ++ ys) ≡ keep b x xs ++ ys
keep_append true x xs ys = refl
keep_append false x xs ys = refl

pub filter_append : {A : Type 0} (p : A → Bool) (xs ys : List A) → filter p (xs ++ ys) ≡ filter p xs ++ filter p ys
unfolding filter
filter_append p [] ys = refl
filter_append {A} p (x ∷ xs) ys =
    ap (λ (l : List A). keep (p x) x l) (filter_append p xs ys) ∙ keep_append (p x) x (filter p xs) (filter p ys)

-- a key that appears now is new if it is not among those before it
pub distinct_snoc : (xs : List ℕ) (x : ℕ) → distinct (xs ++ x ∷ []) ≡ distinct xs ++ keep (not (is_in x xs)) x []
unfolding distinct is_in filter
distinct_snoc [] x = refl
distinct_snoc (y ∷ xs) x =
    ap (λ (l : List ℕ). y ∷ filter (λ z. not (eqb z y)) l) (distinct_snoc xs x)
    ∙ ap (λ (l : List ℕ). y ∷ l) (filter_append (λ z. not (eqb z y)) (distinct xs) (keep (not (is_in x xs)) x []))
    ∙ ap (λ (l : List ℕ). y ∷ (filter (λ z. not (eqb z y)) (distinct xs) ++ l)) (last (is_in x xs))
  where
    seen : (e : Bool) → ◌≡◌ {A = List ℕ} [] (keep (not (e || true)) x [])
    seen true = refl
    seen false = refl

    unseen : (e : Bool) → keep (not e) x [] ≡ keep (not (e || false)) x []
    unseen true = refl
    unseen false = refl

    last : (b : Bool) → filter (λ z. not (eqb z y)) (keep (not b) x []) ≡ keep (not (eqb x y || b)) x []
    last true = seen (eqb x y)
    last false = unseen (eqb x y)

pub map_append : {A B : Type 0} (f : A → B) (xs ys : List A) → map f (xs ++ ys) ≡ map f xs ++ map f ys
map_append f [] ys = refl
map_append {B = B} f (x ∷ xs) ys = ap (λ (l : List B). f x ∷ l) (map_append f xs ys)

-- the keys, one field further on
pub keys_of_snoc : (key : ℕ → ℕ) (fields : List ℕ) (f : ℕ)
    → keys_of key (fields ++ f ∷ []) ≡ keys_of key fields ++ keep (not (is_in (key f) (map key fields))) (key f) []
unfolding keys_of
keys_of_snoc key fields f = ap distinct (map_append key fields (f ∷ [])) ∙ distinct_snoc (map key fields) (key f)

pub is_known_append : (l : List ℕ) (ks more : List (List ℕ)) → is_known l (ks ++ more) ≡ (is_known l ks || is_known l more)
unfolding is_known
is_known_append l [] more = refl
is_known_append l (k ∷ ks) more =
    ap (λ b. same_list l k || b) (is_known_append l ks more) ∙ sym (or_assoc (same_list l k) (is_known l ks) (is_known l more))

-- ---- steps

pub after_assoc : (r : Result) (f g : Step) → after r (f then g) ≡ after (after r f) g
unfolding after
after_assoc (finished z) f g = refl
after_assoc (conflict e z) f g = refl
after_assoc (out z) f g = refl
after_assoc (deep z) f g = refl

pub after_ext : (r : Result) (f g : Step) → ((z : State) → f z ≡ g z) → after r f ≡ after r g
unfolding after
after_ext (finished z) f g h = h z
after_ext (conflict e z) f g h = refl
after_ext (out z) f g h = refl
after_ext (deep z) f g h = refl

-- the first field against some others, then against the rest
pub against_append : (found : Found) (s : ℕ) (clash : ℕ → ℕ → Option Cause) (a : ℕ) (xs ys : List ℕ) (z : State)
    → against found s clash a (xs ++ ys) z ≡ after (against found s clash a xs z) (against found s clash a ys)
unfolding against after
against_append found s clash a [] ys z = refl
against_append found s clash a (b ∷ xs) ys z =
    after_ext (tell found s (clash a b) a b z) (against found s clash a (xs ++ ys)) (against found s clash a xs then against found s clash a ys)
    (against_append found s clash a xs ys)
    ∙ after_assoc (tell found s (clash a b) a b z) (against found s clash a xs) (against found s clash a ys)

-- some parts, then the rest
pub walk_parts_append : (D : Document) (P : Pass) (found : Found) (s : ℕ) (below : List ℕ → Step) (ps qs : List (List ℕ)) (z : State)
    → walk_parts D P found s below (ps ++ qs) z ≡ after (walk_parts D P found s below ps z) (walk_parts D P found s below qs)
unfolding walk_parts after
walk_parts_append D P found s below [] qs z = refl
walk_parts_append D P found s below (p ∷ ps) qs z =
    after_ext (compare z) (lower then walk_parts D P found s below (ps ++ qs)) ((lower then front) then rest)
    (λ y.
    after_ext (lower y) (walk_parts D P found s below (ps ++ qs)) (front then rest) (walk_parts_append D P found s below ps qs)
    ∙ after_assoc (lower y) front rest)
    ∙ after_assoc (compare z) (lower then front) rest
  where
    compare : Step
    compare = compare_first found s P.clash p

    lower : Step
    lower = descend below (sets_below D p)

    front : Step
    front = walk_parts D P found s below ps

    rest : Step
    rest = walk_parts D P found s below qs
