-- What is done with a conflict, by the check and by the listing: neither charges nor notes, and the listing has each entry once. Assumes nothing.
use mathlib.Core.Path.{◌≡◌, refl, subst}
use mathlib.Core.Logic.{◌⊎◌, inl, inr}
use mathlib.Core.Bool.{Bool, true, false}
use mathlib.Core.List.{List, [], ◌∷◌}
use Prim.Native.Nat.{ℕ, ◌<◌}
use lib.Dec.{T, eqb, ltb, eqb→eq, eqb_refl, ltb→lt, lt→ltb}
use lib.ListN.{length}
use Rattle.merge_theory.specs.Lists.{◌∈◌, here, there}
use Rattle.merge_theory.specs.Document.{Cause, shape, name, arguments, number_of}
use Rattle.merge_theory.specs.Steps.{Entry, entry, State, Found, stop, same_entry, is_listed, entered, list_if, list}
use Rattle.merge_theory.proofs.ListLaws.{and_of, and_cases, or_of, or_cases}
use Rattle.merge_theory.proofs.Outcome.{Stops, Everywhere, Meets}

-- ---- whether an entry is listed

same_cause : (c d : Cause) → T (eqb (number_of c) (number_of d)) → c ≡ d
same_cause shape shape t = refl
same_cause shape name t = absurd t
same_cause shape arguments t = absurd t
same_cause name shape t = absurd t
same_cause name name t = refl
same_cause name arguments t = absurd t
same_cause arguments shape t = absurd t
same_cause arguments name t = absurd t
same_cause arguments arguments t = refl

same→eq : (e f : Entry) → T (same_entry e f) → e ≡ f
unfolding same_entry
same→eq (entry s c a b) (entry s' c' a' b') t =
    let (t₁, u) = and_cases (eqb s s') _ t in
    let (t₂, v) = and_cases (eqb (number_of c) (number_of c')) _ u in
    let (t₃, t₄) = and_cases (eqb a a') (eqb b b') v in
    λ i. entry (eqb→eq s s' t₁ i) (same_cause c c' t₂ i) (eqb→eq a a' t₃ i) (eqb→eq b b' t₄ i)

same_refl : (e : Entry) → T (same_entry e e)
unfolding same_entry
same_refl (entry s c a b) =
    and_of (eqb s s) _ (eqb_refl s)
    (and_of (eqb (number_of c) (number_of c)) _ (eqb_refl (number_of c)) (and_of (eqb a a) (eqb b b) (eqb_refl a) (eqb_refl b)))

pub is_listed→in : (e : Entry) (entries : List Entry) → T (is_listed e entries) → e ∈ entries
unfolding is_listed
is_listed→in e (f ∷ entries) t = pick (or_cases (same_entry e f) (is_listed e entries) t) (λ t. is_listed→in e entries t)
  where
    pick : T (same_entry e f) ⊎ T (is_listed e entries) → (T (is_listed e entries) → e ∈ entries) → e ∈ (f ∷ entries)
    pick (inl t) rest = here (same→eq e f t)
    pick (inr t) rest = there (rest t)
is_listed→in e [] t = elim t [ ]

pub in→is_listed : {e : Entry} {entries : List Entry} → e ∈ entries → T (is_listed e entries)
unfolding is_listed
in→is_listed {e} (here {x = f} {xs = entries} q) =
    or_of (same_entry e f) (is_listed e entries) (inl (subst (λ x. T (same_entry e x)) q (same_refl e)))
in→is_listed {e} (there {x = f} {xs = entries} m) = or_of (same_entry e f) (is_listed e entries) (inr (in→is_listed m))

-- ---- one way or the other

-- the known lists and the units stay; what was listed stays, in front
pub record Stayed (z y : State) : Type 0 where
  pub known : y.known ≡ z.known
  pub used : y.used ≡ z.used

stayed : (z : State) → Stayed z z
stayed z = record { known = refl; used = refl }

abbrev pub Modest : Found → Type 0
Modest found = (e : Entry) (z : State) → Meets (Stayed z) (Everywhere (Stayed z)) (found e z)

pub stop_modest : Modest stop
stop_modest e z = stayed z

-- what the listing does with a conflict: known already; entered; or no room
module _ (room : ℕ) (e : Entry) (z : State) where
  pub list_meets : (F : State → Type 0) (Q : Stops) → (e ∈ z.entries → F z)
      → (¬ (e ∈ z.entries) → length z.entries < room → F (entered e z))
      → (¬ (e ∈ z.entries) → ¬ (length z.entries < room) → Q.on_conflict e z) → Meets F Q (list room e z)
  unfolding list list_if
  list_meets F Q old new full =
      by_tests (is_listed e z.entries) (ltb (length z.entries) room)
      (is_listed→in e z.entries) (λ m. in→is_listed m) (ltb→lt (length z.entries) room) (λ h. lt→ltb (length z.entries) room h)
    where
      by_tests : (o r : Bool) → (T o → e ∈ z.entries) → (e ∈ z.entries → T o)
          → (T r → length z.entries < room) → (length z.entries < room → T r) → Meets F Q (list_if o r e z)
      by_tests true r is is' fits fits' = old (is tt)
      by_tests false true is is' fits fits' = new is' (fits tt)
      by_tests false false is is' fits fits' = full is' fits'

pub list_modest : (room : ℕ) → Modest (list room)
list_modest room e z =
    list_meets room e z (Stayed z) (Everywhere (Stayed z)) (λ m. stayed z) (λ new fits. record { known = refl; used = refl }) (λ new full. stayed z)
