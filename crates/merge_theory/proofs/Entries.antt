-- What stays true of the entries along a listing, whatever it ends in: each is of a pair that was compared, each is there once, they fit, and
-- what was listed before stays in front. Assumes nothing.
use mathlib.Core.Path.{◌≡◌, sym, ap, ◌∙◌, subst}
use mathlib.Core.Logic.{◌⊎◌, inl, inr}
use mathlib.Core.Bool.{Bool, true, false}
use mathlib.Core.List.{List, [], ◌∷◌, ◌++◌, append-nil, append_assoc}
use Prim.Native.Nat.{ℕ, ◌+◌, ◌≤◌, ◌<◌}
use native.Mathlib.Omega.{arith}
use lib.Dec.{leb}
use lib.ListN.{length, length-append}
use Rattle.merge_theory.specs.Lists.{◌∈◌, here, there, is_known}
use Rattle.merge_theory.specs.Document.{Document, Cause}
use Rattle.merge_theory.specs.Expand.{expand}
use Rattle.merge_theory.specs.Steps.{Entry, entry, State, Result, finished, conflict, out, deep, state_of, Step, after, ◌then◌, charge_if, charge, list}
use Rattle.merge_theory.specs.Walk.{Pass, shape_pass, parent_pass, compare_first, note, enter, meet, pass, passes, in_order, listing}
use Rattle.merge_theory.specs.Named.{Met, top, Compared, compared, ComparedInCheck}
use Rattle.merge_theory.proofs.ListLaws.{head_in, not_in_nil, in_append}
use Rattle.merge_theory.proofs.Outcome.{Everywhere, Meets, meets_after}
use Rattle.merge_theory.proofs.Carried.{Joins, joins_against, Carries, carried_walk}
use Rattle.merge_theory.proofs.Found.{list_meets}

-- ---- one law: an invariant that a new entry of a compared pair keeps is kept by the listing

module _ (Inv : List Entry → Type 0) where
  abbrev Of : State → Type 0
  Of z = Inv z.entries

  abbrev pub Holding : Step → Type 0
  Holding step = (z : State) → Of z → Meets Of (Everywhere Of) (step z)

  pub holding_then : (first next : Step) → Holding first → Holding next → Holding (first then next)
  holding_then first next h g z inv = meets_after Of Of (Everywhere Of) (first z) next (h z inv) g

  holding_charge : (budget cost : ℕ) → Holding (charge budget cost)
  unfolding charge charge_if
  holding_charge budget cost z inv = by_test (leb (z.used + cost) budget)
    where
      by_test : (b : Bool) → Meets Of (Everywhere Of) (charge_if b cost z)
      by_test true = inv
      by_test false = inv

  abbrev HoldingOf : (Unit {0} → Step) → Type 0
  HoldingOf steps = Holding (steps tt)

  holding_joins : Joins {I = Unit {0}} HoldingOf
  holding_joins = record { stays = λ z inv. inv; both = λ first next. holding_then (first tt) (next tt) }

  holding_enter : (fields : List ℕ) (walked : Step) → Holding walked → (isOld : Bool) → Holding (enter fields walked isOld)
  unfolding enter note after
  holding_enter fields walked h true = λ z inv. inv
  holding_enter fields walked h false = λ z inv. h _ inv

  holding_meet : (budget : ℕ) (fields : List ℕ) (walked : Step) → Holding walked → (isOld : Bool) → Holding (meet budget fields walked isOld)
  unfolding meet
  holding_meet budget fields walked h isOld = holding_then _ _ (holding_charge budget _) (holding_enter fields walked h isOld)

  module _ (room : ℕ) where
    -- an entry keeps it, if it is new and has room
    abbrev pub Keeps : Entry → Type 0
    Keeps e = (entries : List Entry) → Inv entries → ¬ (e ∈ entries) → length entries < room → Inv (entries ++ e ∷ [])

    holding_found : (e : Entry) → Keeps e → Holding (list room e)
    holding_found e keeps z inv =
        list_meets room e z Of (Everywhere Of) (λ m. inv) (λ new fits. keeps z.entries inv new fits) (λ new full. inv)

    holding_carries : (D : Document) (P : Pass) (s budget : ℕ) → ((c : Cause) (a b : ℕ) → Compared D P s c a b → Keeps (entry s c a b))
        → Carries {I = Unit {0}} D P s (λ i. list room) (λ i. budget) HoldingOf
    unfolding compare_first
    holding_carries D P s budget keeps = record {
      joins = holding_joins;
      compares = by_part;
      meets = λ fields walked h z. holding_meet budget fields (walked tt) h (is_known fields z.known) z;
      deeps = λ z inv. inv;
    }
      where
        by_part : (sets part : List ℕ) → Met D P s sets → part ∈ P.parts (expand D sets) → Holding (compare_first (list room) s P.clash part)
        by_part sets [] met m = λ z inv. inv
        by_part sets (a ∷ others) met m =
            joins_against HoldingOf holding_joins (λ i. list room) s P.clash a others
            (λ c b i e. holding_found (entry s c a b) (keeps c a b (compared met m i e)))

    holding_passes : (D : Document) (s budget : ℕ) → ((c : Cause) (a b : ℕ) → ComparedInCheck D s c a b → Keeps (entry s c a b))
        → Holding (passes D (list room) budget s)
    unfolding passes pass
    holding_passes D s budget keeps =
        holding_then (pass D (list room) budget (shape_pass D) s) (pass D (list room) budget (parent_pass D) s)
        (λ z inv. carried_walk D (shape_pass D) s _ _ _ (holding_carries D (shape_pass D) s budget (λ c a b h. keeps c a b (inl h))) _ (s ∷ []) top _ inv)
        (λ z inv. carried_walk D (parent_pass D) s _ _ _ (holding_carries D (parent_pass D) s budget (λ c a b h. keeps c a b (inr h))) _ (s ∷ []) top _ inv)

  pub holding_listing : (D : Document) (room budget : ℕ) (operations : List ℕ)
      → ((s : ℕ) → s ∈ operations → (c : Cause) (a b : ℕ) → ComparedInCheck D s c a b → Keeps room (entry s c a b)) → Holding (listing D room budget operations)
  unfolding in_order
  holding_listing D room budget [] keeps = λ z inv. inv
  holding_listing D room budget (s ∷ operations) keeps =
      holding_then (passes D (list room) budget s) (listing D room budget operations) (holding_passes room D s budget (keeps s head_in))
      (holding_listing D room budget operations (λ t m. keeps t (there m)))

  -- wherever it ended
  pub held : (r : Result) → Meets Of (Everywhere Of) r → Inv (state_of r).entries
  held (finished z) h = h
  held (conflict e z) h = h
  held (out z) h = h
  held (deep z) h = h

-- ---- the four invariants

-- the entry of a pair that the walk of one of the operations compares
pub data ComparedIn (D : Document) (operations : List ℕ) : Entry → Type 0 where
  compared_in : {s a b : ℕ} {c : Cause} → s ∈ operations → ComparedInCheck D s c a b → ComparedIn D operations (entry s c a b)

abbrev pub Distinct : List Entry → Type 0
Distinct [] = Unit {0}
Distinct (e ∷ entries) = ¬ (e ∈ entries) × Distinct entries

-- these stand in front
abbrev pub Front : List Entry → List Entry → Type 0
Front front entries = (more : List Entry) × (entries ≡ front ++ more)

pub front_refl : (entries : List Entry) → Front entries entries
front_refl entries = ([], sym (append-nil entries))

pub front_snoc : (front entries : List Entry) (e : Entry) → Front front entries → Front front (entries ++ e ∷ [])
front_snoc front entries e (more, q) = (more ++ e ∷ [], ap (λ (l : List Entry). l ++ e ∷ []) q ∙ append_assoc front more (e ∷ []))

every_snoc : (Has : Entry → Type 0) (entries : List Entry) (e : Entry) → ((f : Entry) → f ∈ entries → Has f) → Has e
    → (f : Entry) → f ∈ (entries ++ e ∷ []) → Has f
every_snoc Has entries e all h f m = pick (in_append entries m)
  where
    pick : (f ∈ entries) ⊎ (f ∈ (e ∷ [])) → Has f
    pick (inl n) = all f n
    pick (inr (here q)) = subst Has (sym q) h
    pick (inr (there n)) = absurd (not_in_nil n)

distinct_snoc : (entries : List Entry) (e : Entry) → Distinct entries → ¬ (e ∈ entries) → Distinct (entries ++ e ∷ [])
distinct_snoc [] e d new = ((λ m. not_in_nil m), tt)
distinct_snoc (f ∷ entries) e (first, d) new = ((λ m. pick (in_append entries m)), distinct_snoc entries e d (λ m. new (there m)))
  where
    pick : (f ∈ entries) ⊎ (f ∈ (e ∷ [])) → ⊥
    pick (inl m) = first m
    pick (inr (here q)) = new (here (sym q))
    pick (inr (there m)) = not_in_nil m

module _ (D : Document) (room budget : ℕ) (operations : List ℕ) (z : State) where
  abbrev end : List Entry
  end = (state_of (listing D room budget operations z)).entries

  abbrev Compares : List Entry → Type 0
  Compares entries = (e : Entry) → e ∈ entries → ComparedIn D operations e

  pub ends_compared : Compares z.entries → Compares end
  ends_compared inv =
      held Compares (listing D room budget operations z)
      (holding_listing Compares D room budget operations
      (λ s m c a b h entries all new fits. every_snoc (ComparedIn D operations) entries (entry s c a b) all (compared_in m h)) z inv)

  pub ends_distinct : Distinct z.entries → Distinct end
  ends_distinct inv =
      held Distinct (listing D room budget operations z)
      (holding_listing Distinct D room budget operations (λ s m c a b h entries d new fits. distinct_snoc entries (entry s c a b) d new) z inv)

  abbrev Fit : List Entry → Type 0
  Fit entries = length entries ≤ room

  pub ends_fitting : Fit z.entries → Fit end
  ends_fitting inv =
      held Fit (listing D room budget operations z)
      (holding_listing Fit D room budget operations (λ s m c a b h entries fit new fits. one_more entries (entry s c a b) fits) z inv)
    where
      one_more : (entries : List Entry) (e : Entry) → length entries < room → Fit (entries ++ e ∷ [])
      one_more entries e fits = let q : length (entries ++ e ∷ []) ≡ length entries + 1 = length-append entries (e ∷ []) in omega arith
