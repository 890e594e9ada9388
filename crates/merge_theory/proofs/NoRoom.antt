-- The check is the listing with no room: its first conflict is the entry that finds none. Assumes nothing.
use mathlib.Core.Path.{◌≡◌, refl, sym, subst}
use mathlib.Core.Bool.{Bool, true, false}
use mathlib.Core.List.{List, [], ◌∷◌}
use Prim.Native.Nat.{ℕ, ◌+◌}
use lib.Dec.{leb, ltb}
use lib.ListN.{length}
use Rattle.merge_theory.specs.Lists.{◌∈◌, is_known}
use Rattle.merge_theory.specs.Document.{Document}
use Rattle.merge_theory.specs.Expand.{expand}
use Rattle.merge_theory.specs.Steps.{Entry, entry, State, Result, finished, conflict, out, deep, state_of, Step, after, ◌then◌, charge_if, charge, Found, stop, is_listed, list_if, list}
use Rattle.merge_theory.specs.Walk.{Pass, shape_pass, parent_pass, compare_first, cost_of, note, enter, meet, pass, passes, in_order, checks, listing}
use Rattle.merge_theory.specs.Named.{Met, top}
use Rattle.merge_theory.proofs.Carried.{Joins, joins_against, Carries, carried_walk}

-- one result, with nothing listed
abbrev pub Alike : Result → Result → Type 0
Alike r r' = (r ≡ r') × ((state_of r).entries ≡ [])

-- a step of the check, and of the listing
abbrev pub Same : Step → Step → Type 0
Same step step' = (z : State) → z.entries ≡ [] → Alike (step z) (step' z)

same_step : (step : Step) → ((z : State) → z.entries ≡ [] → (state_of (step z)).entries ≡ []) → Same step step
same_step step h z e = (refl, h z e)

alike_after : (r r' : Result) (next next' : Step) → Same next next' → Alike r r' → Alike (after r next) (after r' next')
unfolding after
alike_after r r' next next' h (q, e) = subst (λ x. Alike (after r next) (after x next')) q (go r e)
  where
    go : (r : Result) → (state_of r).entries ≡ [] → Alike (after r next) (after r next')
    go (finished z) e = h z e
    go (conflict f z) e = (refl, e)
    go (out z) e = (refl, e)
    go (deep z) e = (refl, e)

same_then : (first first' next next' : Step) → Same first first' → Same next next' → Same (first then next) (first' then next')
same_then first first' next next' h g z e = alike_after (first z) (first' z) next next' g (h z e)

abbrev pub hand : Bool → Found
hand true = stop
hand false = list 0

abbrev pub SameOf : (Bool → Step) → Type 0
SameOf steps = Same (steps true) (steps false)

pub same_joins : Joins {I = Bool} SameOf
same_joins = record { stays = λ z e. (refl, e); both = λ first next. same_then (first true) (first false) (next true) (next false) }

-- a first entry finds no room
pub same_found : (e : Entry) → SameOf (λ i. hand i e)
unfolding list list_if is_listed
same_found e z q = (subst (λ (l : List Entry). conflict e z ≡ list_if (is_listed e l) (ltb (length l) 0) e z) (sym q) refl, q)

pub same_charge : (budget cost : ℕ) → Same (charge budget cost) (charge budget cost)
unfolding charge charge_if
same_charge budget cost = same_step (charge budget cost) (λ z e. by_test (leb (z.used + cost) budget) z e)
  where
    by_test : (b : Bool) (z : State) → z.entries ≡ [] → (state_of (charge_if b cost z)).entries ≡ []
    by_test true z e = e
    by_test false z e = e

same_enter : (fields : List ℕ) (walked walked' : Step) → Same walked walked' → (isOld : Bool) → Same (enter fields walked isOld) (enter fields walked' isOld)
unfolding enter note
same_enter fields walked walked' h true = λ z e. (refl, e)
same_enter fields walked walked' h false = same_then (note fields) (note fields) walked walked' (λ z e. (refl, e)) h

same_carries : (D : Document) (P : Pass) (s budget : ℕ) → Carries {I = Bool} D P s hand (λ i. budget) SameOf
unfolding compare_first meet
same_carries D P s budget = record {
  joins = same_joins;
  compares = by_part;
  meets = λ fields walked h z e.
      same_then _ _ _ _ (same_charge budget (cost_of (is_known fields z.known) fields))
      (same_enter fields (walked true) (walked false) h (is_known fields z.known)) z e;
  deeps = λ z e. (refl, e);
}
  where
    by_part : (sets part : List ℕ) → Met D P s sets → part ∈ P.parts (expand D sets) → SameOf (λ i. compare_first (hand i) s P.clash part)
    by_part sets [] met m = λ z e. (refl, e)
    by_part sets (a ∷ others) met m = joins_against SameOf same_joins hand s P.clash a others (λ c b i e. same_found (entry s c a b))

same_passes : (D : Document) (s budget : ℕ) → Same (passes D stop budget s) (passes D (list 0) budget s)
unfolding passes pass
same_passes D s budget =
    same_then (pass D stop budget (shape_pass D) s) (pass D (list 0) budget (shape_pass D) s) _ _
    (λ z e. carried_walk D (shape_pass D) s hand _ SameOf (same_carries D (shape_pass D) s budget) _ (s ∷ []) top _ e)
    (λ z e. carried_walk D (parent_pass D) s hand _ SameOf (same_carries D (parent_pass D) s budget) _ (s ∷ []) top _ e)

same_all : (D : Document) (budget : ℕ) (operations : List ℕ) → Same (checks D budget operations) (listing D 0 budget operations)
unfolding in_order
same_all D budget [] = λ z e. (refl, e)
same_all D budget (s ∷ operations) =
    same_then (passes D stop budget s) (passes D (list 0) budget s) _ _ (same_passes D s budget) (same_all D budget operations)

pub no_room_passes : (D : Document) (budget s : ℕ) (z : State) → z.entries ≡ [] → passes D stop budget s z ≡ passes D (list 0) budget s z
no_room_passes D budget s z e = (same_passes D s budget z e).0

pub no_room_checks : (D : Document) (budget : ℕ) (operations : List ℕ) (z : State) → z.entries ≡ []
    → (checks D budget operations z ≡ listing D 0 budget operations z) × ((state_of (checks D budget operations z)).entries ≡ [])
no_room_checks D budget operations z e = same_all D budget operations z e
