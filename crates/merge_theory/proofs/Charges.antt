-- What a pass charges is what its known lists cost, and 1 for the set that it begins with. Assumes nothing.
use mathlib.Core.Path.{◌≡◌}
use mathlib.Core.Bool.{Bool, true, false}
use mathlib.Core.List.{List, [], ◌∷◌, ◌++◌}
use Prim.Native.Nat.{ℕ, zero, suc, ◌+◌}
use native.Mathlib.Omega.{arith}
use lib.Dec.{leb}
use lib.ListN.{length}
use Rattle.merge_theory.specs.Lists.{is_known}
use Rattle.merge_theory.specs.Document.{Document}
use Rattle.merge_theory.specs.Expand.{expand}
use Rattle.merge_theory.specs.Steps.{Entry, entry, State, Result, finished, conflict, out, deep, Step, after, ◌then◌, charge_if, charge, Found}
use Rattle.merge_theory.specs.Walk.{Pass, compare_first, descend, sets_below, cost_of, noted, note, enter, meet, walk_parts, walk, fresh, pass}
use Rattle.merge_theory.specs.Units.{met_once, sets_met, cost_of_all}
use Rattle.merge_theory.proofs.Outcome.{Fact, AnyStop, Everywhere, Meets, meets_after, meets_weaken}
use Rattle.merge_theory.proofs.Carried.{Joins, joins_against}
use Rattle.merge_theory.proofs.Found.{Stayed, Modest}

module _ (D : Document) (P : Pass) (found : Found) (modest : Modest found) (s : ℕ) where
  cost_note : (known : List (List ℕ)) (fields : List ℕ)
      → cost_of_all D P (known ++ fields ∷ []) ≡ cost_of_all D P known + (length fields + sets_met D (P.parts fields))
  unfolding cost_of_all
  cost_note [] fields = omega arith
  cost_note (l ∷ ls) fields =
      let h : cost_of_all D P (ls ++ fields ∷ []) ≡ cost_of_all D P ls + (length fields + sets_met D (P.parts fields)) = cost_note ls fields in
      omega arith

  -- `due` is charged besides what the lists cost that become known, of which `paid` was paid before
  abbrev pub Charged : (due paid : ℕ) (z : State) → Fact
  Charged due paid z y = y.used + paid + cost_of_all D P z.known ≡ z.used + due + cost_of_all D P y.known

  abbrev Charges : ℕ → ℕ → Step → Type 0
  Charges due paid step = (z : State) → Meets (Charged due paid z) AnyStop (step z)

  charges_finished : Charges 0 0 finished
  charges_finished z = omega arith

  -- one step, then another: what both charge, of which the first pays for the second
  charges_then : (due due' paid both : ℕ) (first next : Step) → both + paid ≡ due + due' → Charges due 0 first → Charges due' paid next
      → Charges both 0 (first then next)
  charges_then due due' paid both first next q h g z =
      meets_after (Charged due 0 z) _ AnyStop (first z) next (h z)
      (λ y e. meets_weaken (Charged due' paid y) _ AnyStop (next y) (λ x e'. sum y e x e') (g y))
    where
      sum : (y : State) → Charged due 0 z y → (x : State) → Charged due' paid y x → Charged both 0 z x
      sum y e x e' = omega arith

  charges_charge : (budget cost : ℕ) → Charges cost 0 (charge budget cost)
  unfolding charge charge_if
  charges_charge budget cost z = by_test (leb (z.used + cost) budget)
    where
      by_test : (b : Bool) → Meets (Charged cost 0 z) AnyStop (charge_if b cost z)
      by_test true = omega arith
      by_test false = tt

  -- ---- a comparison costs nothing

  charges_found : (e : Entry) → Charges 0 0 (found e)
  charges_found e z = go (found e z) (modest e z)
    where
      go : (r : Result) → Meets (Stayed z) (Everywhere (Stayed z)) r → Meets (Charged 0 0 z) AnyStop r
      go (finished y) h =
          let q : cost_of_all D P y.known ≡ cost_of_all D P z.known = λ i. cost_of_all D P (h.known i) in
          let k : y.used ≡ z.used = h.used in
          omega arith
      go (conflict f y) h = tt
      go (out y) h = tt
      go (deep y) h = tt

  free_joins : Joins {I = Unit {0}} (λ steps. Charges 0 0 (steps tt))
  free_joins = record { stays = charges_finished; both = λ first next. charges_then 0 0 0 0 (first tt) (next tt) (omega arith) }

  charges_compare : (part : List ℕ) → Charges 0 0 (compare_first found s P.clash part)
  unfolding compare_first
  charges_compare [] = charges_finished
  charges_compare (a ∷ others) =
      joins_against (λ steps. Charges 0 0 (steps tt)) free_joins (λ i. found) s P.clash a others (λ c b i e. charges_found (entry s c a b))

  -- ---- sets that are met

  -- the walk of the level below: 1 for its set
  abbrev OneEach : (List ℕ → Step) → Type 0
  OneEach below = (sets : List ℕ) → Charges 1 0 (below sets)

  charges_descend : (below : List ℕ → Step) → OneEach below → (sets : List ℕ) → Charges (met_once sets) 0 (descend below sets)
  unfolding descend met_once
  charges_descend below h [] = charges_finished
  charges_descend below h (t ∷ sets) = h (t ∷ sets)

  charges_parts : (below : List ℕ → Step) → OneEach below → (parts : List (List ℕ))
      → Charges (sets_met D parts) 0 (walk_parts D P found s below parts)
  unfolding walk_parts sets_met
  charges_parts below h [] = charges_finished
  charges_parts below h (part ∷ parts) =
      charges_then 0 (met_once (sets_below D part) + sets_met D parts) 0 (met_once (sets_below D part) + sets_met D parts) _ _ (omega arith) (charges_compare part)
      (charges_then (met_once (sets_below D part)) (sets_met D parts) 0 (met_once (sets_below D part) + sets_met D parts) _ _ (omega arith) (charges_descend below h _) (charges_parts below h parts))

  -- a list that is noted was paid for, and its parts' sets are met
  charges_note : (below : List ℕ → Step) → OneEach below → (fields : List ℕ)
      → Charges 0 (length fields) (note fields then walk_parts D P found s below (P.parts fields))
  unfolding note after
  charges_note below h fields z =
      meets_weaken (Charged (sets_met D (P.parts fields)) 0 (noted fields z)) _ AnyStop
      (walk_parts D P found s below (P.parts fields) (noted fields z)) (λ y e. paid y e) (charges_parts below h (P.parts fields) (noted fields z))
    where
      paid : (y : State) → Charged (sets_met D (P.parts fields)) 0 (noted fields z) y → Charged 0 (length fields) z y
      paid y e =
          let h : cost_of_all D P (z.known ++ fields ∷ []) ≡ cost_of_all D P z.known + (length fields + sets_met D (P.parts fields)) =
          cost_note z.known fields in
          omega arith

  charges_meet : (budget : ℕ) (below : List ℕ → Step) → OneEach below → (fields : List ℕ) (isOld : Bool)
      → Charges 1 0 (meet budget fields (walk_parts D P found s below (P.parts fields)) isOld)
  unfolding meet enter cost_of
  charges_meet budget below h fields true = charges_then 1 0 0 1 _ _ (omega arith) (charges_charge budget 1) charges_finished
  charges_meet budget below h fields false = charges_then (1 + length fields) 0 (length fields) 1 _ _ (omega arith) (charges_charge budget (1 + length fields)) (charges_note below h fields)

  charges_walk : (budget levels : ℕ) → OneEach (walk D P found s budget levels)
  unfolding walk
  charges_walk budget zero sets z = tt
  charges_walk budget (suc levels) sets z =
      charges_meet budget (walk D P found s budget levels) (charges_walk budget levels) (expand D sets) (is_known (expand D sets) z.known) z

  -- a pass begins with nothing known
  pub pass_charges : (budget : ℕ) (z : State) → Meets (λ y. y.used ≡ z.used + 1 + cost_of_all D P y.known) AnyStop (pass D found budget P s z)
  unfolding pass cost_of_all
  pass_charges budget z =
      meets_weaken (Charged 1 0 (fresh z)) _ AnyStop (walk D P found s budget (suc D.limit) (s ∷ []) (fresh z)) (λ y e. exact y e)
      (charges_walk budget (suc D.limit) (s ∷ []) (fresh z))
    where
      exact : (y : State) → Charged 1 0 (fresh z) y → y.used ≡ z.used + 1 + cost_of_all D P y.known
      exact y e = omega arith
