-- The units charged pay for the known lists and stay within the budget: why the scratch has room for the lists. Assumes nothing.
use mathlib.Core.Path.{◌≡◌}
use mathlib.Core.Bool.{Bool, true, false}
use mathlib.Core.List.{List, [], ◌∷◌, ◌++◌}
use Prim.Native.Nat.{ℕ, suc, ◌+◌, ◌≤◌}
use native.Mathlib.Omega.{arith}
use lib.Dec.{T, leb, leb→le}
use lib.ListN.{length}
use Rattle.merge_theory.specs.Lists.{◌∈◌, is_known}
use Rattle.merge_theory.specs.Document.{Document}
use Rattle.merge_theory.specs.Expand.{expand}
use Rattle.merge_theory.specs.Steps.{Entry, entry, State, Result, finished, conflict, out, deep, Step, after, ◌then◌, charge_if, charge, Found}
use Rattle.merge_theory.specs.Walk.{Pass, shape_pass, parent_pass, compare_first, cost_of, note, enter, meet, fresh, pass, passes, in_order}
use Rattle.merge_theory.specs.Named.{Met, top}
use Rattle.merge_theory.specs.Units.{weight, WithinBudget}
use Rattle.merge_theory.proofs.Outcome.{Fact, Stops, Everywhere, Meets, meets_after, meets_weaken}
use Rattle.merge_theory.proofs.Carried.{Joins, joins_against, Carries, carried_walk}
use Rattle.merge_theory.proofs.Found.{Stayed, Modest}

-- a list that is noted adds its length and one more
pub weight_note : (known : List (List ℕ)) (fields : List ℕ) → weight (known ++ fields ∷ []) ≡ weight known + suc (length fields)
unfolding weight
weight_note [] fields = omega arith
weight_note (l ∷ ls) fields =
    let h : weight (ls ++ fields ∷ []) ≡ weight ls + suc (length fields) = weight_note ls fields in
    omega arith

module _ (budget start : ℕ) where
  -- what was charged since the start pays for the known lists and for `more` words besides
  abbrev PaidWith : ℕ → Fact
  PaidWith more z = (weight z.known + more + start ≤ z.used) × (z.used ≤ budget)

  abbrev pub Paid : Fact
  Paid z = (weight z.known + start ≤ z.used) × (z.used ≤ budget)

  abbrev pub InBudget : Stops
  InBudget = Everywhere (λ z. z.used ≤ budget)

  abbrev pub Pays : Step → Type 0
  Pays step = (z : State) → Paid z → Meets Paid InBudget (step z)

  abbrev PaysOf : (Unit {0} → Step) → Type 0
  PaysOf steps = Pays (steps tt)

  pays_then : (first next : Step) → Pays first → Pays next → Pays (first then next)
  pays_then first next h g z paid = meets_after Paid Paid InBudget (first z) next (h z paid) g

  pays_joins : Joins {I = Unit {0}} PaysOf
  pays_joins = record { stays = λ z paid. paid; both = λ first next. pays_then (first tt) (next tt) }

  -- what is done with a conflict costs nothing
  pays_found : (found : Found) → Modest found → (e : Entry) → Pays (found e)
  pays_found found modest e z paid = go (found e z) (modest e z)
    where
      still : (y : State) → Stayed z y → Paid y
      still y h = let q : weight y.known ≡ weight z.known = λ i. weight (h.known i) in let k = h.used in omega arith

      go : (r : Result) → Meets (Stayed z) (Everywhere (Stayed z)) r → Meets Paid InBudget r
      go (finished y) h = still y h
      go (conflict f y) h = (still y h).1
      go (out y) h = (still y h).1
      go (deep y) h = (still y h).1

  -- what a charge costs is left over
  charge_leaves : (cost : ℕ) (z : State) → Paid z → Meets (PaidWith cost) InBudget (charge budget cost z)
  unfolding charge charge_if
  charge_leaves cost z paid = by_test (leb (z.used + cost) budget) (leb→le (z.used + cost) budget)
    where
      by_test : (b : Bool) → (T b → z.used + cost ≤ budget) → Meets (PaidWith cost) InBudget (charge_if b cost z)
      by_test true h = (omega arith, h tt)
      by_test false h = paid.1

  -- a set's cost covers the list that is noted, if one is
  pays_enter : (fields : List ℕ) (walked : Step) → Pays walked → (isOld : Bool) (z : State) → PaidWith (cost_of isOld fields) z
      → Meets Paid InBudget (enter fields walked isOld z)
  unfolding enter cost_of note after
  pays_enter fields walked h true z paid = (omega arith, paid.1)
  pays_enter fields walked h false z paid =
      let e : weight (z.known ++ fields ∷ []) ≡ weight z.known + suc (length fields) = weight_note z.known fields in
      h _ (omega arith, paid.1)

  pays_meet : (fields : List ℕ) (walked : Step) → Pays walked → (isOld : Bool) → Pays (meet budget fields walked isOld)
  unfolding meet
  pays_meet fields walked h isOld z paid =
      meets_after (PaidWith (cost_of isOld fields)) Paid InBudget _ _ (charge_leaves (cost_of isOld fields) z paid) (pays_enter fields walked h isOld)

  pays_carries : (D : Document) (P : Pass) (s : ℕ) (found : Found) → Modest found → Carries {I = Unit {0}} D P s (λ i. found) (λ i. budget) PaysOf
  unfolding compare_first
  pays_carries D P s found modest = record {
    joins = pays_joins;
    compares = by_part;
    meets = λ fields walked h z. pays_meet fields (walked tt) h (is_known fields z.known) z;
    deeps = λ z paid. paid.1;
  }
    where
      by_part : (sets part : List ℕ) → Met D P s sets → part ∈ P.parts (expand D sets) → Pays (compare_first found s P.clash part)
      by_part sets [] met m = λ z paid. paid
      by_part sets (a ∷ others) met m =
          joins_against PaysOf pays_joins (λ i. found) s P.clash a others (λ c b i e. pays_found found modest (entry s c a b))

-- a pass that begins with nothing known
pub pass_paid : (D : Document) (P : Pass) (found : Found) → Modest found → (budget s : ℕ) (z : State) → z.used ≤ budget
    → Meets (Paid budget z.used) (InBudget budget z.used) (pass D found budget P s z)
unfolding weight pass
pass_paid D P found modest budget s z le =
    carried_walk D P s _ _ _ (pays_carries budget z.used D P s found modest) (suc D.limit) (s ∷ []) top (fresh z) (omega arith, le)

-- both passes; all operations
abbrev Within : ℕ → Step → Type 0
Within budget step = (z : State) → z.used ≤ budget → Meets (λ y. y.used ≤ budget) (Everywhere (λ y. y.used ≤ budget)) (step z)

within_then : (budget : ℕ) (first next : Step) → Within budget first → Within budget next → Within budget (first then next)
within_then budget first next h g z le = meets_after _ _ _ (first z) next (h z le) g

pub passes_within : (D : Document) (found : Found) → Modest found → (budget s : ℕ) → Within budget (passes D found budget s)
unfolding passes
passes_within D found modest budget s =
    within_then budget (pass D found budget (shape_pass D) s) (pass D found budget (parent_pass D) s) (one (shape_pass D)) (one (parent_pass D))
  where
    one : (P : Pass) → Within budget (pass D found budget P s)
    one P z le =
        meets_weaken (Paid budget z.used) _ (InBudget budget z.used) (pass D found budget P s z) (λ y paid. paid.1)
        (pass_paid D P found modest budget s z le)

pub all_within : (D : Document) (found : Found) → Modest found → (budget : ℕ) (operations : List ℕ) → Within budget (in_order D found budget operations)
unfolding in_order
all_within D found modest budget [] = λ z le. le
all_within D found modest budget (s ∷ operations) =
    within_then budget _ _ (passes_within D found modest budget s) (all_within D found modest budget operations)

-- however it ended
pub within : (budget : ℕ) (r : Result) → Meets (λ y. y.used ≤ budget) (Everywhere (λ y. y.used ≤ budget)) r → WithinBudget budget r
within budget (finished z) h = h
within budget (conflict e z) h = h
within budget (out z) h = h
within budget (deep z) h = h
