-- Where a walk stops at a conflict: what holds of all conflicts that its comparisons stop at holds of the one that it stops at. Assumes nothing.
use mathlib.Core.Bool.{Bool, true, false}
use mathlib.Core.List.{List}
use Prim.Native.Nat.{ℕ, ◌+◌}
use lib.Dec.{leb}
use Rattle.merge_theory.specs.Lists.{◌∈◌, is_known}
use Rattle.merge_theory.specs.Document.{Document}
use Rattle.merge_theory.specs.Expand.{expand}
use Rattle.merge_theory.specs.Steps.{Entry, State, Step, after, ◌then◌, charge_if, charge, Found}
use Rattle.merge_theory.specs.Walk.{Pass, compare_first, note, enter, meet}
use Rattle.merge_theory.specs.Named.{Met}
use Rattle.merge_theory.proofs.Outcome.{Fact, Anyhow, Stops, Meets, meets_after}
use Rattle.merge_theory.proofs.Carried.{Joins, Carries}

-- of a conflict `At` is to hold, of any other end nothing
abbrev pub Stopping : (Entry → Fact) → Stops
Stopping At = record { on_conflict = At; on_out = λ z. Unit {0}; on_deep = λ z. Unit {0} }

module _ (At : Entry → Fact) where
  abbrev pub StopsSo : Step → Type 0
  StopsSo step = (z : State) → Meets Anyhow (Stopping At) (step z)

  abbrev pub StopsSoOf : (Unit {0} → Step) → Type 0
  StopsSoOf steps = StopsSo (steps tt)

  pub stops_then : (first next : Step) → StopsSo first → StopsSo next → StopsSo (first then next)
  stops_then first next h g z = meets_after Anyhow Anyhow (Stopping At) (first z) next (h z) (λ y t. g y)

  pub stops_joins : Joins {I = Unit {0}} StopsSoOf
  stops_joins = record { stays = λ z. tt; both = λ first next. stops_then (first tt) (next tt) }

  pub stops_charge : (budget cost : ℕ) → StopsSo (charge budget cost)
  unfolding charge charge_if
  stops_charge budget cost z = by_test (leb (z.used + cost) budget)
    where
      by_test : (b : Bool) → Meets Anyhow (Stopping At) (charge_if b cost z)
      by_test true = tt
      by_test false = tt

  stops_enter : (fields : List ℕ) (walked : Step) → StopsSo walked → (isOld : Bool) → StopsSo (enter fields walked isOld)
  unfolding enter note after
  stops_enter fields walked h true = λ z. tt
  stops_enter fields walked h false = λ z. h _

  stops_meet : (budget : ℕ) (fields : List ℕ) (walked : Step) → StopsSo walked → (isOld : Bool) → StopsSo (meet budget fields walked isOld)
  unfolding meet
  stops_meet budget fields walked h isOld = stops_then _ _ (stops_charge budget _) (stops_enter fields walked h isOld)

  pub stops_carries : (D : Document) (P : Pass) (s budget : ℕ) (found : Found)
      → ((sets part : List ℕ) → Met D P s sets → part ∈ P.parts (expand D sets) → StopsSo (compare_first found s P.clash part))
      → Carries {I = Unit {0}} D P s (λ i. found) (λ i. budget) StopsSoOf
  stops_carries D P s budget found compares = record {
    joins = stops_joins;
    compares = compares;
    meets = λ fields walked h z. stops_meet budget fields (walked tt) h (is_known fields z.known) z;
    deeps = λ z. tt;
  }
