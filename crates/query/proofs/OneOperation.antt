-- One operation after another: what its own answer says of the reply, by any engine.
use Prim.Native.Nat.{ℕ, suc, ◌≤◌}
use mathlib.Core.Path.{◌≡◌, refl, ap}
use mathlib.Core.List.{List}
use mathlib.Core.Option.{Option, none, some}
use native.Mathlib.Omega.{arith}
use Rattle.merge_theory.specs.Engine.{Engine, Decides}
use Rattle.merge_theory.specs.Units.{WithinBudget}
use Rattle.merge_theory.specs.Steps.{entry, Result, finished, conflict, out, deep}
use Rattle.variable.specs.Verdict.{Shown, usage_fault}
use Rattle.selection.specs.Refining.{reply_of}
use Rattle.query.specs.Stages.{stage_of, place}
use Rattle.query.specs.Reply.{answer, document_of, of_variables, of_walk, or_else, operations_from}
use Rattle.query.specs.Operation.{operation_reply}
use Rattle.query.proofs.ShownKinds.{one_stage, usage_stage, no_cause_0}

module _ (run : Engine) (image : List ℕ) (work i : ℕ) where
  -- an answer other than 0 is the reply
  pub stops : (left used : ℕ) → ((operation_reply run image work i used).kind ≡ 0 → ⊥)
      → operation_reply run image work i used ≡ operations_from run image work (suc left) i used
  unfolding operation_reply operations_from
  stops left used wrong = by_variables (usage_fault image i) wrong
    where
      by_walk : (r : Result) → ((reply_of i r).kind ≡ 0 → ⊥) → reply_of i r ≡ of_walk i r (operations_from run image work left (suc i))
      by_walk (finished y) wrong = absurd (wrong refl)
      by_walk (conflict (entry s c a b) y) wrong = refl
      by_walk (out y) wrong = refl
      by_walk (deep y) wrong = refl

      by_variables : (o : Option Shown) → ((or_else (of_variables i used o) (reply_of i (run (document_of image) work used i))).kind ≡ 0 → ⊥)
          → or_else (of_variables i used o) (reply_of i (run (document_of image) work used i))
          ≡ or_else (of_variables i used o) (of_walk i (run (document_of image) work used i) (operations_from run image work left (suc i)))
      by_variables none wrong = by_walk (run (document_of image) work used i) wrong
      by_variables (some r) wrong = refl

  -- after 0 the next operation goes on from what is used by then
  pub goes_on : (left used : ℕ) → (operation_reply run image work i used).kind ≡ 0
      → operations_from run image work (suc left) i used ≡ operations_from run image work left (suc i) (operation_reply run image work i used).used
  unfolding operation_reply operations_from stage_of
  goes_on left used passes = by_variables (usage_fault image i) refl passes
    where
      by_walk : (r : Result) → (reply_of i r).kind ≡ 0
          → of_walk i r (operations_from run image work left (suc i)) ≡ operations_from run image work left (suc i) (reply_of i r).used
      by_walk (finished y) passes = refl
      by_walk (conflict (entry s c a b) y) passes = absurd (no_cause_0 c passes)
      by_walk (out y) passes = absurd (omega arith)
      by_walk (deep y) passes = absurd (omega arith)

      by_variables : (o : Option Shown) → usage_fault image i ≡ o → (or_else (of_variables i used o) (reply_of i (run (document_of image) work used i))).kind ≡ 0
          → or_else (of_variables i used o) (of_walk i (run (document_of image) work used i) (operations_from run image work left (suc i)))
          ≡ operations_from run image work left (suc i) (or_else (of_variables i used o) (reply_of i (run (document_of image) work used i))).used
      by_variables none e passes = by_walk (run (document_of image) work used i) passes
      by_variables (some r) e passes = absurd (omega (arith, ap place (one_stage passes (usage_stage image i e) refl)))

  -- an operation that passes is told by what is used by then
  pub passing : (used : ℕ) → (operation_reply run image work i used).kind ≡ 0 → operation_reply run image work i used ≡ answer 0 i 0 0 (operation_reply run image work i used).used
  unfolding operation_reply stage_of
  passing used passes = by_variables (usage_fault image i) refl passes
    where
      by_walk : (r : Result) → (reply_of i r).kind ≡ 0 → reply_of i r ≡ answer 0 i 0 0 (reply_of i r).used
      by_walk (finished y) passes = refl
      by_walk (conflict (entry s c a b) y) passes = absurd (no_cause_0 c passes)
      by_walk (out y) passes = absurd (omega arith)
      by_walk (deep y) passes = absurd (omega arith)

      by_variables : (o : Option Shown) → usage_fault image i ≡ o → (or_else (of_variables i used o) (reply_of i (run (document_of image) work used i))).kind ≡ 0
          → or_else (of_variables i used o) (reply_of i (run (document_of image) work used i)) ≡ answer 0 i 0 0 (or_else (of_variables i used o) (reply_of i (run (document_of image) work used i))).used
      by_variables none e passes = by_walk (run (document_of image) work used i) passes
      by_variables (some r) e passes = absurd (omega (arith, ap place (one_stage passes (usage_stage image i e) refl)))

  -- and that is within the budget
  pub used_within : Decides run → (used : ℕ) → used ≤ work → (operation_reply run image work i used).used ≤ work
  unfolding operation_reply
  used_within E used few = by_variables (usage_fault image i)
    where
      by_walk : (r : Result) → WithinBudget work r → (reply_of i r).used ≤ work
      by_walk (finished y) h = h
      by_walk (conflict (entry s c a b) y) h = h
      by_walk (out y) h = h
      by_walk (deep y) h = h

      by_variables : (o : Option Shown) → (or_else (of_variables i used o) (reply_of i (run (document_of image) work used i))).used ≤ work
      by_variables none = by_walk (run (document_of image) work used i) (E.within (document_of image) work used i few)
      by_variables (some r) = few
