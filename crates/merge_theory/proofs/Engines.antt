-- The check decides; any two engines that decide agree, and each decides the rule, whatever the order of fields. Assumes `Sound` where it says so.
use mathlib.Core.Path.{◌≡◌, refl}
use mathlib.Core.Logic.{◌↔◌}
use mathlib.Core.List.{[], ◌∷◌}
use Prim.Native.Nat.{ℕ}
use Rattle.merge_theory.specs.Document.{Document, Cause, Sound}
use Rattle.merge_theory.specs.Engine.{TrueEntry, true_entry, Engine, Decides}
use Rattle.merge_theory.specs.Reordered.{Reordered}
use Rattle.merge_theory.specs.Rule.{MergeFails, Reached, start, RuleHolds}
use Rattle.merge_theory.specs.TrueConflict.{TrueConflict}
use Rattle.merge_theory.specs.Steps.{Entry, entry, Result, finished, conflict, out, deep, IsFinished, IsOut}
use Rattle.merge_theory.specs.Walk.{check}
use Rattle.merge_theory.proofs.Conflict.{NamedEntry, named_entry, either_true, either_compared, true_fails}
use Rattle.merge_theory.proofs.Order.{reordered_rule}
use Rattle.merge_theory.proofs.OrderLinks.{narrowed}
use Rattle.merge_theory.proofs.Theorems.{conflict_own, finished_holds, never_deep, larger_budget, some_budget, within_budget}

named_true : {D : Document} {s : ℕ} {e : Entry} → NamedEntry D s e → TrueEntry D s e
named_true {D} {s} (named_entry {c = c} {a = a} {b = b} h) = true_entry (either_true D s c a b (either_compared h))

pub check_decides : Decides check
check_decides = record {
  stops_true = λ D budget used s e z stopped. named_true (conflict_own D budget used s e z stopped);
  finishes_right = λ D S budget used s at z e. finished_holds D S budget used s at z e;
  shallow = λ D S budget used s at z e. never_deep D S budget used s at z e;
  larger = larger_budget;
  enough = some_budget;
  within = within_budget;
}

-- what a true entry says
IsTrue : (D : Document) (s : ℕ) → Entry → Type 0
IsTrue D s (entry t c a b) = TrueConflict D s c a b

is_true : {D : Document} {s : ℕ} {e : Entry} → TrueEntry D s e → IsTrue D s e
unfolding IsTrue
is_true (true_entry h) = h

pub entry_true : {D : Document} {s t a b : ℕ} {c : Cause} → TrueEntry D s (entry t c a b) → TrueConflict D s c a b
unfolding IsTrue
entry_true h = is_true h

pub entry_breaks : {D : Document} {s : ℕ} {e : Entry} → TrueEntry D s e → MergeFails D (s ∷ [])
entry_breaks {D} {s} (true_entry {c = c} {a = a} {b = b} h) = true_fails D s c a b h

module _ (run : Engine) (E : Decides run) where
  -- An engine that does not run out finishes exactly if the rule holds.
  pub engine_decides : (D : Document) {At : ℕ → Type 0} (S : Sound D At) (budget used s : ℕ) → At s → ¬ IsOut (run D budget used s)
      → IsFinished (run D budget used s) ↔ RuleHolds D s
  engine_decides D S budget used s at = go (run D budget used s) refl
    where
      go : (r : Result) → run D budget used s ≡ r → ¬ IsOut r → IsFinished r ↔ RuleHolds D s
      go (finished z) e h = (λ t. E.finishes_right D S budget used s at z e, λ rule. tt)
      go (conflict f z) e h = (λ t. absurd t, λ rule. rule s start (entry_breaks (E.stops_true D budget used s f z e)))
      go (out z) e h = absurd (h tt)
      go (deep z) e h = absurd (E.shallow D S budget used s at z e)

-- k: wherever two engines finish, they agree on yes or no
pub engines_agree : (run run' : Engine) → Decides run → Decides run' → (D : Document) {At : ℕ → Type 0} (S : Sound D At) (s : ℕ) → At s
    → (budget used budget' used' : ℕ) → ¬ IsOut (run D budget used s) → ¬ IsOut (run' D budget' used' s)
    → IsFinished (run D budget used s) ↔ IsFinished (run' D budget' used' s)
engines_agree run run' E E' D S s at budget used budget' used' h h' = (
  λ t. (engine_decides run' E' D S budget' used' s at h').1 ((engine_decides run E D S budget used s at h).0 t),
  λ t. (engine_decides run E D S budget used s at h).1 ((engine_decides run' E' D S budget' used' s at h').0 t),
)

-- m: two documents that differ in order and numbering pass together, by any engine, where both budgets suffice
pub same_verdict : (run : Engine) → Decides run → (D D' : Document) {At At' : ℕ → Type 0} (S : Sound D At) (S' : Sound D' At') (R : Reordered D D' At At')
    → (s : ℕ) → At s → (budget used budget' used' : ℕ) → ¬ IsOut (run D budget used s) → ¬ IsOut (run D' budget' used' (R.set s))
    → IsFinished (run D budget used s) ↔ IsFinished (run D' budget' used' (R.set s))
same_verdict run E D D' S S' R s at budget used budget' used' h h' = (
  λ t. (engine_decides run E D' S' budget' used' (R.set s) (R.set_at at) h').1 ((reordered_rule D D' S S' R at).0 ((engine_decides run E D S budget used s at h).0 t)),
  λ t. (engine_decides run E D S budget used s at h).1 ((reordered_rule D D' S S' R at).1 ((engine_decides run E D' S' budget' used' (R.set s) (R.set_at at) h').0 t)),
)

-- the same, where each document is sound at what the operation reaches
pub same_verdict_reached : (run : Engine) → Decides run → (D D' : Document) {At At' : ℕ → Type 0} (R : Reordered D D' At At') (s : ℕ) → At s
    → Sound D (Reached D s) → Sound D' (Reached D' (R.set s))
    → (budget used budget' used' : ℕ) → ¬ IsOut (run D budget used s) → ¬ IsOut (run D' budget' used' (R.set s))
    → IsFinished (run D budget used s) ↔ IsFinished (run D' budget' used' (R.set s))
unfolding narrowed
same_verdict_reached run E D D' R s at S S' = same_verdict run E D D' S S' (narrowed D D' R at) s start
