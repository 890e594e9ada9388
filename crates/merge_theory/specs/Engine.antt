-- What an engine must show to stand in the check's place: whoever speaks of replies speaks of any such engine. Assumes nothing.
use Rattle.std.specs.Prelude.{◌≡◌, ℕ, ◌≤◌}
use Rattle.merge_theory.specs.Document.{Document, Cause, Sound}
use Rattle.merge_theory.specs.Rule.{RuleHolds}
use Rattle.merge_theory.specs.Steps.{Entry, entry, State, Result, finished, conflict, deep, IsOut}
use Rattle.merge_theory.specs.TrueConflict.{TrueConflict}
use Rattle.merge_theory.specs.Units.{WithinBudget}

-- an entry is of operation s, and truly conflicts there
pub data TrueEntry (D : Document) (s : ℕ) : Entry → Type 0 where
  true_entry : {c : Cause} {a b : ℕ} → TrueConflict D s c a b → TrueEntry D s (entry s c a b)

-- a budget, the units used before, and the operation's set
abbrev pub Engine : Type 0
Engine = Document → (budget used s : ℕ) → Result

pub record Decides (run : Engine) : Type 1 where
  -- a conflict that it stops at is a true one
  pub stops_true : (D : Document) (budget used s : ℕ) (e : Entry) (z : State) → run D budget used s ≡ conflict e z → TrueEntry D s e
  -- where it finishes, the rule holds for every set that the operation reaches
  pub finishes_right : (D : Document) {At : ℕ → Type 0} → Sound D At → (budget used s : ℕ) → At s → (z : State) → run D budget used s ≡ finished z → RuleHolds D s
  pub shallow : (D : Document) {At : ℕ → Type 0} → Sound D At → (budget used s : ℕ) → At s → (z : State) → ¬ (run D budget used s ≡ deep z)
  -- a budget that suffices may be raised; some budget suffices; none is passed
  pub larger : (D : Document) (less more used s : ℕ) → less ≤ more → ¬ IsOut (run D less used s) → run D more used s ≡ run D less used s
  pub enough : (D : Document) (used s : ℕ) → (budget : ℕ) × ¬ IsOut (run D budget used s)
  pub within : (D : Document) (budget used s : ℕ) → used ≤ budget → WithinBudget budget (run D budget used s)
