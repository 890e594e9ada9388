-- The loop of `uses::Tally::validate_variable_usage`. Its invariant: the arguments passed are allowed where they are reached. Assumes nothing.
use mathlib.Core.Path.{◌≡◌}
use mathlib.Core.Bool.{true}
use Prim.Native.Nat.{ℕ, suc, ◌<◌}
use Rattle.variable.specs.Uses.{furthest, allowed_below, end_in}
use Rattle.variable.specs.Names.{Named}
use Rattle.variable.proofs.uses.Tally.validate_variable_usage.Given as goal

abbrev pub invariant-loop-row : goal.invariant-loop-row
invariant-loop-row l = (Named l.self.image.now l.self.variables l.self.words.now → (k : ℕ) → k < l.row → allowed_below l.self.image.now l.self.variables k (furthest (end_in l.self.image.now l.self.words.now) (suc k)) ≡ true) × (l.end ≡ furthest (end_in l.self.image.now l.self.words.now) l.row)
