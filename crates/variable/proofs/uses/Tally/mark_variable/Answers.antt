-- `uses::Tally::mark_variable` meets its contract. Assumes nothing.
use mathlib.Core.Path.{refl}
use native.Mathlib.Omega.{arith}
use Rattle.variable.proofs.UseLaws.{marks_variable, marks_none}
use Rattle.variable.proofs.TallyLaws.{same_itself}
use Rattle.variable.proofs.uses.Tally.mark_variable.Goals as goal

pub returns-then-i-count : goal.returns-then-i-count
returns-then-i-count c = record { same = record { image = refl; words = refl; variables = refl }; does = marks_variable _ (omega arith) (omega arith) c.put.ensures }

pub returns-else-i-count : goal.returns-else-i-count
returns-else-i-count c = record { same = same_itself _; does = marks_none _ _ (omega arith) }
