-- The loop of `uses::Tally::mark_variables`. Its invariant: the rows passed are used as they should. Assumes nothing.
use Rattle.variable.specs.Names.{Searches}
use Rattle.variable.specs.Tallies.{Does}
use Rattle.variable.proofs.UseLaws.{Passing}
use Rattle.variable.proofs.uses.Tally.mark_variables.Given as goal

abbrev pub invariant-loop-row : goal.invariant-loop-row
invariant-loop-row l = Does (λ image variables s s'. Searches image variables s s' (Passing image variables s s' l.row l.end)) l.initial.self l.self
