-- The loop of `uses::Tally::reach_queued`. Its invariant: the sets passed are reached. Assumes nothing.
use Rattle.variable.specs.Tallies.{Does}
use Rattle.variable.proofs.UseLaws.{Queueing}
use Rattle.variable.proofs.uses.Tally.reach_queued.Given as goal

abbrev pub invariant-loop-i : goal.invariant-loop-i
invariant-loop-i l = Does (λ image variables s s'. Queueing image s l.queued s' l.i) l.initial.self l.self
