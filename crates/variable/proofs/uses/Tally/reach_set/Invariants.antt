-- The loop of `uses::Tally::reach_set`. Its invariant: the rows passed are reached. Assumes nothing.
use Rattle.variable.specs.Uses.{reach_selection, Steps}
use Rattle.variable.specs.Tallies.{Does}
use Rattle.tables.specs.Image.{row_in}
use Rattle.reach.specs.Turns.{turns}
use Rattle.variable.proofs.uses.Tally.reach_set.Given as goal

abbrev pub invariant-loop-i : goal.invariant-loop-i
invariant-loop-i l = Does (λ image variables. Steps image (turns (λ k. reach_selection image (row_in l.rows k)) l.i)) l.initial.self l.self
