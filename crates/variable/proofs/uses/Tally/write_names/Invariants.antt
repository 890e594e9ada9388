-- The loop of `uses::Tally::write_names`. Its invariant: the names passed are written. Assumes nothing.
use Rattle.variable.specs.Tallies.{Does}
use Rattle.variable.proofs.NameLaws.{Writing}
use Rattle.variable.proofs.uses.Tally.write_names.Given as goal

abbrev pub invariant-loop-i : goal.invariant-loop-i
invariant-loop-i l = Does (λ image variables s s'. Writing image variables s s' l.i) l.initial.self l.self
