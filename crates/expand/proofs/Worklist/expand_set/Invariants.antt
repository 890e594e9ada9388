-- The loop of `expand::Worklist::expand_set`. Its invariant: i rows of the set are done. Assumes nothing.
use Rattle.expand.specs.ImageDocument.{up_from}
use Rattle.expand.specs.Worklists.{Goes}
use Rattle.expand.proofs.Worklist.expand_set.Given as goal

abbrev pub invariant-loop-i : goal.invariant-loop-i
invariant-loop-i l = Goes (λ image. up_from l.rows.first l.i) l.initial.self l.self
