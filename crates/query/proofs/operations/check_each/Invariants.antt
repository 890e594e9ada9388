-- The loop of `operations::check_each`. Its invariant: the operations passed leave the reply to the others.
-- Assumes nothing.
use Rattle.query.proofs.EachOperation.{Going}
use Rattle.query.proofs.operations.check_each.Given as goal

abbrev pub invariant-loop-operation : goal.invariant-loop-operation
invariant-loop-operation l = Going l.image l.work l.initial.s l.s l.operation l.used
