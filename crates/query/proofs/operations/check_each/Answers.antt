-- `operations::check_each` meets its contract. The loop's invariant: the operations passed leave the reply to the others.
-- Assumes nothing.
use native.Mathlib.Omega.{arith}
use Rattle.query.proofs.EachOperation.{going_first, going_next, going_stops, going_done}
use Rattle.query.proofs.Judges.{ended_by}
use Rattle.query.proofs.operations.check_each.Goals as goal

pub loop-operation-init : goal.loop-operation-init
loop-operation-init c = going_first c.requires

pub check_operation-requires : goal.check_operation-requires
check_operation-requires c = (c.loop-operation.invariant.lent, omega (arith, c.count-operation-end.ensures), c.loop-operation.invariant.within)

pub returns-in_err-used : goal.returns-in_err-used
returns-in_err-used c =
    let e = c.in_err-used.ensures in
    rw (ended_by 0 _ _ c.from_residual.ensures.1) (going_stops c.loop-operation.invariant (omega (arith, c.count-operation-end.ensures)) e.says e.stops)

pub loop-operation-preserved : goal.loop-operation-preserved
loop-operation-preserved c = going_next c.loop-operation.invariant (omega (arith, c.count-operation-end.ensures)) c.in_ok-used.ensures.says

pub returns : goal.returns
returns c = going_done c.loop-operation.invariant (λ more. omega (arith, c.count-operation-end.ensures, more))
