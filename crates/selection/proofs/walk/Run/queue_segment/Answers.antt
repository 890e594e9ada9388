-- `walk::Run::queue_segment` meets its contract. The loop's invariant: the sets of the fields passed stand in the queue. Assumes nothing.
use mathlib.Core.Path.{refl}
use native.Mathlib.Omega.{arith}
use Rattle.selection.proofs.FollowLaws.{follow_ahead}
use Rattle.selection.proofs.QueueingLaws.{queueing_first, queueing_next, queueing_done}
use Rattle.selection.proofs.walk.Run.queue_segment.Goals as goal

pub loop-place-init : goal.loop-place-init
loop-place-init c = queueing_first

pub loop-place-smaller : goal.loop-place-smaller
loop-place-smaller c = omega (arith, follow_ahead _ _ _ _ _ c.follow-place.ensures (omega (arith, c.loop-place-test.true)), c.loop-place-test.true)

pub loop-place-preserved : goal.loop-place-preserved
loop-place-preserved c = queueing_next c.loop-place.invariant (omega (arith, c.loop-place-test.true)) c.row_at-row.ensures c.queue_field-next.ensures.0 c.queue_field-next.ensures.1 c.follow-place.ensures

pub returns : goal.returns
returns c = queueing_done c.args.list c.loop-place.invariant (omega (arith, c.loop-place-test.false)) refl
