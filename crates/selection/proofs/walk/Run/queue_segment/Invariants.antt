-- The loop of `walk::Run::queue_segment`. Its invariant: the sets of the fields passed stand in the queue. Assumes nothing.
use Prim.Native.Nat.{◌-◌}
use Rattle.selection.proofs.QueueingLaws.{Queueing}
use Rattle.selection.proofs.walk.Run.queue_segment.Given as goal

abbrev pub invariant-loop-place : goal.invariant-loop-place
invariant-loop-place l = Queueing l.image l.self.arena l.initial.s l.s l.initial.next l.next l.segment l.from l.list.end l.place

abbrev pub decreases-loop-place : goal.decreases-loop-place
decreases-loop-place l = l.list.end - l.place
