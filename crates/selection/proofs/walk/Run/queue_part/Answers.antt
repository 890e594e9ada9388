-- `walk::Run::queue_part` meets its contract. Assumes nothing.
use Rattle.selection.proofs.QueueingLaws.{queued_part}
use Rattle.selection.proofs.walk.Run.queue_part.Goals as goal

pub returns : goal.returns
returns c = queued_part c.queue_segment-front.ensures c.queue_segment.ensures
