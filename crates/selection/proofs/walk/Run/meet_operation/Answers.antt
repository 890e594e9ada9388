-- `walk::Run::meet_operation` meets its contract. Assumes nothing.
use Rattle.selection.proofs.OperationLaws.{ample_forgotten, begun_set, operation_met, operation_from}
use Rattle.selection.proofs.walk.Run.meet_operation.Goals as goal

pub meet_sets-requires : goal.meet_sets-requires
meet_sets-requires c = (ample_forgotten c.requires, begun_set c.args.self.now.arena c.begin_expansion.ensures.0 (rw c.area.ensures at c.queue_set-queued.ensures.0))

pub returns : goal.returns
returns c =
    let met = c.meet_sets.ensures in
    record {
      meets = operation_from c.meet_sets.result met.ends
          (operation_met c.begin_expansion.result c.requires c.begin_expansion.ensures.1 (rw c.area.ensures at c.queue_set-queued.ensures.0) (rw c.area.ensures at c.queue_set-queued.ensures.1) met.meets);
      ends = met.ends;
    }
