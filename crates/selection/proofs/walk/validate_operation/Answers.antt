-- `walk::validate_operation` meets its contract: the marks are cleared, and the two passes run. Assumes nothing.
use Rattle.selection.proofs.ValidateLaws.{ample_start, ends_early, ends}
use Rattle.selection.proofs.walk.validate_operation.Goals as goal

pub walk_operation-requires : goal.walk_operation-requires
walk_operation-requires c = rw c.at_start-start.ensures (ample_start c.args.work _ _ c.min-budget.ensures)

pub returns-in-Err : goal.returns-in-Err
returns-in-Err c = ends_early c.of-arena.ensures c.min-budget.ensures c.count.ensures c.clear.ensures c.clear.auto.s (rw c.at_start-start.ensures at c.in-Err.ensures.runs) c.in-Err.ensures.ends

pub returns-in-Ok-walk_operation : goal.returns-in-Ok-walk_operation
returns-in-Ok-walk_operation c = ends c.of-arena.ensures c.min-budget.ensures c.count.ensures c.clear.ensures c.clear.auto.s (rw c.at_start-start.ensures at c.in-Ok.ensures.runs) c.in-Ok.ensures.ends c.in-Ok-walk_operation.ensures.runs

pub returns-in-Err-walk_operation : goal.returns-in-Err-walk_operation
returns-in-Err-walk_operation c = ends c.of-arena.ensures c.min-budget.ensures c.count.ensures c.clear.ensures c.clear.auto.s (rw c.at_start-start.ensures at c.in-Ok.ensures.runs) c.in-Ok.ensures.ends c.in-Err-walk_operation.ensures.runs
