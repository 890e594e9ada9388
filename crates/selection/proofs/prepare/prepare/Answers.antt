-- `prepare::prepare` meets its contract. Assumes nothing.
use Rattle.selection.proofs.PrepareLaws.{prepares}
use Rattle.selection.proofs.prepare.prepare.Goals as goal

pub returns : goal.returns
returns c = prepares c.write_parents.ensures c.write_classes.ensures
