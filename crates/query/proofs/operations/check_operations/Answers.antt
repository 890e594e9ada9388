-- `operations::check_operations` meets its contract: parents and classes stand, then each operation is checked. Assumes nothing.
use Rattle.query.proofs.Lending.{lent_written}
use Rattle.query.proofs.operations.check_operations.Goals as goal

pub check_each-requires : goal.check_each-requires
check_each-requires c = lent_written _ c.requires c.words_needed-front.ensures.0 c.prepare.ensures
