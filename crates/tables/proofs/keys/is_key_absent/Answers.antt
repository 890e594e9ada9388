-- `keys::is_key_absent` meets its contract. Assumes nothing.
use Rattle.lists.specs.Every.{absent}
use Rattle.lists.proofs.EveryLaws.{none_where}
use Rattle.tables.proofs.keys.is_key_absent.Goals as goal

pub returns : goal.returns
unfolding absent
returns c = none_where _ _ _ (rw c.find_key.ensures at c.is_none.ensures)
