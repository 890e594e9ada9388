-- `Listed::group_part` meets its contract. Assumes nothing.
use Rattle.selection.specs.Grouping.{group_part}
use Rattle.selection.proofs.groups.Listed.group_part.Goals as goal

pub returns : goal.returns
unfolding group_part
returns c = rw (c.response_name-name.ensures, c.row_at.ensures)
