-- `rows::check_rows` meets its contract: a wrong header refuses the image, else its rows decide. Assumes nothing.
use mathlib.Core.Path.{◌∙◌}
use Rattle.lists.specs.First.{◌▷◌}
use Rattle.rows.specs.RowFault.{image_fault}
use Rattle.rows.specs.declared.BadImage.TheVariants.{Header}
use Rattle.rows.proofs.RowPass.{passed_on}
use Rattle.rows.proofs.check_rows.Goals as goal

pub returns-in_err-check_header : goal.returns-in_err-check_header
unfolding image_fault ◌▷◌
returns-in_err-check_header c = passed_on _ (Header _) c.from_residual.ensures.1 ∙ rw (← c.in_err-check_header.ensures)

pub returns : goal.returns
unfolding image_fault ◌▷◌
returns c = rw (← c.in_ok-check_header.ensures) c.check_tables.ensures
