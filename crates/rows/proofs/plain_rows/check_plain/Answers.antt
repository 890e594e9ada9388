-- `plain_rows::check_plain` meets its contract: the row that the search found is the one that is shown. Assumes nothing.
use mathlib.Core.Bool.{not}
use mathlib.Core.Path.{sym, ◌∙◌}
use Rattle.std.proofs.Common.{rules}
use Rattle.lists.proofs.ChainLaws.{found_from_find}
use Rattle.rows.specs.RowFault.{row_rule}
use Rattle.rows.proofs.RowPass.{row_found, no_row_found}
use Rattle.rows.proofs.plain_rows.check_plain.Goals as goal

pub returns-in-Some : goal.returns-in-Some
returns-in-Some c =
    row_found _ c.args.table c.count.ensures
    (sym c.in-Some.is ∙ found_from_find _ (λ r. not (row_rule c.args.image.now c.args.table r)) _ _ _ c.find.ensures.ran (λ x b q k. search rules))

pub returns-in-None : goal.returns-in-None
returns-in-None c =
    no_row_found _ c.args.table c.count.ensures
    (sym c.in-None.is ∙ found_from_find _ (λ r. not (row_rule c.args.image.now c.args.table r)) _ _ _ c.find.ensures.ran (λ x b q k. search rules))
