-- `refuse::refuse` meets its contract: a wrong header refuses the image, else the sizes decide. Assumes nothing.
use mathlib.Core.Path.{sym, ◌∙◌}
use Rattle.query.specs.declared.refuse.Refusal.TheVariants.{Header}
use Rattle.query.proofs.Sizes.{refused_by, header_refuses, sizes_decide}
use Rattle.query.proofs.refuse.refuse.Goals as goal

pub returns-in_err-check_header : goal.returns-in_err-check_header
returns-in_err-check_header c = refused_by _ (Header _) c.from_residual.ensures.1 ∙ header_refuses _ _ _ _ c.in_err-check_header.ensures

pub returns : goal.returns
returns c = c.refuse_sizes.ensures ∙ sizes_decide _ _ _ (sym c.in_ok-check_header.ensures)
