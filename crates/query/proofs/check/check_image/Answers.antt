-- `check::check_image` meets its contract: the rows decide, else the document. Assumes nothing.
use mathlib.Core.Path.{refl}
use Rattle.query.specs.declared.fault.Fault.TheVariants.{Image}
use Rattle.query.proofs.Judges.{ended_by, by_rows, fits_after, by_document}
use Rattle.query.proofs.check.check_image.Goals as goal

pub check_document-requires : goal.check_document-requires
check_document-requires c = fits_after c.args.s.now c.requires c.in_ok-check_rows.ensures refl

pub returns-in_err-check_rows : goal.returns-in_err-check_rows
returns-in_err-check_rows c = rw (ended_by 0 _ (Image _) c.from_residual.ensures.1) (by_rows _ c.requires c.in_err-check_rows.ensures _ refl)

pub returns : goal.returns
returns c = by_document _ c.requires c.in_ok-check_rows.ensures refl c.check_document.ensures
