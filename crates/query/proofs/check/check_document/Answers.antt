-- `check::check_document` meets its contract: the fragments decide, else the operations. Assumes nothing.
use mathlib.Core.Path.{refl}
use Rattle.query.specs.declared.fault.Fault.TheVariants.{Fragments}
use Rattle.query.proofs.Judges.{ended_by, by_fragments, ready_after, by_operations}
use Rattle.query.proofs.check.check_document.Goals as goal

pub check_operations-requires : goal.check_operations-requires
check_operations-requires c = let e = c.in_ok-validate_fragments.ensures in ready_after _ c.requires e.0 e.1 refl

pub returns-in_err-validate_fragments : goal.returns-in_err-validate_fragments
returns-in_err-validate_fragments c =
    let e = c.in_err-validate_fragments.ensures in
    rw (ended_by 0 _ (Fragments _) c.from_residual.ensures.1) (by_fragments _ c.requires e.0 e.1 _ refl)

pub returns : goal.returns
returns c = let e = c.in_ok-validate_fragments.ensures in by_operations _ c.requires e.0 e.1 refl c.check_operations.ensures
