-- `check::check_all` meets its contract: what is refused is the reply, else what the stages say. Assumes nothing.
use mathlib.Core.Path.{refl, sym}
use Rattle.query.specs.declared.fault.Fault.TheVariants.{Refused}
use Rattle.query.proofs.Judges.{ended_by, reply_refused, reply_judged}
use Rattle.query.proofs.check.check_all.Goals as goal

pub check_lent-requires : goal.check_lent-requires
check_lent-requires c = sym c.in_ok-refuse.ensures

pub returns-in_err-refuse : goal.returns-in_err-refuse
returns-in_err-refuse c = rw (ended_by 0 _ (Refused _) c.from_residual.ensures.1) (reply_refused _ _ c.args.scratch.now c.in_err-refuse.ensures refl)

pub returns : goal.returns
returns c = reply_judged _ _ _ c.in_ok-refuse.ensures refl c.check_lent.ensures
