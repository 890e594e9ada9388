-- `refuse::refuse_sizes` meets its contract: a law for each `return`. Assumes nothing.
use native.Mathlib.Omega.{arith}
use Rattle.query.proofs.Sizes.{few_needed, work_over, scratch_short, enough}
use Rattle.query.proofs.refuse.refuse_sizes.Goals as goal

pub returns-then-work-gt-MOST_WORK : goal.returns-then-work-gt-MOST_WORK
returns-then-work-gt-MOST_WORK c = work_over _ _ _ (omega arith)

pub overflow_cast-result : goal.overflow_cast-result
overflow_cast-result c =
    omega (arith, few_needed c.args.image.now c.requires c.args.work (omega arith))

pub returns-then-long-needed : goal.returns-then-long-needed
returns-then-long-needed c = scratch_short _ _ _ (omega arith) (omega arith) c.scratch_needed-needed.ensures

pub returns : goal.returns
returns c = enough _ _ _ (omega arith) (omega arith)
