-- `expand::Worklist::expand_set` meets its contract. The loop's invariant: i rows of the set are done. Assumes nothing.
use native.Mathlib.Omega.{arith}
use mathlib.Core.Path.{◌≡◌}
use Rattle.expand.proofs.StepLaws.{steps_first, steps_more, steps_all}
use Rattle.expand.proofs.WorklistLaws.{same_itself, same_on}
use Rattle.expand.proofs.Worklist.expand_set.Goals as goal

pub loop-i-init : goal.loop-i-init
loop-i-init c = record { same = same_itself _; steps = steps_first _ _ _ }

pub loop-i-preserved : goal.loop-i-preserved
loop-i-preserved c =
    let l = c.loop-i.invariant in
    let row = c.expand_selection.ensures in
    record { same = same_on l.same row.same; steps = steps_more _ c.loop-i.i l.steps c.row.ensures (rw (l.same.image, l.same.area) at row.steps) }
