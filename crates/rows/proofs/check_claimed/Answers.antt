-- `rows::check_claimed` meets its contract: the first table with rows left over is shown. Assumes nothing.
use mathlib.Core.Path.{◌∙◌}
use Rattle.lists.specs.First.{◌▷◌}
use Rattle.rows.specs.RowFault.{unclaimed_fault}
use Rattle.rows.proofs.RowPass.{passed_on}
use Rattle.rows.proofs.check_claimed.Goals as goal

pub returns-in_err-check_left_over : goal.returns-in_err-check_left_over
unfolding unclaimed_fault ◌▷◌
returns-in_err-check_left_over c =
    rw (← c.from.ensures) (passed_on _ _ c.from_residual.ensures.1 ∙ rw (← c.in_err-check_left_over.ensures))

pub returns-in_err-check_left_over-2 : goal.returns-in_err-check_left_over-2
unfolding unclaimed_fault ◌▷◌
returns-in_err-check_left_over-2 c =
    rw (← c.from.ensures, ← c.in_ok-check_left_over.ensures, ← c.count.ensures, ← c.set_start.ensures)
    (passed_on _ _ c.from_residual-in_err-check_left_over-2.ensures.1 ∙ rw (← c.in_err-check_left_over-2.ensures))

pub returns : goal.returns
unfolding unclaimed_fault ◌▷◌
returns c =
    rw (← c.from.ensures, ← c.in_ok-check_left_over.ensures, ← c.count.ensures, ← c.set_start.ensures, ← c.in_ok-check_left_over-2.ensures, ← c.from-2.ensures)
    c.check_left_over-3.ensures
