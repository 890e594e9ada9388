-- `uses::Tally::mark_variables` meets its contract. The loop's invariant: the rows passed are used as they should. Assumes nothing.
use native.Mathlib.Omega.{arith}
use Rattle.variable.proofs.UseLaws.{passing_first, passing_next, passing_ends}
use Rattle.variable.proofs.TallyLaws.{same_itself, does_then}
use Rattle.variable.proofs.uses.Tally.mark_variables.Goals as goal

pub loop-row-init : goal.loop-row-init
loop-row-init c = record { same = same_itself _; does = passing_first _ _ }

pub loop-row-preserved : goal.loop-row-preserved
loop-row-preserved c = does_then c.loop-row.invariant c.pass_row-end.ensures (λ p q. passing_next _ _ p q)

pub returns : goal.returns
returns c =
    let l = c.loop-row.invariant in
    record { same = l.same; does = record { says = λ n. passing_ends _ _ (l.does.says n) (omega arith); frame = l.does.frame } }
