-- `uses::Tally::reach_set` meets its contract. The loop's invariant: the rows passed are reached. Assumes nothing.
use native.Mathlib.Omega.{arith}
use Rattle.variable.proofs.UseLaws.{steps_none, steps_turn, set_reached}
use Rattle.tables.specs.Image.{row_in}
use Rattle.variable.specs.Uses.{reach_selection}
use Rattle.variable.proofs.TallyLaws.{same_itself, does_then}
use Rattle.variable.proofs.uses.Tally.reach_set.Goals as goal

pub loop-i-init : goal.loop-i-init
loop-i-init c = record { same = same_itself _; does = steps_none _ _ }

pub loop-i-preserved : goal.loop-i-preserved
loop-i-preserved c =
    let step = rw c.row.ensures at c.reach_selection.ensures in
    does_then c.loop-i.invariant step (λ p q. steps_turn _ (λ k. reach_selection _ (row_in _ k)) _ p q)

pub returns : goal.returns
returns c =
    let l = c.loop-i.invariant in
    record { same = l.same; does = set_reached _ _ _ _ l.does c.set_selections-rows.ensures (omega arith) }
