-- `parents::write_parents` meets its contract. The loop's invariant: the words of the rows of i sets are written.
-- Assumes nothing.
use mathlib.Core.Path.{refl, ◌∙◌}
use native.Mathlib.Omega.{arith}
use Rattle.selection.proofs.ParentsLaws.{parents_none, parents_turn, parents_all}
use Rattle.selection.proofs.parents.write_parents.Goals as goal

pub loop-i-init : goal.loop-i-init
loop-i-init c = (refl, λ good room. parents_none _ good _)

pub loop-i-preserved : goal.loop-i-preserved
loop-i-preserved c =
    let filled = c.fill_parent.ensures in
    let inv = c.loop-i.invariant in
    (filled.long ∙ inv.0, λ good room. parents_turn _ good c.loop-i.i c.set_row-set.ensures c.count-i-end.ensures (omega arith) room (inv.1 good room) filled)

pub returns : goal.returns
returns c =
    record { long = c.loop-i.invariant.0; written = λ good room. parents_all _ good c.count-i-end.ensures (omega arith) (c.loop-i.invariant.1 good room) }
