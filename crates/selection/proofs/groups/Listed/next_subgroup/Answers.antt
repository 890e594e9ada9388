-- `Listed::next_subgroup` meets its contract. Assumes nothing.
use native.Mathlib.Omega.{arith}
use Rattle.selection.proofs.FollowLaws.{next_same, next_other}
use Rattle.selection.proofs.groups.Listed.next_subgroup.Goals as goal

pub returns-then-first-self : goal.returns-then-first-self
returns-then-first-self c =
    let a = c.args in
    next_same a.cursor c.later_subgroup-first.ensures c.requires (omega arith)

pub returns-else-first-self : goal.returns-else-first-self
returns-else-first-self c =
    let a = c.args in
    next_other a.cursor c.later_subgroup-first.ensures (omega arith) c.find_group.ensures c.first_subgroup.ensures
