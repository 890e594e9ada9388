-- `Listed::first_subgroup` meets its contract. Assumes nothing.
use native.Mathlib.Omega.{arith}
use Rattle.selection.proofs.FollowLaws.{first_is, first_whole}
use Rattle.selection.proofs.groups.Listed.first_subgroup.Goals as goal

pub returns-then-first-self : goal.returns-then-first-self
returns-then-first-self c = first_is c.find_others-others.ensures c.find_subgroup-first.ensures (omega arith)

pub returns-else-first-self : goal.returns-else-first-self
returns-else-first-self c = first_whole c.find_others-others.ensures c.find_subgroup-first.ensures (omega arith)
