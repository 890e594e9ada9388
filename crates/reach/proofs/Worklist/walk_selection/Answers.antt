-- `reach::Worklist::walk_selection` meets its contract. Assumes nothing.
use Rattle.reach.proofs.WalkLaws.{enter_at, enter_none}
use Rattle.reach.proofs.WorklistLaws.{same_itself}
use Rattle.reach.specs.Reach.{walk_selection}
use Rattle.reach.proofs.Worklist.walk_selection.Goals as goal

pub returns-in-Some : goal.returns-in-Some
unfolding walk_selection
returns-in-Some c = record { same = c.enter_set.ensures.same; walks = enter_at _ _ _ _ c.enter_set.ensures.walks c.in-Some.ensures }

pub returns-in_default : goal.returns-in_default
unfolding walk_selection
returns-in_default c = record { same = same_itself _; walks = enter_none _ _ _ c.in_default.ensures }
