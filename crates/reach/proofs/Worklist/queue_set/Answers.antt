-- `reach::Worklist::queue_set` meets its contract. Assumes nothing.
use native.Mathlib.Omega.{arith}
use mathlib.Core.Path.{refl}
use Rattle.reach.proofs.WalkLaws.{queue_more, queue_full}
use Rattle.reach.proofs.WorklistLaws.{same_itself}
use Rattle.reach.proofs.Worklist.queue_set.Goals as goal

pub returns-then-self-sets : goal.returns-then-self-sets
returns-then-self-sets c = record {
  same = record { image = refl; words = refl };
  walks = queue_more _ _ (omega arith) (omega arith) c.put.ensures;
}

pub returns-else-self-sets : goal.returns-else-self-sets
returns-else-self-sets c = record { same = same_itself _; walks = queue_full _ _ (omega arith) }
