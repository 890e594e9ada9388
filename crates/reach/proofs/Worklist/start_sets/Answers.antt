-- `reach::Worklist::start_sets` meets its contract. The loop's invariant: the sets passed are met, from a walk that has met none.
-- Assumes nothing.
use native.Mathlib.Omega.{arith}
use Rattle.reach.specs.Reach.{begun, enter_set, start_sets}
use Rattle.tables.specs.Image.{row_in}
use Rattle.reach.proofs.WalkLaws.{walks_all, starts}
use Rattle.reach.proofs.WorklistLaws.{goes_none, goes_turn}
use Rattle.reach.proofs.Worklist.start_sets.Goals as goal

pub loop-i-init : goal.loop-i-init
loop-i-init c = goes_none (λ image k. enter_set image begun (row_in _ k)) _

pub loop-i-preserved : goal.loop-i-preserved
loop-i-preserved c =
    goes_turn (λ image k. enter_set image begun (row_in c.args.sets k)) c.loop-i.i c.loop-i.invariant (rw (← c.row.ensures) c.enter_set.ensures)

pub returns : goal.returns
unfolding start_sets
returns c =
    let turns = c.loop-i.invariant in
    record {
      same = record { image = turns.same.image; words = turns.same.words };
      walked = starts _ _ (rw (← c.count.ensures) c.clear.ensures) (walks_all _ _ _ _ turns.walks (omega arith));
    }
