-- `reach::Worklist::walk_set` meets its contract. The loop's invariant: the rows passed are walked. Assumes nothing.
use native.Mathlib.Omega.{arith}
use Rattle.reach.specs.Reach.{walk_selection}
use Rattle.tables.specs.Image.{row_in}
use Rattle.reach.proofs.WalkLaws.{walks_rows}
use Rattle.reach.proofs.WorklistLaws.{goes_none, goes_turn}
use Rattle.reach.proofs.Worklist.walk_set.Goals as goal

pub loop-i-init : goal.loop-i-init
loop-i-init c = goes_none (λ image k. walk_selection image (row_in _ k)) _

pub loop-i-preserved : goal.loop-i-preserved
loop-i-preserved c =
    goes_turn (λ image k. walk_selection image (row_in c.set_selections-rows.result k)) c.loop-i.i c.loop-i.invariant (rw (← c.row.ensures) c.walk_selection.ensures)

pub returns : goal.returns
returns c = record {
  same = c.loop-i.invariant.same;
  walks = walks_rows _ _ _ _ c.loop-i.invariant.walks c.set_selections-rows.ensures (omega arith);
}
