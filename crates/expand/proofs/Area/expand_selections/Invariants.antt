-- The loop of `expand::Area::expand_selections`. Its invariant: so many sets have left the queue. A word counts them, so it ends.
-- Assumes nothing.
use Prim.Native.Nat.{◌-◌}
use Rattle.expand.proofs.ExpandWalk.{Underway}
use Rattle.expand.specs.Worklists.{Same}
use Rattle.expand.proofs.Area.expand_selections.Given as goal

abbrev pub invariant-loop-walked : goal.invariant-loop-walked
invariant-loop-walked l = record {
  same : Same l.initial.list l.list;
  underway : Underway l.initial.list.image.now l.initial.list.area l.walked l.initial.list.words.now l.list.words.now l.initial.list.at l.list.at;
}

abbrev pub decreases-loop-walked : goal.decreases-loop-walked
decreases-loop-walked l = 4294967296 - l.walked
