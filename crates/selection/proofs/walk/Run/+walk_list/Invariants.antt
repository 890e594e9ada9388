-- The invariant and the measures of the cycle of calls {walk_list}: a pass calls itself on a list that it met, with a level less. The
-- loop's invariant: the parts before the cursor have been walked. Assumes nothing.
use Prim.Native.Nat.{◌-◌, ◌<◌}
use Rattle.selection.specs.Passes.{is_shape}
use Rattle.selection.specs.Refining.{document, Ample}
use Rattle.selection.proofs.LoopLaws.{PassLoop}
use Rattle.selection.proofs.StepLaws.{AlongParts, to_go}
use Rattle.selection.proofs.walk.Run.+walk_list.Given as goal

abbrev pub decreases-walk_list : goal.decreases-walk_list
decreases-walk_list l = l.level

abbrev pub invariant-loop-at : goal.invariant-loop-at
invariant-loop-at l = record {
  loop : PassLoop l.image l.self.arena l.self.work l.initial.s l.s l.initial.next l.next l.list (is_shape l.self.pass) (l.level - 1) (AlongParts (document l.image) (is_shape l.self.pass) l.list l.at);
  ample : Ample l.self.work 0 l.next;
  below : l.at.group < l.list.end → l.at.first < l.list.end;
}

abbrev pub decreases-loop-at : goal.decreases-loop-at
decreases-loop-at l = to_go l.list.end l.at
