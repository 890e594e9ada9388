-- The loop of `Listed::find_others`. Its invariant: the fields of the name that were passed have objects for parents.
-- Assumes nothing.
use Prim.Native.Nat.{◌-◌}
use Rattle.selection.proofs.FollowLaws.{OnName, others_of}
use Rattle.selection.proofs.groups.Listed.find_others.Given as goal

abbrev pub invariant-loop-place : goal.invariant-loop-place
invariant-loop-place l = OnName l.self.image.now l.self.words.now l.self.arena.now (others_of l.self.image.now l.self.words.now l.self.arena.now) l.group l.self.list.end l.place

abbrev pub decreases-loop-place : goal.decreases-loop-place
decreases-loop-place l = l.self.list.end - l.place
