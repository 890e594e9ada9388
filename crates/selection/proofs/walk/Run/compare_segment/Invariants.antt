-- The loop of `walk::Run::compare_segment`. Its invariant: what is left decides. Assumes nothing.
use Prim.Native.Nat.{◌-◌}
use Rattle.selection.specs.Passes.{is_shape}
use Rattle.selection.proofs.CompareLaws.{Comparing}
use Rattle.selection.proofs.walk.Run.compare_segment.Given as goal

abbrev pub invariant-loop-place : goal.invariant-loop-place
invariant-loop-place l = Comparing l.image l.s l.self.arena l.segment (is_shape l.self.pass) l.a l.from l.list.end l.place

abbrev pub decreases-loop-place : goal.decreases-loop-place
decreases-loop-place l = l.list.end - l.place
