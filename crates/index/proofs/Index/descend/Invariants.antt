-- The loop of `descend`. Its invariant: the search comes to the place. Assumes nothing.
use Prim.Native.Nat.{◌-◌}
use Rattle.index.specs.Indexed.{Comes}
use Rattle.index.proofs.Index.descend.Given as goal

abbrev pub invariant-loop-place : goal.invariant-loop-place
invariant-loop-place l = Comes l.s l.self l.key l.place l.bits

abbrev pub decreases-loop-place : goal.decreases-loop-place
decreases-loop-place l = l.self.count - l.place
