-- The loop of `heights::way_down`. Its invariant: the height is the highest of the selections passed, and whether all of
-- these lead lower is as said. Assumes nothing.
use Rattle.std.proofs.Common.{◌≡◌}
use Rattle.fragment.specs.Rounds.{height_at, highest_of}
use Rattle.fragment.specs.Order.{all_lower}
use Rattle.fragment.proofs.heights.way_down.Given as goal

abbrev pub invariant-loop-i : goal.invariant-loop-i
invariant-loop-i l = (l.way.height ≡ highest_of l.image (height_at l.s) l.set l.i) × (l.way.lower ≡ all_lower l.image l.s l.place l.set l.i)
