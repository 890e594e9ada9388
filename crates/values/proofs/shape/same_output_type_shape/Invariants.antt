-- The loop of `shape::same_output_type_shape`. Its invariant: the two rows at hand have one shape exactly if the two
-- references have; the left row falls.
-- Assumes nothing.
use mathlib.Core.Path.{◌≡◌}
use Rattle.values.specs.Shape.{same_shape}
use Rattle.values.proofs.shape.same_output_type_shape.Given as goal

abbrev pub invariant-loop-left : goal.invariant-loop-left
invariant-loop-left l = same_shape l.image l.ours l.theirs ≡ same_shape l.image l.left l.right

abbrev pub decreases-loop-left : goal.decreases-loop-left
decreases-loop-left l = l.ours
