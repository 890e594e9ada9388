-- The loop of `columns::innermost`. Its invariant: the row at hand has the reference's innermost type.
-- Assumes nothing.
use mathlib.Core.Path.{◌≡◌}
use Rattle.tables.specs.Columns.{innermost}
use Rattle.tables.proofs.columns.innermost.Given as goal

abbrev pub invariant-loop-child : goal.invariant-loop-child
invariant-loop-child l = innermost l.image l.row ≡ innermost l.image l.reference

abbrev pub decreases-loop-child : goal.decreases-loop-child
decreases-loop-child l = l.row
