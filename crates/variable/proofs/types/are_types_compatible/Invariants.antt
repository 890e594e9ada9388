-- The loop of `types::are_types_compatible`. Its invariant: the rows at hand are as compatible as those given.
-- Assumes nothing.
use mathlib.Core.Path.{◌≡◌}
use Rattle.variable.specs.Definitions.{compatible}
use Rattle.variable.proofs.types.are_types_compatible.Given as goal

abbrev pub invariant-loop-below : goal.invariant-loop-below
invariant-loop-below l = compatible l.image l.ours l.theirs l.free ≡ compatible l.image l.variable l.place l.dropped

abbrev pub decreases-loop-below : goal.decreases-loop-below
decreases-loop-below l = l.ours
