-- The loop of `rise::highest_rise`. Its invariant: the rise is the greatest of the sets passed. Assumes nothing.
use Rattle.std.proofs.Common.{◌≡◌}
use Rattle.fragment.specs.Rise.{highest_rise}
use Rattle.fragment.proofs.rise.highest_rise.Given as goal

abbrev pub invariant-loop-set : goal.invariant-loop-set
invariant-loop-set l = l.rise ≡ highest_rise l.image l.s l.set
