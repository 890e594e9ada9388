-- The loop of `rise::rise_from`. Its invariant: the rise is the greatest of the selections passed. Assumes nothing.
use Rattle.std.proofs.Common.{◌≡◌}
use Rattle.fragment.specs.Rise.{rise_in}
use Rattle.fragment.proofs.rise.rise_from.Given as goal

abbrev pub invariant-loop-i : goal.invariant-loop-i
invariant-loop-i l = l.rise ≡ rise_in l.image l.s l.set l.i
