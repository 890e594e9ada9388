-- The loop of `read_full`: what was filled lies within the bytes, and each turn fills one more at least. Assumes nothing.
use Rattle.std.proofs.Common.{length, ◌-◌, ◌≤◌, ◌≡◌}
use Rattle.ponybluster.proofs.read_full.Given as goal

abbrev pub invariant-loop-filled : goal.invariant-loop-filled
invariant-loop-filled g l = (l.filled ≤ length l.bytes) × (length l.bytes ≡ length l.initial.bytes)

abbrev pub decreases-loop-filled : goal.decreases-loop-filled
decreases-loop-filled g l = length l.bytes - l.filled
