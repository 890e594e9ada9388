-- The loop of `heights::measure_round`. Its invariant: what is left of the round ends where the whole ends.
-- Assumes nothing.
use Rattle.std.proofs.Common.{◌≡◌, length, ◌||◌}
use Rattle.tables.specs.Layout.{sets}
use Rattle.tables.specs.Image.{count_at}
use Rattle.fragment.specs.Rounds.{sweep, sweep_changes}
use Rattle.fragment.proofs.heights.measure_round.Given as goal

abbrev pub invariant-loop-set : goal.invariant-loop-set
invariant-loop-set l = (length l.s ≡ length l.initial.s) × (sweep l.image l.s l.set ≡ sweep l.image l.initial.s (count_at l.image sets)) × ((l.changed || sweep_changes l.image l.s l.set) ≡ sweep_changes l.image l.initial.s (count_at l.image sets))
