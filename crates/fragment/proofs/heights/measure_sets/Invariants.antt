-- The loop of `heights::measure_sets`. Its invariant: after k rounds the heights cover chains with fewer than k spreads.
-- Assumes nothing.
use Rattle.std.proofs.Common.{◌*◌, ◌≤◌, length}
use Rattle.lists.specs.Part.{Outside}
use Rattle.tables.specs.Layout.{sets}
use Rattle.tables.specs.Image.{count_at}
use Rattle.tables.specs.Good.{Good}
use Rattle.fragment.proofs.Exact.{Known}
use Rattle.fragment.proofs.heights.measure_sets.Given as goal

abbrev pub invariant-loop : goal.invariant-loop
invariant-loop l = Outside 0 (3 * count_at l.image sets) l.initial.s l.s × (Good l.image → 3 * count_at l.image sets ≤ length l.initial.s → Known l.image 0 l.initial.s → Known l.image l.counter l.s)
