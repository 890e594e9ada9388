-- The loop of `heights::measure_in_order`. Its invariant: the turns so far went well, and nothing but heights has changed.
-- Assumes nothing.
use Rattle.std.proofs.Common.{◌≡◌, ◌*◌, ◌≤◌, true, length}
use Rattle.lists.specs.Part.{Outside}
use Rattle.tables.specs.Layout.{sets}
use Rattle.tables.specs.Image.{count_at}
use Rattle.tables.specs.Good.{Good}
use Rattle.fragment.specs.Rounds.{SoundHeights}
use Rattle.fragment.specs.Order.{all_in_turn}
use Rattle.fragment.proofs.Ordered.{Turned}
use Rattle.fragment.proofs.heights.measure_in_order.Given as goal

abbrev pub invariant-loop-placed : goal.invariant-loop-placed
invariant-loop-placed l = Outside 0 (3 * count_at l.image sets) l.initial.s l.s × (Good l.image → 5 * count_at l.image sets ≤ length l.initial.s → SoundHeights l.image l.initial.s → Turned l.image l.initial.s l.s l.placed) × (all_in_turn l.image l.initial.s l.placed ≡ true)
