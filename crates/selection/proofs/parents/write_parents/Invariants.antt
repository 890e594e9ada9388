-- The loop of `parents::write_parents`. Its invariant: the words of the rows of i sets are written.
-- Assumes nothing.
use mathlib.Core.Path.{◌≡◌}
use Prim.Native.Nat.{◌≤◌}
use lib.ListN.{length}
use Rattle.tables.specs.Numbering.{set_start}
use Rattle.tables.specs.Layout.{selections}
use Rattle.selection.specs.Parents.{ParentsBelow}
use Rattle.tables.specs.Good.{Good}
use Rattle.tables.specs.Image.{count_at}
use Rattle.selection.proofs.parents.write_parents.Given as goal

abbrev pub invariant-loop-i : goal.invariant-loop-i
invariant-loop-i l = (length l.s ≡ length l.initial.s) × (Good l.image → count_at l.image selections ≤ length l.initial.s → ParentsBelow l.image (set_start l.image l.i) l.initial.s l.s)
