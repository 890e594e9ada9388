-- The invariants and measures of the cycle of calls {same_list, same_set, same_value}. `same_value` calls the other two one level down, and they
-- call it at their own level, so their measure lies between: 2 × level for `same_value`, 2 × level + 1 for the others.
-- The loops' invariants: the members passed are the same; the rows passed have their match on the right. Assumes nothing.
use mathlib.Core.Path.{◌≡◌}
use mathlib.Core.Bool.{true}
use Prim.Native.Nat.{ℕ, ◌+◌, ◌*◌, ◌<◌}
use Rattle.tables.specs.Image.{row_in}
use Rattle.tables.specs.Keys.{key_of}
use Rattle.values.specs.Same.{matched, same_value}
use Rattle.values.proofs.+same_list_same_set_same_value.Given as goal

abbrev pub decreases-same_list : goal.decreases-same_list
decreases-same_list l = 2 * l.level + 1

abbrev pub decreases-same_set : goal.decreases-same_set
decreases-same_set l = 2 * l.level + 1

abbrev pub decreases-same_value : goal.decreases-same_value
decreases-same_value l = 2 * l.level

abbrev pub invariant-same_list-loop-i : goal.invariant-same_list-loop-i
invariant-same_list-loop-i l =
    (k : ℕ) → k < l.i → same_value l.image l.level (row_in l.left k) (row_in l.right k) ≡ true

abbrev pub invariant-same_set-loop-i : goal.invariant-same_set-loop-i
invariant-same_set-loop-i l =
    (k : ℕ) → k < l.i → matched (key_of l.image l.table) (same_value l.image l.level) l.right (row_in l.left k) ≡ true
