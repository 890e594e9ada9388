-- `values::same_arguments` meets its contract. Assumes nothing.
use mathlib.Core.Path.{◌≡◌}
use mathlib.Core.Bool.{true}
use mathlib.Core.List.{List}
use Prim.Native.Nat.{ℕ}
use Rattle.lists.specs.Every.{every}
use Rattle.tables.specs.declared.Range.{Range}
use Rattle.values.specs.Same.{same_set, keys_within, same_arguments}
use Rattle.values.proofs.same_arguments.Goals as goal

none : (image : List ℕ) (left right : Range) → left.count ≡ 0 → right.count ≡ 0 → true ≡ same_arguments image left right
unfolding same_arguments same_set keys_within every
none image left right no-left no-right = rw (no-left, no-right)

pub returns-then-right-eq0 : goal.returns-then-right-eq0
returns-then-right-eq0 c = none _ _ _ c.if-left-eq0.true c.if-right-eq0.true

pub returns : goal.returns
unfolding same_arguments
returns c = c.same_set.ensures
