-- `walk::filled_set` meets its contract. Assumes nothing.
use mathlib.Core.Path.{◌≡◌, refl}
use mathlib.Core.Bool.{Bool, true, false, cond, not}
use mathlib.Core.List.{List}
use Prim.Native.Nat.{ℕ}
use borrow.Author.Tests.{eq-eqb, ne_eqb}
use Rattle.std.specs.Prelude.{Option, Some, None}
use Rattle.tables.specs.Columns.{selection_target, is_empty_set, set_or_none}
use Rattle.tables.proofs.ColumnLaws.{set_named, none_named}
use Rattle.selection.specs.Comparing.{has_set, filled_set}
use Rattle.selection.proofs.walk.filled_set.Goals as goal

module _ (image : List ℕ) (row : ℕ) where
  no_set : None ≡ set_or_none (selection_target image row) → None ≡ filled_set image row
  unfolding has_set
  no_set e = rw (eq-eqb _ _ (none_named e))

  a_set : {set : ℕ} (b : Bool) → Some set ≡ set_or_none (selection_target image row) → b ≡ is_empty_set image set → cond b None (Some set) ≡ filled_set image row
  unfolding has_set
  a_set {set} b e empty = let named = set_named e in rw (ne_eqb _ _ named.1, named.0, ← empty) (either b)
    where
      either : (b : Bool) → ◌≡◌ {A = Option ℕ} (cond b None (Some set)) (cond (not b) (Some set) None)
      either true = refl
      either false = refl

pub returns-in_err-set : goal.returns-in_err-set
returns-in_err-set c = rw c.from_residual.ensures (no_set _ _ c.in_err-set.ensures)

pub returns-then-is_empty_set : goal.returns-then-is_empty_set
returns-then-is_empty_set c = a_set _ _ true c.in_ok-set.ensures c.if-is_empty_set.ensures

pub returns-else-is_empty_set : goal.returns-else-is_empty_set
returns-else-is_empty_set c = a_set _ _ false c.in_ok-set.ensures c.if-is_empty_set.ensures
