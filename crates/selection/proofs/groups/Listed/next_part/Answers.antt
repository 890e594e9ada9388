-- `Listed::next_part` meets its contract. Assumes nothing.
use mathlib.Core.Path.{◌≡◌, ap, sym, ◌∙◌}
use mathlib.Core.Logic.{inr}
use mathlib.Core.Bool.{Bool, true, false≢true}
use mathlib.Core.List.{List}
use Prim.Native.Nat.{ℕ, ◌+◌}
use native.Mathlib.Omega.{arith}
use Rattle.selection.specs.declared.arena.Arena.{Arena}
use Rattle.lists.specs.declared.Span.{Span}
use Rattle.selection.specs.declared.groups.Cursor.{Cursor}
use Rattle.selection.specs.Passes.{is_shape}
use Rattle.selection.specs.Following.{group_found, Enters, NextPart}
use Rattle.selection.proofs.ShapeLaws.{group_ahead}
use Rattle.selection.proofs.groups.Listed.next_part.Goals as goal

-- in the shape pass the next group is entered
shape_next : (image s : List ℕ) (arena : Arena) (isShape : Bool) (x : Span) (c r : Cursor) {group : ℕ} → isShape ≡ true → group ≡ group_found s arena (c.group + 1) x.end
    → Enters image s arena isShape x group r → NextPart image s arena isShape x c r
shape_next image s arena isShape x c r {group} shape found enters = record {
  below = λ less. enters.below (rw enters.same at less);
  further = inr (omega (arith, group_ahead s arena (c.group + 1) x.end found, enters.same));
  group = λ _. enters.same ∙ found;
  subgroup = λ parents. absurd (false≢true (sym parents ∙ shape));
}

pub returns-in-Shape : goal.returns-in-Shape
returns-in-Shape c = shape_next _ _ _ _ _ _ _ (ap is_shape c.in-Shape.is) c.find_group.ensures c.enter_group.ensures
