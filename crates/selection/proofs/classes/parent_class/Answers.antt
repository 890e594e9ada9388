-- `classes::parent_class` meets its contract: a law for each way out. Assumes nothing.
use mathlib.Core.Path.{refl, sym}
use borrow.Author.Tests.{eqb-true, eqb-false}
use Rattle.selection.proofs.ClassLaws.{past_types, object_itself, no_object}
use Rattle.selection.proofs.classes.parent_class.Goals as goal
use Rattle.selection.proofs.classes.parent_class.Goals.{else-parent-types-via-then-parent-types+else-is_object, else-parent-types-via-else-parent-types}

pub returns-then-is_object : goal.returns-then-is_object
returns-then-is_object c = object_itself _ _ _ c.if-parent-types.true refl (eqb-true _ _ (sym c.if-is_object.ensures))

pub returns-else-parent-types : goal.returns-else-parent-types
returns-else-parent-types c =
    elim c.else-parent-types.branch [
      | else-parent-types-via-then-parent-types+else-is_object w ↦ no_object _ _ _ refl (eqb-false _ _ (sym w.if-is_object.ensures))
      | else-parent-types-via-else-parent-types w ↦ past_types _ _ _ w.if-parent-types.false
    ]
