-- `types::is_variable_usage_allowed` meets its contract. Assumes nothing.
use mathlib.Core.Path.{◌≡◌, ap, ◌∙◌}
use mathlib.Core.Bool.{true, not, cond}
use Rattle.variable.specs.Definitions.{has_default}
use Rattle.variable.proofs.TypeLaws.{usage_free, usage_refused}
use Rattle.variable.proofs.types.is_variable_usage_allowed.Goals as goal
use Rattle.variable.proofs.types.is_variable_usage_allowed.Goals.{Joined-not-dropped, then-not-dropped, else-not-dropped}

free_is : (c : Joined-not-dropped) → c.if-not-dropped.value ≡ cond c.is_place_stricter-dropped.result (has_default c.args.image.now c.args.variable c.args.argument) true
free_is c =
    elim c.if-not-dropped.branch [
      | then-not-dropped w ↦ rw w.if-not-dropped.true (w.value-is ∙ ap not w.if-not-dropped.true)
      | else-not-dropped w ↦ rw w.if-not-dropped.false (w.value-is ∙ w.has_default.ensures)
    ]

pub returns-then-has_default : goal.returns-then-has_default
returns-then-has_default c =
    usage_free _ _ _ c.variable_type-ours.ensures c.argument_type-theirs.ensures c.kind_of.ensures c.kind_of-2.ensures c.is_place_stricter-dropped.ensures (free_is (goal.at.returns-then-has_default c).Joined-not-dropped) c.if-has_default.true c.are_types_compatible.ensures

pub returns-else-has_default : goal.returns-else-has_default
returns-else-has_default c =
    usage_refused _ _ _ c.variable_type-ours.ensures c.argument_type-theirs.ensures c.kind_of.ensures c.kind_of-2.ensures c.is_place_stricter-dropped.ensures (free_is (goal.at.returns-else-has_default c).Joined-not-dropped) c.if-has_default.false
