-- `Listed::find_others` meets its contract. The loop's invariant: the fields of the name that were passed have objects for parents.
-- Assumes nothing.
use native.Mathlib.Omega.{arith}
use mathlib.Core.Path.{refl, sym, ◌∙◌}
use Rattle.selection.proofs.FollowLaws.{others_next, others_found, follow_ahead}
use Rattle.selection.proofs.groups.Listed.find_others.Goals as goal

pub loop-place-smaller : goal.loop-place-smaller
loop-place-smaller c = omega (arith, follow_ahead _ _ _ _ _ c.next_of_name-place.ensures (omega arith))

pub loop-place-preserved : goal.loop-place-preserved
loop-place-preserved c = others_next c.loop-place.invariant (omega arith) (sym c.has_object_parent.ensures ∙ c.if-not-has_object_parent.false) c.next_of_name-place.ensures

pub returns-then-not-has_object_parent : goal.returns-then-not-has_object_parent
returns-then-not-has_object_parent c = others_found c.loop-place.invariant (λ _. sym c.has_object_parent.ensures ∙ c.if-not-has_object_parent.true) c.args.self.list refl

pub returns : goal.returns
returns c = others_found c.loop-place.invariant (λ less. absurd (omega arith)) c.args.self.list refl
