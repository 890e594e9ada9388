-- `Listed::find_subgroup` meets its contract. The loop's invariant: the fields of the name that were passed open none. Assumes nothing.
use native.Mathlib.Omega.{arith}
use mathlib.Core.Path.{refl, sym, ◌∙◌}
use Rattle.selection.proofs.FollowLaws.{opens_next, opens_found, follow_ahead}
use Rattle.selection.proofs.groups.Listed.find_subgroup.Goals as goal

pub returns-then-opens_subgroup : goal.returns-then-opens_subgroup
returns-then-opens_subgroup c = opens_found c.loop-place.invariant (λ _. sym c.opens_subgroup.ensures ∙ c.if-opens_subgroup.true) c.args.self.list refl

pub loop-place-smaller : goal.loop-place-smaller
loop-place-smaller c = omega (arith, follow_ahead _ _ _ _ _ c.next_of_name-place.ensures (omega arith))

pub loop-place-preserved : goal.loop-place-preserved
loop-place-preserved c = opens_next c.loop-place.invariant (omega arith) (sym c.opens_subgroup.ensures ∙ c.if-opens_subgroup.false) c.next_of_name-place.ensures

pub returns : goal.returns
returns c = opens_found c.loop-place.invariant (λ less. absurd (omega arith)) c.args.self.list refl
