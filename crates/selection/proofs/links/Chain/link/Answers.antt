-- `Chain::link` meets its contract. The loop's invariant: the places below this one are linked. Assumes nothing.
use mathlib.Core.Path.{refl, ◌∙◌}
use native.Mathlib.Omega.{arith}
use Rattle.selection.proofs.LinkLaws.{under_none, under_turn, under_all, link_long}
use Rattle.selection.proofs.links.Chain.link.Goals as goal

pub loop-place-init : goal.loop-place-init
loop-place-init c = (omega arith, refl, λ n ok. under_none ok)

pub loop-place-preserved : goal.loop-place-preserved
loop-place-preserved c =
    let inv = c.loop-place.invariant in (
      omega arith,
      link_long _ _ _ c.loop-place.place c.link_place.ensures ∙ inv.1,
      λ n ok. under_turn ok c.loop-place.place (omega arith) (omega arith) c.link_place.ensures (inv.2 n ok),
    )

pub returns : goal.returns
returns c =
    let l = c.loop-place in
    under_all (omega arith) l.invariant.0 (omega arith) l.invariant.1 l.invariant.2
