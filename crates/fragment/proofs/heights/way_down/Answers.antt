-- `heights::way_down` meets its contract. The loop's invariant: the height is the highest of the selections passed, and whether all of
-- these lead lower is as said. Assumes nothing.
use Rattle.std.proofs.Common.{refl, ap, ◌∙◌}
use Rattle.tables.specs.Image.{row_in}
use Rattle.tables.specs.declared.Range.{Range}
use Rattle.fragment.specs.Rounds.{height_at}
use Rattle.fragment.specs.Order.{all_lower}
use Rattle.fragment.proofs.HeightLaws.{all_three, none_passed, one_passed, one_lower_more}
use Rattle.fragment.proofs.heights.way_down.Goals as goal

pub loop-i-init : goal.loop-i-init
unfolding all_lower
loop-i-init c = let e = c.default.ensures in (all_three e.0 e.1.0 e.1.1 ∙ none_passed _ (height_at c.args.s.now) _ 0, refl)

pub loop-i-preserved : goal.loop-i-preserved
loop-i-preserved c =
    let l = c.loop-i in
    let row = c.row.ensures ∙ ap (λ (rows : Range). row_in rows l.i) c.set_selections-rows.ensures in
    let e = c.joined-way.ensures in
    let through = c.way_through.ensures in (
      one_passed _ (height_at c.args.s.now) _ l.i l.invariant.0 row through.height (e.chain, e.links, e.nested),
      one_lower_more _ c.args.s.now _ _ l.i l.invariant.1 row through.lower e.lower,
    )
