-- `uses::Tally::reach_selection` meets its contract. Assumes nothing.
use Rattle.variable.proofs.UseLaws.{plain_reached, spread_reached}
use Rattle.variable.proofs.TallyLaws.{same_on, does_of, does_then}
use Rattle.variable.proofs.uses.Tally.reach_selection.Goals as goal

pub returns-then-is_spread : goal.returns-then-is_spread
returns-then-is_spread c =
    let first = c.reach_range.ensures in
    let second = c.reach_range-2.ensures in
    let third = c.reach_range-then-is_spread.ensures in
    let same = same_on first.same second.same in
    record {
      same = same_on same third.same;
      does = spread_reached _ _ c.selection_row-selection.ensures c.is_spread.ensures first.does (does_of first.same second) c.if-is_spread.true (rw same.image at c.fragment_directives.ensures) (does_of same third);
    }

pub returns-else-is_spread : goal.returns-else-is_spread
returns-else-is_spread c =
    does_then c.reach_range.ensures c.reach_range-2.ensures (λ p q. plain_reached _ _ c.selection_row-selection.ensures c.is_spread.ensures p q c.if-is_spread.false)
