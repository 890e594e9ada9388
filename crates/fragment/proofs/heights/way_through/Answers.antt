-- `heights::way_through` meets its contract: its three numbers one by one. Assumes nothing.
use Rattle.fragment.specs.Rounds.{height_at}
use Rattle.fragment.proofs.HeightLaws.{all_three, chain_through, links_through, nested_through}
use Rattle.fragment.proofs.heights.way_through.Goals as goal

pub returns-clause-height : goal.returns-clause-height
returns-clause-height c =
    let h = height_at c.args.s.now in
    let read = c.selection_row-selection.ensures in
    let leads = c.set_below-set.ensures in
    let under = c.height_below-below.ensures in
    all_three
    (chain_through _ h _ read leads under c.one_more.ensures)
    (links_through _ h _ read leads under c.one_more-2.ensures)
    (nested_through _ h _ read leads under c.is_nesting-is_nested.ensures c.one_more-3.ensures)
