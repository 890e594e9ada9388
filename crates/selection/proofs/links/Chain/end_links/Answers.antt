-- `Chain::end_links` meets its contract. Assumes nothing.
use Rattle.selection.proofs.LinkLaws.{ended}
use Rattle.selection.proofs.links.Chain.end_links.Goals as goal

pub returns : goal.returns
returns c =
    ended _ _ _ _ _ _ c.links_at-at.ensures c.in_region.ensures c.put.ensures c.put-2.ensures c.put-3.ensures
