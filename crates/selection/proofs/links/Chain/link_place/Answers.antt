-- `Chain::link_place` meets its contract: a law for each way out. Assumes nothing.
use Rattle.selection.proofs.LinkLaws.{joined_words, begun_words}
use Rattle.selection.proofs.links.Chain.link_place.Goals as goal

pub returns-then-is_earlier : goal.returns-then-is_earlier
returns-then-is_earlier c =
    joined_words _ _ _ _ c.class_at-class.ensures c.in_region.ensures c.get-before.ensures
    c.is_earlier.ensures c.if-is_earlier.true c.links_at-at.ensures c.get-first.ensures c.put.ensures
    c.end_links.ensures

pub returns-else-is_earlier : goal.returns-else-is_earlier
returns-else-is_earlier c =
    begun_words _ _ _ _ c.class_at-class.ensures c.in_region.ensures c.get-before.ensures
    c.is_earlier.ensures c.if-is_earlier.false c.end_links-else-is_earlier.ensures
