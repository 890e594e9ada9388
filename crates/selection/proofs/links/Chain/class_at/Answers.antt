-- `Chain::class_at` meets its contract. Assumes nothing.
use Rattle.selection.proofs.links.Chain.class_at.Goals as goal

pub returns : goal.returns
returns c = cc
