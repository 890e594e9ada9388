-- `classes::pair_key` meets its contract. Assumes nothing.
use mathlib.Core.Path.{refl}
use Rattle.selection.proofs.ClassLaws.{key_is}
use Rattle.selection.proofs.classes.pair_key.Goals as goal

pub returns : goal.returns
returns c =
    key_is _ _ _ _ _ c.in_region.ensures c.get.ensures c.min-class.ensures c.get-2.ensures c.parent_class.ensures.0 refl
