-- `build` meets its contract. Assumes nothing.
use mathlib.Core.Path.{refl}
use Rattle.index.proofs.FirstsLaws.{built}
use Rattle.index.proofs.Index.build.Goals as goal

pub shape_of-s : goal.shape_of-s
shape_of-s c = c.build_firsts.ensures.long

pub returns : goal.returns
returns c = built refl c.build_firsts.ensures
