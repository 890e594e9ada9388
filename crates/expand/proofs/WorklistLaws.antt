-- What becomes of an expansion that is under way, step by step. Assumes nothing.
use mathlib.Core.Path.{refl, ◌∙◌}
use Rattle.expand.specs.declared.Worklist.{Worklist}
use Rattle.expand.specs.Worklists.{Same}

pub same_itself : (w : Worklist) → Same w w
same_itself w = record { image = refl; words = refl; area = refl }

pub same_on : {w w' w'' : Worklist} → Same w w' → Same w' w'' → Same w w''
same_on p q = record { image = q.image ∙ p.image; words = q.words ∙ p.words; area = q.area ∙ p.area }
