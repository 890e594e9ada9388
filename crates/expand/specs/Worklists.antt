-- What a step makes of an expansion that is under way. Assumes nothing.
use Rattle.std.specs.Prelude.{◌≡◌, ℕ, List}
use Rattle.expand.specs.declared.Worklist.{Worklist}
use Rattle.expand.specs.declared.Expansion.{Expansion}
use Rattle.expand.specs.ExpandSteps.{Steps}

-- another state of the same image, in the same words
pub record Same (w w' : Worklist) : Type 0 where
  pub image : w'.image.now ≡ w.image.now
  pub words : w'.words.ghost_name ≡ w.words.ghost_name
  pub area : w'.area ≡ w.area

-- these rows are done next
pub record Goes (rows : List ℕ → List ℕ) (w w' : Worklist) : Type 0 where
  pub same : Same w w'
  pub steps : Steps w.image.now w.area (rows w.image.now) w.words.now w'.words.now w.at w'.at

-- the state and the words become these
pub record Does (next : Worklist → Expansion) (written : Worklist → List ℕ) (w w' : Worklist) : Type 0 where
  pub same : Same w w'
  pub at : w'.at ≡ next w
  pub words : w'.words.now ≡ written w
