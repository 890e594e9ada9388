-- What a step makes of a walk that is under way. Assumes nothing.
use Rattle.std.specs.Prelude.{◌≡◌, ℕ, List}
use Rattle.tables.specs.declared.Range.{Range}
use Rattle.reach.specs.declared.Worklist.{Worklist}
use Rattle.reach.specs.Reach.{Walk, start_sets, Walks, Walked}

-- another walk of the same image, in the same words
pub record Same (w w' : Worklist) : Type 0 where
  pub image : w'.image.now ≡ w.image.now
  pub words : w'.words.ghost_name ≡ w.words.ghost_name

-- the words and the queue become what an image's step makes of them
pub record Goes (step : List ℕ → Walk → Walk) (w w' : Worklist) : Type 0 where
  pub same : Same w w'
  pub walks : Walks w.image.now (step w.image.now) w.words.now w.queued w'.words.now w'.queued

-- they become a walk that has met the sets of a range, whatever they were
pub record Starts (range : Range) (w w' : Worklist) : Type 0 where
  pub same : Same w w'
  pub walked : Walked w.image.now (start_sets w.image.now range) w.words.now w'.words.now w'.queued
