-- `check_words` meets its contract: what was read is what is checked. Assumes nothing.
use lib.Seq.{length-take-le}
use native.Mathlib.Omega.{arith}
use mathlib.Core.Path.{refl, sym}
use Rattle.door.proofs.DoorLaws.{read_length, words_checked}
use Rattle.door.proofs.check_words.Goals as goal

pub slice_bounds-check-end : goal.slice_bounds-check-end
slice_bounds-check-end c = sym (length-take-le _ _ (omega (arith, read_length _ _ _ c.read_words.ensures)))

pub returns : goal.returns
returns c = words_checked _ _ _ _ _ _ refl c.requires refl c.read_words.ensures c.check.ensures.0
