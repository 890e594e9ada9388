-- The word that a mark is stored as. Assumes nothing.
use Rattle.std.specs.Prelude.{ℕ}
use Rattle.reach.specs.declared.Mark.{Mark}
use Rattle.reach.specs.declared.Mark.TheVariants.{Begun, Led}
use Rattle.reach.specs.Reach.{begun, led}

abbrev pub word_of : Mark → ℕ
word_of Begun = begun
word_of Led = led
