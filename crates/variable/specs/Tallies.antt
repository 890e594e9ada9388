-- What a step makes of an operation's tally. Assumes nothing.
use Rattle.std.specs.Prelude.{◌≡◌, ℕ, List}
use Rattle.tables.specs.declared.Range.{Range}
use Rattle.variable.specs.declared.uses.Tally.{Tally}
use Rattle.variable.specs.Names.{Named}

-- the variables can be searched by name
abbrev pub IsNamed : Tally → Type 0
IsNamed t = Named t.image.now t.variables t.words.now

-- another tally of the same variables, in the same words
pub record Same (t t' : Tally) : Type 0 where
  pub image : t'.image.now ≡ t.image.now
  pub words : t'.words.ghost_name ≡ t.words.ghost_name
  pub variables : t'.variables ≡ t.variables

-- the words become others, which stand to them as P says of an image and its variables
pub record Does (P : List ℕ → Range → (s s' : List ℕ) → Type 0) (t t' : Tally) : Type 0 where
  pub same : Same t t'
  pub does : P t.image.now t.variables t.words.now t'.words.now
