-- Kinds 10 to 13 of one operation, in their order: what the code answers, for every image and a scratch that suffices.
-- Assumes nothing.
use Rattle.std.specs.Prelude.{ℕ, ◌≤◌, ◌≡◌, List, leb, length, get_or}
use Rattle.std.proofs.Math.Option.{Option, none, some}
use Rattle.lists.specs.First.{expect, ◌▷◌}
use Rattle.lists.specs.Part.{Outside}
use Rattle.tables.specs.declared.Range.{Range}
use Rattle.tables.specs.Layout.{arguments}
use Rattle.tables.specs.Image.{count_at, row_in}
use Rattle.tables.specs.Columns.{operation_variables}
use Rattle.variable.specs.Definitions.{first_output, first_repeated}
use Rattle.variable.specs.Uses.{uses_of, first_unused, first_misused, uses_words}
use Rattle.std.specs.declared.result.Result.{Result}
use Rattle.std.specs.declared.result.Result.TheVariants.{Ok, Err}
use Rattle.variable.specs.declared.rules.VariableError.{VariableError}
use Rattle.variable.specs.declared.rules.VariableError.TheVariants.{Output, Repeated, Unused, Misused}

-- what a reply shows of an operation's variables: a kind, and the row that is its number a
pub record Shown : Type 0 where
  pub kind : ℕ
  pub a : ℕ

-- an error, by its number
abbrev pub error_shows : VariableError → Shown
error_shows (Output variable) = record { kind = 10; a = variable }
error_shows (Repeated variable) = record { kind = 11; a = variable }
error_shows (Unused variable) = record { kind = 12; a = variable }
error_shows (Misused argument) = record { kind = 13; a = argument }

-- the answer
abbrev pub Usage : Type 0
Usage = Result (Unit {0}) VariableError

abbrev pub usage_shows : Usage → Option Shown
usage_shows (Ok _) = none
usage_shows (Err error) = some (error_shows error)

module _ (image : List ℕ) where
  -- a search that ended before the count found a row
  abbrev pub found_in : Range → (kind k : ℕ) → Option Shown
  found_in rows kind k = expect (leb rows.count k) (record { kind = kind; a = row_in rows k })

  -- 12 and 13, the ends and the marks being given
  unfoldable pub uses_fault : Range → (end mark : ℕ → ℕ) → Option Shown
  uses_fault defined end mark =
      found_in defined 12 (first_unused image defined mark) ▷
      expect (leb (count_at image arguments) (first_misused image defined end)) (record { kind = 13; a = first_misused image defined end })

  -- types, then names, then use, then usage, the operation's variables being given
  unfoldable pub defined_fault : Range → ℕ → Option Shown
  defined_fault defined i =
      let uses = uses_of image defined i in
      found_in defined 10 (first_output image defined) ▷
      found_in defined 11 (first_repeated image defined) ▷
      uses_fault defined (λ r. get_or uses.ends r 0) (λ k. get_or uses.marks k 0)

  abbrev pub usage_fault : ℕ → Option Shown
  usage_fault i = defined_fault (operation_variables image i) i

  -- whatever stood in the lent words
  pub record Judged (i : ℕ) (s s' : List ℕ) (answer : Usage) : Type 0 where
    pub shows : uses_words image ≤ length s → usage_shows answer ≡ usage_fault i
    pub frame : Outside 0 (uses_words image) s s'
