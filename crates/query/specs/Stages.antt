-- Which stage of the check decides a kind (the table of kinds in README), and the order of the stages. Theorems tell kinds apart by their
-- stage, never by where a number lies between others: new numbers come at the end of this list, whatever their stage.
use Rattle.std.specs.Prelude.{ℕ, List, [], ◌∷◌, get_or}

pub data Stage : Type 0 where
  at_header : Stage
  at_budget : Stage
  at_scratch : Stage
  at_rows : Stage
  at_fragments : Stage
  at_variables : Stage
  -- two fields of an operation are compared
  at_comparison : Stage
  -- the next charge would pass the budget
  at_charge : Stage
  -- all operations pass
  at_end : Stage
  -- no kind of the check
  nowhere : Stage

-- kinds 0 to 17
abbrev pub stages : List Stage
stages =
    at_end ∷ at_header ∷ at_budget ∷ at_scratch ∷ at_rows ∷
    at_fragments ∷ at_fragments ∷ at_fragments ∷ at_fragments ∷ at_fragments ∷
    at_variables ∷ at_variables ∷ at_variables ∷ at_variables ∷
    at_comparison ∷ at_comparison ∷ at_comparison ∷ at_charge ∷ []

unfoldable pub stage_of : ℕ → Stage
stage_of kind = get_or stages kind nowhere

-- "checked in this order"
abbrev pub place : Stage → ℕ
place at_header = 1
place at_budget = 2
place at_scratch = 3
place at_rows = 4
place at_fragments = 5
place at_variables = 6
place at_comparison = 7
place at_charge = 8
place at_end = 9
place nowhere = 0
