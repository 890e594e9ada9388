-- What the units pay for, without the walk's steps: lists that are met, and sets that are met. Assumes nothing.
use Rattle.std.specs.Prelude.{List, [], ◌∷◌, ℕ, suc, ◌+◌, ◌≤◌, length}
use Rattle.merge_theory.specs.Document.{Document}
use Rattle.merge_theory.specs.Steps.{Result, finished, conflict, out, deep}
use Rattle.merge_theory.specs.Walk.{Pass, sets_below}

-- the units charged stay within the budget, however the walk ended
abbrev pub WithinBudget : ℕ → Result → Type 0
WithinBudget budget (finished z) = z.used ≤ budget
WithinBudget budget (conflict e z) = z.used ≤ budget
WithinBudget budget (out z) = z.used ≤ budget
WithinBudget budget (deep z) = z.used ≤ budget

-- the words that known lists take in a store: each its length and one more
unfoldable pub weight : List (List ℕ) → ℕ
weight [] = 0
weight (l ∷ ls) = suc (length l) + weight ls

-- merged sets are met if there is one
unfoldable pub met_once : List ℕ → ℕ
met_once [] = 0
met_once (t ∷ sets) = 1

module _ (D : Document) where
  -- how many of the parts have non-empty sets, to be met
  unfoldable pub sets_met : List (List ℕ) → ℕ
  sets_met [] = 0
  sets_met (part ∷ parts) = met_once (sets_below D part) + sets_met parts

  -- what known lists cost: "Each set met costs 1 unit, and its list length if no equal list of rows was met earlier"
  unfoldable pub cost_of_all : Pass → List (List ℕ) → ℕ
  cost_of_all P [] = 0
  cost_of_all P (l ∷ ls) = length l + sets_met (P.parts l) + cost_of_all P ls
