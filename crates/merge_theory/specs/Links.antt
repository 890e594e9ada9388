-- The most links that a chain of rows from a set has, counted up to a bound: the number that kind 7 keeps small. Only rows that lead to a
-- set count; kind 7 counts a leaf field too, so this is never more than its number. Assumes nothing.
use Rattle.std.specs.Prelude.{List, [], ◌∷◌, ℕ, zero, suc, max}
use Rattle.merge_theory.specs.Lists.{flat_map}
use Rattle.merge_theory.specs.Document.{Document, set_of}

-- one more than the greatest value; 0 where there is none
unfoldable pub most : (ℕ → ℕ) → List ℕ → ℕ
most f [] = 0
most f (x ∷ xs) = max (suc (f x)) (most f xs)

module _ (D : Document) where
  -- the sets that a set's rows lead to
  unfoldable pub linked : ℕ → List ℕ
  linked s = flat_map (set_of D) (D.rows_of s)

  unfoldable pub links : ℕ → ℕ → ℕ
  links zero s = 0
  links (suc n) s = most (links n) (linked s)
