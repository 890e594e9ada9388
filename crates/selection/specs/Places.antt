-- Places of a list that stands in the store: the first that passes a test, what lies before a place and from it on, and the keys
-- that appear first from a place on. Assumes nothing.
use Rattle.std.specs.Prelude.{Bool, not, ◌&&◌, List, [], ◌∷◌, ◌++◌, map, ℕ, ◌+◌, ◌-◌, take, drop, get_or}
use Rattle.lists.specs.Every.{position}
use Rattle.merge_theory.specs.Lists.{keep, filter, is_in}
use Rattle.lists.specs.declared.Span.{Span}

-- the first place from `from` on, and below `end`, that passes; where none does, `end`, or `from` if that is past it
unfoldable pub seek : (ℕ → Bool) → ℕ → ℕ → ℕ
seek test from end = from + position (end - from) (λ k. test (from + k))

-- the row that stands at a place
abbrev pub row_in : List ℕ → ℕ → ℕ → ℕ
row_in s store place = get_or s (store + place) 0

-- the rows before a place, and from it on
unfoldable pub before : Span → List ℕ → ℕ → List ℕ
before x l place = take (place - x.start) l

unfoldable pub onward : Span → List ℕ → ℕ → List ℕ
onward x l place = drop (place - x.start) l

-- among the rows that pass, no earlier one has this row's key
unfoldable pub appears : (ℕ → ℕ) → (ℕ → Bool) → List ℕ → ℕ → Bool
appears key among seen f = among f && not (is_in (key f) (map key (filter among seen)))

-- the keys of the rows that pass, each where it first appears, some rows having been seen
unfoldable pub fresh_keys : (ℕ → ℕ) → (ℕ → Bool) → List ℕ → List ℕ → List ℕ
fresh_keys key among seen [] = []
fresh_keys key among seen (f ∷ rows) = keep (appears key among seen f) (key f) (fresh_keys key among (seen ++ f ∷ []) rows)

-- those that first appear from a place on
abbrev pub fresh_from : (ℕ → ℕ) → (ℕ → Bool) → Span → List ℕ → ℕ → List ℕ
fresh_from key among x l place = fresh_keys key among (before x l place) (onward x l place)
