-- Types as the GraphQL specification speaks of them, and the type that a reference of table 1 stands for:
-- a relation, no steps. Assumes nothing.
use Rattle.std.specs.Prelude.{ℕ, ◌≡◌, List}
use Rattle.tables.specs.Columns.{reference_kind, reference_child}

-- a named type (by its row), a list of items of a type, a non-null type
pub data Ty : Type 0 where
  named : ℕ → Ty
  list_of : Ty → Ty
  non_null : Ty → Ty

-- reference kinds: 0 named, 1 non-null named, 2 list, 3 non-null list
pub data StandsFor (image : List ℕ) : ℕ → Ty → Type 0 where
  a_name : {r child : ℕ} → reference_kind image r ≡ 0 → reference_child image r ≡ child → StandsFor image r (named child)
  a_non_null_name : {r child : ℕ} → reference_kind image r ≡ 1 → reference_child image r ≡ child → StandsFor image r (non_null (named child))
  a_list : {r child : ℕ} {t : Ty} → reference_kind image r ≡ 2 → reference_child image r ≡ child → StandsFor image child t → StandsFor image r (list_of t)
  a_non_null_list : {r child : ℕ} {t : Ty} → reference_kind image r ≡ 3 → reference_child image r ≡ child → StandsFor image child t
      → StandsFor image r (non_null (list_of t))
