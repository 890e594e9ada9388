-- Two documents that differ in the order of rows inside sets, and in how rows and sets are numbered. Assumes nothing.
use Rattle.std.specs.Prelude.{◌≡◌, map, ℕ}
use Rattle.merge_theory.specs.Lists.{◌∈◌}
use Rattle.merge_theory.specs.Document.{Document, set_of, FieldAt}

-- D' has the sets at hand of D, renumbered, and in each the same rows in any order, renumbered. A row says in D' what it says in D.
pub record Reordered (D D' : Document) (At At' : ℕ → Type 0) : Type 0 where
  pub row : ℕ → ℕ
  pub row_back : ℕ → ℕ
  pub set : ℕ → ℕ
  pub set_back : ℕ → ℕ
  pub closed : {s r t : ℕ} → At s → r ∈ D.rows_of s → t ∈ set_of D r → At t
  pub set_at : {s : ℕ} → At s → At' (set s)
  pub set_back_at : {s : ℕ} → At' s → At (set_back s)
  pub set_round : {s : ℕ} → At s → set_back (set s) ≡ s
  pub set_back_round : {s : ℕ} → At' s → set (set_back s) ≡ s
  pub stands : {s r : ℕ} → At s → r ∈ D.rows_of s → row r ∈ D'.rows_of (set s)
  pub stood : {s r : ℕ} → At s → r ∈ D'.rows_of (set s) → (row_back r ∈ D.rows_of s) × (row (row_back r) ≡ r)
  pub links : {s r : ℕ} → At s → r ∈ D.rows_of s → set_of D' (row r) ≡ map set (set_of D r)
  pub kinds : {s r : ℕ} → At s → r ∈ D.rows_of s → D.kind_of r ≡ D'.kind_of (row r)
  pub responses : {r : ℕ} → FieldAt D At r → D.name_of r ≡ D'.name_of (row r)
  pub parents : {r : ℕ} → FieldAt D At r → D.parent_of r ≡ D'.parent_of (row r)
  pub objects : {r : ℕ} → FieldAt D At r → D.is_object (D.parent_of r) ≡ D'.is_object (D'.parent_of (row r))
  pub types : {a b : ℕ} → FieldAt D At a → FieldAt D At b → D.types_agree a b ≡ D'.types_agree (row a) (row b)
  pub names : {a b : ℕ} → FieldAt D At a → FieldAt D At b → D.same_name a b ≡ D'.same_name (row a) (row b)
  pub arguments : {a b : ℕ} → FieldAt D At a → FieldAt D At b → D.same_arguments a b ≡ D'.same_arguments (row a) (row b)
