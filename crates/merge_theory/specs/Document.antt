-- An abstract document, as the walk is told of it, and `Sound`: what the theorems assume of it.
-- Selection rows, selection sets, response names and types are numbers, as in the image's tables.
use Rattle.std.specs.Prelude.{Bool, true, false, not, List, [], ◌∷◌, ℕ, ◌<◌, T}
use Rattle.std.proofs.Math.Option.{Option, none, some}
use Rattle.merge_theory.specs.Lists.{◌∈◌}

pub data Kind : Type 0 where
  field spread inline : Kind

pub record Document : Type 0 where
  -- the selection rows of a set, in order
  pub rows_of : ℕ → List ℕ
  pub kind_of : ℕ → Kind
  -- a field's response name: its alias, else its own name
  pub name_of : ℕ → ℕ
  -- the set that a row leads to: a field's own set, if it has one; an inline's set; the set of a spread's fragment
  pub link_of : ℕ → Option ℕ
  -- the parent type of the set that a row stands in
  pub parent_of : ℕ → ℕ
  pub is_object : ℕ → Bool
  -- "Wrappers and nullability must match; leaves need one type; any two composites agree."
  pub types_agree : ℕ → ℕ → Bool
  -- "name, then arguments as unordered sets"
  pub same_name : ℕ → ℕ → Bool
  pub same_arguments : ℕ → ℕ → Bool
  -- more than the links from set to set on any chain of rows
  pub limit : ℕ

-- what two fields conflict in, and the reply kind that says so
pub data Cause : Type 0 where
  shape name arguments : Cause

abbrev pub number_of : Cause → ℕ
number_of shape = 14
number_of name = 15
number_of arguments = 16

abbrev pub is_field : Kind → Bool
is_field field = true
is_field spread = false
is_field inline = false

-- the set that a row leads to, as a list of none or one
abbrev pub listed : Option ℕ → List ℕ
listed none = []
listed (some t) = t ∷ []

module _ (D : Document) where
  abbrev pub IsField : ℕ → Type 0
  IsField row = T (is_field (D.kind_of row))

  abbrev pub NoField : ℕ → Type 0
  NoField row = T (not (is_field (D.kind_of row)))

  unfoldable pub set_of : ℕ → List ℕ
  set_of row = listed (D.link_of row)

-- ---- what is assumed

-- a comparison that is an equivalence on the rows at hand
pub record Equivalence (On : ℕ → Type 0) (same : ℕ → ℕ → Bool) : Type 0 where
  pub reflexive : {a : ℕ} → On a → T (same a a)
  pub symmetric : {a b : ℕ} → On a → On b → T (same a b) → T (same b a)
  pub transitive : {a b c : ℕ} → On a → On b → On c → T (same a b) → T (same b c) → T (same a c)

-- `At` says which sets are at hand: those that an operation reaches, or all of a table. This is one of their fields:
pub data FieldAt (D : Document) (At : ℕ → Type 0) (row : ℕ) : Type 0 where
  field_at : {s : ℕ} → At s → row ∈ D.rows_of s → IsField D row → FieldAt D At row

-- Of the sets at hand and their fields only. Kinds 4 to 7 are checked before the walk, so that each of these holds of an image.
pub record Sound (D : Document) (At : ℕ → Type 0) : Type 0 where
  -- the sets at hand lead to no others
  pub closed : {s row t : ℕ} → At s → row ∈ D.rows_of s → t ∈ set_of D row → At t
  pub types : Equivalence (FieldAt D At) D.types_agree
  pub names : Equivalence (FieldAt D At) D.same_name
  pub arguments : Equivalence (FieldAt D At) D.same_arguments
  -- no cycle: a rank of sets that falls along every link
  pub rank : ℕ → ℕ
  pub falls : {s row t : ℕ} → At s → row ∈ D.rows_of s → t ∈ set_of D row → rank t < rank s
  pub bounded : {s : ℕ} → At s → rank s < D.limit
