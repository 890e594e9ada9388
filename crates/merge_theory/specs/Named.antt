-- Which pair a pass may name: "a is the first field of the group or subgroup", b the first other that it clashes with. Assumes nothing.
use Rattle.std.specs.Prelude.{◌≡◌, ◌⊎◌, List, [], ◌∷◌, ℕ}
use Rattle.std.proofs.Math.Option.{Option, none, some}
use Rattle.merge_theory.specs.Lists.{◌∈◌}
use Rattle.merge_theory.specs.Document.{Document, Cause}
use Rattle.merge_theory.specs.Expand.{expand}
use Rattle.merge_theory.specs.Walk.{Pass, sets_below, shape_pass, parent_pass}

-- the merged sets that a pass comes to from s: s itself, and the non-empty sets of a part
pub data Met (D : Document) (P : Pass) (s : ℕ) : List ℕ → Type 0 where
  top : Met D P s (s ∷ [])
  below : {sets part : List ℕ} → Met D P s sets → part ∈ P.parts (expand D sets) → Met D P s (sets_below D part)

-- the entry of a pair that a pass compares, and finds to conflict
pub data Compared (D : Document) (P : Pass) (s : ℕ) (c : Cause) (a b : ℕ) : Type 0 where
  compared : {sets others : List ℕ} → Met D P s sets → (a ∷ others) ∈ P.parts (expand D sets) → b ∈ others → P.clash a b ≡ some c
      → Compared D P s c a b

-- in one of the two passes
abbrev pub ComparedInCheck : Document → ℕ → Cause → ℕ → ℕ → Type 0
ComparedInCheck D s c a b = Compared D (shape_pass D) s c a b ⊎ Compared D (parent_pass D) s c a b

-- b is the first of these fields that clashes with a
pub data FirstClash (clash : ℕ → ℕ → Option Cause) (a : ℕ) (c : Cause) (b : ℕ) : List ℕ → Type 0 where
  now : {others : List ℕ} → clash a b ≡ some c → FirstClash clash a c b (b ∷ others)
  later : {x : ℕ} {others : List ℕ} → clash a x ≡ none → FirstClash clash a c b others → FirstClash clash a c b (x ∷ others)

-- a is the first field of a part, and b the first other that clashes with it
pub data Named (D : Document) (P : Pass) (s : ℕ) (c : Cause) (a b : ℕ) : Type 0 where
  named : {sets others : List ℕ} → Met D P s sets → (a ∷ others) ∈ P.parts (expand D sets) → FirstClash P.clash a c b others
      → Named D P s c a b

-- in one of the check's two passes
abbrev pub NamedInCheck : Document → ℕ → Cause → ℕ → ℕ → Type 0
NamedInCheck D s c a b = Named D (shape_pass D) s c a b ⊎ Named D (parent_pass D) s c a b
