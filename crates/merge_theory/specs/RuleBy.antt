-- The pairwise rule again, over relations between fields in place of a document's tests: with relations that have no fuel it is what a reader
-- holds beside the specification. `rule_means` says that it is the same rule where the tests decide the relations. Assumes nothing.
use Rattle.std.specs.Prelude.{List, [], ◌∷◌, ℕ}
use Rattle.merge_theory.specs.Document.{Document}
use Rattle.merge_theory.specs.Expand.{FieldIn}
use Rattle.merge_theory.specs.Rule.{SameResponse, Overlap, merged, Reached}

-- when two fields' types, names and arguments are the same
module _ (D : Document) (Types Names Arguments : ℕ → ℕ → Type 0) where
  -- SameResponseShape(A, B) is false
  pub data ShapeBreaks : ℕ → ℕ → Type 0 where
    types_break : {a b : ℕ} → ¬ Types a b → ShapeBreaks a b
    subshapes_break : {a b c d : ℕ} → FieldIn D (merged D a b) c → FieldIn D (merged D a b) d → SameResponse D c d → ShapeBreaks c d
        → ShapeBreaks a b

  -- FieldsInSetCanMerge(set) is false
  pub data MergeBreaks : List ℕ → Type 0 where
    shapes_break : {sets : List ℕ} {a b : ℕ} → FieldIn D sets a → FieldIn D sets b → SameResponse D a b → ShapeBreaks a b → MergeBreaks sets
    names_break : {sets : List ℕ} {a b : ℕ} → FieldIn D sets a → FieldIn D sets b → SameResponse D a b → Overlap D a b
        → ¬ Names a b → MergeBreaks sets
    arguments_break : {sets : List ℕ} {a b : ℕ} → FieldIn D sets a → FieldIn D sets b → SameResponse D a b → Overlap D a b
        → ¬ Arguments a b → MergeBreaks sets
    subfields_break : {sets : List ℕ} {a b : ℕ} → FieldIn D sets a → FieldIn D sets b → SameResponse D a b → Overlap D a b
        → MergeBreaks (merged D a b) → MergeBreaks sets

  -- of every set that the operation's set s reaches
  abbrev pub RuleHoldsBy : ℕ → Type 0
  RuleHoldsBy s = (t : ℕ) → Reached D s t → ¬ MergeBreaks (t ∷ [])
