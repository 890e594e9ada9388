-- The pairwise rule of the specification (October 2021, 5.3.2 Field Selection Merging), by its failures: it holds where no failure can be
-- had. It has no groups, known lists, budget or levels. Quoted words are the steps of that section, in short. Assumes nothing.
use Rattle.std.specs.Prelude.{◌≡◌, ◌≢◌, not, List, [], ◌∷◌, ◌++◌, ℕ, T}
use Rattle.merge_theory.specs.Lists.{◌∈◌}
use Rattle.merge_theory.specs.Document.{Document, set_of}
use Rattle.merge_theory.specs.Expand.{FieldIn}

-- ---- the words of the rule

module _ (D : Document) where
  -- "fields of the set with one response name"
  abbrev pub SameResponse : ℕ → ℕ → Type 0
  SameResponse a b = D.name_of a ≡ D.name_of b

  -- "if the parent types of A and B are equal, or either is not an object type"
  pub data Overlap (a b : ℕ) : Type 0 where
    one_parent : D.parent_of a ≡ D.parent_of b → Overlap a b
    first_abstract : T (not (D.is_object (D.parent_of a))) → Overlap a b
    second_abstract : T (not (D.is_object (D.parent_of b))) → Overlap a b

  -- "the set that joins A's selection set and B's"
  unfoldable pub merged : ℕ → ℕ → List ℕ
  merged a b = set_of D a ++ set_of D b

  -- t is a set that s reaches, by rows of any kind
  pub data Reached (s : ℕ) : ℕ → Type 0 where
    start : Reached s s
    onward : {t row u : ℕ} → Reached s t → row ∈ D.rows_of t → u ∈ set_of D row → Reached s u

-- ---- the rule

module _ (D : Document) where
  -- SameResponseShape(A, B) is false
  pub data ShapeFails : ℕ → ℕ → Type 0 where
    -- "unwrap the two result types together"
    types_disagree : {a b : ℕ} → T (not (D.types_agree a b)) → ShapeFails a b
    -- "for each response name and each pair of its fields: SameResponseShape of the pair"
    subshapes_fail : {a b c d : ℕ} → FieldIn D (merged D a b) c → FieldIn D (merged D a b) d → SameResponse D c d → ShapeFails c d
        → ShapeFails a b

  -- FieldsInSetCanMerge(set) is false. A pair may be a field with itself: that only adds the rule for the field's own set, which is
  -- asked anyway. `RuleHolds≢` below leaves such pairs out, and `decides_distinct` says that nothing changes.
  pub data MergeFails : List ℕ → Type 0 where
    -- "SameResponseShape(A, B)"
    shapes_fail : {sets : List ℕ} {a b : ℕ} → FieldIn D sets a → FieldIn D sets b → SameResponse D a b → ShapeFails a b → MergeFails sets
    -- "same field name"
    names_differ : {sets : List ℕ} {a b : ℕ} → FieldIn D sets a → FieldIn D sets b → SameResponse D a b → Overlap D a b
        → T (not (D.same_name a b)) → MergeFails sets
    -- "identical sets of arguments"
    arguments_differ : {sets : List ℕ} {a b : ℕ} → FieldIn D sets a → FieldIn D sets b → SameResponse D a b → Overlap D a b
        → T (not (D.same_arguments a b)) → MergeFails sets
    -- "FieldsInSetCanMerge of the set that joins A's selection set and B's"
    subfields_fail : {sets : List ℕ} {a b : ℕ} → FieldIn D sets a → FieldIn D sets b → SameResponse D a b → Overlap D a b
        → MergeFails (merged D a b) → MergeFails sets

  -- "For each selection set in the document, FieldsInSetCanMerge(set) holds": of every set that the operation's set s reaches
  abbrev pub RuleHolds : ℕ → Type 0
  RuleHolds s = (t : ℕ) → Reached D s t → ¬ MergeFails (t ∷ [])

-- ---- the same over two different fields at a time

module _ (D : Document) where
  pub data ShapeFails≢ : ℕ → ℕ → Type 0 where
    types_disagree≢ : {a b : ℕ} → T (not (D.types_agree a b)) → ShapeFails≢ a b
    subshapes_fail≢ : {a b c d : ℕ} → FieldIn D (merged D a b) c → FieldIn D (merged D a b) d → c ≢ d → SameResponse D c d → ShapeFails≢ c d
        → ShapeFails≢ a b

  pub data MergeFails≢ : List ℕ → Type 0 where
    shapes_fail≢ : {sets : List ℕ} {a b : ℕ} → FieldIn D sets a → FieldIn D sets b → a ≢ b → SameResponse D a b → ShapeFails≢ a b
        → MergeFails≢ sets
    names_differ≢ : {sets : List ℕ} {a b : ℕ} → FieldIn D sets a → FieldIn D sets b → a ≢ b → SameResponse D a b → Overlap D a b
        → T (not (D.same_name a b)) → MergeFails≢ sets
    arguments_differ≢ : {sets : List ℕ} {a b : ℕ} → FieldIn D sets a → FieldIn D sets b → a ≢ b → SameResponse D a b → Overlap D a b
        → T (not (D.same_arguments a b)) → MergeFails≢ sets
    subfields_fail≢ : {sets : List ℕ} {a b : ℕ} → FieldIn D sets a → FieldIn D sets b → a ≢ b → SameResponse D a b → Overlap D a b
        → MergeFails≢ (merged D a b) → MergeFails≢ sets

  abbrev pub RuleHolds≢ : ℕ → Type 0
  RuleHolds≢ s = (t : ℕ) → Reached D s t → ¬ MergeFails≢ (t ∷ [])
