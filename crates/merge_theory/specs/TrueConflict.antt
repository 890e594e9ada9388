-- True conflicts, by chains of fields. Assumes nothing.
use Rattle.std.specs.Prelude.{not, [], ◌∷◌, ℕ, T}
use Rattle.merge_theory.specs.Document.{Document, Cause, shape, name, arguments, set_of}
use Rattle.merge_theory.specs.Expand.{FieldIn}
use Rattle.merge_theory.specs.Rule.{SameResponse, Overlap}

module _ (D : Document) where
  -- "at each level the two parents are one type or not both objects"
  abbrev pub SameLevel : ℕ → ℕ → Type 0
  SameLevel a b = SameResponse D a b × Overlap D a b

  -- "two chains of fields lead to them from one operation's set", s, and the fields of each level are `Near`
  pub data Chains (Near : ℕ → ℕ → Type 0) (s : ℕ) : ℕ → ℕ → Type 0 where
    first_level : {a b : ℕ} → FieldIn D (s ∷ []) a → FieldIn D (s ∷ []) b → Near a b → Chains Near s a b
    next_level : {c d a b : ℕ} → Chains Near s c d → FieldIn D (set_of D c) a → FieldIn D (set_of D d) b → Near a b → Chains Near s a b

  -- "with the same response names level by level; for 14 their types disagree, for 15 and 16 their names or arguments differ and at each
  -- level the two parents are one type or not both objects"
  abbrev pub TrueConflict : ℕ → Cause → ℕ → ℕ → Type 0
  TrueConflict s shape a b = Chains (SameResponse D) s a b × T (not (D.types_agree a b))
  TrueConflict s name a b = Chains SameLevel s a b × T (not (D.same_name a b))
  TrueConflict s arguments a b = Chains SameLevel s a b × T (not (D.same_arguments a b))
