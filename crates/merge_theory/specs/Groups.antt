-- The groups and subgroups of a list of fields, in the order of the walk. Assumes nothing.
use Rattle.std.specs.Prelude.{not, List, [], ◌∷◌, ◌++◌, map, ℕ, eqb}
use Rattle.merge_theory.specs.Lists.{filter, distinct}
use Rattle.merge_theory.specs.Document.{Document}

-- the fields with one key
unfoldable pub fields_with : (ℕ → ℕ) → List ℕ → ℕ → List ℕ
fields_with key fields k = filter (λ f. eqb (key f) k) fields

-- the keys in order of first appearance
unfoldable pub keys_of : (ℕ → ℕ) → List ℕ → List ℕ
keys_of key fields = distinct (map key fields)

module _ (D : Document) where
  -- "Groups by response name stand in order of first appearance."
  unfoldable pub groups : List ℕ → List (List ℕ)
  groups fields = map (fields_with D.name_of fields) (keys_of D.name_of fields)

  -- the fields of object parents; those of interface or union parents
  unfoldable pub concretes : List ℕ → List ℕ
  concretes group = filter (λ f. D.is_object (D.parent_of f)) group

  unfoldable pub abstracts : List ℕ → List ℕ
  abstracts group = filter (λ f. not (D.is_object (D.parent_of f))) group

  -- "within a name group, one subgroup per object parent in order of appearance, followed by all fields of interface or union
  -- parents; these alone if no object parent occurs"
  unfoldable pub subgroups_by : List ℕ → List ℕ → List (List ℕ)
  subgroups_by group [] = abstracts group ∷ []
  subgroups_by group (p ∷ parents) = map (λ q. fields_with D.parent_of group q ++ abstracts group) (p ∷ parents)

  unfoldable pub subgroups : List ℕ → List (List ℕ)
  subgroups group = subgroups_by group (keys_of D.parent_of (concretes group))
