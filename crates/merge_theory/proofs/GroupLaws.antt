-- Which fields stand together in a group or subgroup. Assumes nothing.
use mathlib.Core.Path.{◌≡◌, refl, sym, ◌∙◌, subst}
use mathlib.Core.Logic.{◌⊎◌, inl, inr}
use mathlib.Core.Bool.{not}
use mathlib.Core.List.{List, [], ◌∷◌, ◌++◌}
use Prim.Native.Nat.{ℕ}
use lib.Dec.{T, eqb, eqb→eq, eqb_refl, T_not}
use Rattle.merge_theory.specs.Lists.{◌∈◌, here, there}
use Rattle.merge_theory.specs.Document.{Document}
use Rattle.merge_theory.specs.Groups.{fields_with, keys_of, groups, concretes, abstracts, subgroups_by, subgroups}
use Rattle.merge_theory.specs.Rule.{SameResponse, Overlap, one_parent, first_abstract, second_abstract}
use Rattle.merge_theory.proofs.ListLaws.{head_in, not_in_nil, in_left, in_right, in_append, in_map, from_map, in_filter, from_filter, in_distinct, decide}

-- one of the parts has both
abbrev pub Together : List (List ℕ) → ℕ → ℕ → Type 0
Together parts a b = (part : List ℕ) × (part ∈ parts) × (a ∈ part) × (b ∈ part)

-- ---- fields with one key

pub from_fields_with : (key : ℕ → ℕ) (fields : List ℕ) (k : ℕ) {f : ℕ} → f ∈ fields_with key fields k → (f ∈ fields) × (key f ≡ k)
unfolding fields_with
from_fields_with key fields k {f} m = let (i, t) = from_filter (λ g. eqb (key g) k) fields m in (i, eqb→eq (key f) k t)

pub in_fields_with : (key : ℕ → ℕ) {fields : List ℕ} {k f : ℕ} → f ∈ fields → key f ≡ k → f ∈ fields_with key fields k
unfolding fields_with
in_fields_with key {k = k} {f = f} m e = in_filter (λ g. eqb (key g) k) m (subst (λ x. T (eqb (key f) x)) e (eqb_refl (key f)))

in_keys_of : (key : ℕ → ℕ) {fields : List ℕ} {f : ℕ} → f ∈ fields → key f ∈ keys_of key fields
unfolding keys_of
in_keys_of key m = in_distinct (in_map key m)

-- ---- groups by response name

module _ (D : Document) where
  -- a group's fields are the list's fields of one name
  from_groups : (fields group : List ℕ) → group ∈ groups D fields → (n : ℕ) × ((f : ℕ) → f ∈ group → (f ∈ fields) × (D.name_of f ≡ n))
  unfolding groups
  from_groups fields group m =
      let (n, i, e) = from_map (fields_with D.name_of fields) (keys_of D.name_of fields) m in
      (n, λ f j. from_fields_with D.name_of fields n (subst (λ (g : List ℕ). f ∈ g) e j))

  pub group_in : (fields group : List ℕ) (a : ℕ) → group ∈ groups D fields → a ∈ group → a ∈ fields
  group_in fields group a m i = ((from_groups fields group m).1 a i).0

  pub group_near : (fields group : List ℕ) (a b : ℕ) → group ∈ groups D fields → a ∈ group → b ∈ group → SameResponse D a b
  group_near fields group a b m i j =
      let (n, h) = from_groups fields group m in
      (h a i).1 ∙ sym (h b j).1

  pub group_covers : (fields : List ℕ) (a b : ℕ) → a ∈ fields → b ∈ fields → SameResponse D a b → Together (groups D fields) a b
  unfolding groups
  group_covers fields a b i j e = (
    fields_with D.name_of fields (D.name_of a),
    in_map (fields_with D.name_of fields) (in_keys_of D.name_of i),
    in_fields_with D.name_of i refl,
    in_fields_with D.name_of j (sym e),
  )

-- ---- subgroups by parent

module _ (D : Document) where
  abbrev Concrete : ℕ → Type 0
  Concrete f = T (D.is_object (D.parent_of f))

  abbrev Abstract : ℕ → Type 0
  Abstract f = T (not (D.is_object (D.parent_of f)))

  from_abstracts : (group : List ℕ) {f : ℕ} → f ∈ abstracts D group → (f ∈ group) × Abstract f
  unfolding abstracts
  from_abstracts group m = from_filter (λ f. not (D.is_object (D.parent_of f))) group m

  in_abstracts : {group : List ℕ} {f : ℕ} → f ∈ group → Abstract f → f ∈ abstracts D group
  unfolding abstracts
  in_abstracts m t = in_filter (λ f. not (D.is_object (D.parent_of f))) m t

  in_concretes : {group : List ℕ} {f : ℕ} → f ∈ group → Concrete f → f ∈ concretes D group
  unfolding concretes
  in_concretes m t = in_filter (λ f. D.is_object (D.parent_of f)) m t

  -- the subgroup of one object parent
  abbrev subgroup_of : List ℕ → ℕ → List ℕ
  subgroup_of group q = fields_with D.parent_of group q ++ abstracts D group

  -- a subgroup's fields are the group's fields of one parent, or of any abstract parent
  from_subgroups : (group parents sub : List ℕ) → sub ∈ subgroups_by D group parents
      → (q : ℕ) × ((f : ℕ) → f ∈ sub → (f ∈ group) × ((D.parent_of f ≡ q) ⊎ Abstract f))
  unfolding subgroups_by
  from_subgroups group [] sub (here e) =
      (0, λ f i. let (j, t) = from_abstracts group (subst (λ (g : List ℕ). f ∈ g) e i) in (j, inr t))
  from_subgroups group [] sub (there m) = absurd (not_in_nil m)
  from_subgroups group (p ∷ ps) sub m =
      let (q, i, e) = from_map (subgroup_of group) (p ∷ ps) m in
      (q, λ f j. pick q f (in_append (fields_with D.parent_of group q) (subst (λ (g : List ℕ). f ∈ g) e j)))
    where
      pick : (q f : ℕ) → (f ∈ fields_with D.parent_of group q) ⊎ (f ∈ abstracts D group) → (f ∈ group) × ((D.parent_of f ≡ q) ⊎ Abstract f)
      pick q f (inl l) = let (i, e) = from_fields_with D.parent_of group q l in (i, inl e)
      pick q f (inr r) = let (i, t) = from_abstracts group r in (i, inr t)

  pub subgroup_in : (group sub : List ℕ) (a : ℕ) → sub ∈ subgroups D group → a ∈ sub → a ∈ group
  unfolding subgroups
  subgroup_in group sub a m i = ((from_subgroups group (keys_of D.parent_of (concretes D group)) sub m).1 a i).0

  overlap_of : (a b q : ℕ) → (D.parent_of a ≡ q) ⊎ Abstract a → (D.parent_of b ≡ q) ⊎ Abstract b → Overlap D a b
  overlap_of a b q (inr s) h = first_abstract s
  overlap_of a b q (inl e) (inl f) = one_parent (e ∙ sym f)
  overlap_of a b q (inl e) (inr t) = second_abstract t

  pub subgroup_near : (group sub : List ℕ) (a b : ℕ) → sub ∈ subgroups D group → a ∈ sub → b ∈ sub → Overlap D a b
  unfolding subgroups
  subgroup_near group sub a b m i j =
      let (q, h) = from_subgroups group (keys_of D.parent_of (concretes D group)) sub m in
      overlap_of a b q (h a i).1 (h b j).1

  in_subgroups_by : (group parents : List ℕ) {q : ℕ} → q ∈ parents → subgroup_of group q ∈ subgroups_by D group parents
  unfolding subgroups_by
  in_subgroups_by group (p ∷ ps) m = in_map (subgroup_of group) m
  in_subgroups_by group [] {q = q} m = elim m [ ]

  -- two fields of abstract parents stand together in every subgroup
  abstracts_together : (group parents : List ℕ) (a b : ℕ) → a ∈ abstracts D group → b ∈ abstracts D group
      → Together (subgroups_by D group parents) a b
  unfolding subgroups_by
  abstracts_together group [] a b i j = (abstracts D group, head_in, i, j)
  abstracts_together group (p ∷ ps) a b i j =
      (subgroup_of group p, head_in, in_right (fields_with D.parent_of group p) i, in_right (fields_with D.parent_of group p) j)

  -- the subgroup of a field with an object parent has every field that overlaps it
  concrete_together : (group : List ℕ) (a b : ℕ) → a ∈ group → b ∈ group → Concrete a → (D.parent_of a ≡ D.parent_of b) ⊎ Abstract b
      → Together (subgroups D group) a b
  unfolding subgroups
  concrete_together group a b i j t h = (
    subgroup_of group (D.parent_of a),
    in_subgroups_by group (keys_of D.parent_of (concretes D group)) (in_keys_of D.parent_of (in_concretes i t)),
    in_left (abstracts D group) (in_fields_with D.parent_of i refl),
    other h,
  )
    where
      other : (D.parent_of a ≡ D.parent_of b) ⊎ Abstract b → b ∈ subgroup_of group (D.parent_of a)
      other (inl e) = in_left (abstracts D group) (in_fields_with D.parent_of j (sym e))
      other (inr s) = in_right (fields_with D.parent_of group (D.parent_of a)) (in_abstracts j s)

  -- if b overlaps a, whose parent is an object, then b has that parent or an abstract one
  overlap_first : (a b : ℕ) → Concrete a → Overlap D a b → (D.parent_of a ≡ D.parent_of b) ⊎ Abstract b
  overlap_first a b t (one_parent e) = inl e
  overlap_first a b t (first_abstract s) = absurd (T_not (D.is_object (D.parent_of a)) s t)
  overlap_first a b t (second_abstract s) = inr s

  pub subgroup_covers : (group : List ℕ) (a b : ℕ) → a ∈ group → b ∈ group → Overlap D a b → Together (subgroups D group) a b
  unfolding subgroups
  subgroup_covers group a b i j o = pick (decide (D.is_object (D.parent_of a))) (decide (D.is_object (D.parent_of b)))
    where
      pick : Concrete a ⊎ Abstract a → Concrete b ⊎ Abstract b → Together (subgroups D group) a b
      pick (inl t) h = concrete_together group a b i j t (overlap_first a b t o)
      pick (inr s) (inl t) = let (sub, m, k, l) = concrete_together group b a j i t (inr s) in (sub, m, l, k)
      pick (inr s) (inr t) =
          abstracts_together group (keys_of D.parent_of (concretes D group)) a b (in_abstracts i s) (in_abstracts j t)
