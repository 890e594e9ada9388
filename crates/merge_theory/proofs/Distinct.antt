-- Over every set that an operation reaches, the rule for two different fields at a time is the rule for any two. Assumes `Sound`.
use mathlib.Core.Path.{◌≡◌, sym, ◌∙◌, subst}
use mathlib.Core.Logic.{◌≢◌, ◌↔◌, ◌⊎◌, inl, inr, ⊎_map, ⊎_elim}
use mathlib.Core.Bool.{Bool, not}
use mathlib.Core.Option.{Option, none, some}
use mathlib.Core.List.{List, [], ◌∷◌}
use Prim.Native.Nat.{ℕ}
use lib.Dec.{T, eqb, eqb→eq, eqb_refl, T_not}
use Rattle.merge_theory.specs.Lists.{◌∈◌, here, there, Every}
use Rattle.merge_theory.specs.Document.{Document, set_of, listed, Sound}
use Rattle.merge_theory.specs.Expand.{Within, itself, through, FieldIn, field_of}
use Rattle.merge_theory.specs.Rule.{merged, ShapeFails, types_disagree, subshapes_fail, MergeFails, shapes_fail, names_differ, arguments_differ, subfields_fail, Reached, start, onward, RuleHolds, ShapeFails≢, types_disagree≢, subshapes_fail≢, MergeFails≢, shapes_fail≢, names_differ≢, arguments_differ≢, subfields_fail≢, RuleHolds≢}
use Rattle.merge_theory.proofs.ListLaws.{not_in_nil, only, in_append, decide}
use Rattle.merge_theory.proofs.ExpandLaws.{field_in_at}
use Rattle.merge_theory.proofs.Levels.{field_one, merged_cases, merged_at, reached_trans, reached_at}

-- ---- different fields are fields

module _ (D : Document) where
  shape_any : {a b : ℕ} → ShapeFails≢ D a b → ShapeFails D a b
  shape_any (types_disagree≢ t) = types_disagree t
  shape_any (subshapes_fail≢ i j ne e bad) = subshapes_fail i j e (shape_any bad)

  merge_any : {sets : List ℕ} → MergeFails≢ D sets → MergeFails D sets
  merge_any (shapes_fail≢ i j ne e bad) = shapes_fail i j e (shape_any bad)
  merge_any (names_differ≢ i j ne e o t) = names_differ i j e o t
  merge_any (arguments_differ≢ i j ne e o t) = arguments_differ i j e o t
  merge_any (subfields_fail≢ i j ne e o bad) = subfields_fail i j e o (merge_any bad)

-- ---- more sets have more failures

module _ (D : Document) where
  pub merge_mono≢ : {sets more : List ℕ} → ((f : ℕ) → FieldIn D sets f → FieldIn D more f) → MergeFails≢ D sets → MergeFails≢ D more
  merge_mono≢ sub (shapes_fail≢ i j ne e bad) = shapes_fail≢ (sub _ i) (sub _ j) ne e bad
  merge_mono≢ sub (names_differ≢ i j ne e o t) = names_differ≢ (sub _ i) (sub _ j) ne e o t
  merge_mono≢ sub (arguments_differ≢ i j ne e o t) = arguments_differ≢ (sub _ i) (sub _ j) ne e o t
  merge_mono≢ sub (subfields_fail≢ i j ne e o bad) = subfields_fail≢ (sub _ i) (sub _ j) ne e o bad

-- ---- a field with itself: its own set, which is reached

-- equal or different
same_or_not : (a b : ℕ) → (a ≡ b) ⊎ (a ≢ b)
same_or_not a b = ⊎_map (eqb→eq a b) (λ f e. T_not (eqb a b) f (subst (λ x. T (eqb a x)) e (eqb_refl a))) (decide (eqb a b))

-- rows that a comparison tells apart are different, if the first is the same as itself
differ : (same : ℕ → ℕ → Bool) (a b : ℕ) → T (same a a) → T (not (same a b)) → a ≢ b
differ same a b t f q = T_not (same a b) f (subst (λ x. T (same a x)) q t)

-- a row leads to one set at most
listed_one : (o : Option ℕ) {t u : ℕ} → t ∈ listed o → u ∈ listed o → t ≡ u
listed_one none m n = absurd (not_in_nil m)
listed_one (some s) (here e) (here f) = e ∙ sym f
listed_one (some s) (here e) (there n) = absurd (not_in_nil n)
listed_one (some s) (there m) n = absurd (not_in_nil m)

module _ (D : Document) where
  -- two fields below one field are fields of its set
  own_set_lem : (a : ℕ) {c d : ℕ} → FieldIn D (merged D a a) c → FieldIn D (merged D a a) d
      → (u : ℕ) × (u ∈ set_of D a) × FieldIn D (u ∷ []) c × FieldIn D (u ∷ []) d
  unfolding set_of
  own_set_lem a {c} {d} i j =
      let (t, k, h) = field_one D (⊎_elim (λ l. l) (λ r. r) (merged_cases D a a i)) in
      let (u, l, g) = field_one D (⊎_elim (λ l. l) (λ r. r) (merged_cases D a a j)) in
      (u, l, subst (λ x. FieldIn D (x ∷ []) c) (listed_one (D.link_of a) k l) h, g)

  within_reached : {s t : ℕ} → Within D s t → Reached D s t
  within_reached itself = start
  within_reached (through w i f j) = onward (within_reached w) i j

  -- a set that these sets reach breaks the rule for different fields
  data Elsewhere (sets : List ℕ) : Type 0 where
    elsewhere : {s t : ℕ} → s ∈ sets → Reached D s t → MergeFails≢ D (t ∷ []) → Elsewhere sets

  elsewhere_up : {sets : List ℕ} {a : ℕ} → FieldIn D sets a → Elsewhere (set_of D a) → Elsewhere sets
  elsewhere_up (field_of m w i is) (elsewhere j r bad) = elsewhere m (reached_trans D (onward (within_reached w) i j) r) bad

  elsewhere_merged : {sets : List ℕ} {a b : ℕ} → FieldIn D sets a → FieldIn D sets b → Elsewhere (merged D a b) → Elsewhere sets
  unfolding merged
  elsewhere_merged {a = a} i j (elsewhere m r bad) =
      ⊎_elim (λ l. elsewhere_up i (elsewhere l r bad)) (λ k. elsewhere_up j (elsewhere k r bad)) (in_append (set_of D a) m)

  merge_own : (a : ℕ) → MergeFails≢ D (merged D a a) → Elsewhere (set_of D a)
  merge_own a (shapes_fail≢ i j ne e bad) = let (u, m, h, g) = own_set_lem a i j in elsewhere m start (shapes_fail≢ h g ne e bad)
  merge_own a (names_differ≢ i j ne e o t) = let (u, m, h, g) = own_set_lem a i j in elsewhere m start (names_differ≢ h g ne e o t)
  merge_own a (arguments_differ≢ i j ne e o t) = let (u, m, h, g) = own_set_lem a i j in elsewhere m start (arguments_differ≢ h g ne e o t)
  merge_own a (subfields_fail≢ i j ne e o bad) = let (u, m, h, g) = own_set_lem a i j in elsewhere m start (subfields_fail≢ h g ne e o bad)

  shape_own : (a : ℕ) → T (D.types_agree a a) → ShapeFails≢ D a a → Elsewhere (set_of D a)
  shape_own a t (types_disagree≢ f) = absurd (T_not (D.types_agree a a) f t)
  shape_own a t (subshapes_fail≢ i j ne e bad) = let (u, m, h, g) = own_set_lem a i j in elsewhere m start (shapes_fail≢ h g ne e bad)

-- ---- every failure is one of different fields, here or in a set that is reached

module _ (D : Document) {At : ℕ → Type 0} (S : Sound D At) where
  shape_distinct : {a b : ℕ} → Every At (merged D a b) → ShapeFails D a b → ShapeFails≢ D a b ⊎ Elsewhere D (merged D a b)
  shape_distinct all (types_disagree t) = inl (types_disagree≢ t)
  shape_distinct {a} {b} all (subshapes_fail {c = c} {d = d} i j e bad) =
      pick (shape_distinct (merged_at D S (field_in_at D S all i) (field_in_at D S all j)) bad) (same_or_not c d)
    where
      pick : ShapeFails≢ D c d ⊎ Elsewhere D (merged D c d) → (c ≡ d) ⊎ (c ≢ d) → ShapeFails≢ D a b ⊎ Elsewhere D (merged D a b)
      pick (inr el) h = inr (elsewhere_merged D i j el)
      pick (inl bad') (inr ne) = inl (subshapes_fail≢ i j ne e bad')
      pick (inl bad') (inl q) =
          inr (elsewhere_up D i (shape_own D c (S.types.reflexive (field_in_at D S all i)) (subst (λ x. ShapeFails≢ D c x) (sym q) bad')))

  merge_distinct : {sets : List ℕ} → Every At sets → MergeFails D sets → MergeFails≢ D sets ⊎ Elsewhere D sets
  merge_distinct {sets} all (shapes_fail {a = a} {b = b} i j e bad) =
      pick (shape_distinct (merged_at D S (field_in_at D S all i) (field_in_at D S all j)) bad) (same_or_not a b)
    where
      pick : ShapeFails≢ D a b ⊎ Elsewhere D (merged D a b) → (a ≡ b) ⊎ (a ≢ b) → MergeFails≢ D sets ⊎ Elsewhere D sets
      pick (inr el) h = inr (elsewhere_merged D i j el)
      pick (inl bad') (inr ne) = inl (shapes_fail≢ i j ne e bad')
      pick (inl bad') (inl q) =
          inr (elsewhere_up D i (shape_own D a (S.types.reflexive (field_in_at D S all i)) (subst (λ x. ShapeFails≢ D a x) (sym q) bad')))
  merge_distinct all (names_differ {a = a} {b = b} i j e o t) =
      inl (names_differ≢ i j (differ D.same_name a b (S.names.reflexive (field_in_at D S all i)) t) e o t)
  merge_distinct all (arguments_differ {a = a} {b = b} i j e o t) =
      inl (arguments_differ≢ i j (differ D.same_arguments a b (S.arguments.reflexive (field_in_at D S all i)) t) e o t)
  merge_distinct {sets} all (subfields_fail {a = a} {b = b} i j e o bad) =
      pick (merge_distinct (merged_at D S (field_in_at D S all i) (field_in_at D S all j)) bad) (same_or_not a b)
    where
      pick : MergeFails≢ D (merged D a b) ⊎ Elsewhere D (merged D a b) → (a ≡ b) ⊎ (a ≢ b) → MergeFails≢ D sets ⊎ Elsewhere D sets
      pick (inr el) h = inr (elsewhere_merged D i j el)
      pick (inl bad') (inr ne) = inl (subfields_fail≢ i j ne e o bad')
      pick (inl bad') (inl q) = inr (elsewhere_up D i (merge_own D a (subst (λ x. MergeFails≢ D (merged D a x)) (sym q) bad')))

  -- over every reached set the two rules are one
  pub distinct_rule : {s : ℕ} → At s → RuleHolds D s ↔ RuleHolds≢ D s
  distinct_rule {s} at = (
    λ rule t r bad. rule t r (merge_any D bad),
    λ rule t r bad. broken rule t r (merge_distinct (only At (reached_at D S at r)) bad),
  )
    where
      broken : RuleHolds≢ D s → (t : ℕ) → Reached D s t → MergeFails≢ D (t ∷ []) ⊎ Elsewhere D (t ∷ []) → ⊥
      broken rule t r (inl bad) = rule t r bad
      broken rule t r (inr (elsewhere {t = u} (here e) q bad)) = rule u (reached_trans D r (subst (λ x. Reached D x u) e q)) bad
      broken rule t r (inr (elsewhere (there m) q bad)) = not_in_nil m
