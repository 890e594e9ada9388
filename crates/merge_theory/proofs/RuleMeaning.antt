-- Where the tests decide the relations on the fields at hand, the rule over tests is the rule over relations. Assumes `Sound`.
use mathlib.Core.Logic.{◌↔◌, ◌⊎◌, inl, inr}
use mathlib.Core.Bool.{Bool, not}
use mathlib.Core.List.{List}
use Prim.Native.Nat.{ℕ}
use lib.Dec.{T, T_not}
use Rattle.merge_theory.specs.Lists.{Every}
use Rattle.merge_theory.specs.Document.{Document, Sound, FieldAt}
use Rattle.merge_theory.specs.Rule.{ShapeFails, types_disagree, subshapes_fail, MergeFails, shapes_fail, names_differ, arguments_differ, subfields_fail, RuleHolds}
use Rattle.merge_theory.specs.RuleBy.{ShapeBreaks, types_break, subshapes_break, MergeBreaks, shapes_break, names_break, arguments_break, subfields_break, RuleHoldsBy}
use Rattle.merge_theory.proofs.ListLaws.{only, decide}
use Rattle.merge_theory.proofs.ExpandLaws.{field_in_at}
use Rattle.merge_theory.proofs.Levels.{merged_at, reached_at}

-- a test decides a relation on the rows at hand
abbrev pub Means : (ℕ → Type 0) → (ℕ → ℕ → Bool) → (ℕ → ℕ → Type 0) → Type 0
Means On same Same = (a b : ℕ) → On a → On b → T (same a b) ↔ Same a b

module _ (On : ℕ → Type 0) (same : ℕ → ℕ → Bool) (Same : ℕ → ℕ → Type 0) (m : Means On same Same) {a b : ℕ} (i : On a) (j : On b) where
  breaks : T (not (same a b)) → Same a b → ⊥
  breaks t h = T_not (same a b) t ((m a b i j).1 h)

  differs : (Same a b → ⊥) → T (not (same a b))
  differs h = pick (decide (same a b))
    where
      pick : T (same a b) ⊎ T (not (same a b)) → T (not (same a b))
      pick (inl t) = absurd (h ((m a b i j).0 t))
      pick (inr t) = t

module _ (D : Document) {At : ℕ → Type 0} (S : Sound D At) (Types Names Arguments : ℕ → ℕ → Type 0)
    (types : Means (FieldAt D At) D.types_agree Types) (names : Means (FieldAt D At) D.same_name Names)
    (arguments : Means (FieldAt D At) D.same_arguments Arguments) where
  shape_to : {a b : ℕ} → FieldAt D At a → FieldAt D At b → ShapeFails D a b → ShapeBreaks D Types Names Arguments a b
  shape_to i j (types_disagree t) = types_break (breaks (FieldAt D At) D.types_agree Types types i j t)
  shape_to i j (subshapes_fail k l e bad) =
      let at = merged_at D S i j in
      subshapes_break k l e (shape_to (field_in_at D S at k) (field_in_at D S at l) bad)

  shape_from : {a b : ℕ} → FieldAt D At a → FieldAt D At b → ShapeBreaks D Types Names Arguments a b → ShapeFails D a b
  shape_from i j (types_break t) = types_disagree (differs (FieldAt D At) D.types_agree Types types i j t)
  shape_from i j (subshapes_break k l e bad) =
      let at = merged_at D S i j in
      subshapes_fail k l e (shape_from (field_in_at D S at k) (field_in_at D S at l) bad)

  merge_to : {sets : List ℕ} → Every At sets → MergeFails D sets → MergeBreaks D Types Names Arguments sets
  merge_to all (shapes_fail i j e bad) = shapes_break i j e (shape_to (field_in_at D S all i) (field_in_at D S all j) bad)
  merge_to all (names_differ i j e o t) = names_break i j e o (breaks (FieldAt D At) D.same_name Names names (field_in_at D S all i) (field_in_at D S all j) t)
  merge_to all (arguments_differ i j e o t) = arguments_break i j e o (breaks (FieldAt D At) D.same_arguments Arguments arguments (field_in_at D S all i) (field_in_at D S all j) t)
  merge_to all (subfields_fail i j e o bad) = subfields_break i j e o (merge_to (merged_at D S (field_in_at D S all i) (field_in_at D S all j)) bad)

  merge_from : {sets : List ℕ} → Every At sets → MergeBreaks D Types Names Arguments sets → MergeFails D sets
  merge_from all (shapes_break i j e bad) = shapes_fail i j e (shape_from (field_in_at D S all i) (field_in_at D S all j) bad)
  merge_from all (names_break i j e o t) = names_differ i j e o (differs (FieldAt D At) D.same_name Names names (field_in_at D S all i) (field_in_at D S all j) t)
  merge_from all (arguments_break i j e o t) = arguments_differ i j e o (differs (FieldAt D At) D.same_arguments Arguments arguments (field_in_at D S all i) (field_in_at D S all j) t)
  merge_from all (subfields_break i j e o bad) = subfields_fail i j e o (merge_from (merged_at D S (field_in_at D S all i) (field_in_at D S all j)) bad)

  pub rule_means : {s : ℕ} → At s → RuleHolds D s ↔ RuleHoldsBy D Types Names Arguments s
  rule_means at = (
    λ rule t r bad. rule t r (merge_from (only At (reached_at D S at r)) bad),
    λ rule t r bad. rule t r (merge_to (only At (reached_at D S at r)) bad),
  )
