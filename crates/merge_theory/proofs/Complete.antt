-- T2 for the check: where both passes finish, no set that the operation reaches fails the rule; and the levels suffice. Assumes `Sound`.
use mathlib.Core.Path.{refl}
use mathlib.Core.Logic.{◌⊎◌, inl, inr, ⊎_elim}
use mathlib.Core.List.{List, [], ◌∷◌}
use Prim.Native.Nat.{ℕ}
use lib.Dec.{T_not}
use Rattle.merge_theory.specs.Lists.{◌∈◌, Every}
use Rattle.merge_theory.specs.Document.{Document, is_field, IsField, NoField, set_of, Sound, FieldAt}
use Rattle.merge_theory.specs.Expand.{itself, FieldIn, field_of, expand}
use Rattle.merge_theory.specs.Steps.{stop}
use Rattle.merge_theory.specs.Walk.{Pass, pass, passes, check, begin, shape_pass, parent_pass}
use Rattle.merge_theory.specs.Rule.{SameResponse, one_parent, merged, ShapeFails, types_disagree, subshapes_fail, MergeFails, shapes_fail, names_differ, arguments_differ, subfields_fail, Reached, start, onward}
use Rattle.merge_theory.specs.TrueConflict.{SameLevel}
use Rattle.merge_theory.proofs.ListLaws.{head_in, only, decide}
use Rattle.merge_theory.proofs.ExpandLaws.{expand_complete, expand_at}
use Rattle.merge_theory.proofs.Levels.{below_field, below_other, merged_left}
use Rattle.merge_theory.proofs.Outcome.{Shallow, Meets, meets_after, meets_weaken}
use Rattle.merge_theory.proofs.Passes.{PassLaws, Settles, shape_laws, parent_laws, shape_settles, parent_settles, silent_types, silent_same}
use Rattle.merge_theory.proofs.Gone.{Trace, Leaves, pass_done}
use Rattle.merge_theory.proofs.Clean.{PairFails, clashing, below_fails, Quiet, quiet_clean}

-- ---- both passes

-- a near pair of the merged sets fails in a pass
pub data FailsIn (D : Document) (P : Pass) (Near : ℕ → ℕ → Type 0) (sets : List ℕ) : Type 0 where
  fails_in : {a b : ℕ} → FieldIn D sets a → FieldIn D sets b → Near a b → PairFails D P Near a b → FailsIn D P Near sets

module _ (D : Document) {At : ℕ → Type 0} (S : Sound D At) where
  abbrev pub ShapePair : ℕ → ℕ → Type 0
  ShapePair = PairFails D (shape_pass D) (SameResponse D)

  pub shape_pair : {a b : ℕ} → ShapeFails D a b → ShapePair a b
  shape_pair {a} {b} (types_disagree t) = clashing (λ s. T_not (D.types_agree a b) t (silent_types D a b s))
  shape_pair (subshapes_fail i j e bad) = below_fails i j e (shape_pair bad)

  -- the rule's failure, sorted by passes
  split : {sets : List ℕ} → MergeFails D sets → FailsIn D (shape_pass D) (SameResponse D) sets ⊎ FailsIn D (parent_pass D) (SameLevel D) sets
  split (shapes_fail i j e bad) = inl (fails_in i j e (shape_pair bad))
  split (names_differ {a = a} {b = b} i j e o t) =
      inr (fails_in i j (e, o) (clashing (λ s. T_not (D.same_name a b) t (silent_same D a b s).0)))
  split (arguments_differ {a = a} {b = b} i j e o t) =
      inr (fails_in i j (e, o) (clashing (λ s. T_not (D.same_arguments a b) t (silent_same D a b s).1)))
  split {sets} (subfields_fail {a = a} {b = b} i j e o bad) = up (split bad)
    where
      up : FailsIn D (shape_pass D) (SameResponse D) (merged D a b) ⊎ FailsIn D (parent_pass D) (SameLevel D) (merged D a b)
          → FailsIn D (shape_pass D) (SameResponse D) sets ⊎ FailsIn D (parent_pass D) (SameLevel D) sets
      up (inl (fails_in k l near h)) = inl (fails_in i j e (below_fails k l near h))
      up (inr (fails_in k l near h)) = inr (fails_in i j (e, o) (below_fails k l near h))

  pub quiet_holds : (P : Pass) (Near : ℕ → ℕ → Type 0) (L : PassLaws D P Near) (E : Settles (FieldAt D At) P) (sets : List ℕ) → Every At sets
      → Quiet D S P Near L E (expand D sets) → ¬ FailsIn D P Near sets
  quiet_holds P Near L E sets at quiet (fails_in {a = a} {b = b} i j near bad) =
      quiet_clean D S P Near L E (expand D sets) (expand_at D S sets at) quiet a b (expand_complete D S sets at i) (expand_complete D S sets at j) near bad

  -- where neither pass compares a pair that clashes, the operation's set does not fail
  pub quiet_rule : (s : ℕ) → At s
      → Quiet D S (shape_pass D) (SameResponse D) (shape_laws D) (shape_settles D S) (expand D (s ∷ []))
      → Quiet D S (parent_pass D) (SameLevel D) (parent_laws D) (parent_settles D S) (expand D (s ∷ [])) → ¬ MergeFails D (s ∷ [])
  quiet_rule s at shapes parents bad =
      ⊎_elim (quiet_holds (shape_pass D) (SameResponse D) (shape_laws D) (shape_settles D S) (s ∷ []) (only At at) shapes)
      (quiet_holds (parent_pass D) (SameLevel D) (parent_laws D) (parent_settles D S) (s ∷ []) (only At at) parents) (split bad)

  -- a check stops at a conflict, so that it leaves none behind
  abbrev pub NoTrace : Trace
  NoTrace e entries = ⊥

  pub stop_leaves : Leaves stop NoTrace
  stop_leaves e z = tt

  pub check_clean : (budget used s : ℕ) → At s → Meets (λ z. ¬ MergeFails D (s ∷ [])) Shallow (check D budget used s)
  unfolding check passes
  check_clean budget used s at =
      meets_after _ _ Shallow _ _ (pass_done D S (shape_pass D) (SameResponse D) (shape_laws D) stop NoTrace stop_leaves s budget at (begin used))
      (λ z shapes. meets_weaken _ (λ y. ¬ MergeFails D (s ∷ [])) Shallow (pass D stop budget (parent_pass D) s z)
      (λ y parents. quiet_rule s at shapes.0 parents.0)
      (pass_done D S (parent_pass D) (SameLevel D) (parent_laws D) stop NoTrace stop_leaves s budget at z))

-- ---- every reached set

module _ (D : Document) where
  merge_mono : {sets more : List ℕ} → ((f : ℕ) → FieldIn D sets f → FieldIn D more f) → MergeFails D sets → MergeFails D more
  merge_mono sub (shapes_fail i j e bad) = shapes_fail (sub _ i) (sub _ j) e bad
  merge_mono sub (names_differ i j e o t) = names_differ (sub _ i) (sub _ j) e o t
  merge_mono sub (arguments_differ i j e o t) = arguments_differ (sub _ i) (sub _ j) e o t
  merge_mono sub (subfields_fail i j e o bad) = subfields_fail (sub _ i) (sub _ j) e o bad

  -- a set that a row leads to fails the rule: so does the set that the row stands in
  row_up : {t row u : ℕ} → row ∈ D.rows_of t → u ∈ set_of D row → MergeFails D (u ∷ []) → MergeFails D (t ∷ [])
  row_up {t} {row} {u} i j bad = pick (decide (is_field (D.kind_of row)))
    where
      pick : IsField D row ⊎ NoField D row → MergeFails D (t ∷ [])
      pick (inl is) =
          let own : FieldIn D (t ∷ []) row = field_of head_in itself i is in
          subfields_fail own own refl (one_parent refl) (merge_mono (λ f h. merged_left D row row (below_field D row j h)) bad)
      pick (inr other) = merge_mono (λ f h. below_other D i other j h) bad

  pub reached_up : {s t : ℕ} → Reached D s t → MergeFails D (t ∷ []) → MergeFails D (s ∷ [])
  reached_up start bad = bad
  reached_up (onward r i j) bad = reached_up r (row_up i j bad)
