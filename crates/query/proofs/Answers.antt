-- What each cause of `Given` says of the reply and of the image: the case analyses behind the theorems.
use Prim.Native.Nat.{ℕ, zero, suc, ◌<◌, ◌≤◌}
use mathlib.Core.Path.{◌≡◌, refl, sym, ap, ◌∙◌, subst}
use mathlib.Core.Logic.{◌↔◌, ⊎_elim}
use mathlib.Core.List.{List}
use mathlib.Core.Option.{Option, none, some}
use native.Mathlib.Nat.{le_refl}
use native.Mathlib.Decide.{ℕ_discrete, dec_le}
use native.Mathlib.Omega.{arith}
use Rattle.merge_theory.specs.Document.{Cause, shape, name, arguments, number_of}
use Rattle.merge_theory.specs.Engine.{Engine, Decides}
use Rattle.merge_theory.specs.Rule.{start, RuleHolds}
use Rattle.merge_theory.specs.TrueConflict.{TrueConflict}
use Rattle.merge_theory.specs.Steps.{Result, finished, conflict, out, deep, IsOut}
use Rattle.merge_theory.specs.Walk.{check}
use Rattle.merge_theory.proofs.Conflict.{true_fails}
use Rattle.merge_theory.proofs.Engines.{check_decides, entry_true, entry_breaks}
use Rattle.merge_theory.proofs.Theorems.{shape_before}
use Rattle.tables.specs.Layout.{operations}
use Rattle.tables.specs.Image.{count_at}
use Rattle.rows.specs.Meaning.{BrokenAt}
use Rattle.rows.proofs.Exactly.{rows_exactly, row_fault_exactly}
use Rattle.rows.proofs.Promise.{rows_good}
use Rattle.variable.specs.Verdict.{usage_fault}
use Rattle.variable.specs.Rules.{Verdict}
use Rattle.variable.proofs.VerdictMeaning.{verdict_exactly}
use Rattle.fragment.specs.Rules as fragment
use Rattle.fragment.specs.Meaning.{Finds}
use Rattle.fragment.proofs.Theorems.{fragments_decided}
use Rattle.selection.specs.declared.arena.Reply.{Reply}
use Rattle.query.specs.Stages.{Stage, at_rows, at_fragments, at_variables, at_comparison, at_charge, at_end, place}
use Rattle.query.specs.Reply.{document_of, reply_by}
use Rattle.query.specs.Given.{Sane, Ran, ran_more, Enough, ComesTo, Given, bad_header, over_limit, short_scratch, bad_rows, bad_fragments, bad_variables, a_conflict, budget_spent, passes}
use Rattle.query.specs.Right.{NoCause, Covers, AllMerge, FirstInShape, AllRight}
use Rattle.query.proofs.Soundness.{operation_sound}
use Rattle.query.proofs.ShownKinds.{row_shown, no_cause_0}
use Rattle.query.proofs.Cases.{sane_good}
use Rattle.query.proofs.Once.{given_once}
use Rattle.query.proofs.Covering.{ran_more_budget}
use Rattle.query.proofs.Meanings.{all_merge_means, sane_spread, each_set}

-- ---- kinds and causes

one_cause : (c d : Cause) → number_of c ≡ number_of d → c ≡ d
one_cause shape shape e = refl
one_cause shape name e = absurd (omega arith)
one_cause shape arguments e = absurd (omega arith)
one_cause name shape e = absurd (omega arith)
one_cause name name e = refl
one_cause name arguments e = absurd (omega arith)
one_cause arguments shape e = absurd (omega arith)
one_cause arguments name e = absurd (omega arith)
one_cause arguments arguments e = refl

not_none : {A : Type 0} {x : A} {P : Type 0} {o : Option A} → o ≡ none → o ≡ some x → P
not_none {x = x} p q = let z : ◌≡◌ {A = ℕ} 0 1 = cc in absurd (omega arith)

module _ (run : Engine) (E : Decides run) (image : List ℕ) (work : ℕ) where
  -- operations that ran keep the rule
  ran_holds : (i used : ℕ) → Sane image → i ≤ count_at image operations → Ran run image work i used → (j : ℕ) → j < i → RuleHolds (document_of image) j
  ran_holds zero used sane few ran j less = absurd (omega arith)
  ran_holds (suc i) used sane few (ran_more {used = before} {y = y} ran v e) j less =
      elim (ℕ_discrete j i) [
        | yes same ↦
            rw same (E.finishes_right (document_of image) (operation_sound (sane_good sane) i few sane.fragments) work before i start y e)
        | no other ↦ ran_holds i before sane (omega arith) ran j (omega arith)
      ]

  -- operations that ran have no fault of variables
  ran_clear : (i used : ℕ) → Ran run image work i used → (j : ℕ) → j < i → usage_fault image j ≡ none
  ran_clear zero used ran j less = absurd (omega arith)
  ran_clear (suc i) used (ran_more {used = before} ran v e) j less =
      elim (ℕ_discrete j i) [
        | yes same ↦ rw same v
        | no other ↦ ran_clear i before ran j (omega arith)
      ]

module _ (run : Engine) (E : Decides run) (image : List ℕ) (work long : ℕ) where
  -- ---- the stage tells which rule fails, and where

  pub rows_of : (r : Reply) → Given run image work long at_rows r → BrokenAt image r.a r.b
  rows_of r (bad_rows {r = x} h w e) = (row_fault_exactly image h x.a x.b).0 (e ∙ ap some (row_shown image e))

  pub fragments_of : (r : Reply) → Given run image work long at_fragments r → Finds image (some (fragment.refusal r.kind r.operation r.a))
  fragments_of r (bad_fragments h w o e) = subst (Finds image) e (fragments_decided (rows_good h o))

  pub variables_of : (r : Reply) → Given run image work long at_variables r → Verdict image r.operation (some (record { kind = r.kind; a = r.a }))
  variables_of r (bad_variables {i} turn e) = (verdict_exactly image (sane_good turn.sane) i turn.own _).0 e

  -- past the fragments: tables and fragments are right
  pub sane_of : {s : Stage} (r : Reply) → place at_fragments < place s → Given run image work long s r → Sane image
  sane_of r past (bad_header e) = absurd (omega arith)
  sane_of r past (over_limit h w) = absurd (omega arith)
  sane_of r past (short_scratch h w s) = absurd (omega arith)
  sane_of r past (bad_rows h w e) = absurd (omega arith)
  sane_of r past (bad_fragments h w o e) = absurd (omega arith)
  sane_of r past (bad_variables turn e) = turn.sane
  sane_of r past (a_conflict turn v e) = turn.sane
  sane_of r past (budget_spent turn v e) = turn.sane
  sane_of r past (passes s w n) = s

  -- 14 to 16: a true conflict
  pub conflict_of : (r : Reply) → Given run image work long at_comparison r → (c : Cause) → r.kind ≡ number_of c
      → TrueConflict (document_of image) r.operation c r.a r.b
  conflict_of r (a_conflict {i} {used} {a} {b} {c = d} {y = y} turn v e) c k =
      subst (λ (x : Cause). TrueConflict (document_of image) i x a b) (one_cause d c k) (entry_true (E.stops_true (document_of image) work used i _ y e))

  -- 0: every rule holds
  pub right_of : (r : Reply) → Given run image work long at_end r → AllRight image
  right_of r (passes {used} s w n) =
      let holds : AllMerge image = λ i own. ran_holds run E image work (count_at image operations) used s (le_refl _) n i own in
      record {
        good = sane_good s;
        rows = (rows_exactly image s.header).0 s.rows;
        fragments = subst (Finds image) s.fragments (fragments_decided (sane_good s));
        variables = λ i own. (verdict_exactly image (sane_good s) i own none).0 (ran_clear run E image work (count_at image operations) used n i own);
        spread = sane_spread s;
        merge = holds;
        each = (each_set s).0 ((all_merge_means image s).0 holds);
      }

  -- ---- 17: the budget does not cover the way

  -- no operation runs out: the reply is not decided at a charge
  pub not_spent : Covers run image work → (r : Reply) → ¬ Given run image work long at_charge r
  not_spent covers r (budget_spent {i} {used} turn v e) = covers i used turn.own turn.ran (subst IsOut (sym e) tt)

  -- one runs out: the reply is 17
  pub spent_17 : NoCause image work long → (i used : ℕ) → i < count_at image operations → Ran run image work i used
      → IsOut (run (document_of image) work used i) → (reply_by run image work long).kind ≡ 17
  spent_17 clear i used own ran = go (run (document_of image) work used i) refl
    where
      go : (r : Result) → run (document_of image) work used i ≡ r → IsOut r → (reply_by run image work long).kind ≡ 17
      go (finished y) e h = absurd h
      go (conflict f y) e h = absurd h
      go (out y) e h =
          let turn : ComesTo run image work long i used = record { sane = clear.sane; enough = clear.enough; ran = ran; own = own } in
          sym (ap (λ (r : Reply). r.kind) (given_once run image work long _ (budget_spent turn (clear.variables i own) e)))
      go (deep y) e h = absurd h

  -- ---- 0 exactly if the rule holds

  pub exactly : {s : Stage} (r : Reply) → NoCause image work long → Covers run image work → Given run image work long s r → (r.kind ≡ 0) ↔ AllMerge image
  exactly r clear covers (bad_header e) = not_none clear.sane.header e
  exactly r clear covers (over_limit h w) = absurd (clear.enough.budget w)
  exactly r clear covers (short_scratch h w s) = absurd (clear.enough.scratch s)
  exactly r clear covers (bad_rows h w e) = not_none clear.sane.rows e
  exactly r clear covers (bad_fragments h w o e) = not_none clear.sane.fragments e
  exactly r clear covers (bad_variables {i} turn e) = not_none (clear.variables i turn.own) e
  exactly r clear covers (a_conflict {i} {used} {c = d} {y = y} turn v e) = (
    λ k. absurd (no_cause_0 d k),
    λ rule. absurd (rule i turn.own i start (entry_breaks (E.stops_true (document_of image) work used i _ y e))),
  )
  exactly r clear covers (budget_spent turn v e) = absurd (not_spent covers r (budget_spent turn v e))
  exactly r clear covers (passes {used} s w n) = (
    λ k i own. ran_holds run E image work (count_at image operations) used s (le_refl _) n i own,
    λ rule. refl,
  )

-- ---- a larger budget

module _ (run : Engine) (E : Decides run) (image : List ℕ) (less more long long' : ℕ) (le : less ≤ more) (enough : Enough image more long') where
  turn_more : {i used : ℕ} → ComesTo run image less long i used → ComesTo run image more long' i used
  turn_more {i} {used} turn = record {
    sane = turn.sane;
    enough = enough;
    ran = ran_more_budget run E image less more le i used turn.ran;
    own = turn.own;
  }

  same_walk : (used i : ℕ) {r : Result} → run (document_of image) less used i ≡ r → (IsOut r → ⊥) → run (document_of image) more used i ≡ r
  same_walk used i e covered = E.larger (document_of image) less more used i le (λ h. covered (subst IsOut e h)) ∙ e

  -- a cause other than 2, 3 and 17 is one with a larger budget too
  pub given_more : {s : Stage} (r : Reply) → Given run image less long s r → (r.kind ≡ 3 → ⊥) → (r.kind ≡ 17 → ⊥) → Given run image more long' s r
  given_more r (bad_header e) h3 h17 = bad_header e
  given_more r (over_limit h w) h3 h17 = absurd (enough.budget (omega arith))
  given_more r (short_scratch h w s) h3 h17 = absurd (h3 refl)
  given_more r (bad_rows h w e) h3 h17 = bad_rows h enough e
  given_more r (bad_fragments h w o e) h3 h17 = bad_fragments h enough o e
  given_more r (bad_variables turn e) h3 h17 = bad_variables (turn_more turn) e
  given_more r (a_conflict {i} {used} turn v e) h3 h17 = a_conflict (turn_more turn) v (same_walk used i e (λ h. h))
  given_more r (budget_spent turn v e) h3 h17 = absurd (h17 refl)
  given_more r (passes {used} s w n) h3 h17 = passes s enough (ran_more_budget run E image less more le (count_at image operations) used n)

-- ---- 14 exactly if there is a conflict in shape: of the check alone, which goes through all shapes first

module _ (image : List ℕ) (work long i : ℕ) where
  pub shape_first : (r : Reply) → Given check image work long at_comparison r → r.kind ≡ 14 → r.operation ≡ i → FirstInShape image i
  shape_first r (a_conflict {i = j} {used} {a} {b} {c = d} {y = y} turn v e) k at =
      subst (FirstInShape image) at (record {
        own = turn.own;
        before = ran_holds check check_decides image work j used turn.sane (omega (arith, turn.own)) turn.ran;
        a = a;
        b = b;
        conflicts = conflict_of check check_decides image work long _ (a_conflict turn v e) shape k;
      })

  pub first_shape : {s : Stage} (r : Reply) → NoCause image work long → Covers check image work → Given check image work long s r → FirstInShape image i
      → (r.kind ≡ 14) × (r.operation ≡ i)
  first_shape r clear covers (bad_header e) f = not_none clear.sane.header e
  first_shape r clear covers (over_limit h w) f = absurd (clear.enough.budget w)
  first_shape r clear covers (short_scratch h w s) f = absurd (clear.enough.scratch s)
  first_shape r clear covers (bad_rows h w e) f = not_none clear.sane.rows e
  first_shape r clear covers (bad_fragments h w o e) f = not_none clear.sane.fragments e
  first_shape r clear covers (bad_variables {i = j} turn e) f = not_none (clear.variables j turn.own) e
  first_shape r clear covers (a_conflict {i = j} {used} {a} {b} {c = d} {y = y} turn v e) f =
      elim (ℕ_discrete j i) [
        | yes same ↦ (in_shape same, same)
        | no other ↦ elim (dec_le j i) [
          | yes le ↦ absurd (f.before j (omega arith) j start (entry_breaks (check_decides.stops_true (document_of image) work used j _ y e)))
          | no more ↦
              absurd (ran_holds check check_decides image work j used turn.sane (omega (arith, turn.own)) turn.ran i (omega arith) i start
              (true_fails (document_of image) i shape f.a f.b f.conflicts))
        ]
      ]
    where
      in_shape : j ≡ i → number_of d ≡ 14
      in_shape same =
          ⊎_elim (λ is. ap number_of is)
          (λ no-shape. absurd (no-shape f.a f.b (subst (λ (k : ℕ). TrueConflict (document_of image) k shape f.a f.b) (sym same) f.conflicts)))
          (shape_before (document_of image) (operation_sound (sane_good turn.sane) j turn.own turn.sane.fragments) work used j start d a b y e)
  first_shape r clear covers (budget_spent turn v e) f = absurd (not_spent check check_decides image work long covers r (budget_spent turn v e))
  first_shape r clear covers (passes {used} s w n) f =
      absurd (ran_holds check check_decides image work (count_at image operations) used s (le_refl _) n i f.own i start
      (true_fails (document_of image) i shape f.a f.b f.conflicts))
