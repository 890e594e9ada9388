-- What is proved of the reply, in terms of the reply and the image alone: what a visitor reads first. The proofs are one line each; how they
-- go is in Cases, Once, Answers, Covering and Meanings. What the statements speak of is in specs/Reply, specs/Stages, specs/Given and specs/Right.
-- Merging is put to an engine: `run` is any that has the six laws of `Decides` (merge_theory/specs/Engine), `reply_by run` the reply with it.
-- The check's engine is `check`, and `reply` is `reply_by check`: "the check", at the end, has the theorems so.
--   first promise
--     given                every reply has its cause, that of its kind's stage, and no earlier one (specs/Given; proved in proofs/Cases)
--     given_once           two replies with a cause are one (proofs/Once)
--     rows_fail            4: a row rule breaks, first at what is shown (rows/specs/Meaning)
--     rows_given           and where it does, the reply is that
--   second promise
--     fragments_fail       5 to 9: the rule on fragments fails, first at what is shown (fragment/specs/Meaning)
--     fragments_given      and where it does, the reply is that
--     fragments_used       past them: every fragment is reached, and is the target of a spread
--     variables_fail       10 to 13: the rule on variables fails, first at what is shown (variable/specs/Rules)
--     variables_given      and where it does, the reply is that
--     passes_right         0: every rule holds, whatever the budget
--   third promise
--     passes_exactly       no cause of 1 to 13, and the budget covers the walk: 0 exactly if the pairwise rule holds for every set reached
--     passes_exactly_by    the same with the specification's own comparisons
--     passes_exactly_each  the same of each selection set of the document
--     covers_exactly       the budget covers the walk exactly if the reply is not 17
--     covers_more          a larger budget covers what a smaller one covers
--     covers_some          there is one that does
--     conflict_is_true     14, 15, 16: the two fields truly conflict at one response path
--     larger_budget_same   a larger budget, up to the limit and with scratch to match, changes no answer but 3 and 17
--   the check
--     check_given, check_right, check_exactly, check_true, check_budget: five of these with `check`
--     fourteen_exactly     14 exactly if two fields truly conflict in shape
use Prim.Native.Nat.{ℕ, ◌<◌, ◌≤◌}
use mathlib.Core.Path.{◌≡◌, refl, ap, subst, ◌∙◌}
use mathlib.Core.Logic.Iff
use mathlib.Core.Logic.{◌↔◌}
use mathlib.Core.List.{List}
use mathlib.Core.Option.{none, some}
use native.Mathlib.Omega.{arith}
use Rattle.merge_theory.specs.Document.{Cause, number_of}
use Rattle.merge_theory.specs.Engine.{Engine, Decides}
use Rattle.merge_theory.specs.TrueConflict.{TrueConflict}
use Rattle.merge_theory.specs.Walk.{check}
use Rattle.merge_theory.proofs.Engines.{check_decides}
use Rattle.tables.specs.Header.{header_fault}
use Rattle.rows.specs.RowFault.{row_fault}
use Rattle.rows.specs.Meaning.{BrokenAt}
use Rattle.rows.proofs.Exactly.{row_fault_exactly}
use Rattle.rows.proofs.Promise.{rows_good}
use Rattle.variable.specs.Verdict.{Shown}
use Rattle.variable.specs.Rules.{Verdict}
use Rattle.variable.proofs.VerdictMeaning.{verdict_exactly}
use Rattle.fragment.specs.Rules as fragment
use Rattle.fragment.specs.Meaning.{Finds, AllReached, AllSpread}
use Rattle.fragment.proofs.Whole.{fragments_exactly}
use Rattle.query.specs.Needed.{most_work, scratch_needed}
use Rattle.query.specs.Stages.{Stage, at_rows, at_fragments, at_variables, stage_of, place}
use Rattle.query.specs.Reply.{answer, document_of, reply_by, reply}
use Rattle.query.specs.Given.{Enough, ComesTo, Given, bad_rows, bad_fragments, bad_variables}
use Rattle.query.specs.Right.{NoCause, Covers, AllMerge, AllMergeBy, EachSetMerges, FirstInShape, AllRight}
use Rattle.query.proofs.ShownKinds.{cause_stage}
use Rattle.query.proofs.Answers.{rows_of, fragments_of, variables_of, sane_of, right_of, conflict_of, not_spent, spent_17, exactly, given_more, shape_first, first_shape}
use Rattle.query.proofs.Covering.{raised_covers, some_covers}
use Rattle.query.proofs.Meanings.{all_merge_means, sane_reached, sane_spread, each_set}
-- ---- first promise: a numbered answer to any words
pub use Rattle.query.proofs.Cases.{sane_good, given}
pub use Rattle.query.proofs.Once.{given_once}

module _ (run : Engine) (E : Decides run) (image : List ℕ) (work long : ℕ) where
  -- the cause of a reply whose stage is known
  cause : {s : Stage} → stage_of (reply_by run image work long).kind ≡ s → Given run image work long s (reply_by run image work long)
  cause e = subst (λ (s : Stage). Given run image work long s (reply_by run image work long)) e (given run E image work long)

  -- and of one whose kind is
  kind_cause : {k : ℕ} {s : Stage} → (reply_by run image work long).kind ≡ k → stage_of k ≡ s → Given run image work long s (reply_by run image work long)
  kind_cause e stage = cause (ap stage_of e ∙ stage)

  -- Kind 4: the table and the row shown are where the row rules break first.
  pub rows_fail : stage_of (reply_by run image work long).kind ≡ at_rows → BrokenAt image (reply_by run image work long).a (reply_by run image work long).b
  rows_fail at = rows_of run E image work long (reply_by run image work long) (cause at)

  -- And where kinds 1 to 3 have no cause and they break first there, the reply is that.
  pub rows_given : header_fault image ≡ none → Enough image work long → (t r : ℕ) → BrokenAt image t r → answer 4 0 t r 0 ≡ reply_by run image work long
  rows_given header enough t r broken = given_once run image work long _ (bad_rows header enough ((row_fault_exactly image header t r).1 broken))

  -- ---- second promise: each rule answers as the specification defines it

  -- Kinds 5 to 9: the rule on fragments that the kind stands for fails, first at what is shown, and those before it hold.
  pub fragments_fail : stage_of (reply_by run image work long).kind ≡ at_fragments
      → Finds image (some (fragment.refusal (reply_by run image work long).kind (reply_by run image work long).operation (reply_by run image work long).a))
  fragments_fail at = fragments_of run E image work long (reply_by run image work long) (cause at)

  -- And where kinds 1 to 4 have no cause and it fails first there, the reply is that.
  pub fragments_given : header_fault image ≡ none → row_fault image ≡ none → Enough image work long → (r : fragment.Refusal) → Finds image (some r)
      → answer r.kind r.operation r.a 0 0 ≡ reply_by run image work long
  fragments_given header rows enough r finds =
      given_once run image work long _ (bad_fragments header enough rows ((fragments_exactly (rows_good header rows) (some r)).1 finds))

  -- A stage past the fragments: no rule on them fails; every fragment is reached from an operation, and is the target of a spread.
  pub fragments_used : place at_fragments < place (stage_of (reply_by run image work long).kind) → AllReached image × AllSpread image
  fragments_used past = let sane = sane_of run E image work long (reply_by run image work long) past (given run E image work long) in (sane_reached sane, sane_spread sane)

  -- Kinds 10 to 13: likewise of the operation's variables.
  pub variables_fail : stage_of (reply_by run image work long).kind ≡ at_variables
      → Verdict image (reply_by run image work long).operation (some (record { kind = (reply_by run image work long).kind; a = (reply_by run image work long).a }))
  variables_fail at = variables_of run E image work long (reply_by run image work long) (cause at)

  -- And where the check comes to an operation and it fails first there, the reply is that.
  pub variables_given : (i used : ℕ) → ComesTo run image work long i used → (r : Shown) → Verdict image i (some r)
      → answer r.kind i r.a 0 used ≡ reply_by run image work long
  variables_given i used turn r v =
      given_once run image work long _ (bad_variables turn ((verdict_exactly image (sane_good turn.sane) i turn.own (some r)).1 v))

  -- 0 is never said of a document that breaks a rule.
  pub passes_right : (reply_by run image work long).kind ≡ 0 → AllRight image
  unfolding stage_of
  passes_right k = right_of run E image work long (reply_by run image work long) (kind_cause k refl)

  -- ---- third promise: the merge rule

  -- Kinds 14, 15 and 16 name two fields that truly conflict at one response path.
  pub conflict_is_true : (c : Cause) → (reply_by run image work long).kind ≡ number_of c
      → TrueConflict (document_of image) (reply_by run image work long).operation c (reply_by run image work long).a (reply_by run image work long).b
  conflict_is_true c k = conflict_of run E image work long (reply_by run image work long) (kind_cause k (cause_stage c)) c k

  module _ (clear : NoCause image work long) where
    -- Where no cause of 1 to 13 exists and the budget covers the walk, the answer is 0 exactly when the pairwise rule holds for every
    -- selection set reached from an operation.
    pub passes_exactly : Covers run image work → ((reply_by run image work long).kind ≡ 0) ↔ AllMerge image
    passes_exactly covers = exactly run E image work long (reply_by run image work long) clear covers (given run E image work long)

    -- The same with the specification's own comparisons of types, names and arguments.
    pub passes_exactly_by : Covers run image work → ((reply_by run image work long).kind ≡ 0) ↔ AllMergeBy image
    passes_exactly_by covers = Iff.trans (passes_exactly covers) (all_merge_means image clear.sane)

    -- The same "for each selection set in the document".
    pub passes_exactly_each : Covers run image work → ((reply_by run image work long).kind ≡ 0) ↔ EachSetMerges image
    passes_exactly_each covers = Iff.trans (passes_exactly_by covers) (each_set clear.sane)

    -- The budget covers the walk exactly if the answer is not 17.
    pub covers_exactly : Covers run image work ↔ ((reply_by run image work long).kind ≡ 17 → ⊥)
    unfolding stage_of
    covers_exactly = (
      λ covers k. not_spent run E image work long covers (reply_by run image work long) (kind_cause k refl),
      λ h i used own ran spent. h (spent_17 run E image work long clear i used own ran spent),
    )

module _ (run : Engine) (E : Decides run) (image : List ℕ) where
  -- A larger budget covers what a smaller one covers.
  pub covers_more : (less more : ℕ) → less ≤ more → Covers run image less → Covers run image more
  covers_more = raised_covers run E image

  -- Some budget covers the walk; it may be over the limit.
  pub covers_some : (work : ℕ) × Covers run image work
  covers_some = some_covers run E image

  -- A larger budget, up to the limit and with scratch to match, changes no answer other than 3 and 17.
  pub larger_budget_same : (less more long long' : ℕ) → less ≤ more → more ≤ most_work → scratch_needed image more ≤ long'
      → ((reply_by run image less long).kind ≡ 3 → ⊥) → ((reply_by run image less long).kind ≡ 17 → ⊥) → reply_by run image less long ≡ reply_by run image more long'
  larger_budget_same less more long long' le limit scratch h3 h17 =
      let enough : Enough image more long' = record { budget = λ over. omega arith; scratch = λ short. omega arith } in
      given_once run image more long' _ (given_more run E image less more long long' le enough (reply_by run image less long) (given run E image less long) h3 h17)

-- ---- the check

-- its reply has its cause
pub check_given : (image : List ℕ) (work long : ℕ) → Given check image work long (stage_of (reply image work long).kind) (reply image work long)
check_given = given check check_decides

-- 0: every rule holds
pub check_right : (image : List ℕ) (work long : ℕ) → (reply image work long).kind ≡ 0 → AllRight image
check_right = passes_right check check_decides

-- 0 exactly when the specification's pairwise rule holds for each selection set
pub check_exactly : (image : List ℕ) (work long : ℕ) → NoCause image work long → Covers check image work → ((reply image work long).kind ≡ 0) ↔ EachSetMerges image
check_exactly = passes_exactly_each check check_decides

-- a conflict is a true one
pub check_true : (image : List ℕ) (work long : ℕ) (c : Cause) → (reply image work long).kind ≡ number_of c
    → TrueConflict (document_of image) (reply image work long).operation c (reply image work long).a (reply image work long).b
check_true = conflict_is_true check check_decides

-- a larger budget changes no answer but 3 and 17
pub check_budget : (image : List ℕ) (less more long long' : ℕ) → less ≤ more → more ≤ most_work → scratch_needed image more ≤ long'
    → ((reply image less long).kind ≡ 3 → ⊥) → ((reply image less long).kind ≡ 17 → ⊥) → reply image less long ≡ reply image more long'
check_budget = larger_budget_same check check_decides

-- 14 is given, with operation i, exactly if two fields of i truly conflict in shape and the operations before it keep the rule: the check goes
-- through all shapes of an operation first.
pub fourteen_exactly : (image : List ℕ) (work long : ℕ) → NoCause image work long → Covers check image work → (i : ℕ)
    → (((reply image work long).kind ≡ 14) × ((reply image work long).operation ≡ i)) ↔ FirstInShape image i
unfolding stage_of
fourteen_exactly image work long clear covers i = (
  λ (k, at). shape_first image work long i (reply image work long) (kind_cause check check_decides image work long k refl) k at,
  λ f. first_shape image work long i (reply image work long) clear covers (check_given image work long) f,
)
