-- Every reply has one of the causes of `Given`, by any engine that decides: the cause of its kind's stage.
use Prim.Native.Nat.{ℕ, zero, suc, ◌+◌, ◌<◌, ◌≤◌}
use mathlib.Core.Path.{◌≡◌, refl, sym, subst}
use mathlib.Core.Bool.{Bool, true, false}
use mathlib.Core.List.{List}
use mathlib.Core.Option.{Option, none, some}
use native.Mathlib.Omega.{arith}
use borrow.Author.Tests.{leb-true, leb-false}
use lib.Dec.{leb}
use Rattle.lists.specs.First.{expect, ◌▷◌}
use Rattle.merge_theory.specs.Engine.{TrueEntry, true_entry, Engine, Decides}
use Rattle.merge_theory.specs.Rule.{start}
use Rattle.merge_theory.specs.Steps.{Entry, State, Result, finished, conflict, out, deep}
use Rattle.tables.specs.Layout.{operations}
use Rattle.tables.specs.Image.{count_at}
use Rattle.tables.specs.Header.{Refusal, header_fault}
use Rattle.rows.specs.RowFault.{row_fault}
use Rattle.tables.specs.Good.{Good}
use Rattle.rows.proofs.Promise.{rows_good}
use Rattle.variable.specs.Verdict.{Shown, usage_fault}
use Rattle.fragment.specs.Rules as fragment
use Rattle.selection.specs.declared.arena.Reply.{Reply}
use Rattle.query.specs.Needed.{most_work, scratch_needed}
use Rattle.query.specs.Stages.{Stage, stage_of}
use Rattle.query.specs.Reply.{answer, document_of, of_image, of_fragments, of_variables, of_walk, or_else, refused, faulty, operations_from, walked_reply, reply_by}
use Rattle.query.specs.Given.{Sane, Ran, ran_none, ran_more, Enough, ComesTo, Given, bad_header, over_limit, short_scratch, bad_rows, bad_fragments, bad_variables, a_conflict, budget_spent, passes}
use Rattle.query.proofs.ShownKinds.{cause_stage, header_stage, row_stage, fragments_stage, usage_stage}
use Rattle.query.proofs.Soundness.{operation_sound}

pub sane_good : {image : List ℕ} → Sane image → Good image
sane_good sane = rows_good sane.header sane.rows

-- ---- the stage of a cause is that of the kind

module _ (run : Engine) (image : List ℕ) (work long : ℕ) where
  pub given_stage : {s : Stage} {r : Reply} → Given run image work long s r → stage_of r.kind ≡ s
  unfolding stage_of
  given_stage (bad_header e) = header_stage image e
  given_stage (over_limit h w) = refl
  given_stage (short_scratch h w s) = refl
  given_stage (bad_rows h w e) = row_stage image e
  given_stage (bad_fragments h w o e) = fragments_stage image e
  given_stage (bad_variables {i} turn e) = usage_stage image i e
  given_stage (a_conflict {c = c} turn v e) = cause_stage c
  given_stage (budget_spent turn v e) = refl
  given_stage (passes s w n) = refl

  -- the cause of a reply, by its kind
  abbrev pub Caused : Reply → Type 0
  Caused r = Given run image work long (stage_of r.kind) r

  told : {s : Stage} {r : Reply} → Given run image work long s r → Caused r
  told {r = r} g = subst (λ (s : Stage). Given run image work long s r) (sym (given_stage g)) g

-- ---- every reply has one

module _ (run : Engine) (E : Decides run) (image : List ℕ) (work long : ℕ) where
  -- from operation i on
  walks : (left i used : ℕ) → Sane image → Enough image work long → i + left ≡ count_at image operations → Ran run image work i used
      → Caused run image work long (operations_from run image work left i used)
  unfolding operations_from
  walks zero i used sane enough all ran =
      let last : i ≡ count_at image operations = omega arith in
      told run image work long (passes sane enough (subst (λ (k : ℕ). Ran run image work k used) last ran))
  walks (suc left) i used sane enough all ran =
      by_variables (usage_fault image i) refl (λ u more. walks left (suc i) u sane enough (omega arith) more)
    where
      turn : ComesTo run image work long i used
      turn = record { sane = sane; enough = enough; ran = ran; own = omega arith }

      Later : Type 0
      Later = (u : ℕ) → Ran run image work (suc i) u → Caused run image work long (operations_from run image work left (suc i) u)

      -- a conflict is of its own operation
      by_entry : {f : Entry} {y : State} → TrueEntry (document_of image) i f → run (document_of image) work used i ≡ conflict f y → usage_fault image i ≡ none
          → Caused run image work long (of_walk i (conflict f y) (operations_from run image work left (suc i)))
      by_entry (true_entry h) e none-wrong = told run image work long (a_conflict turn none-wrong e)

      by_result : (r : Result) → run (document_of image) work used i ≡ r → usage_fault image i ≡ none → Later
          → Caused run image work long (of_walk i r (operations_from run image work left (suc i)))
      by_result (finished y) e none-wrong later = later y.used (ran_more ran none-wrong e)
      by_result (conflict f y) e none-wrong later = by_entry (E.stops_true (document_of image) work used i f y e) e none-wrong
      by_result (out y) e none-wrong later = told run image work long (budget_spent turn none-wrong e)
      by_result (deep y) e none-wrong later =
          absurd (E.shallow (document_of image) (operation_sound (sane_good sane) i turn.own sane.fragments) work used i start y e)

      by_variables : (o : Option Shown) → usage_fault image i ≡ o → Later
          → Caused run image work long (or_else (of_variables i used o) (of_walk i (run (document_of image) work used i) (operations_from run image work left (suc i))))
      by_variables (some r) e later = told run image work long (bad_variables turn e)
      by_variables none e later = by_result (run (document_of image) work used i) refl e later

  judged : header_fault image ≡ none → Enough image work long → Caused run image work long (or_else (faulty image) (walked_reply run image work))
  unfolding faulty ◌▷◌
  judged header enough = by_rows (row_fault image) refl
    where
      by_fragments : (o : Option fragment.Refusal) → fragment.fragments_fault image ≡ o → row_fault image ≡ none
          → Caused run image work long (or_else (of_fragments o) (walked_reply run image work))
      by_fragments (some r) e rows = told run image work long (bad_fragments header enough rows e)
      by_fragments none e rows = walks (count_at image operations) 0 0 (record { header = header; rows = rows; fragments = e }) enough (omega arith) ran_none

      by_rows : (o : Option Refusal) → row_fault image ≡ o
          → Caused run image work long (or_else (of_image o ▷ of_fragments (fragment.fragments_fault image)) (walked_reply run image work))
      by_rows (some r) e = told run image work long (bad_rows header enough e)
      by_rows none e = by_fragments (fragment.fragments_fault image) refl e

  -- Every reply has its cause, and no earlier one.
  pub given : Caused run image work long (reply_by run image work long)
  unfolding reply_by refused expect ◌▷◌
  given = by_header (header_fault image) refl
    where
      rest : Reply
      rest = or_else (faulty image) (walked_reply run image work)

      by_scratch : (b : Bool) → leb (scratch_needed image work) long ≡ b → header_fault image ≡ none → (most_work < work → ⊥)
          → Caused run image work long (or_else (expect b (answer 3 0 (scratch_needed image work) 0 0)) rest)
      by_scratch true e header few = judged header (record { budget = few; scratch = λ short. let h : scratch_needed image work ≤ long = leb-true _ _ e in omega arith })
      by_scratch false e header few = told run image work long (short_scratch header few (leb-false _ _ e))

      by_work : (b : Bool) → leb work most_work ≡ b → header_fault image ≡ none
          → Caused run image work long (or_else (expect b (answer 2 0 work 0 0) ▷ expect (leb (scratch_needed image work) long) (answer 3 0 (scratch_needed image work) 0 0)) rest)
      by_work true e header = by_scratch (leb (scratch_needed image work) long) refl header (λ over. let h : work ≤ most_work = leb-true _ _ e in omega arith)
      by_work false e header = told run image work long (over_limit header (leb-false _ _ e))

      by_header : (o : Option Refusal) → header_fault image ≡ o
          → Caused run image work long (or_else (of_image o ▷ expect (leb work most_work) (answer 2 0 work 0 0) ▷ expect (leb (scratch_needed image work) long) (answer 3 0 (scratch_needed image work) 0 0)) rest)
      by_header (some r) e = told run image work long (bad_header e)
      by_header none e = by_work (leb work most_work) refl e
