-- A cause of `Given` determines the reply, whatever the engine.
use Prim.Native.Nat.{ℕ, zero, suc, ◌-◌, ◌<◌, ◌≤◌}
use mathlib.Core.Path.{◌≡◌, sym, ap, ◌∙◌}
use mathlib.Core.List.{List}
use mathlib.Core.Option.{none, some}
use native.Mathlib.Nat.{le_refl}
use native.Mathlib.Omega.{arith}
use borrow.Author.Tests.{le-leb, lt-leb}
use Rattle.lists.specs.First.{expect, ◌▷◌}
use Rattle.merge_theory.specs.Document.{Cause, number_of}
use Rattle.merge_theory.specs.Engine.{Engine}
use Rattle.merge_theory.specs.Steps.{entry, State, finished, conflict, out}
use Rattle.tables.specs.Layout.{operations}
use Rattle.tables.specs.Image.{count_at}
use Rattle.tables.specs.Header.{Refusal, header_fault}
use Rattle.rows.specs.RowFault.{row_fault}
use Rattle.variable.specs.Verdict.{Shown, usage_fault}
use Rattle.fragment.specs.Rules as fragment
use Rattle.selection.specs.declared.arena.Reply.{Reply}
use Rattle.query.specs.Needed.{most_work, scratch_needed}
use Rattle.query.specs.Reply.{answer, document_of, refused, faulty, operations_from, walked_reply, reply_by}
use Rattle.query.specs.Stages.{Stage}
use Rattle.query.specs.Given.{Sane, Ran, ran_none, ran_more, Enough, ComesTo, Given, bad_header, over_limit, short_scratch, bad_rows, bad_fragments, bad_variables, a_conflict, budget_spent, passes}

module _ (run : Engine) (image : List ℕ) (work long : ℕ) where
  passed_sizes : Enough image work long → header_fault image ≡ none → refused image work long ≡ none
  unfolding refused expect ◌▷◌
  passed_sizes enough header =
      rw (header, le-leb _ _ (not_over enough.budget), le-leb _ _ (not_over enough.scratch))
    where
      not_over : {m n : ℕ} → (m < n → ⊥) → n ≤ m
      not_over h = omega arith

  passed_tables : Sane image → faulty image ≡ none
  unfolding faulty ◌▷◌
  passed_tables sane = rw (sane.rows, sane.fragments)

  -- one operation: it passes, its variables are wrong, or its walk ends
  one_passes : (left i used : ℕ) (y : State) → usage_fault image i ≡ none → run (document_of image) work used i ≡ finished y
      → operations_from run image work (suc left) i used ≡ operations_from run image work left (suc i) y.used
  unfolding operations_from
  one_passes left i used y v e = rw (v, e)

  variables_end : (left i used : ℕ) (r : Shown) → usage_fault image i ≡ some r → operations_from run image work (suc left) i used ≡ answer r.kind i r.a 0 used
  unfolding operations_from
  variables_end left i used r e = rw e

  conflict_ends : (left i used : ℕ) (c : Cause) (a b : ℕ) (y : State) → usage_fault image i ≡ none → run (document_of image) work used i ≡ conflict (entry i c a b) y
      → operations_from run image work (suc left) i used ≡ answer (number_of c) i a b y.used
  unfolding operations_from
  conflict_ends left i used c a b y v e = rw (v, e)

  budget_ends : (left i used : ℕ) (y : State) → usage_fault image i ≡ none → run (document_of image) work used i ≡ out y
      → operations_from run image work (suc left) i used ≡ answer 17 i 0 0 y.used
  unfolding operations_from
  budget_ends left i used y v e = rw (v, e)

  -- where the operations before i ran, the reply is what comes from i on
  from_ran : (i used : ℕ) → i ≤ count_at image operations → Ran run image work i used
      → walked_reply run image work ≡ operations_from run image work (count_at image operations - i) i used
  from_ran zero used few ran_none = ap (λ (k : ℕ). operations_from run image work k 0 0) (omega arith)
  from_ran (suc i) used few (ran_more {used = before} {y = y} ran v e) =
      let step : count_at image operations - i ≡ suc (count_at image operations - suc i) = omega arith in
      from_ran i before (omega arith) ran ∙ ap (λ (k : ℕ). operations_from run image work k i before) step
      ∙ one_passes (count_at image operations - suc i) i before y v e

  refused_is : (r : Reply) → refused image work long ≡ some r → r ≡ reply_by run image work long
  unfolding reply_by
  refused_is r e = rw e

  faulty_is : (r : Reply) → refused image work long ≡ none → faulty image ≡ some r → r ≡ reply_by run image work long
  unfolding reply_by
  faulty_is r p e = rw (p, e)

  walked_is : (i used : ℕ) → ComesTo run image work long i used → (r : Reply)
      → ((left : ℕ) → operations_from run image work (suc left) i used ≡ r) → r ≡ reply_by run image work long
  unfolding reply_by
  walked_is i used turn r ends =
      let own = turn.own in
      let step : count_at image operations - i ≡ suc (count_at image operations - suc i) = omega arith in
      rw (passed_sizes turn.enough turn.sane.header, passed_tables turn.sane)
      (sym (from_ran i used (omega arith) turn.ran ∙ ap (λ (k : ℕ). operations_from run image work k i used) step ∙ ends (count_at image operations - suc i)))

  passed_is : Sane image → Enough image work long → (used : ℕ) → Ran run image work (count_at image operations) used → answer 0 0 0 0 used ≡ reply_by run image work long
  unfolding reply_by operations_from
  passed_is sane enough used ran =
      let end : count_at image operations - count_at image operations ≡ 0 = omega arith in
      rw (passed_sizes enough sane.header, passed_tables sane)
      (sym (from_ran (count_at image operations) used (le_refl _) ran ∙ ap (λ (k : ℕ). operations_from run image work k (count_at image operations) used) end))

  header_refused : (r : Refusal) → header_fault image ≡ some r → refused image work long ≡ some (answer r.kind 0 r.a r.b 0)
  unfolding refused ◌▷◌
  header_refused r e = rw e

  work_refused : header_fault image ≡ none → most_work < work → refused image work long ≡ some (answer 2 0 work 0 0)
  unfolding refused expect ◌▷◌
  work_refused h w = rw (h, lt-leb _ _ w)

  scratch_refused : header_fault image ≡ none → (most_work < work → ⊥) → long < scratch_needed image work → refused image work long ≡ some (answer 3 0 (scratch_needed image work) 0 0)
  unfolding refused expect ◌▷◌
  scratch_refused h w s = let few : work ≤ most_work = omega arith in rw (h, le-leb _ _ few, lt-leb _ _ s)

  rows_faulty : (r : Refusal) → row_fault image ≡ some r → faulty image ≡ some (answer r.kind 0 r.a r.b 0)
  unfolding faulty ◌▷◌
  rows_faulty r e = rw e

  fragments_faulty : (r : fragment.Refusal) → row_fault image ≡ none → fragment.fragments_fault image ≡ some r → faulty image ≡ some (answer r.kind r.operation r.a 0 0)
  unfolding faulty ◌▷◌
  fragments_faulty r o e = rw (o, e)

  -- A cause determines the reply: two replies with a cause are one.
  pub given_once : {s : Stage} (r : Reply) → Given run image work long s r → r ≡ reply_by run image work long
  given_once r (bad_header {r = x} e) = refused_is _ (header_refused x e)
  given_once r (over_limit h w) = refused_is _ (work_refused h w)
  given_once r (short_scratch h w s) = refused_is _ (scratch_refused h w s)
  given_once r (bad_rows {r = x} h w e) = faulty_is _ (passed_sizes w h) (rows_faulty x e)
  given_once r (bad_fragments {r = x} h w o e) = faulty_is _ (passed_sizes w h) (fragments_faulty x o e)
  given_once r (bad_variables {i} {used} {r = x} turn e) = walked_is i used turn _ (λ left. variables_end left i used x e)
  given_once r (a_conflict {i} {used} {a} {b} {c = d} {y = y} turn v e) = walked_is i used turn _ (λ left. conflict_ends left i used d a b y v e)
  given_once r (budget_spent {i} {used} {y = y} turn v e) = walked_is i used turn _ (λ left. budget_ends left i used y v e)
  given_once r (passes {used} s w n) = passed_is s w used n
