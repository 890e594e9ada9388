-- Which cause a reply has, one case for each stage, in the order of the table of kinds in README; for any engine that goes through operations.
use Rattle.std.specs.Prelude.{ℕ, suc, ◌<◌, ◌≡◌, List}
use Rattle.std.proofs.Math.Option.{none, some}
use Rattle.merge_theory.specs.Document.{Cause, number_of}
use Rattle.merge_theory.specs.Engine.{Engine}
use Rattle.merge_theory.specs.Steps.{entry, State, finished, conflict, out}
use Rattle.tables.specs.Layout.{operations}
use Rattle.tables.specs.Image.{count_at}
use Rattle.tables.specs.Header.{Refusal, header_fault}
use Rattle.rows.specs.RowFault.{row_fault}
use Rattle.variable.specs.Verdict.{Shown, usage_fault}
use Rattle.fragment.specs.Rules as fragment
use Rattle.selection.specs.declared.arena.Reply.{Reply}
use Rattle.query.specs.Needed.{most_work, scratch_needed}
use Rattle.query.specs.Stages.{Stage, at_header, at_budget, at_scratch, at_rows, at_fragments, at_variables, at_comparison, at_charge, at_end}
use Rattle.query.specs.Reply.{answer, document_of}

-- no cause of kinds 1 and 4 to 9
pub record Sane (image : List ℕ) : Type 0 where
  pub header : header_fault image ≡ none
  pub rows : row_fault image ≡ none
  pub fragments : fragment.fragments_fault image ≡ none

-- none of 2 and 3: the budget, and the scratch, of which so many words are lent
pub record Enough (image : List ℕ) (work long : ℕ) : Type 0 where
  pub budget : most_work < work → ⊥
  pub scratch : long < scratch_needed image work → ⊥

module _ (run : Engine) (image : List ℕ) (work : ℕ) where
  -- the operations before i pass, and have used so many units
  pub data Ran : (i used : ℕ) → Type 0 where
    ran_none : Ran 0 0
    ran_more : {i used : ℕ} {y : State} → Ran i used → usage_fault image i ≡ none
        → run (document_of image) work used i ≡ finished y → Ran (suc i) y.used

  module _ (long : ℕ) where
    -- the check comes to operation i: no cause stands before it
    pub record ComesTo (i used : ℕ) : Type 0 where
      pub sane : Sane image
      pub enough : Enough image work long
      pub ran : Ran i used
      pub own : i < count_at image operations

    pub data Given : Stage → Reply → Type 0 where
      bad_header : {r : Refusal} → header_fault image ≡ some r → Given at_header (answer r.kind 0 r.a r.b 0)
      over_limit : header_fault image ≡ none → most_work < work → Given at_budget (answer 2 0 work 0 0)
      short_scratch : header_fault image ≡ none → (most_work < work → ⊥) → long < scratch_needed image work
          → Given at_scratch (answer 3 0 (scratch_needed image work) 0 0)
      bad_rows : {r : Refusal} → header_fault image ≡ none → Enough image work long → row_fault image ≡ some r
          → Given at_rows (answer r.kind 0 r.a r.b 0)
      bad_fragments : {r : fragment.Refusal} → header_fault image ≡ none → Enough image work long → row_fault image ≡ none
          → fragment.fragments_fault image ≡ some r → Given at_fragments (answer r.kind r.operation r.a 0 0)
      bad_variables : {i used : ℕ} {r : Shown} → ComesTo i used → usage_fault image i ≡ some r
          → Given at_variables (answer r.kind i r.a 0 used)
      a_conflict : {i used a b : ℕ} {c : Cause} {y : State} → ComesTo i used → usage_fault image i ≡ none
          → run (document_of image) work used i ≡ conflict (entry i c a b) y → Given at_comparison (answer (number_of c) i a b y.used)
      budget_spent : {i used : ℕ} {y : State} → ComesTo i used → usage_fault image i ≡ none
          → run (document_of image) work used i ≡ out y → Given at_charge (answer 17 i 0 0 y.used)
      passes : {used : ℕ} → Sane image → Enough image work long → Ran (count_at image operations) used → Given at_end (answer 0 0 0 0 used)
