-- Which stage the rules' kinds belong to.
use mathlib.Core.Path.{◌≡◌, refl, ap, sym, ◌∙◌}
use mathlib.Core.List.{List}
use mathlib.Core.Option.{some}
use Prim.Native.Nat.{ℕ}
use native.Mathlib.Omega.{arith}
use Rattle.lists.proofs.FirstLaws.{all_expect, all_next, of_some}
use Rattle.merge_theory.specs.Document.{Cause, shape, name, arguments, number_of}
use Rattle.tables.specs.Header.{Refusal, header_fault}
use Rattle.tables.proofs.ShownKinds.{header_kind}
use Rattle.rows.specs.RowFault.{bad_row, row_fault}
use Rattle.rows.proofs.ShownKinds.{row_kind}
use Rattle.variable.specs.Verdict.{Shown, uses_fault, defined_fault, usage_fault}
use Rattle.fragment.specs.Rules as fragment
use Rattle.query.specs.Stages.{Stage, at_header, at_rows, at_fragments, at_variables, at_comparison, stage_of, place}

-- a kind has one stage
pub one_stage : {k j : ℕ} {s t : Stage} → k ≡ j → stage_of k ≡ s → stage_of j ≡ t → s ≡ t
one_stage e p q = sym p ∙ ap stage_of e ∙ q

pub cause_stage : (c : Cause) → stage_of (number_of c) ≡ at_comparison
unfolding stage_of
cause_stage shape = refl
cause_stage name = refl
cause_stage arguments = refl

-- no conflict has kind 0
pub no_cause_0 : (c : Cause) → number_of c ≡ 0 → ⊥
unfolding stage_of
no_cause_0 c e = omega (arith, ap place (one_stage e (cause_stage c) refl))

module _ (image : List ℕ) where
  pub header_stage : {r : Refusal} → header_fault image ≡ some r → stage_of r.kind ≡ at_header
  unfolding stage_of
  header_stage e = ap stage_of (of_some (λ (r : Refusal). r.kind ≡ 1) _ e (header_kind image))

  -- a row fault shows kind 4, a table and a row
  pub row_shown : {r : Refusal} → row_fault image ≡ some r → r ≡ bad_row r.a r.b
  row_shown {r} e = let four = of_some (λ (x : Refusal). x.kind ≡ 4) _ e (row_kind image) in rw (← four) refl

  pub row_stage : {r : Refusal} → row_fault image ≡ some r → stage_of r.kind ≡ at_rows
  unfolding stage_of
  row_stage e = ap stage_of (of_some (λ (r : Refusal). r.kind ≡ 4) _ e (row_kind image))

  pub fragments_stage : {r : fragment.Refusal} → fragment.fragments_fault image ≡ some r → stage_of r.kind ≡ at_fragments
  unfolding stage_of fragment.fragments_fault fragment.cycle_fault fragment.chain_fault fragment.links_fault fragment.nesting_fault fragment.unused_fault fragment.lowest
  fragments_stage e =
      of_some P _ e
      (all_next P _ _ (all_next P _ _ (all_expect P _ _ refl) (all_expect P _ _ refl))
      (all_next P _ _ (all_next P _ _ (all_expect P _ _ refl) (all_expect P _ _ refl)) (all_expect P _ _ refl)))
    where
      P : fragment.Refusal → Type 0
      P r = stage_of r.kind ≡ at_fragments

  pub usage_stage : (i : ℕ) {r : Shown} → usage_fault image i ≡ some r → stage_of r.kind ≡ at_variables
  unfolding stage_of defined_fault uses_fault
  usage_stage i e =
      of_some P _ e
      (all_next P _ _ (all_expect P _ _ refl)
      (all_next P _ _ (all_expect P _ _ refl) (all_next P _ _ (all_expect P _ _ refl) (all_expect P _ _ refl))))
    where
      P : Shown → Type 0
      P r = stage_of r.kind ≡ at_variables
