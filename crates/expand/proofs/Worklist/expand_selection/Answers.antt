-- `expand::Worklist::expand_selection` meets its contract: a law for each kind of row. Assumes nothing.
use native.Mathlib.Omega.{arith}
use mathlib.Core.Logic.{◌⊎◌, inl, inr}
use mathlib.Core.Path.{◌≡◌, sym, ◌∙◌}
use Prim.Native.Nat.{ℕ}
use Rattle.std.specs.Prelude.{Option, Some, None}
use Rattle.tables.specs.declared.columns.SelectionKind.{SelectionKind}
use Rattle.tables.specs.declared.columns.SelectionKind.TheVariants.{Spread}
use Rattle.tables.specs.Columns.{field, inline, IsSelectionKind}
use Rattle.expand.proofs.StepLaws.{step_field, step_inline, step_spread}
use Rattle.expand.proofs.Worklist.expand_selection.Goals as goal
use Rattle.expand.proofs.Worklist.expand_selection.Goals.{in_default-via-in-Some+in_default, in_default-via-in_default}

-- a spread, and a word that is no kind, is neither a field nor an inline
other_kind : {word : ℕ} {r : Option SelectionKind} → IsSelectionKind word r → (r ≡ Some Spread) ⊎ (r ≡ None) → (word ≡ field → ⊥) × (word ≡ inline → ⊥)
other_kind h (inl e) = let is = rw e at h in (λ k. omega arith, λ k. omega arith)
other_kind h (inr e) = let past = rw e at h in (λ k. omega arith, λ k. omega arith)

pub returns-in-Some-Field : goal.returns-in-Some-Field
returns-in-Some-Field c =
    let does = c.list_field.ensures in
    record {
      same = does.same;
      steps = step_field _ _ _ _ _ (sym c.selection_kind.ensures ∙ rw c.in-Some-Field.field-0-is at c.in-Some-Field.ensures) does.at does.words;
    }

pub returns-in-Some-Inline : goal.returns-in-Some-Inline
returns-in-Some-Inline c =
    let does = c.queue_set.ensures in
    let kind = sym c.selection_kind.ensures ∙ rw c.in-Some-Inline.field-0-is at c.in-Some-Inline.ensures in
    record { same = does.same; steps = step_inline _ _ _ _ _ kind c.selection_target.ensures does.at does.words }

pub returns-in_default : goal.returns-in_default
returns-in_default c =
    let kind : (c.selection_kind_of.result ≡ Some Spread) ⊎ (c.selection_kind_of.result ≡ None) = elim c.in_default.branch [
      | in_default-via-in-Some+in_default w ↦ inl cc
      | in_default-via-in_default w ↦ inr w.in_default.is
    ] in
    let other = other_kind c.selection_kind_of.ensures kind in
    let does = c.queue_fragment.ensures in
    record {
      same = does.same;
      steps = step_spread _ _ _ _ _ _ (λ e. other.0 (c.selection_kind.ensures ∙ e)) (λ e. other.1 (c.selection_kind.ensures ∙ e)) c.selection_target-in_default.ensures
          does.at does.words;
    }
