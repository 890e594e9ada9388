-- `walk::same_name_and_arguments` meets its contract. Assumes nothing.
use Prim.Native.Nat.{ℕ}
use borrow.Author.Tests.{eq-eqb, ne_eqb}
use mathlib.Core.Path.{◌≡◌, sym, ◌∙◌}
use mathlib.Core.Bool.{true, false}
use mathlib.Core.List.{List}
use Rattle.expand.specs.ImageDocument.{document_by}
use mathlib.Core.Option.{none, some}
use Rattle.merge_theory.specs.Document.{name, arguments}
use Rattle.merge_theory.specs.Walk.{unless}
use Rattle.values.specs.Same.{same_arguments}
use Rattle.tables.specs.Columns.{field_name, field_arguments}
use Rattle.selection.specs.Refining.{pass_of}
use Rattle.tables.specs.declared.Range.{Range}
use Rattle.selection.proofs.walk.same_name_and_arguments.Goals as goal

module _ (image : List ℕ) (a b : ℕ) where
  other_name : (field_name image a ≡ field_name image b → ⊥) → some name ≡ (pass_of image false).clash a b
  unfolding document_by unless
  other_name ne = rw (ne_eqb _ _ ne)

  module _ {p q : Range} (named : field_name image a ≡ field_name image b) (is-p : p ≡ field_arguments image a) (is-q : q ≡ field_arguments image b) where
    agree : same_arguments image p q ≡ true → none ≡ (pass_of image false).clash a b
    unfolding document_by unless
    agree e = rw (eq-eqb _ _ named, ← is-p, ← is-q, e)

    differ : same_arguments image p q ≡ false → some arguments ≡ (pass_of image false).clash a b
    unfolding document_by unless
    differ e = rw (eq-eqb _ _ named, ← is-p, ← is-q, e)

pub returns-then-field_name : goal.returns-then-field_name
returns-then-field_name c = other_name _ _ _ (λ e. c.if-field_name.true (c.field_name.ensures ∙ e ∙ sym c.field_name-2.ensures))

pub returns-then-same_arguments : goal.returns-then-same_arguments
returns-then-same_arguments c = agree _ _ _ (sym c.field_name.ensures ∙ c.if-field_name.false ∙ c.field_name-2.ensures) c.field_arguments.ensures c.field_arguments-2.ensures (sym c.same_arguments.ensures ∙ c.if-same_arguments.true)

pub returns-else-same_arguments : goal.returns-else-same_arguments
returns-else-same_arguments c = differ _ _ _ (sym c.field_name.ensures ∙ c.if-field_name.false ∙ c.field_name-2.ensures) c.field_arguments.ensures c.field_arguments-2.ensures (sym c.same_arguments.ensures ∙ c.if-same_arguments.false)
