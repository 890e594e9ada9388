-- `walk::shape_clash` meets its contract. Assumes nothing.
use Prim.Native.Nat.{ℕ}
use mathlib.Core.Path.{◌≡◌, sym, ◌∙◌}
use mathlib.Core.Bool.{true, false}
use mathlib.Core.List.{List}
use mathlib.Core.Option.{none, some}
use Rattle.expand.specs.ImageDocument.{document_by}
use Rattle.values.specs.Shape.{same_shape}
use Rattle.merge_theory.specs.Document.{shape}
use Rattle.merge_theory.specs.Walk.{unless}
use Rattle.selection.specs.Refining.{pass_of}
use Rattle.tables.specs.Columns.{field_type}
use Rattle.selection.proofs.walk.shape_clash.Goals as goal

module _ (image : List ℕ) (a b : ℕ) where
  agree : {p q : ℕ} → p ≡ field_type image a → q ≡ field_type image b → same_shape image p q ≡ true → none ≡ (pass_of image true).clash a b
  unfolding document_by unless
  agree is-p is-q e = rw (← is-p, ← is-q, e)

  differ : {p q : ℕ} → p ≡ field_type image a → q ≡ field_type image b → same_shape image p q ≡ false → some shape ≡ (pass_of image true).clash a b
  unfolding document_by unless
  differ is-p is-q e = rw (← is-p, ← is-q, e)

pub returns-then-same_output_type_shape : goal.returns-then-same_output_type_shape
returns-then-same_output_type_shape c = agree _ _ _ c.field_type.ensures c.field_type-2.ensures (sym c.same_output_type_shape.ensures ∙ c.if-same_output_type_shape.true)

pub returns-else-same_output_type_shape : goal.returns-else-same_output_type_shape
returns-else-same_output_type_shape c = differ _ _ _ c.field_type.ensures c.field_type-2.ensures (sym c.same_output_type_shape.ensures ∙ c.if-same_output_type_shape.false)
