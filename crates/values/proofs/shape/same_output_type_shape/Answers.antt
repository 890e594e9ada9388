-- `shape::same_output_type_shape` meets its contract. The loop's invariant: the two rows at hand have one shape exactly if the two
-- references have; the left row falls.
-- Assumes nothing.
use Prim.Native.Nat.{◌≤◌}
use mathlib.Core.Path.{◌∙◌}
use native.Mathlib.Omega.{arith}
use Rattle.std.proofs.Common.{rules}
use Rattle.values.proofs.ShapeCases.{shape_unlike, shape_no_kind, shape_names, shape_endless, shape_items}
use Rattle.values.proofs.shape.same_output_type_shape.Goals as goal

pub returns-then-kind-other : goal.returns-then-kind-other
returns-then-kind-other c = shape_unlike _ _ _ c.reference_kind-kind.ensures c.reference_kind-other.ensures c.if-kind-other.true ∙ c.loop-left.invariant

pub returns-in-Some-Named : goal.returns-in-Some-Named
returns-in-Some-Named c =
    let low : c.reference_kind-kind.result ≤ 1 = search rules in
    c.same_named_shape.ensures
    ∙ shape_names _ _ _ c.reference_kind-kind.ensures c.reference_kind-other.ensures c.reference_child-below.ensures c.reference_child-across.ensures c.if-kind-other.false low
    ∙ c.loop-left.invariant

pub returns-then-ours-below : goal.returns-then-ours-below
returns-then-ours-below c =
    let low : 2 ≤ c.reference_kind-kind.result = search rules in
    let high : c.reference_kind-kind.result ≤ 3 = search rules in
    shape_endless _ _ _ c.reference_kind-kind.ensures c.reference_kind-other.ensures c.if-kind-other.false low high (omega arith) ∙ c.loop-left.invariant

pub loop-left-preserved : goal.loop-left-preserved
loop-left-preserved c =
    let low : 2 ≤ c.reference_kind-kind.result = search rules in
    let high : c.reference_kind-kind.result ≤ 3 = search rules in
    shape_items _ _ _ c.reference_kind-kind.ensures c.reference_kind-other.ensures c.reference_child-below.ensures c.reference_child-across.ensures c.if-kind-other.false low high (omega arith)
    ∙ c.loop-left.invariant

pub returns-in-None : goal.returns-in-None
returns-in-None c = shape_no_kind _ _ _ c.reference_kind-kind.ensures c.reference_kind-other.ensures c.in-None.ensures ∙ c.loop-left.invariant
