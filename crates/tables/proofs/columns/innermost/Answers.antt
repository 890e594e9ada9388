-- `columns::innermost` meets its contract. The loop's invariant: the row at hand has the reference's innermost type.
-- Assumes nothing.
use Prim.Native.Nat.{◌<◌, ◌≤◌}
use native.Mathlib.Omega.{arith}
use mathlib.Core.Path.{sym, ◌∙◌}
use Rattle.std.proofs.lemmas.Bool.{leb-true, leb-false}
use Rattle.tables.proofs.Innermost.{ends_nowhere, goes_down, ends_at}
use Rattle.tables.proofs.columns.innermost.Goals as goal

pub returns-then-row-child : goal.returns-then-row-child
returns-then-row-child c =
    let list : 2 ≤ c.reference_kind.result = leb-true _ _ (sym c.is_list_reference.ensures ∙ c.loop-child-test.true) in
    ends_nowhere _ _ c.loop-child.row (cc) (omega arith) (omega arith)

pub loop-child-preserved : goal.loop-child-preserved
loop-child-preserved c =
    let list : 2 ≤ c.reference_kind.result = leb-true _ _ (sym c.is_list_reference.ensures ∙ c.loop-child-test.true) in
    goes_down _ _ c.loop-child.row (cc) (omega arith) (cc) (omega arith)

pub returns : goal.returns
returns c =
    let name : c.reference_kind.result < 2 = leb-false _ _ (sym c.is_list_reference.ensures ∙ c.loop-child-test.false) in
    c.reference_child.ensures ∙ ends_at _ _ c.loop-child.row (cc) (omega arith)
