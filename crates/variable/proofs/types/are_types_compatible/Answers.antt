-- `types::are_types_compatible` meets its contract. The loop's invariant: the rows at hand are as compatible as those given.
-- Assumes nothing.
use native.Mathlib.Omega.{arith}
use Rattle.variable.proofs.TypeLaws.{stops_unlike, stops_name, stops_broken, goes_down}
use Rattle.variable.proofs.types.are_types_compatible.Goals as goal

pub returns-then-not-is_list : goal.returns-then-not-is_list
returns-then-not-is_list c = stops_name _ _ _ _ _ c.loop-below.invariant c.kind_of.ensures c.kind_of-in-loop-below.ensures c.do_kinds_agree.ensures c.loop-below-test.true c.reference_child-below.ensures c.reference_child-across.ensures c.kind_of-in-loop-below-2.ensures c.is_list.ensures c.if-not-is_list.true

pub returns-then-ours-below : goal.returns-then-ours-below
returns-then-ours-below c = stops_broken _ _ _ _ _ c.loop-below.invariant c.kind_of.ensures c.kind_of-in-loop-below.ensures c.do_kinds_agree.ensures c.loop-below-test.true c.reference_child-below.ensures c.reference_child-across.ensures c.kind_of-in-loop-below-2.ensures c.is_list.ensures c.if-not-is_list.false (omega arith)

pub loop-below-preserved : goal.loop-below-preserved
loop-below-preserved c = goes_down _ _ _ _ _ c.loop-below.invariant c.kind_of.ensures c.kind_of-in-loop-below.ensures c.do_kinds_agree.ensures c.loop-below-test.true c.reference_child-below.ensures c.reference_child-across.ensures c.kind_of-in-loop-below-2.ensures c.is_list.ensures c.if-not-is_list.false (omega arith)

pub returns : goal.returns
returns c = stops_unlike _ _ _ _ _ c.loop-below.invariant c.kind_of.ensures c.kind_of-in-loop-below.ensures c.do_kinds_agree.ensures c.loop-below-test.false
