-- `rules::validate_risen` meets its contract. The loop's invariant: none of those passed fails. Assumes nothing.
use Rattle.std.proofs.Common.{sym, ◌∙◌, below_more, arith}
use Rattle.lists.proofs.Parts.{outside_trans}
use Rattle.fragment.proofs.RuleLaws.{one_cyclic, none_cyclic}
use Rattle.fragment.proofs.Rising.{risen_still}
use Rattle.fragment.proofs.rules.validate_risen.Goals as goal

pub returns-then-reaches_itself : goal.returns-then-reaches_itself
returns-then-reaches_itself c =
    let l = c.loop-fragment in
    let n = c.count-fragment-end.ensures in
    let e = c.reaches_itself.ensures in
    (outside_trans l.invariant.0 e.0, λ good room rises. one_cyclic _ l.fragment (omega arith) (l.invariant.1 good room rises) (sym (e.1 good (omega (arith, l.invariant.0.long)) (risen_still good l.invariant.0 rises) (omega arith)) ∙ c.if-reaches_itself.true))

pub loop-fragment-preserved : goal.loop-fragment-preserved
loop-fragment-preserved c =
    let l = c.loop-fragment in
    let n = c.count-fragment-end.ensures in
    let e = c.reaches_itself.ensures in
    (outside_trans l.invariant.0 e.0, λ good room rises. below_more _ l.fragment (l.invariant.1 good room rises) (sym (e.1 good (omega (arith, l.invariant.0.long)) (risen_still good l.invariant.0 rises) (omega arith)) ∙ c.if-reaches_itself.false))

pub returns : goal.returns
returns c =
    let l = c.loop-fragment in
    let n = c.count-fragment-end.ensures in
    (l.invariant.0, λ good room rises. none_cyclic _ (λ k h. l.invariant.1 good room rises k (omega arith)))
