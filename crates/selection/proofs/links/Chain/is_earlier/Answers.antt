-- `Chain::is_earlier` meets its contract: a law for each way out. Assumes nothing.
use mathlib.Core.Path.{sym, ◌∙◌}
use native.Mathlib.Omega.{arith}
use borrow.Author.Tests.{ltb-true, ltb-false, leb-true}
use Rattle.selection.proofs.LinkLaws.{before_list, not_before, earlier_by_class}
use Rattle.selection.proofs.links.Chain.is_earlier.Goals as goal
use Rattle.selection.proofs.links.Chain.is_earlier.Goals.{then-list-before, else-list-before}

pub returns-then-inside : goal.returns-then-inside
returns-then-inside c =
    elim c.if-list-before.branch [
      | then-list-before w ↦ earlier_by_class _ _ _ _ _ _ w.if-list-before.true (ltb-true _ _ (sym w.inside-is ∙ c.if-inside.true)) (rw c.class_at.ensures)
      | else-list-before w ↦ absurd (let inside = leb-true c.args.list.start c.args.before (sym w.inside-is ∙ c.if-inside.true) in omega (arith, inside, w.if-list-before.false))
    ]

pub returns-else-inside : goal.returns-else-inside
returns-else-inside c =
    elim c.if-list-before.branch [
      | then-list-before w ↦ c.if-inside.false ∙ not_before _ _ _ _ _ _ (ltb-false _ _ (sym w.inside-is ∙ c.if-inside.false))
      | else-list-before w ↦ c.if-inside.false ∙ before_list _ _ _ _ _ _ w.if-list-before.false
    ]
