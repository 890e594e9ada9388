-- The loop of `parents::fill_parent`. Its invariant: the words of i rows are written. Assumes nothing.
use Rattle.selection.specs.Parents.{Filled}
use Rattle.selection.proofs.parents.fill_parent.Given as goal

abbrev pub invariant-loop-i : goal.invariant-loop-i
invariant-loop-i l = Filled l.rows.first l.i l.parent l.initial.s l.s
