-- The loop of `selections::check_selections_to`. Its invariant: what it takes for granted holds of the row at hand.
-- Assumes nothing.
use Rattle.rows.specs.SelectionPass.{Passing}
use Rattle.rows.proofs.selections.check_selections_to.Given as goal

abbrev pub invariant-loop-row : goal.invariant-loop-row
invariant-loop-row l = Passing l.image l.row l.next l.end l.least
