-- The loop of `selections::check_selections`. Its invariant: the rows of the sets passed are good, and the set at hand starts where
-- the one before ends. Assumes nothing.
use Rattle.rows.proofs.SelectionPass.{AtSet}
use Rattle.rows.proofs.selections.check_selections.Given as goal

abbrev pub invariant-loop-set : goal.invariant-loop-set
invariant-loop-set l = AtSet l.image l.set l.end l.next
