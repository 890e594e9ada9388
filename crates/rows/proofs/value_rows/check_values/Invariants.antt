-- The loop of `value_rows::check_values`. Its invariant: all rows passed are good, and the running numbers are those
-- of the definitions. Assumes nothing.
use Rattle.rows.proofs.ValuePass.{Passed}
use Rattle.rows.proofs.value_rows.check_values.Given as goal

abbrev pub invariant-loop-row : goal.invariant-loop-row
invariant-loop-row l = Passed l.image l.row l.unclaimed l.level l.end
