-- The loop of `classes::write_names`. Its invariant: the keys of the rows before this one are written. Assumes nothing.
use Prim.Native.Nat.{◌*◌}
use Rattle.tables.specs.Columns.{response_name}
use Rattle.selection.specs.Classing.{Written}
use Rattle.selection.proofs.classes.write_names.Given as goal

abbrev pub invariant-loop-row : goal.invariant-loop-row
invariant-loop-row l = Written (λ k. response_name l.image k) (3 * l.rows) l.row l.initial.s l.s
