-- The loop of `classes::write_pairs`. Its invariant: the keys of the rows before this one are written. Assumes nothing.
use Prim.Native.Nat.{◌*◌}
use Rattle.selection.specs.Classing.{pair_key, Written}
use Rattle.selection.proofs.classes.write_pairs.Given as goal

abbrev pub invariant-loop-row : goal.invariant-loop-row
invariant-loop-row l = Written (λ k. pair_key l.image l.types l.initial.s l.rows k) (3 * l.rows) l.row l.initial.s l.s
