-- `classes::write_pairs` meets its contract. The loop's invariant: the keys of the rows before this one are written. Assumes nothing.
use native.Mathlib.Omega.{arith}
use Rattle.selection.proofs.ClassLaws.{written_more, pair_kept}
use Rattle.selection.proofs.classes.write_pairs.Goals as goal

pub loop-row-preserved : goal.loop-row-preserved
loop-row-preserved c =
    let at = c.loop-row in
    written_more _ _ at.row at.invariant c.key_place.ensures (pair_kept _ _ _ _ at.row at.invariant.frame (omega arith) c.pair_key-key.ensures) c.put.ensures
