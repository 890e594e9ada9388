-- `classes::write_classes` meets its contract. Assumes nothing.
use Rattle.selection.proofs.ClassLaws.{classes_written}
use Rattle.selection.proofs.classes.write_classes.Goals as goal

pub returns : goal.returns
returns c =
    rw (← c.rows_at_most-rows.ensures.0, ← c.rows_at_most-types.ensures.0)
    (classes_written _ _ c.write_names.ensures (rw c.index_of-index.ensures at c.build_firsts.ensures) c.write_pairs.ensures (rw c.index_of-index.ensures at c.build_firsts-2.ensures))
