-- `uses::Tally::reach_range` meets its contract. Assumes nothing.
use mathlib.Core.Path.{refl}
use native.Mathlib.Omega.{arith}
use Rattle.variable.proofs.UseLaws.{range_reached, range_past}
use Rattle.variable.proofs.TallyLaws.{same_itself}
use Rattle.variable.proofs.uses.Tally.reach_range.Goals as goal

pub returns-then-rows-count : goal.returns-then-rows-count
returns-then-rows-count c = record {
  same = record { image = refl; words = refl; variables = refl };
  does = range_reached _ _ (omega arith) c.end_of_row-known.ensures c.row-end.ensures c.put.ensures c.max.ensures (omega arith);
}

pub returns-else-rows-count : goal.returns-else-rows-count
returns-else-rows-count c = record { same = same_itself _; does = range_past _ _ (omega arith) }
