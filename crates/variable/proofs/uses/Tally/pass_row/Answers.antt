-- `uses::Tally::pass_row` meets its contract. Assumes nothing.
use native.Mathlib.Omega.{arith}
use Rattle.lists.proofs.Parts.{outside_none}
use Rattle.variable.proofs.UseLaws.{row_used, row_spared}
use Rattle.variable.proofs.TallyLaws.{same_itself}
use Rattle.variable.proofs.uses.Tally.pass_row.Goals as goal

pub returns-then-row-next : goal.returns-then-row-next
returns-then-row-next c =
    let used = c.variables_in_value.ensures in
    record {
      same = used.same;
      does = record {
        says = λ n. row_used _ _ _ _ c.end_of_row.ensures c.max-next.ensures (omega arith) (used.does.says n);
        frame = used.does.frame;
      };
    }

pub returns-else-row-next : goal.returns-else-row-next
returns-else-row-next c = record {
  same = same_itself _;
  does = record { says = λ n. row_spared _ _ _ _ c.end_of_row.ensures c.max-next.ensures (omega arith); frame = outside_none _ _ _ };
}
