-- `uses::Tally::variables_in_value` meets its contract. Assumes nothing.
use mathlib.Core.Path.{◌∙◌}
use Rattle.variable.proofs.FoundLaws.{found_or}
use Rattle.variable.proofs.UseLaws.{searched, variable_used, members_used, nothing_used}
use Rattle.variable.proofs.TallyLaws.{same_itself}
use Rattle.variable.proofs.uses.Tally.variables_in_value.Goals as goal

pub returns-then-is_variable : goal.returns-then-is_variable
returns-then-is_variable c =
    let marked = c.mark_variable.ensures in
    let kind = rw c.value_kind-kind.ensures at c.is_variable.ensures in
    record {
      same = marked.same;
      does = record {
        says = λ n. variable_used _ _ _ kind c.if-is_variable.true c.value_atom.ensures (c.unwrap_or.ensures ∙ found_or _ _ _ (c.find_variable-i.ensures n)) marked.does;
        frame = marked.does.frame;
      };
    }

pub returns-then-has_members : goal.returns-then-has_members
returns-then-has_members c =
    let reached = c.reach_range.ensures in
    let kind = rw c.value_kind-kind.ensures at c.is_variable.ensures in
    let deep = rw c.value_kind-kind.ensures at c.has_members.ensures in
    record {
      same = reached.same;
      does = searched _ (members_used _ _ _ kind c.if-is_variable.false deep c.if-has_members.true c.value_members.ensures reached.does);
    }

pub returns-else-has_members : goal.returns-else-has_members
returns-else-has_members c =
    let kind = rw c.value_kind-kind.ensures at c.is_variable.ensures in
    let deep = rw c.value_kind-kind.ensures at c.has_members.ensures in
    record { same = same_itself _; does = searched _ (nothing_used _ _ _ kind c.if-is_variable.false deep c.if-has_members.false) }
