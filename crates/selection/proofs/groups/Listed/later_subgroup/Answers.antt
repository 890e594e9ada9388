-- `Listed::later_subgroup` meets its contract. Assumes nothing.
use mathlib.Core.Path.{sym, ◌∙◌}
use Rattle.selection.proofs.FollowLaws.{later_is, later_none}
use Rattle.selection.proofs.groups.Listed.later_subgroup.Goals as goal

pub returns-then-has_object_parent : goal.returns-then-has_object_parent
returns-then-has_object_parent c = later_is c.args.cursor (sym c.has_object_parent.ensures ∙ c.if-has_object_parent.true) c.next_of_name.ensures c.find_subgroup.ensures

pub returns-else-has_object_parent : goal.returns-else-has_object_parent
returns-else-has_object_parent c = later_none c.args.cursor (sym c.has_object_parent.ensures ∙ c.if-has_object_parent.false)
