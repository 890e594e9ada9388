-- `Listed::subgroup_part` meets its contract. Assumes nothing.
use mathlib.Core.Path.{sym, ap, ◌∙◌}
use Rattle.selection.specs.Grouping.{has_object_parent, subgroup_part}
use Rattle.selection.proofs.groups.Listed.subgroup_part.Goals as goal

pub returns-then-has_object_parent : goal.returns-then-has_object_parent
unfolding subgroup_part
returns-then-has_object_parent c =
    let a = c.args in
    let object = ap (has_object_parent a.self.image.now a.self.words.now) (sym c.row_at-row.ensures) ∙ sym c.has_object_parent.ensures ∙ c.if-has_object_parent.true in
    rw (object, c.response_name-name.ensures, c.row_at.ensures, c.parent_of-parent.ensures, c.row_at-row.ensures)

pub returns-else-has_object_parent : goal.returns-else-has_object_parent
unfolding subgroup_part
returns-else-has_object_parent c =
    let a = c.args in
    let object = ap (has_object_parent a.self.image.now a.self.words.now) (sym c.row_at-row.ensures) ∙ sym c.has_object_parent.ensures ∙ c.if-has_object_parent.false in
    rw (object, c.response_name-name.ensures, c.row_at.ensures)
