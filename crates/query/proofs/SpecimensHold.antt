-- The specimens hold: one table, one statement, by computation. Assumes nothing.
use mathlib.Core.Path.{◌≡◌, refl}
use mathlib.Core.List.{map}
use Rattle.merge_theory.specs.Walk as walk
use Rattle.rows.proofs.SpecimensHold as rows
use Rattle.fragment.proofs.Specimens as fragment
use Rattle.variable.specs.Types.{is_non_null}
use Rattle.variable.specs.Definitions.{first_output, first_repeated, alike, agrees_at, compatible_in, compatible, usage_allowed}
use Rattle.variable.specs.Uses.{furthest, reach_range, reach_selection, reach_set, reach_queue, none_used, reach_arguments, mark_variable, use_value, pass_row, mark_variables, uses_of, first_unused, argument_allowed, allowed_below, first_misused}
use Rattle.variable.specs.Verdict.{uses_fault, defined_fault}
use Rattle.values.specs.Same.{same_list, has_key, keys_within, matched, same_set, same_by, same_value, same_arguments}
use Rattle.values.specs.Shape.{is_leaf, are_names, are_lists, same_named, same_shape_in, same_shape}
use Rattle.expand.specs.ImageDocument.{up_from, kind_from, link_from, document_by}
use Rattle.query.specs.Needed.{rows_in_all, scratch_needed}
use Rattle.query.specs.Reply.{refused, faulty, operations_from, reply_by, reply}
use Rattle.query.specs.Specimens.{Specimen, specimens}

pub specimens_hold : map (λ (s : Specimen). reply s.image s.work s.long) specimens ≡ map (λ (s : Specimen). s.replies) specimens
unfolding
    walk.computes rows.computes fragment.computes
    is_non_null alike agrees_at compatible_in compatible usage_allowed first_output first_repeated
    furthest reach_range reach_selection reach_set reach_queue none_used reach_arguments mark_variable use_value pass_row mark_variables uses_of
    first_unused argument_allowed allowed_below first_misused uses_fault defined_fault
    same_list has_key keys_within matched same_set same_by same_value same_arguments is_leaf are_names are_lists same_named same_shape_in same_shape
    up_from kind_from link_from document_by rows_in_all scratch_needed refused faulty operations_from reply_by
specimens_hold = refl
