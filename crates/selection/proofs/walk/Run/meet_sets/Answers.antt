-- `walk::Run::meet_sets` meets its contract. Assumes nothing.
use mathlib.Core.Path.{refl, ap}
use native.Mathlib.Nat.{le_refl}
use Rattle.std.specs.Prelude.{is_some}
use Rattle.std.proofs.lemmas.Result.{err_from_is_err_and}
use Rattle.selection.specs.Refining.{stopped, span_in}
use Rattle.selection.proofs.MeetLaws.{meets_sets, sets_stopped, links_it, leaves_it}
use Rattle.selection.proofs.walk.Run.meet_sets.Goals as goal

pub returns-in_err-met : goal.returns-in_err-met
returns-in_err-met c =
    let p = err_from_is_err_and c.from_residual.result c.from_residual.ensures.1 in
    let met = c.in_err-met.ensures in
    rw (p.1, p.2) (record {
      meets = sets_stopped (stopped c.args.walk c.in_err-met.field-0.0) met.ends refl refl (le_refl _)
          (meets_sets c.requires.0 c.requires.1 (rw c.area.ensures at c.expand_selections-end.ensures) met.meets (leaves_it refl refl));
      ends = met.ends;
    })

pub returns-in-Some : goal.returns-in-Some
returns-in-Some c =
    let met = c.in_ok-met.ensures in
    record {
      meets = meets_sets c.requires.0 c.requires.1 (rw c.area.ensures at c.expand_selections-end.ensures) met.meets
          (links_it (ap is_some c.in-Some.is) (rw (ap span_in c.in-Some.is) c.link_list.ensures));
      ends = met.ends;
    }

pub returns-in_default : goal.returns-in_default
returns-in_default c =
    let met = c.in_ok-met.ensures in
    record {
      meets = meets_sets c.requires.0 c.requires.1 (rw c.area.ensures at c.expand_selections-end.ensures) met.meets (leaves_it (ap is_some c.in_default.is) refl);
      ends = met.ends;
    }
