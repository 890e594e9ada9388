-- `walk::Run::walk_operation` meets its contract. Assumes nothing.
use mathlib.Core.Path.{refl, ap, ◌∙◌}
use Rattle.std.specs.Prelude.{is_some}
use Rattle.std.proofs.lemmas.Result.{err_from_is_err_and}
use Rattle.selection.specs.Passes.{is_shape}
use Rattle.selection.proofs.OperationLaws.{pass_flat, pass_deeper, runs_from}
use Rattle.selection.proofs.walk.Run.walk_operation.Goals as goal

pub returns-in_err-met : goal.returns-in_err-met
returns-in_err-met c =
    let p = err_from_is_err_and c.from_residual.result c.from_residual.ensures.1 in
    let met = c.in_err-met.ensures in
    rw (p.1, p.2) (record { runs = pass_flat (is_shape c.args.self.now.pass) (rw c.registry.ensures at c.forget.ensures) (c.meet_operation.auto.s ∙ c.forget.auto.s) met.meets refl; ends = met.ends })

pub returns-in-Some : goal.returns-in-Some
returns-in-Some c =
    let met = c.in_ok-met.ensures in
    let walked = c.walk_pass.ensures in
    record {
      runs = runs_from c.in_ok-met.met.walk c.walk_pass.result walked.ends
          (pass_deeper (is_shape c.args.self.now.pass) (rw c.registry.ensures at c.forget.ensures) (c.meet_operation.auto.s ∙ c.forget.auto.s) met.meets c.in-Some.is walked.walks);
      ends = walked.ends;
    }

pub returns-in-None : goal.returns-in-None
returns-in-None c =
    let met = c.in_ok-met.ensures in
    record {
      runs = pass_flat (is_shape c.args.self.now.pass) (rw c.registry.ensures at c.forget.ensures) (c.meet_operation.auto.s ∙ c.forget.auto.s) met.meets (ap is_some c.in-None.is);
      ends = met.ends;
    }
