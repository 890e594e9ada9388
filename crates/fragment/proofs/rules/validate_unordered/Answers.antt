-- `rules::validate_unordered` meets its contract: a law for each `return`. Assumes nothing.
use Rattle.std.proofs.lemmas.Result.{err_from_is_err_and}
use Rattle.fragment.proofs.RuleLaws.{cycle_first}
use Rattle.fragment.proofs.rules.validate_unordered.Goals as goal

pub returns-in_err-validate_fragment_cycles : goal.returns-in_err-validate_fragment_cycles
returns-in_err-validate_fragment_cycles c =
    let p = err_from_is_err_and c.from_residual.result c.from_residual.ensures.1 in
    let e = c.in_err-validate_fragment_cycles.ensures in
    rw (p.1, p.2) (e.0, λ good room. cycle_first _ (e.1 good room))
