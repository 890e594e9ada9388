-- `rules::validate_measured` meets its contract: a law for each `return`. Assumes nothing.
use Rattle.std.proofs.Common.{sym}
use Rattle.std.proofs.lemmas.Result.{err_from_is_err_and}
use Rattle.lists.proofs.Parts.{outside_none}
use Rattle.fragment.proofs.Behind.{ready_still, from_operations}
use Rattle.fragment.proofs.RuleLaws.{long_chain, past_limits, used_or_not}
use Rattle.fragment.proofs.rules.validate_measured.Goals as goal

pub returns-in_err-validate_chains : goal.returns-in_err-validate_chains
returns-in_err-validate_chains c =
    let p = err_from_is_err_and c.from_residual.result c.from_residual.ensures.1 in
    rw (p.1, p.2) (outside_none _ _ _, λ ready acyclic. long_chain _ acyclic (c.in_err-validate_chains.ensures ready))

pub returns-in_err-validate_operations : goal.returns-in_err-validate_operations
returns-in_err-validate_operations c =
    let r = c.from_residual-in_err-validate_operations in
    let p = err_from_is_err_and r.result r.ensures.1 in
    let fine = c.in_ok-validate_chains.ensures in
    rw (p.1, p.2) (outside_none _ _ _, λ ready acyclic. past_limits _ acyclic (fine ready) (c.in_err-validate_operations.ensures ready (sym (fine ready))))

pub returns : goal.returns
returns c =
    let fine = c.in_ok-validate_chains.ensures in
    let low = c.in_ok-validate_operations.ensures in
    let w = c.walk_behind.ensures in (
      w.0,
      λ ready acyclic.
          let marked = from_operations _ c.operation_sets.ensures (w.1 ready.room) in
          used_or_not _ acyclic (fine ready) (low ready (sym (fine ready))) (c.validate_fragments_used.ensures (ready_still w.0 ready) marked),
    )
