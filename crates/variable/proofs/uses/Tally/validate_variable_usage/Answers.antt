-- `uses::Tally::validate_variable_usage` meets its contract. The loop's invariant: the arguments passed are allowed where they are reached. Assumes nothing.
use mathlib.Core.Path.{sym, ap, ◌∙◌}
use borrow.Author.Count.{below_none, below_more}
use native.Mathlib.Numerals.{add-one}
use native.Mathlib.Omega.{arith}
use Rattle.variable.specs.Uses.{furthest, first_misused}
use Rattle.variable.proofs.FoundLaws.{bad_found, all_good}
use Rattle.variable.proofs.VerdictLaws.{end_next, end_begins, asked_of}
use Rattle.variable.proofs.uses.Tally.validate_variable_usage.Goals as goal

pub loop-row-init : goal.loop-row-init
loop-row-init c = (λ n. below_none _, end_begins _)

pub loop-row-preserved : goal.loop-row-preserved
loop-row-preserved c =
    let next = end_next _ _ c.loop-row.invariant.1 c.end_of_row.ensures c.max-end.ensures in
    (λ n. below_more _ c.loop-row.row (c.loop-row.invariant.0 n) (asked_of _ _ _ _ _ (c.is_allowed_below.ensures n) next c.if-not-is_allowed_below.false), next ∙ ap (furthest _) (sym (add-one _)))

pub returns-then-not-is_allowed_below : goal.returns-then-not-is_allowed_below
unfolding first_misused
returns-then-not-is_allowed_below c n =
    let next = end_next _ _ c.loop-row.invariant.1 c.end_of_row.ensures c.max-end.ensures in
    bad_found _ _ c.loop-row.row (omega arith) (c.loop-row.invariant.0 n) (asked_of _ _ _ _ _ (c.is_allowed_below.ensures n) next c.if-not-is_allowed_below.true)

pub returns : goal.returns
unfolding first_misused
returns c n = all_good _ _ (λ k l. c.loop-row.invariant.0 n k (omega arith))
