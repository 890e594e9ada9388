-- `uses::Tally::validate_uses` meets its contract. Assumes nothing.
use Rattle.variable.proofs.VerdictLaws.{unused_found, misused_found, uses_right}
use Rattle.variable.proofs.uses.Tally.validate_uses.Goals as goal

pub returns-in-Some : goal.returns-in-Some
returns-in-Some c n = unused_found _ _ _ _ c.in-Some.ensures c.row-variable.ensures

pub returns-in-Some-validate_variable_usage : goal.returns-in-Some-validate_variable_usage
returns-in-Some-validate_variable_usage c n = misused_found _ _ _ _ c.in_default.ensures (c.in-Some-validate_variable_usage.ensures n)

pub returns : goal.returns
returns c n = uses_right _ _ _ _ c.in_default.ensures (c.in_default-validate_variable_usage.ensures n)
