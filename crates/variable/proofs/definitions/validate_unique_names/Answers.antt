-- `definitions::validate_unique_names` meets its contract. Assumes nothing.
use Rattle.std.proofs.Common.{rules, tests}
use Rattle.variable.specs.Definitions.{is_repeated, first_repeated}
use Rattle.variable.proofs.FoundLaws.{find_found}
use Rattle.variable.proofs.definitions.validate_unique_names.Goals as goal

pub returns : goal.returns
unfolding first_repeated
returns c n = find_found _ (is_repeated c.args.image.now c.args.variables) _ _ _ c.find.ensures.ran (λ x b q k. search (rules, tests))
