-- `definitions::validate_input_types` meets its contract. Assumes nothing.
use Rattle.std.proofs.Common.{rules, tests}
use Rattle.tables.specs.Image.{row_in}
use Rattle.variable.specs.Definitions.{is_output, first_output}
use Rattle.lists.proofs.ChainLaws.{found_from_find}
use Rattle.variable.proofs.definitions.validate_input_types.Goals as goal

pub returns : goal.returns
unfolding first_output
returns c = found_from_find _ (λ k. is_output c.args.image.now (row_in c.args.variables k)) _ _ _ c.find.ensures.ran (λ x b q k. search (rules, tests))
