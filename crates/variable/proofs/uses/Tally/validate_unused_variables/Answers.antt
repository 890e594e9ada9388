-- `uses::Tally::validate_unused_variables` meets its contract. Assumes nothing.
use Rattle.std.proofs.Common.{rules, tests}
use lib.Dec.{eqb}
use Rattle.variable.specs.Uses.{first_unused, mark_in}
use Rattle.lists.proofs.ChainLaws.{found_from_find}
use Rattle.variable.proofs.uses.Tally.validate_unused_variables.Goals as goal

pub returns : goal.returns
unfolding first_unused
returns c = found_from_find _ (λ k. eqb (mark_in c.args.self.now.image.now c.args.self.now.words.now k) 0) _ _ _ c.find.ensures.ran (λ x b q k. search (rules, tests))
