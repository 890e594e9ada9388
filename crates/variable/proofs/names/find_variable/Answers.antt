-- `names::find_variable` meets its contract. Assumes nothing.
use Rattle.std.proofs.Common.{rules, tests}
use lib.Dec.{eqb}
use Rattle.variable.specs.Definitions.{name_in}
use Rattle.variable.proofs.FoundLaws.{find_found_from}
use Rattle.variable.proofs.NameLaws.{none_named, found_first}
use Rattle.variable.proofs.names.find_variable.Goals as goal

pub returns-in-Some : goal.returns-in-Some
returns-in-Some c n = found_first _ _ _ c.index_of-index.ensures.0 n c.in-Some.ensures.first

pub returns : goal.returns
returns c n =
    find_found_from _ _ (λ k. eqb (name_in c.args.image.now c.args.variables k) c.args.name) _ _ _ c.find-2.ensures.ran (λ x b q k. search (rules, tests))
    (none_named _ _ _ c.index_of-index.ensures.0 n c.in_default.ensures.first)
