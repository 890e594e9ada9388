-- `same_rows` meets its contract.
use Rattle.std.proofs.Common.{rules}
use borrow.Author.Tests.{tests}
use Rattle.lists.proofs.ChainLaws.{every_from_all}
use Rattle.known.proofs.same_rows.Goals as goal

pub returns : goal.returns
returns c = every_from_all c.args.n _ _ _ _ c.all.ensures.ran (λ x b q k. search (rules, tests))
