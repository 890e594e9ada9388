-- `value_rows::are_list_keys_good` meets its contract. Assumes nothing.
use Rattle.std.proofs.Common.{rules}
use borrow.Author.Tests.{tests}
use Rattle.lists.proofs.ChainLaws.{every_from_all}
use Rattle.rows.specs.Values.{good_list_keys}
use Rattle.rows.proofs.value_rows.are_list_keys_good.Goals as goal

pub returns : goal.returns
unfolding good_list_keys
returns c = every_from_all _ _ _ _ _ c.all.ensures.ran (λ x b q k. search (rules, tests))
