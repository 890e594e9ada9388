-- `values::are_keys_within` meets its contract: the law of `all` over numbers. Assumes nothing.
use borrow.Author.Tests.{tests}
use Rattle.std.proofs.Common.{rules}
use Rattle.lists.proofs.ChainLaws.{every_from_all}
use Rattle.tables.specs.Image.{row_in}
use Rattle.tables.specs.Keys.{key_of}
use Rattle.values.specs.Same.{has_key, keys_within}
use Rattle.values.proofs.are_keys_within.Goals as goal

pub returns : goal.returns
unfolding keys_within
returns c =
    let key = key_of c.args.image.now c.args.table in
    every_from_all c.args.inner.count (λ i. has_key key c.args.outer (key (row_in c.args.inner i))) _ _ _ c.all.ensures.ran (λ x b h k. search (rules, tests))
