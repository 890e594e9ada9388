-- `rules::validate_chains` meets its contract: what the search found is the lowest that fails. Assumes nothing.
use Rattle.std.proofs.Common.{◌≡◌, ◌<◌, true, false, ◌∙◌, arith, rules, tests}
use Rattle.std.proofs.lemmas.Iterator.{first_from_Range}
use Rattle.tables.specs.Layout.{fragments}
use Rattle.tables.specs.Image.{count_at}
use Rattle.fragment.specs.Rules.{starts_long_chain}
use Rattle.fragment.specs.Walks.{Ready}
use Rattle.fragment.proofs.RuleLaws.{Search, long_same, a_chain, no_chain}
use Rattle.fragment.proofs.rules.validate_chains.Goals as goal
use Rattle.fragment.proofs.rules.validate_chains.Goals.{After-find-long}

searched : (c : After-find-long) → Ready c.args.image.now c.args.s.now → Search c.count.result (count_at c.args.image.now fragments) (starts_long_chain c.args.image.now) c.find-long.result
searched c ready =
    let image = c.args.image.now in
    let n = count_at image fragments in
    first_from_Range _ _ _ _ (λ f. f < n → starts_long_chain image f ≡ true) (λ f. f < n → starts_long_chain image f ≡ false) c.find-long.ensures.ran
    (λ f q k l. long_same ready f l ∙ grind (arith, tests))
    (λ f q k. (search rules, λ l. long_same ready f l ∙ grind (arith, tests)))

pub returns-in-Some : goal.returns-in-Some
returns-in-Some c = λ ready. a_chain _ c.count.ensures (searched (goal.at.returns-in-Some c).After-find-long ready) _ c.in-Some.is

pub returns-in-None : goal.returns-in-None
returns-in-None c = λ ready. no_chain _ c.count.ensures (searched (goal.at.returns-in-None c).After-find-long ready) c.in-None.is
