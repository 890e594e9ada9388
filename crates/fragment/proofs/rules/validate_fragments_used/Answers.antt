-- `rules::validate_fragments_used` meets its contract: what the search found is the lowest that fails. Assumes nothing.
use Rattle.std.proofs.Common.{◌≡◌, ◌<◌, true, false, ◌∙◌, arith, rules, tests}
use Rattle.std.proofs.lemmas.Iterator.{first_from_Range}
use Rattle.tables.specs.Layout.{fragments}
use Rattle.tables.specs.Image.{count_at}
use Rattle.fragment.specs.Rules.{operation_sets, is_unused}
use Rattle.fragment.specs.Walks.{Ready, Marked}
use Rattle.fragment.proofs.Links.{fragment_set_in}
use Rattle.fragment.proofs.Behind.{unused_same}
use Rattle.fragment.proofs.RuleLaws.{Search, one_unused, none_unused}
use Rattle.fragment.proofs.rules.validate_fragments_used.Goals as goal
use Rattle.fragment.proofs.rules.validate_fragments_used.Goals.{After-find-unused}

searched : (c : After-find-unused) → Ready c.args.image.now c.args.s.now → Marked c.args.image.now (operation_sets c.args.image.now) c.args.s.now
    → Search c.count.result (count_at c.args.image.now fragments) (is_unused c.args.image.now) c.find-unused.result
searched c ready marked =
    let image = c.args.image.now in
    let n = count_at image fragments in
    let room = ready.room in
    first_from_Range _ _ _ _ (λ f. f < n → is_unused image f ≡ true) (λ f. f < n → is_unused image f ≡ false) c.find-unused.ensures.ran
    (λ f q k l. let inside = fragment_set_in ready.good f l in unused_same ready marked f l ∙ grind (arith, tests))
    (λ f q k. (search rules, λ l. let inside = fragment_set_in ready.good f l in unused_same ready marked f l ∙ grind (arith, tests)))

pub returns-in-Some : goal.returns-in-Some
returns-in-Some c = λ ready marked. one_unused _ c.count.ensures (searched (goal.at.returns-in-Some c).After-find-unused ready marked) _ c.in-Some.is

pub returns-in-None : goal.returns-in-None
returns-in-None c = λ ready marked. none_unused _ c.count.ensures (searched (goal.at.returns-in-None c).After-find-unused ready marked) c.in-None.is
