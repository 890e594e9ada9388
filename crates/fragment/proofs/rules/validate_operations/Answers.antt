-- `rules::validate_operations` meets its contract: what each search found is the lowest that fails. Assumes nothing.
use Rattle.std.proofs.Common.{◌≡◌, ◌<◌, true, false, ◌∙◌, arith, rules, tests}
use Rattle.std.proofs.Math.Option.{none}
use Rattle.std.proofs.lemmas.Iterator.{first_from_Range}
use Rattle.tables.specs.Layout.{operations}
use Rattle.tables.specs.Image.{count_at}
use Rattle.fragment.specs.Rules.{has_many_links, nests_deep, chain_fault}
use Rattle.fragment.specs.Walks.{Ready}
use Rattle.fragment.proofs.RuleLaws.{Search, links_same, nesting_same, many_links, deep_nesting, all_low}
use Rattle.fragment.proofs.rules.validate_operations.Goals as goal
use Rattle.fragment.proofs.rules.validate_operations.Goals.{After-find-linked, After-find-nested}

linked : (c : After-find-linked) → Ready c.args.image.now c.args.s.now → chain_fault c.args.image.now ≡ none
    → Search c.count-operations.result (count_at c.args.image.now operations) (has_many_links c.args.image.now) c.find-linked.result
linked c ready fine =
    let image = c.args.image.now in
    let n = count_at image operations in
    first_from_Range _ _ _ _ (λ i. i < n → has_many_links image i ≡ true) (λ i. i < n → has_many_links image i ≡ false) c.find-linked.ensures.ran
    (λ i q k l. links_same ready fine i l ∙ grind (arith, tests))
    (λ i q k. (search rules, λ l. links_same ready fine i l ∙ grind (arith, tests)))

nested : (c : After-find-nested) → Ready c.args.image.now c.args.s.now → chain_fault c.args.image.now ≡ none
    → Search c.count-operations.result (count_at c.args.image.now operations) (nests_deep c.args.image.now) c.find-nested.result
nested c ready fine =
    let image = c.args.image.now in
    let n = count_at image operations in
    first_from_Range _ _ _ _ (λ i. i < n → nests_deep image i ≡ true) (λ i. i < n → nests_deep image i ≡ false) c.find-nested.ensures.ran
    (λ i q k l. nesting_same ready fine i l ∙ grind (arith, tests))
    (λ i q k. (search rules, λ l. nesting_same ready fine i l ∙ grind (arith, tests)))

pub returns-in-Some : goal.returns-in-Some
returns-in-Some c = λ ready fine. many_links _ c.count-operations.ensures (linked (goal.at.returns-in-Some c).After-find-linked ready fine) _ c.in-Some.is

pub returns-in-Some-nested : goal.returns-in-Some-nested
returns-in-Some-nested c = λ ready fine.
    let a = goal.at.returns-in-Some-nested c in
    deep_nesting _ c.count-operations.ensures (linked a.After-find-linked ready fine) c.in_default.is (nested a.After-find-nested ready fine) _ c.in-Some-nested.is

pub returns-in-None : goal.returns-in-None
returns-in-None c = λ ready fine.
    let a = goal.at.returns-in-None c in
    all_low _ c.count-operations.ensures (linked a.After-find-linked ready fine) c.in_default.is (nested a.After-find-nested ready fine) c.in-None.is
