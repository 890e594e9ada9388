-- `rules::validate_variable_definitions` meets its contract: a law for each `return`. Assumes nothing.
use native.Mathlib.Omega.{arith}
use mathlib.Core.Path.{◌≡◌}
use mathlib.Core.List.{List}
use Prim.Native.Nat.{ℕ}
use Rattle.variable.specs.Verdict.{Usage, Judged}
use Rattle.variable.proofs.VerdictLaws.{no_variables, output_found, repeated_found, uses_judged, judged_early, judged_named, judged_late}
use Rattle.variable.proofs.TallyLaws.{same_on, does_of}
use Rattle.variable.proofs.rules.validate_variable_definitions.Goals as goal

-- the words that come back are those of the tally
ended : {image s s' x : List ℕ} {i : ℕ} {answer : Usage} → Judged image i s s' answer → x ≡ s' → Judged image i s x answer
ended judged e = rw e judged

pub returns-then-variables-eq0 : goal.returns-then-variables-eq0
returns-then-variables-eq0 c = judged_early _ _ _ c.operation_variables-variables.ensures _ (no_variables _ _ _ c.if-variables-eq0.true)

pub returns-in-Some : goal.returns-in-Some
returns-in-Some c = judged_early _ _ _ c.operation_variables-variables.ensures _ (output_found _ _ _ c.in-Some.ensures c.row-variable.ensures)

pub returns-in-Some-validate_unique_names : goal.returns-in-Some-validate_unique_names
returns-in-Some-validate_unique_names c =
    let named = c.name_variables.ensures in
    let words = named.same.words in
    let repeated = rw (named.same.image, named.same.variables) at c.in-Some-validate_unique_names.ensures in
    ended
    (judged_named _ _ _ c.operation_variables-variables.ensures _ named.does
    (λ n. repeated_found _ _ _ c.in_default.ensures (repeated n) c.row-variable-in-Some-validate_unique_names.ensures))
    (grind (arith, words))

pub returns : goal.returns
returns c =
    let named = c.name_variables.ensures in
    let reached = c.reach_arguments.ensures in
    let marked = c.mark_variables.ensures in
    let same = same_on named.same reached.same in
    let all = same_on same marked.same in
    let words = all.words in
    let distinct = rw (named.same.image, named.same.variables) at c.in_default-validate_unique_names.ensures in
    let judged = rw (all.image, all.variables) at c.validate_uses.ensures in
    ended
    (judged_late _ _ _ c.operation_variables-variables.ensures _ named.does (does_of named.same reached) (does_of same marked)
    (λ n. uses_judged _ _ _ c.in_default.ensures n distinct (does_of named.same reached) (does_of same marked) judged))
    (grind (arith, words))
