-- `rows::check_upper` meets its contract: the first table with a fault is shown, or what is left unclaimed. Assumes nothing.
use mathlib.Core.Path.{sym, ◌∙◌}
use native.Mathlib.Omega.{arith}
use Rattle.lists.proofs.FirstLaws.{goes_on}
use Rattle.rows.proofs.RowPass.{passed_on, table_breaks, all_whole}
use Rattle.rows.proofs.check_upper.Goals as goal

pub returns-in_err-check_plain : goal.returns-in_err-check_plain
returns-in_err-check_plain c =
    passed_on _ _ c.from_residual.ensures.1 ∙ table_breaks _ 6 c.requires.lower_good (omega arith) c.in_err-check_plain.ensures

pub returns-in_err-values : goal.returns-in_err-values
returns-in_err-values c =
    let seven = goes_on _ 6 c.requires.lower_good (sym c.in_ok-check_plain.ensures) in
    passed_on _ _ c.from_residual-in_err-values.ensures.1 ∙ table_breaks _ 7 seven (omega arith) c.in_err-values.ensures.shows

pub returns-in_err-check_plain-2 : goal.returns-in_err-check_plain-2
returns-in_err-check_plain-2 c =
    let seven = goes_on _ 6 c.requires.lower_good (sym c.in_ok-check_plain.ensures) in
    let eight = goes_on _ 7 seven (sym c.in_ok-values.ensures.shows) in
    passed_on _ _ c.from_residual-in_err-check_plain-2.ensures.1 ∙ table_breaks _ 8 eight (omega arith) c.in_err-check_plain-2.ensures

pub returns : goal.returns
returns c =
    let seven = goes_on _ 6 c.requires.lower_good (sym c.in_ok-check_plain.ensures) in
    let eight = goes_on _ 7 seven (sym c.in_ok-values.ensures.shows) in
    let nine = goes_on _ 8 eight (sym c.in_ok-check_plain-2.ensures) in
    c.check_claimed.ensures ∙ all_whole _ nine c.requires.owned c.in_ok-values.ensures.leaves
