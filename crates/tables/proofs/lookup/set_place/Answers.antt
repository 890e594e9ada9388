-- `lookup::set_place` meets its contract: a law for each `return`. Assumes nothing.
use mathlib.Core.Path.{sym, ◌∙◌}
use native.Mathlib.Omega.{arith}
use Rattle.tables.proofs.Part.{passes, bad_header, no_such_set, bad_range, found}
use Rattle.tables.proofs.Ranges.{tested}
use Rattle.tables.proofs.lookup.set_place.Goals as goal

pub returns-in_err-ok : goal.returns-in_err-ok
returns-in_err-ok c = rw c.from_residual.ensures (bad_header _ _ c.check_header.result c.check_header.ensures (sym c.ok.ensures.value ∙ c.in_err-ok.was))

pub returns-then-count-set : goal.returns-then-count-set
returns-then-count-set c = no_such_set _ _ (passes c.check_header.result c.check_header.ensures (sym c.ok.ensures.value ∙ c.in_ok-ok.was)) (omega arith)

pub returns-then-not-lies_within : goal.returns-then-not-lies_within
returns-then-not-lies_within c =
    bad_range _ _ (passes c.check_header.result c.check_header.ensures (sym c.ok.ensures.value ∙ c.in_ok-ok.was)) (omega arith)
    (tested c.set_selections-rows.ensures c.count-2.ensures c.lies_within.ensures c.if-not-lies_within.true)

pub returns : goal.returns
returns c =
    found _ _ (passes c.check_header.result c.check_header.ensures (sym c.ok.ensures.value ∙ c.in_ok-ok.was)) (omega arith)
    (tested c.set_selections-rows.ensures c.count-2.ensures c.lies_within.ensures c.if-not-lies_within.false) c.set_selections-rows.ensures c.rows_place.ensures
