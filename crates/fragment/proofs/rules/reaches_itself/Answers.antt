-- `rules::reaches_itself` meets its contract: a law for each `return`. Assumes nothing.
use native.Mathlib.Omega.{arith}
use mathlib.Core.Path.{◌≡◌, sym, ap, ◌∙◌}
use Rattle.lists.proofs.Parts.{outside_none}
use Rattle.tables.specs.Columns.{fragment_set}
use Rattle.fragment.specs.Rise.{place_at}
use Rattle.fragment.proofs.Behind.{found_itself}
use Rattle.fragment.proofs.Cycles.{above_rise}
use Rattle.fragment.proofs.Rising.{front_place}
use Rattle.fragment.proofs.rules.reaches_itself.Goals as goal

pub returns-then-rise-place_behind : goal.returns-then-rise-place_behind
returns-then-rise-place_behind c =
    let a = c.args in
    let place = place_at a.image.now a.s.now in
    let at : c.place_behind.result ≡ place (fragment_set a.image.now a.fragment) = front_place a.image.now a.s.now _ c.place_behind.ensures ∙ ap place c.fragment_set-set.ensures in
    (outside_none _ _ _, λ good room rises known. sym (above_rise good a.fragment known place a.rise rises (omega (arith, at, c.if-rise-place_behind.true))))

pub returns : goal.returns
returns c =
    let w = c.walk_behind.ensures in
    (w.0, λ good room rises known. found_itself good (omega (arith, w.0.long)) _ known c.is_marked.ensures c.fragment_set-set.ensures (w.1 room))
