-- `heights::measure_sets` meets its contract. The loop's invariant: after k rounds the heights cover chains with fewer than k spreads.
-- Assumes nothing.
use Rattle.std.proofs.Common.{◌≡◌, ◌+◌, sym, ◌∙◌, arith, add-one}
use Rattle.std.proofs.Math.Nat.{le_refl}
use Rattle.lists.proofs.Parts.{outside_trans}
use Rattle.fragment.specs.Heights.{most_chain}
use Rattle.fragment.proofs.Exact.{known_first, known_next, known_settled, known_last}
use Rattle.fragment.proofs.Sweeps.{sweep_outside}
use Rattle.fragment.proofs.heights.measure_sets.Goals as goal

pub loop-preserved : goal.loop-preserved
loop-preserved c =
    let l = c.loop in
    let e = c.measure_round.ensures in (
      rw e.0 (outside_trans l.invariant.0 (sweep_outside _ _ _ _ (le_refl _))),
      λ good room known. rw (add-one, e.0) (known_next _ good _ (omega (arith, l.invariant.0.long)) (l.invariant.1 good room known)),
    )

pub returns-then-not-measure_round : goal.returns-then-not-measure_round
returns-then-not-measure_round c =
    let l = c.loop in
    let e = c.measure_round.ensures in
    let clean = c.clear_heights.ensures in (
      outside_trans clean.0 (rw e.0 (outside_trans l.invariant.0 (sweep_outside _ _ _ _ (le_refl _)))),
      λ good room t h.
          let known = l.invariant.1 good (omega (arith, clean.0.long)) (known_first _ _ (clean.1 room)) in
          known_last _ good _ (rw e.0 (known_settled _ good _ (omega (arith, l.invariant.0.long, clean.0.long)) known (sym e.1 ∙ c.if-not-measure_round.true) (most_chain + 2))) t h,
    )

pub returns : goal.returns
returns c =
    let l = c.loop in
    let clean = c.clear_heights.ensures in
    let last : l.counter ≡ most_chain + 2 = omega arith in (
      outside_trans clean.0 l.invariant.0,
      λ good room t h. known_last _ good _ (rw last at (l.invariant.1 good (omega (arith, clean.0.long)) (known_first _ _ (clean.1 room)))) t h,
    )
