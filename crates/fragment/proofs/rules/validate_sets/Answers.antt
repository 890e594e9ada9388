-- `rules::validate_sets` meets its contract: a law for each `return`. Assumes nothing.
use Rattle.std.proofs.Common.{sym, arith}
use Rattle.std.proofs.Math.Nat.{le_refl}
use Rattle.lists.proofs.Parts.{outside_trans}
use Rattle.fragment.proofs.Behind.{order_within, behind_within, heights_within}
use Rattle.fragment.proofs.RuleLaws.{none_cyclic}
use Rattle.fragment.proofs.rules.validate_sets.Goals as goal

pub returns-then-measure_in_order : goal.returns-then-measure_in_order
returns-then-measure_in_order c =
    let o = order_within _ (le_refl _) c.order_behind.ensures in
    let m = c.measure_in_order.ensures in
    let v = c.validate_measured.ensures in (
      outside_trans o (outside_trans (heights_within _ m.0) (behind_within _ v.0)),
      λ good room.
          let ordered = m.2 c.if-measure_in_order.true good (omega (arith, o.long)) in
          v.1 (record { good = good; room = omega (arith, m.0.long, o.long); heights = ordered.heights }) (sym (none_cyclic _ ordered.no_cycle)),
    )
