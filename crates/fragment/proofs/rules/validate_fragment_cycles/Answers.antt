-- `rules::validate_fragment_cycles` meets its contract: the order stands in needed words, and walks leave it. Assumes nothing.
use Rattle.std.proofs.Common.{arith}
use Rattle.lists.proofs.Parts.{outside_trans}
use Rattle.fragment.proofs.Rising.{risen}
use Rattle.fragment.proofs.Behind.{order_within, behind_within}
use Rattle.fragment.proofs.rules.validate_fragment_cycles.Goals as goal

pub returns : goal.returns
returns c =
    let o = c.order_behind.ensures in
    let e = c.validate_risen.ensures in
    (outside_trans (order_within _ (omega arith) o) (behind_within _ e.0), λ good room. e.1 good (omega (arith, o.long)) (risen _ _ good c.highest_rise-rise.ensures))
