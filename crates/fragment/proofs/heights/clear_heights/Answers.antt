-- `heights::clear_heights` meets its contract. Assumes nothing.
use Rattle.std.proofs.Common.{arith}
use Rattle.fragment.proofs.Cleared.{cleared_outside, all_cleared}
use Rattle.fragment.proofs.Exact.{cleared_sound}
use Rattle.fragment.proofs.heights.clear_heights.Goals as goal

pub returns : goal.returns
returns c =
    let size = c.words_of.ensures.0 in
    (cleared_outside c.args.s.now _ c.clear.ensures size, λ room. cleared_sound _ _ (all_cleared c.args.s.now _ c.clear.ensures size (omega arith)))
