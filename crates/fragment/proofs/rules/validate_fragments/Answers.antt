-- `rules::validate_fragments` meets its contract: what was changed lies in the words that are cleared. Assumes nothing.
use Rattle.std.proofs.Common.{ap, ◌∙◌}
use Rattle.fragment.specs.Rules.{cleared}
use Rattle.fragment.proofs.Cleared.{cleared_again}
use Rattle.fragment.proofs.rules.validate_fragments.Goals as goal

pub returns : goal.returns
returns c =
    let v = c.validate_sets-answer.ensures in
    let size = c.words_of.ensures.0 in
    (cleared_again _ _ _ (rw size v.0) c.clear.ensures ∙ ap (cleared c.args.s.now) size, v.1)
