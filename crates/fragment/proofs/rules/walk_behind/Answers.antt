-- `rules::walk_behind` meets its contract where there are words enough. Assumes nothing.
use Rattle.std.proofs.Common.{arith}
use Rattle.fragment.proofs.Behind.{part_keeps, walk_marks}
use Rattle.fragment.proofs.rules.walk_behind.Goals as goal

pub returns-then-end-s : goal.returns-then-end-s
returns-then-end-s c =
    let a = c.args in
    let at = c.words_of-start.ensures.0 in
    let size = c.words_of.ensures.0 in
    let walked = c.walk_selections_with_deduped_fragments.ensures in
    (part_keeps a.image.now a.s.now _ (omega arith) walked.frame.long at size, λ room. walk_marks a.image.now a.s.now _ (omega arith) walked.frame.long at size a.sets walked)
