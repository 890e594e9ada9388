-- `walk::Run::compare_part` meets its contract: the front segment, then the back one. Assumes nothing.
use mathlib.Core.Path.{refl}
use Rattle.std.proofs.lemmas.Result.{err_from_is_err_and}
use Rattle.selection.proofs.CompareLaws.{part_clash, part_compared}
use Rattle.selection.proofs.walk.Run.compare_part.Goals as goal

pub returns-in_err-compare_segment : goal.returns-in_err-compare_segment
returns-in_err-compare_segment c =
    let p = err_from_is_err_and c.from_residual.result c.from_residual.ensures.1 in
    let front = c.in_err-compare_segment.ensures in
    rw (p.1, p.2) (record { compares = part_clash c.row_at-a.ensures c.follow-second.ensures front.compares front.stops; stops = front.stops })

pub returns : goal.returns
returns c =
    let back = c.compare_segment-2.ensures in
    record { compares = part_compared c.row_at-a.ensures c.follow-second.ensures c.in_ok-compare_segment.ensures.compares refl back.compares; stops = back.stops }
