-- `check::check_lent` meets its contract: the needed words are lent and cleared. Assumes nothing.
use mathlib.Core.Path.{sym}
use native.Mathlib.Omega.{arith}
use lib.Seq.{length-take-le}
use Rattle.query.proofs.Judges.{room_after, room_lent, all_judged}
use Rattle.query.proofs.check.check_lent.Goals as goal

pub slice_bounds-check_image-end : goal.slice_bounds-check_image-end
slice_bounds-check_image-end c = omega (arith, (room_after _ _ _ c.requires).room, c.scratch_needed-needed.ensures)

pub slice_bounds-check_image-end-2 : goal.slice_bounds-check_image-end-2
slice_bounds-check_image-end-2 c = sym (length-take-le _ _ (omega (arith, (room_after _ _ _ c.requires).room, c.scratch_needed-needed.ensures)))

pub check_image-answer-requires : goal.check_image-answer-requires
check_image-answer-requires c = room_lent _ _ _ _ c.requires c.scratch_needed-needed.ensures

pub returns : goal.returns
returns c = all_judged _ _ _ _ _ c.requires c.scratch_needed-needed.ensures c.check_image-answer.ensures c.clear.ensures
