-- `lookup::set_part` meets its contract: where a set has a place, that lies inside the image, by what a good header promises. Assumes nothing.
use mathlib.Core.Path.{sym}
use native.Mathlib.Omega.{arith}
use Rattle.tables.proofs.Part.{place_inside}
use Rattle.tables.proofs.lookup.set_part.Goals as goal

pub overflow_add-result : goal.overflow_add-result
overflow_add-result c = omega (arith, place_inside _ _ c.in-Some.place (sym c.in-Some.ensures))

pub offset_bounds-image-place : goal.offset_bounds-image-place
offset_bounds-image-place c = omega (arith, place_inside _ _ c.in-Some.place (sym c.in-Some.ensures))

pub slice_bounds-result-end : goal.slice_bounds-result-end
slice_bounds-result-end c = place_inside _ _ c.in-Some.place (sym c.in-Some.ensures)
