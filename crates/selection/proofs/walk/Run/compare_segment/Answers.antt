-- `walk::Run::compare_segment` meets its contract. The loop's invariant: what is left decides. Assumes nothing.
use mathlib.Core.Path.{refl, sym, ap}
use native.Mathlib.Omega.{arith}
use Rattle.selection.specs.Comparing.{kind_of_clash, cause_of}
use Rattle.selection.proofs.FollowLaws.{follow_ahead}
use Rattle.selection.proofs.RefineLaws.{some_kind}
use Rattle.selection.proofs.CompareLaws.{comparing_first, comparing_next, comparing_clash, comparing_done}
use Rattle.selection.proofs.walk.Run.compare_segment.Goals as goal

pub loop-place-init : goal.loop-place-init
loop-place-init c = comparing_first

pub returns-in-Some : goal.returns-in-Some
returns-in-Some c =
    rw c.conflict.ensures (record {
      compares = comparing_clash c.loop-place.invariant (omega arith) c.row_at-b.ensures c.args.walk c.args.list refl (ap kind_of_clash c.in-Some.ensures) (some_kind (cause_of c.in-Some.clash));
      stops = some_kind (cause_of c.in-Some.clash);
    })

pub loop-place-smaller : goal.loop-place-smaller
loop-place-smaller c = omega (arith, follow_ahead _ _ _ _ _ c.follow-place.ensures (omega arith))

pub loop-place-preserved : goal.loop-place-preserved
loop-place-preserved c = comparing_next c.loop-place.invariant (omega arith) c.row_at-b.ensures (ap kind_of_clash (sym c.in_default.ensures)) c.follow-place.ensures

pub returns : goal.returns
returns c = record { compares = comparing_done c.loop-place.invariant (omega arith) c.args.walk c.args.list refl; stops = tt }
