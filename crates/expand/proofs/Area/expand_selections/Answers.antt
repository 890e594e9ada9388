-- `expand::Area::expand_selections` meets its contract. The loop's invariant: so many sets have left the queue. A word counts them, so it ends.
-- Assumes nothing.
use native.Mathlib.Omega.{arith}
use mathlib.Core.List.{List}
use mathlib.Core.Path.{◌≡◌, refl}
use Prim.Native.Nat.{ℕ}
use Rattle.expand.specs.declared.Area.{Area}
use Rattle.expand.specs.declared.Expansion.{Expansion}
use Rattle.expand.specs.Expanding.{Expanded}
use Rattle.expand.proofs.ExpandWalk.{underway_first, underway_turn, underway_end}
use Rattle.expand.proofs.WorklistLaws.{same_itself, same_on}
use Rattle.expand.proofs.Area.expand_selections.Goals as goal

pub loop-walked-init : goal.loop-walked-init
loop-walked-init c = record { same = same_itself _; underway = underway_first _ _ }

pub loop-walked-preserved : goal.loop-walked-preserved
loop-walked-preserved c =
    let l = c.loop-walked.invariant in
    let set = c.expand_set.ensures in
    record {
      same = same_on l.same set.same;
      underway = underway_turn l.underway (omega arith) refl (rw l.same.area at c.set_at-set.ensures) (rw (l.same.image, l.same.area) at set.steps);
    }

-- what the words are once the borrow of them has ended
ended : {image : List ℕ} {area : Area} {s s' t : List ℕ} {x : Expansion} {r : ℕ} → Expanded image area s s' x r → t ≡ s' → Expanded image area s t x r
ended expanded e = rw e expanded

pub returns : goal.returns
returns c =
    let l = c.loop-walked.invariant in
    let name = l.same.words in
    ended (underway_end l.underway (omega (arith, c.queued.ensures))) (grind (arith, name))
