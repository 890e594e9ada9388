-- `uses::Tally::reach_queued` meets its contract. The loop's invariant: the sets passed are reached. Assumes nothing.
use native.Mathlib.Omega.{arith}
use Rattle.variable.proofs.UseLaws.{queueing_begins, queueing_on, queueing_ends}
use Rattle.variable.proofs.TallyLaws.{same_itself, does_then}
use Rattle.variable.proofs.uses.Tally.reach_queued.Goals as goal

pub loop-i-init : goal.loop-i-init
loop-i-init c = record { same = same_itself _; does = queueing_begins _ }

pub loop-i-preserved : goal.loop-i-preserved
loop-i-preserved c =
    let read = rw c.loop-i.invariant.same.image at c.set_at-set.ensures in
    does_then c.loop-i.invariant c.reach_set.ensures (λ p q. queueing_on _ p (omega arith) read q)

pub returns : goal.returns
returns c =
    let l = c.loop-i.invariant in
    record { same = l.same; does = queueing_ends _ l.does (omega arith) }
