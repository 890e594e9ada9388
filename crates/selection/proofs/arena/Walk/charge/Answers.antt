-- `Walk::charge` meets its contract. Assumes nothing.
use borrow.Author.Tests.{le-leb, lt-leb}
use Prim.Native.Nat.{◌+◌, ◌≤◌, ◌<◌}
use native.Mathlib.Omega.{arith}
use Rattle.selection.specs.Refining.{charged}
use Rattle.selection.proofs.arena.Walk.charge.Goals as goal

pub returns-then-sum-work-clause-charges : goal.returns-then-sum-work-clause-charges
unfolding charged
returns-then-sum-work-clause-charges c =
    let a = c.args in
    let fits : a.self.reply.used + (1 + a.rows) ≤ a.work = omega arith in
    rw (le-leb _ _ fits)

pub returns-else-sum-work-clause-charges : goal.returns-else-sum-work-clause-charges
unfolding charged
returns-else-sum-work-clause-charges c =
    let a = c.args in
    let passes : a.work < a.self.reply.used + (1 + a.rows) = omega arith in
    rw (lt-leb _ _ passes)
