-- `parents::fill_parent` meets its contract. The loop's invariant: the words of i rows are written. Assumes nothing.
use native.Mathlib.Omega.{arith}
use mathlib.Core.Path.{◌≡◌}
use Rattle.selection.proofs.ParentsLaws.{filled_none, filled_more}
use Rattle.selection.proofs.parents.fill_parent.Goals as goal

pub loop-i-init : goal.loop-i-init
loop-i-init c = filled_none _ _ _

pub loop-i-preserved : goal.loop-i-preserved
loop-i-preserved c =
    let at = c.loop-i in
    filled_more _ at.i _ at.invariant c.row.ensures c.put.ensures

pub returns : goal.returns
returns c =
    let l = c.loop-i in
    let all : l.i ≡ c.args.rows.count = omega arith in
    rw (← all) l.invariant
