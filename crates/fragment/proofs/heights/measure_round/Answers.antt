-- `heights::measure_round` meets its contract. The loop's invariant: what is left of the round ends where the whole ends.
-- Assumes nothing.
use Rattle.std.proofs.Common.{sym, ap, ◌∙◌, length, arith}
use Rattle.fragment.proofs.HeightLaws.{same_words, sweep_turn, changes_turn, sweep_done, changes_done}
use Rattle.fragment.proofs.heights.measure_round.Goals as goal

pub loop-set-preserved : goal.loop-set-preserved
loop-set-preserved c =
    let l = c.loop-set in
    let e = c.measure_set-changed.ensures in
    (ap length e.0 ∙ same_words _ _ _ ∙ l.invariant.0, sweep_turn _ _ l.set (omega arith) e.0 ∙ l.invariant.1, changes_turn _ _ l.set l.changed (omega arith) e.0 e.1 ∙ l.invariant.2)

pub returns : goal.returns
returns c =
    let l = c.loop-set in
    (sym (sweep_done _ _ l.set (omega arith)) ∙ l.invariant.1, sym (changes_done _ _ l.set l.changed (omega arith)) ∙ l.invariant.2)
