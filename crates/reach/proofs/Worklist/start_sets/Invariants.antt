-- The loop of `reach::Worklist::start_sets`. Its invariant: the sets passed are met, from a walk that has met none. Assumes nothing.
use Rattle.reach.specs.Turns.{turns}
use Rattle.tables.specs.Image.{row_in}
use Rattle.reach.specs.Reach.{begun, enter_set}
use Rattle.reach.specs.Worklists.{Goes}
use Rattle.reach.proofs.Worklist.start_sets.Given as goal

abbrev pub invariant-loop-i : goal.invariant-loop-i
invariant-loop-i l = Goes (λ image. turns (λ k. enter_set image begun (row_in l.sets k)) l.i) l.initial.self l.self
