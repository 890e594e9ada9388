-- The loop of `reach::Worklist::walk_set`. Its invariant: the rows passed are walked. Assumes nothing.
use Rattle.reach.specs.Turns.{turns}
use Rattle.tables.specs.Image.{row_in}
use Rattle.reach.specs.Reach.{walk_selection}
use Rattle.reach.specs.Worklists.{Goes}
use Rattle.reach.proofs.Worklist.walk_set.Given as goal

abbrev pub invariant-loop-i : goal.invariant-loop-i
invariant-loop-i l = Goes (λ image. turns (λ k. walk_selection image (row_in l.rows k)) l.i) l.initial.self l.self
