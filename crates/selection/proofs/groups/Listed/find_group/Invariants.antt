-- The loop of `Listed::find_group`. Its invariant: the places passed fail. Assumes nothing.
use lib.Dec.{eqb}
use Rattle.selection.specs.Following.{link_at}
use Rattle.selection.proofs.PlaceLaws.{Passed}
use Rattle.selection.proofs.groups.Listed.find_group.Given as goal

abbrev pub invariant-loop-place : goal.invariant-loop-place
invariant-loop-place l = Passed (λ p. eqb (link_at l.self.words.now l.self.arena.now p 1) p) l.from l.self.list.end l.place
