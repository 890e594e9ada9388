-- The loop of `link_all`. Its invariant: the places passed are linked, and their first places told. Assumes nothing.
use Prim.Native.Nat.{◌<◌}
use Rattle.index.specs.Indexed.{Linked}
use Rattle.index.proofs.FirstsLaws.{Told}
use Rattle.index.proofs.Index.link_all.Given as goal

abbrev pub invariant-loop-next : goal.invariant-loop-next
invariant-loop-next l = (0 < l.next) × Linked l.s l.self l.next × Told l.initial.s l.self l.to l.next l.s
