-- `Arena::link_list` meets its contract. Assumes nothing.
use denote.Enum.Bare.{sameb}
use mathlib.Core.Path.{◌≡◌, refl}
use mathlib.Core.Bool.{true, false}
use Rattle.selection.specs.contracts.pass.Pass.{the_type}
use Rattle.selection.specs.declared.pass.Pass.{Pass}
use Rattle.selection.specs.declared.pass.Pass.TheVariants.{Shape, Parents}
use Rattle.selection.specs.Passes.{is_shape}
use Rattle.selection.proofs.StandLaws.{names_alone, both_linked}
use Rattle.selection.proofs.arena.Arena.link_list.Goals as goal

-- the pass that is not the parent pass
other : (pass : Pass) → false ≡ sameb the_type pass Parents → is_shape pass ≡ true
other Shape e = refl
other Parents e = cc

pub returns-then-eq : goal.returns-then-eq
returns-then-eq c = both_linked {s₁ = c.link.new.s} (rw (← c.names_chain.ensures) c.link.ensures) (rw (← c.pairs_chain.ensures) c.link-then-eq.ensures) _

pub returns-else-eq : goal.returns-else-eq
returns-else-eq c = names_alone (rw (← c.names_chain.ensures) c.link.ensures) _ (other c.args.pass c.if-eq.ensures)
