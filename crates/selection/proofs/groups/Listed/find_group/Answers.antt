-- `Listed::find_group` meets its contract. The loop's invariant: the places passed fail. Assumes nothing.
use Prim.Native.Nat.{ℕ}
use native.Mathlib.Omega.{arith}
use borrow.Author.Tests.{eq-eqb}
use lib.Dec.{eqb}
use mathlib.Core.Path.{◌≡◌, sym, ◌∙◌}
use mathlib.Core.Bool.{Bool}
use mathlib.Core.List.{List}
use Rattle.selection.specs.declared.arena.Arena.{Arena}
use Rattle.selection.specs.Following.{link_at}
use Rattle.selection.proofs.PlaceLaws.{seek_found, seek_none}
use Rattle.selection.proofs.groups.Listed.find_group.Goals as goal

abbrev opens : List ℕ → Arena → ℕ → Bool
opens s arena p = eqb (link_at s arena p 1) p

pub returns-then-link_at-place : goal.returns-then-link_at-place
returns-then-link_at-place c =
    let a = c.args in
    seek_found (opens a.self.words.now a.self.arena.now) _ _ c.loop-place.place c.loop-place.invariant (omega arith) (eq-eqb _ _ (sym c.link_at.ensures ∙ c.if-link_at-place.true))

pub returns : goal.returns
returns c =
    let at = c.loop-place in
    let ended : c.max.result ≡ at.place = omega (arith, at.invariant.ahead, at.invariant.within) in
    ended ∙ seek_none _ _ _ at.place at.invariant (omega arith)
