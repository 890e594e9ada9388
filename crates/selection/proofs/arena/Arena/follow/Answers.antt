-- `Arena::follow` meets its contract. Assumes nothing.
use borrow.Author.Tests.{lt-ltb, le-ltb}
use native.Mathlib.Omega.{arith}
use mathlib.Core.Path.{◌≡◌, ap, ◌∙◌}
use mathlib.Core.List.{List}
use Prim.Native.Nat.{ℕ, ◌<◌, ◌≤◌}
use Rattle.selection.specs.declared.arena.Arena.{Arena}
use Rattle.selection.specs.declared.groups.Among.{Among}
use Rattle.selection.specs.Following.{link_at, column_of, followed}
use Rattle.selection.proofs.arena.Arena.follow.Goals as goal

module _ (s : List ℕ) (arena : Arena) (among : Among) (place end : ℕ) {next : ℕ} (is : next ≡ link_at s arena place (column_of among)) where
  leads : place < next → next ≡ followed s arena among place end
  unfolding followed
  leads less = rw (← is, lt-ltb place next less)

  ends : next ≤ place → end ≡ followed s arena among place end
  unfolding followed
  ends over = rw (← is, le-ltb place next over)

pub returns-then-place-next : goal.returns-then-place-next
returns-then-place-next c =
    let a = c.args in
    leads a.s.now a.self a.among a.place a.end (c.link_at-next.ensures ∙ ap (link_at a.s.now a.self a.place) c.next.ensures) (omega arith)

pub returns-else-place-next : goal.returns-else-place-next
returns-else-place-next c =
    let a = c.args in
    ends a.s.now a.self a.among a.place a.end (c.link_at-next.ensures ∙ ap (link_at a.s.now a.self a.place) c.next.ensures) (omega arith)
