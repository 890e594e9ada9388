-- `walk::Run::is_bare` meets its contract. Assumes nothing.
use native.Mathlib.Omega.{arith}
use mathlib.Core.Path.{◌≡◌, refl, sym, ap, ◌∙◌}
use mathlib.Core.Bool.{Bool, true, false, cond, not, false≢true}
use mathlib.Core.List.{List}
use Prim.Native.Nat.{ℕ, ◌≤◌}
use borrow.Author.Tests.{leb-true}
use Rattle.std.specs.Prelude.{Option, Some, None, is_some}
use Rattle.selection.specs.declared.arena.Arena.{Arena}
use Rattle.selection.specs.declared.groups.Part.{Part}
use Rattle.selection.specs.Places.{row_in}
use Rattle.selection.specs.Following.{followed}
use Rattle.selection.specs.Comparing.{has_set, filled_set, Bare}
use Rattle.selection.proofs.CompareLaws.{alone_at}
use Rattle.selection.proofs.walk.Run.is_bare.Goals as goal
use Rattle.selection.proofs.walk.Run.is_bare.Goals.{then-end-part, else-end-part}

not_bare : (image s : List ℕ) (arena : Arena) (part : Part) → Bare image s arena part false
not_bare image s arena part = record { alone = λ e. absurd (false≢true e); leaf = λ e. absurd (false≢true e) }

is_filled : (b : Bool) (set : ℕ) → is_some (cond b (Some set) None) ≡ b
is_filled true set = refl
is_filled false set = refl

alone : {image s : List ℕ} {arena : Arena} {part : Part} {second row : ℕ} {filled : Option ℕ} {r : Bool} → second ≡ followed s arena part.front.among part.first part.list.end
    → part.list.end ≤ second → part.list.end ≤ part.next → row ≡ row_in s arena.store part.first → filled ≡ filled_set image row → is_some filled ≡ not r → Bare image s arena part r
alone {image} {row = row} is_second over past is_row is_set none = record {
  alone = λ _. alone_at is_second over past;
  leaf = λ is. rw (← is_row) (sym (is_filled (has_set image row) _) ∙ ap is_some (sym is_set) ∙ none ∙ ap not is);
}

pub returns-then-alone : goal.returns-then-alone
returns-then-alone c =
    elim c.if-end-part.branch [
      | then-end-part w ↦ alone w.follow.ensures (leb-true _ _ (sym w.alone-is ∙ c.if-alone.true)) w.if-end-part.true c.row_at.ensures c.filled_set.ensures c.is_none.ensures
      | else-end-part w ↦ absurd (let past = leb-true c.args.part.list.end c.args.part.next (sym w.alone-is ∙ c.if-alone.true) in omega (arith, past, w.if-end-part.false))
    ]

pub returns-else-alone : goal.returns-else-alone
returns-else-alone c = rw c.if-alone.false (not_bare _ _ _ _)
