-- `build_firsts` meets its contract. Assumes nothing.
use native.Mathlib.Omega.{arith}
use borrow.Author.Tests.{leb-true}
use mathlib.Core.Path.{sym, ◌∙◌}
use mathlib.Core.Bool.{false≢true}
use Rattle.index.proofs.FirstsLaws.{none_told, not_told}
use Rattle.index.proofs.Index.build_firsts.Goals as goal
use Rattle.index.proofs.Index.build_firsts.Goals.{else-self-ne0-via-then-self-ne0+then-to-s+then-is_inside+else-is_apart, else-self-ne0-via-then-self-ne0+then-to-s+else-is_inside, else-self-ne0-via-then-self-ne0+else-to-s, else-self-ne0-via-else-self-ne0}

pub link_all-requires : goal.link_all-requires
link_all-requires c =
    (leb-true _ _ (sym c.is_inside.ensures ∙ c.if-is_inside.true), omega arith, c.is_apart.ensures.0 c.if-is_apart.true, omega arith)

pub returns-else-self-ne0 : goal.returns-else-self-ne0
returns-else-self-ne0 c = elim c.else-self-ne0.branch [
  | else-self-ne0-via-then-self-ne0+then-to-s+then-is_inside+else-is_apart w ↦ none_told _ _ _ (λ some inside a room. false≢true (sym w.if-is_apart.false ∙ w.is_apart.ensures.1 a))
  | else-self-ne0-via-then-self-ne0+then-to-s+else-is_inside w ↦ not_told _ _ _ (sym w.is_inside.ensures ∙ w.if-is_inside.false)
  | else-self-ne0-via-then-self-ne0+else-to-s w ↦ none_told _ _ _ (λ some inside a room. omega arith)
  | else-self-ne0-via-else-self-ne0 w ↦ none_told _ _ _ (λ some inside a room. omega arith)
]
