-- `find` meets its contract. Assumes nothing.
use native.Mathlib.Omega.{arith}
use borrow.Author.Tests.{leb-true}
use mathlib.Core.Path.{◌≡◌, sym, ◌∙◌}
use mathlib.Core.Logic.{◌⊎◌, inl, inr}
use mathlib.Core.List.{List}
use Prim.Native.Nat.{ℕ, ◌<◌, ◌≤◌}
use Rattle.std.specs.Prelude.{Result, Ok, Err, MatchResult}
use Rattle.std.specs.Result.{result_ok}
use Rattle.lists.specs.Every.{found}
use Rattle.lists.proofs.EveryLaws.{found_none, found_some}
use Rattle.index.specs.declared.Index.{Index}
use Rattle.index.specs.Indexed.{first_place, link_at, Arrives, Ends, Indexed}
use Rattle.index.proofs.SearchLaws.{ends_here, ends_nowhere, goes_on}
use Rattle.index.proofs.IndexLaws.{finds_first, never_indexed}
use Rattle.index.proofs.Index.find.Goals as goal
use Rattle.index.proofs.Index.find.Goals.{else-self-ne0-via-then-self-ne0+else-is_inside, else-self-ne0-via-else-self-ne0}

-- of words that were built, where the search ends is the answer
module _ (s : List ℕ) (index : Index) (key : ℕ) (i : Indexed s index) (some : 0 < index.count) where
  nowhere : {link : ℕ} (e : Ends s index key link) → (link_at s index e.place e.bits ≤ e.place) ⊎ (index.count ≤ link_at s index e.place e.bits)
      → index.count ≤ first_place s index key
  nowhere e (inl back) = let none = ends_nowhere (e.comes.searching.onward _ (finds_first i some key)) e.other back in omega arith
  nowhere e (inr past) =
      let on = goes_on (e.comes.searching.onward _ (finds_first i some key)) e.other (omega (arith, e.comes.inside)) in
      absurd (omega (arith, on.1))

  answer : (r : Result ℕ ℕ) → MatchResult r (λ place. Arrives s index key place) (λ link. Ends s index key link) → result_ok r ≡ found index.count (first_place s index key)
  answer (Ok place) a =
      let here = ends_here (a.comes.searching.onward _ (finds_first i some key)) a.has in
      rw here (sym (found_some a.comes.inside))
  answer (Err link) e = sym (found_none (nowhere e e.ends))

pub descend-requires : goal.descend-requires
descend-requires c = (leb-true _ _ (sym c.is_inside.ensures ∙ c.if-is_inside.true), omega arith)

pub returns-then-is_inside-clause-first : goal.returns-then-is_inside-clause-first
returns-then-is_inside-clause-first c i = c.ok.ensures.value ∙ answer _ _ _ i (omega arith) _ c.descend.ensures

pub returns-else-self-ne0-clause-first : goal.returns-else-self-ne0-clause-first
returns-else-self-ne0-clause-first c i = elim c.else-self-ne0.branch [
  | else-self-ne0-via-then-self-ne0+else-is_inside w ↦ absurd (never_indexed w.if-self-ne0.true (sym w.is_inside.ensures ∙ w.if-is_inside.false) i)
  | else-self-ne0-via-else-self-ne0 w ↦ sym (found_none (omega arith))
]
