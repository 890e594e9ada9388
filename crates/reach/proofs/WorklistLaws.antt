-- What becomes of a walk that is under way, step by step. Assumes nothing.
use mathlib.Core.Path.{refl, ◌∙◌}
use mathlib.Core.List.{List}
use Prim.Native.Nat.{ℕ, ◌+◌}
use Rattle.reach.specs.Turns.{turns}
use Rattle.reach.specs.declared.Worklist.{Worklist}
use Rattle.reach.specs.Reach.{Walk}
use Rattle.reach.specs.Worklists.{Same, Goes}
use Rattle.reach.proofs.WalkLaws.{walks_none, walks_turn}

pub same_itself : (w : Worklist) → Same w w
same_itself w = record { image = refl; words = refl }

pub same_on : {w w' w'' : Worklist} → Same w w' → Same w' w'' → Same w w''
same_on p q = record { image = q.image ∙ p.image; words = q.words ∙ p.words }

pub goes_none : (turn : List ℕ → ℕ → Walk → Walk) (w : Worklist) → Goes (λ image. turns (turn image) 0) w w
goes_none turn w = record { same = same_itself w; walks = walks_none w.image.now (turn w.image.now) }

pub goes_turn : (turn : List ℕ → ℕ → Walk → Walk) (i : ℕ) {w w' w'' : Worklist} → Goes (λ image. turns (turn image) i) w w' → Goes (λ image. turn image i) w' w''
    → Goes (λ image. turns (turn image) (i + 1)) w w''
goes_turn turn i {w} p q = record {
  same = same_on p.same q.same;
  walks = walks_turn w.image.now (turn w.image.now) i p.walks (rw p.same.image at q.walks);
}
