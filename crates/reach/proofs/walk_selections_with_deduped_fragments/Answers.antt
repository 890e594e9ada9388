-- `reach::walk_selections_with_deduped_fragments` meets its contract. The loop's invariant: the sets passed are walked, and
-- what is left of the walk leads to the whole walk's end. Assumes nothing.
use native.Mathlib.Omega.{arith}
use mathlib.Core.Path.{◌≡◌, refl, ◌∙◌}
use mathlib.Core.List.{List}
use Prim.Native.Nat.{ℕ}
use Rattle.tables.specs.Layout.{sets}
use Rattle.tables.proofs.Counts.{count_fits}
use Rattle.reach.proofs.WalkLaws.{going_begins, going_on, going_ends}
use Rattle.reach.specs.Reach.{Walk, reached_from, Walked}
use Rattle.reach.proofs.walk_selections_with_deduped_fragments.Goals as goal

pub loop-walked-init : goal.loop-walked-init
loop-walked-init c = record {
  image = c.start_sets.ensures.same.image;
  words = refl;
  going = going_begins _ c.start_sets.ensures.walked.few;
}

pub loop-walked-preserved : goal.loop-walked-preserved
loop-walked-preserved c =
    let l = c.loop-walked.invariant in
    let walks = c.walk_set.ensures.walks in
    record {
      image = c.walk_set.ensures.same.image ∙ l.image;
      words = c.walk_set.ensures.same.words ∙ l.words;
      going = going_on _ l.going (omega arith) (rw l.image at c.set_at-set.ensures) (rw l.image at walks);
    }

ended : {image s s' x : List ℕ} {n : ℕ} {w : Walk} → Walked image w s s' n → x ≡ s' → Walked image w s x n
ended walked e = rw e walked

pub overflow_add-walked : goal.overflow_add-walked
overflow_add-walked c = omega (arith, count_fits c.args.image.now (λ k. omega (arith, c.type_inv.image k)) sets)

pub returns : goal.returns
unfolding reached_from
returns c =
    let name = c.loop-walked.invariant.words ∙ c.start_sets.ensures.same.words in
    ended (going_ends _ c.start_sets.ensures.walked c.loop-walked.invariant.going (omega arith)) (grind (arith, name))
