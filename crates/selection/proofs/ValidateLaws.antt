-- The check of an operation is the merge theory's: the marks are cleared, and the two passes run, each with known lists of its own.
-- Assumes what `Checkable` says.
use mathlib.Core.Path.{◌≡◌, refl, sym, ap, ◌∙◌, subst}
use mathlib.Core.Bool.{true, false}
use mathlib.Core.List.{List, [], ◌∷◌}
use Prim.Native.Nat.{ℕ, suc, ◌+◌, ◌-◌, ◌≤◌, min}
use native.Mathlib.Omega.{arith}
use lib.ListN.{length, replicate}
use Rattle.lists.specs.Part.{write, Outside}
use Rattle.merge_theory.specs.Rule.{start}
use Rattle.merge_theory.specs.Steps.{State, Result, finished, conflict, out, deep, Step, after, stop}
use Rattle.merge_theory.specs.Walk.{fresh, begin, walk, pass, passes, check}
use Rattle.merge_theory.proofs.Theorems.{never_deep}
use Rattle.tables.specs.Layout.{fragments, selections}
use Rattle.tables.specs.Image.{count_at}
use Rattle.selection.specs.declared.arena.Arena.{Arena}
use Rattle.selection.specs.declared.arena.Walk as states
use Rattle.expand.specs.ImageDocument.{document_by, limit_of_links}
use Rattle.selection.specs.Regions.{arena_of, Places}
use Rattle.selection.specs.Refining.{document, pass_of, reply_of, most_work, Holds, Tells, Ample, Site}
use Rattle.selection.specs.Validating.{at_start, Within, Runs, Checkable, Validates}
use Rattle.lists.proofs.ClearLaws.{Cleared, cleared}
use Rattle.selection.proofs.RegionLaws.{places, chain_fits, links_fit}
use Rattle.selection.proofs.StandLaws.{classed_kept, in_front}
use Rattle.selection.proofs.RefineLaws.{tells_go, tells_stop}

reply_is : (s : List ℕ) (arena : Arena) (op : ℕ) (z : states.Walk) (r : Result) → Tells s arena op z r → ((y : State) → r ≡ deep y → ⊥) → z.reply ≡ reply_of op r
reply_is s arena op z (finished y) h shallow = h.reply
reply_is s arena op z (conflict e y) h shallow = h
reply_is s arena op z (out y) h shallow = h
reply_is s arena op z (deep y) h shallow = absurd (shallow y refl)

-- the second pass, where the first finished
abbrev second_pass : List ℕ → ℕ → ℕ → Step
second_pass image budget operation y = walk (document image) (pass_of image false) stop operation budget (suc limit_of_links) (operation ∷ []) (fresh y)

both_passes : (image : List ℕ) (budget work used operation : ℕ) → budget ≡ work
    → after (walk (document image) (pass_of image true) stop operation budget (suc limit_of_links) (operation ∷ []) (begin used)) (second_pass image budget operation) ≡ check (document image) work used operation
unfolding check passes pass document_by
both_passes image budget work used operation e = rw e

pub ample_start : (work : ℕ) {budget : ℕ} (operation used : ℕ) → budget ≡ min work most_work → Ample budget 0 (at_start operation used)
ample_start work operation used e = record { going = refl; paid = omega arith; few = omega arith; counted = omega arith; countable = omega arith; budget = omega (arith, e) }

module _ {image : List ℕ} {arena : Arena} {work budget operation used n : ℕ} {s s₁ s₂ : List ℕ} {z₁ : states.Walk} (is-arena : arena ≡ arena_of image budget) (is-budget : budget ≡ min work most_work)
    (is-count : n ≡ count_at image fragments) (is-clear : s₁ ≡ write s arena.marks (replicate (min n (length s - arena.marks)) 0))
    (long₁ : length s₁ ≡ length s) (first : Runs image arena budget operation s₁ s₂ (at_start operation used) true z₁) where
  module _ (can : Checkable image work operation used s) where
    all_work : budget ≡ work
    all_work = omega (arith, is-budget, can.small)

    regions : Places image arena
    regions = places budget can.good is-arena

    room : arena.store + budget + 1 + count_at image selections ≤ length s
    room = rw (is-arena, all_work) can.room

    marks_clear : Cleared arena.marks n s s₁
    marks_clear = cleared is-clear (omega (arith, is-count, room, regions.queue, regions.lasts, regions.heads, regions.chain, regions.links, regions.store))

    outside : Outside arena.marks n s s₁
    outside = marks_clear.outside

    site : Site image arena budget operation s₁ (at_start operation used)
    unfolding document_by
    site = record {
      good = can.good;
      regions = regions;
      chained = omega (arith, chain_fits budget can.good is-arena (omega (arith, is-budget)));
      spread = omega (arith, links_fit budget can.good is-arena (omega (arith, is-budget)));
      sound = can.sound;
      parents = λ r h. outside.below r (omega (arith, in_front regions)) ∙ can.prepared.parents r h;
      classes = classed_kept (λ k h. outside.below k (omega (arith, in_front regions))) can.prepared.classes;
      room = rw long₁ room;
      marks = λ j h. rw (marks_clear.empty j (omega (arith, is-count))) (omega arith);
      within = omega (arith, all_work, can.within);
    }

    within₂ : Within image arena budget s s₂
    within₂ =
        let f = first.frame site refl can.row in
        record {
          long = f.long ∙ long₁;
          below = λ k h. f.below k h ∙ outside.below k h;
          beyond = λ k h. f.beyond k h ∙ outside.above k (omega (arith, is-count, regions.queue, regions.lasts, regions.heads, regions.chain, regions.links, regions.store));
        }

    shaped : Tells s₂ arena operation z₁ (walk (document image) (pass_of image true) stop operation budget (suc limit_of_links) (operation ∷ []) (begin used))
    shaped = first.tells (begin used) site refl can.row refl

    whole : after (walk (document image) (pass_of image true) stop operation budget (suc limit_of_links) (operation ∷ []) (begin used)) (second_pass image budget operation) ≡ check (document image) work used operation
    whole = both_passes image budget work used operation all_work

    shallow : (y : State) → after (walk (document image) (pass_of image true) stop operation budget (suc limit_of_links) (operation ∷ []) (begin used)) (second_pass image budget operation) ≡ deep y → ⊥
    shallow y e = never_deep (document image) can.sound work used operation start y (sym whole ∙ e)

    as_promised : {s' : List ℕ} → Within image arena budget s s' → Within image (arena_of image work) work s s'
    as_promised {s'} w = subst (λ (a : Arena). Within image a work s s') (is-arena ∙ ap (arena_of image) all_work) (subst (λ (b : ℕ). Within image arena b s s') all_work w)

  -- the shape pass found a conflict, or ran out
  pub ends_early : (z₁.reply.kind ≡ 0 → ⊥) → Validates image work operation used s s₂ z₁.reply
  ends_early stop = record {
    long = first.long ∙ long₁;
    replies = λ can.
        reply_is s₂ arena operation z₁ _ (tells_stop s₂ arena operation z₁ _ (second_pass image budget operation) (shaped can) stop) (shallow can) ∙ ap (reply_of operation) (whole can);
    frame = λ can. as_promised can (within₂ can);
  }

  -- both passes ran
  pub ends : z₁.reply.kind ≡ 0 → {s₃ : List ℕ} {z₂ : states.Walk} → Runs image arena budget operation s₂ s₃ z₁ false z₂ → Validates image work operation used s s₃ z₂.reply
  ends go {s₃} {z₂} next = record {
    long = next.long ∙ first.long ∙ long₁;
    replies = λ can.
        reply_is s₃ arena operation z₂ _
        (tells_go s₂ s₃ arena operation z₁ z₂ _ (second_pass image budget operation) (shaped can) go (λ y h. parented can y h)) (shallow can) ∙ ap (reply_of operation) (whole can);
    frame = λ can.
        let w = within₂ can in
        let f = next.frame (site₂ can) (sym first.same) can.row in
        as_promised can (record { long = f.long ∙ w.long; below = λ k h. f.below k h ∙ w.below k h; beyond = λ k h. f.beyond k h ∙ w.beyond k h });
  }
    where
      site₂ : (can : Checkable image work operation used s) → Site image arena budget z₁.reply.operation s₂ z₁
      site₂ can = subst (λ (op : ℕ). Site image arena budget op s₂ z₁) (sym first.same) (first.site (site can) refl can.row go)

      parented : (can : Checkable image work operation used s) (y : State) → Holds s₂ arena operation z₁ y
          → Tells s₃ arena operation z₂ (second_pass image budget operation y)
      parented can y h =
          subst (λ (op : ℕ). Tells s₃ arena op z₂ (walk (document image) (pass_of image false) stop op budget (suc limit_of_links) (operation ∷ []) (fresh y))) first.same
          (next.tells y (site₂ can) (sym first.same) can.row (h.reply ∙ ap (λ op. reply_of op (finished y)) (sym first.same)))
