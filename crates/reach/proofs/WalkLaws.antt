-- The lent words of the walk: what a step of the code makes of the walk that they hold, a law for each way out.
-- Assumes nothing.
use mathlib.Core.Path.{◌≡◌, refl, sym, ap, subst, ◌∙◌}
use mathlib.Core.Logic.{inl, inr}
use mathlib.Core.List.{List, [], ◌∷◌, ◌++◌}
use Prim.Native.Nat.{ℕ, zero, suc, ◌+◌, ◌-◌, ◌≤◌, ◌<◌, min}
use native.Mathlib.Omega.{arith}
use native.Mathlib.Numerals.{add-one}
use lib.ListN.{length, get_or, set, replicate, length-replicate, length-set}
use lib.Seq.{take-set-lt}
use borrow.Author.Tests.{lt-ltb, le-ltb, eq-eqb, ne_eqb}
use Rattle.lists.specs.Part.{part, write, Stores, Outside}
use Rattle.lists.proofs.Parts.{set_outside, outside_wider, outside_trans, outside_none, stores_kept, stores_length, stores_get_or, stores_written, stores_none, write_outside, pushed}
use Rattle.tables.specs.Layout.{sets}
use Rattle.tables.specs.declared.Range.{Range}
use Rattle.tables.specs.Image.{count_at, row_in}
use Rattle.tables.specs.Columns.{set_selections}
use Rattle.reach.specs.Turns.{turns}
use Rattle.reach.specs.Reach.{Walk, queue_set, mark_set, enter_set, walk_selection, walk_set, walk_queue, none_met, walk_words, Holds, Walks, Walked}

-- one turn more
pub turns_more : {A : Type 0} (turn : ℕ → A → A) (n : ℕ) (a : A) → turn n (turns turn n a) ≡ turns turn (n + 1) a
unfolding turns
turns_more turn n a = rw add-one

module _ (image : List ℕ) where
  -- ---- steps one after the other

  pub walks_idle : {step : Walk → Walk} {s : List ℕ} {n : ℕ} → ((w : Walk) → Holds image s n w → w ≡ step w) → Walks image step s n s n
  walks_idle {step} {s} {n} same =
      record { few = λ h. h; holds = λ w h. rw (← same w h) h; frame = outside_none 0 (walk_words image) s }

  pub walks_then : {f g : Walk → Walk} {s s' s'' : List ℕ} {n n' n'' : ℕ} → Walks image f s n s' n' → Walks image g s' n' s'' n'' → Walks image (λ w. g (f w)) s n s'' n''
  walks_then p q =
      record { few = λ h. q.few (p.few h); holds = λ w h. q.holds _ (p.holds w h); frame = outside_trans p.frame q.frame }

  pub walks_as : {f g : Walk → Walk} {s s' : List ℕ} {n n' : ℕ} → Walks image f s n s' n' → ((w : Walk) → Holds image s n w → f w ≡ g w) → Walks image g s n s' n'
  walks_as p same = record { few = p.few; holds = λ w h. rw (← same w h) (p.holds w h); frame = p.frame }

  -- ---- one set more in the queue

  queued_there : (t n : ℕ) (w : Walk) (s : List ℕ) → n < count_at image sets → Holds image s n w → Holds image (set s (count_at image sets + n) t) (n + 1) (queue_set image t w)
  unfolding queue_set
  queued_there t n w s less h =
      let long = stores_length h.queue in
      let room : walk_words image ≤ length s = h.room in
      let more : Stores (set s (count_at image sets + n) t) (count_at image sets) (n + 1) (w.queue ++ (t ∷ [])) = (pushed s (count_at image sets) n t (omega arith)).words _ h.queue in
      let fits : length w.queue < count_at image sets = omega arith in
      record {
        room = rw length-set room;
        few = omega arith;
        marks = stores_kept (set_outside s (count_at image sets + n) t) h.marks (inl (omega arith));
        queue = rw (lt-ltb _ _ fits) more;
      }

  pub queue_more : {s s' : List ℕ} {n at : ℕ} (t : ℕ) → n < count_at image sets → at ≡ count_at image sets + n → s' ≡ set s at t → Walks image (queue_set image t) s n s' (n + 1)
  queue_more {s} {s'} {n} {at} t less e e' =
      rw (e', e)
      (record {
        few = λ h. omega arith;
        holds = λ w h. queued_there t n w s less h;
        frame = outside_wider (set_outside s (count_at image sets + n) t) 0 (walk_words image) (omega arith) (omega arith);
      })

  pub queue_full : {s : List ℕ} {n : ℕ} (t : ℕ) → count_at image sets ≤ n → Walks image (queue_set image t) s n s n
  unfolding queue_set
  queue_full {s} {n} t full = walks_idle same
    where
      same : (w : Walk) → Holds image s n w → w ≡ queue_set image t w
      same w h =
          let long = stores_length h.queue in
          let past : count_at image sets ≤ length w.queue = omega arith in
          rw (le-ltb _ _ past)

  -- ---- a set is met

  pub enter_none : {s : List ℕ} {n : ℕ} (mark t : ℕ) → count_at image sets ≤ t → Walks image (enter_set image mark t) s n s n
  unfolding enter_set
  enter_none {s} {n} mark t past = walks_idle same
    where
      same : (w : Walk) → Holds image s n w → w ≡ enter_set image mark t w
      same w h = rw (le-ltb _ _ past)

  module _ {s s' : List ℕ} {before : ℕ} (mark t : ℕ) (less : t < count_at image sets) (read : before ≡ get_or s t 0) (stored : s' ≡ set s t mark) where
    part_set : (ms : List ℕ) → Stores s 0 (count_at image sets) ms → Stores (set s t mark) 0 (count_at image sets) (set ms t mark)
    unfolding part
    part_set ms r =
        record { inside = rw length-set r.inside; words = take-set-lt (count_at image sets) s t mark less ∙ ap (λ (l : List ℕ). set l t mark) r.words }

    marks_set : {n : ℕ} → Walks image (mark_set image mark t) s n s' n
    unfolding mark_set
    marks_set =
        rw stored
        (record {
          few = λ h. h;
          holds = λ w h.
              let room : walk_words image ≤ length s = h.room in
              record {
                room = rw length-set room;
                few = h.few;
                marks = part_set _ h.marks;
                queue = stores_kept (set_outside s t mark) h.queue (inr (omega arith));
              };
          frame = outside_wider (set_outside s t mark) 0 (walk_words image) (omega arith) (omega arith);
        })

    mark_of : {n : ℕ} (w : Walk) → Holds image s n w → get_or w.marks t 0 ≡ before
    mark_of w h =
        let place : 0 + t ≡ t = omega arith in
        sym (stores_get_or h.marks t less) ∙ ap (λ (k : ℕ). get_or s k 0) place ∙ sym read

    pub enter_first : {s'' : List ℕ} {n n' : ℕ} → before ≡ 0 → Walks image (queue_set image t) s' n s'' n' → Walks image (enter_set image mark t) s n s'' n'
    unfolding enter_set
    enter_first {n = n} zero-mark p = walks_as (walks_then marks_set p) same
      where
        same : (w : Walk) → Holds image s n w → queue_set image t (mark_set image mark t w) ≡ enter_set image mark t w
        same w h = rw (lt-ltb _ _ less, eq-eqb _ _ (mark_of w h ∙ zero-mark))

    pub enter_again : {n : ℕ} → (before ≡ 0 → ⊥) → Walks image (enter_set image mark t) s n s' n
    unfolding enter_set
    enter_again {n} marked = walks_as marks_set same
      where
        same : (w : Walk) → Holds image s n w → mark_set image mark t w ≡ enter_set image mark t w
        same w h = rw (lt-ltb _ _ less, ne_eqb _ _ (λ e. marked (sym (mark_of w h) ∙ e)))

  pub enter_at : {s s' : List ℕ} {n n' : ℕ} (mark t t' : ℕ) → Walks image (enter_set image mark t) s n s' n' → t ≡ t' → Walks image (enter_set image mark t') s n s' n'
  enter_at mark t t' p e = rw (← e) p

  -- ---- in turns

  pub walks_none : (turn : ℕ → Walk → Walk) {s : List ℕ} {n : ℕ} → Walks image (turns turn 0) s n s n
  unfolding turns
  walks_none turn = walks_idle (λ w h. refl)

  pub walks_turn : (turn : ℕ → Walk → Walk) {s s' s'' : List ℕ} {n n' n'' : ℕ} (i : ℕ) → Walks image (turns turn i) s n s' n' → Walks image (turn i) s' n' s'' n'' → Walks image (turns turn (i + 1)) s n s'' n''
  walks_turn turn i p q = walks_as (walks_then p q) (λ w h. turns_more turn i w)

  -- the turns have all been
  pub walks_all : (turn : ℕ → Walk → Walk) {s s' : List ℕ} {n n' : ℕ} (i j : ℕ) → Walks image (turns turn i) s n s' n' → i ≡ j → Walks image (turns turn j) s n s' n'
  walks_all turn i j p e = rw (← e) p

  rows_as : {s s' : List ℕ} {n n' : ℕ} (rows rows' : Range) → rows ≡ rows' → Walks image (turns (λ k. walk_selection image (row_in rows k)) rows.count) s n s' n' → Walks image (turns (λ k. walk_selection image (row_in rows' k)) rows'.count) s n s' n'
  rows_as rows rows' read p = rw (← read) p

  pub walks_rows : {s s' : List ℕ} {n n' : ℕ} (t i : ℕ) (rows : Range) → Walks image (turns (λ k. walk_selection image (row_in rows k)) i) s n s' n' → rows ≡ set_selections image t → i ≡ rows.count → Walks image (walk_set image t) s n s' n'
  unfolding walk_set
  walks_rows t i rows p read all = rows_as rows (set_selections image t) read (walks_all _ _ _ p all)

  -- ---- the start

  module _ (s : List ℕ) where
    zeros : ℕ → List ℕ
    zeros k = write s 0 (replicate k 0)

    zeros_frame : (k : ℕ) → k ≤ length s → k ≤ count_at image sets → Outside 0 (walk_words image) s (zeros k)
    unfolding zeros
    zeros_frame k inside few =
        let size = length-replicate {A = ℕ} k 0 in
        outside_wider (write_outside s 0 (replicate k 0) (omega arith)) 0 (walk_words image) (omega arith) (omega arith)

    zeros_hold : walk_words image ≤ length s → Holds image (zeros (count_at image sets)) 0 (none_met image)
    unfolding none_met zeros
    zeros_hold room =
        let size = length-replicate {A = ℕ} (count_at image sets) 0 in
        let long : length (write s 0 (replicate (count_at image sets) 0)) ≡ length s = (zeros_frame (count_at image sets) (omega arith) (omega arith)).long in
        record {
          room = rw long room;
          few = omega arith;
          marks = subst (λ (k : ℕ). Stores (write s 0 (replicate (count_at image sets) 0)) 0 k (replicate (count_at image sets) 0)) size (stores_written s 0 (replicate (count_at image sets) 0) (omega arith));
          queue = stores_none _ (count_at image sets) (rw long (omega arith));
        }

    pub starts : {s' s'' : List ℕ} {n : ℕ} {step : Walk → Walk} → s' ≡ write s 0 (replicate (min (count_at image sets) (length s - 0)) 0) → Walks image step s' 0 s'' n → Walked image (step (none_met image)) s s'' n
    unfolding zeros
    starts {s'} cleared p =
        let outside : Outside 0 (walk_words image) s s' = rw cleared (zeros_frame (min (count_at image sets) (length s - 0)) (omega arith) (omega arith)) in
        record { few = p.few (omega arith); holds = λ room. p.holds _ (held room); frame = outside_trans outside p.frame }
      where
        held : walk_words image ≤ length s → Holds image s' 0 (none_met image)
        held room =
            let size : min (count_at image sets) (length s - 0) ≡ count_at image sets = omega arith in
            rw (cleared, size) (zeros_hold room)

  -- ---- the queue, under way at `at`

  pub record Going (s₀ : List ℕ) (n₀ : ℕ) (s : List ℕ) (n at : ℕ) : Type 0 where
    pub few : n ≤ count_at image sets
    pub frame : Outside 0 (walk_words image) s₀ s
    pub now : (w₀ : Walk) → Holds image s₀ n₀ w₀ → (w : Walk) × Holds image s n w × (walk_queue image (count_at image sets - at) at w ≡ walk_queue image (count_at image sets) 0 w₀)

  pub going_begins : {s : List ℕ} {n : ℕ} → n ≤ count_at image sets → Going s n s n 0
  going_begins {s} few =
      let all : count_at image sets - 0 ≡ count_at image sets = omega arith in
      record { few = few; frame = outside_none 0 (walk_words image) s; now = λ w h. (w, h, rw all refl) }

  goes_step : (at n : ℕ) (w : Walk) → at < n → n ≤ count_at image sets → length w.queue ≡ n
      → walk_queue image (count_at image sets - (at + 1)) (at + 1) (walk_set image (get_or w.queue at 0) w) ≡ walk_queue image (count_at image sets - at) at w
  unfolding walk_queue
  goes_step at n w less few long =
      let steps : count_at image sets - at ≡ suc (count_at image sets - (at + 1)) = omega arith in
      let there : at < length w.queue = omega arith in
      rw (steps, lt-ltb _ _ there, add-one)

  pub going_on : {s₀ s s' : List ℕ} {n₀ n n' at set : ℕ} → Going s₀ n₀ s n at → at < n → set ≡ get_or s (count_at image sets + at) 0 → Walks image (walk_set image set) s n s' n' → Going s₀ n₀ s' n' (at + 1)
  going_on {s₀} {s} {s'} {n₀} {n} {n'} {at} {set} g less read p =
      record { few = p.few g.few; frame = outside_trans g.frame p.frame; now = λ w₀ h₀. later w₀ (g.now w₀ h₀) }
    where
      later : (w₀ : Walk) → (w : Walk) × Holds image s n w × (walk_queue image (count_at image sets - at) at w ≡ walk_queue image (count_at image sets) 0 w₀)
          → (w : Walk) × Holds image s' n' w × (walk_queue image (count_at image sets - (at + 1)) (at + 1) w ≡ walk_queue image (count_at image sets) 0 w₀)
      later w₀ (w, h, e) =
          let same : get_or w.queue at 0 ≡ set = sym (stores_get_or h.queue at less) ∙ sym read in
          (walk_set image set w, p.holds w h, rw (← same) (goes_step at n w less h.few (stores_length h.queue) ∙ e))

  -- where the queue has ended, no step more changes anything
  pub walk_ends : (steps at : ℕ) (w : Walk) → length w.queue ≤ at → walk_queue image steps at w ≡ w
  unfolding walk_queue
  walk_ends zero at w past = refl
  walk_ends (suc steps) at w past = rw (le-ltb _ _ past)

  pub going_ends : {w₀ : Walk} {s₋ s₀ s : List ℕ} {n₀ n at : ℕ} → Walked image w₀ s₋ s₀ n₀ → Going s₀ n₀ s n at → n ≤ at → Walked image (walk_queue image (count_at image sets) 0 w₀) s₋ s n
  going_ends {w₀} {s₋} {s₀} {s} {n₀} {n} {at} started g past =
      record { few = g.few; frame = outside_trans started.frame g.frame; holds = λ room. last (g.now w₀ (started.holds room)) }
    where
      last : (w : Walk) × Holds image s n w × (walk_queue image (count_at image sets - at) at w ≡ walk_queue image (count_at image sets) 0 w₀) → Holds image s n (walk_queue image (count_at image sets) 0 w₀)
      last (w, h, e) =
          let long = stores_length h.queue in
          let done : walk_queue image (count_at image sets - at) at w ≡ w = walk_ends _ at w (omega arith) in
          rw (← e, done) h

  -- ---- what a crate above reads in the words

  pub held_mark : {s : List ℕ} {n : ℕ} {w : Walk} → Holds image s n w → (t : ℕ) → t < count_at image sets → get_or s t 0 ≡ get_or w.marks t 0
  held_mark {s} h t less =
      let place : 0 + t ≡ t = omega arith in
      ap (λ (k : ℕ). get_or s k 0) (sym place) ∙ stores_get_or h.marks t less

  pub held_set : {s : List ℕ} {n : ℕ} {w : Walk} → Holds image s n w → (i : ℕ) → i < n → get_or s (count_at image sets + i) 0 ≡ get_or w.queue i 0
  held_set h i less = stores_get_or h.queue i less

  pub held_count : {s : List ℕ} {n : ℕ} {w : Walk} → Holds image s n w → length w.queue ≡ n
  held_count h = stores_length h.queue
