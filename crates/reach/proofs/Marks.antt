-- How many marks are set, and what meeting a set does to a walk: every set stands in the queue once, and just if it is marked.
-- Assumes nothing.
use mathlib.Core.Path.{◌≡◌, refl, sym, ap, subst, ◌∙◌}
use mathlib.Core.Logic.{◌⊎◌, inl, inr}
use mathlib.Core.Bool.{Bool, true, false, cond}
use mathlib.Core.List.{List, [], ◌∷◌, ◌++◌}
use Prim.Native.Nat.{ℕ, zero, suc, ◌+◌, ◌≤◌, ◌<◌, zero-le}
use native.Mathlib.Nat.{not-suc-le-zero, le_of_suc-le-suc}
use native.Mathlib.Decide.{ℕ_discrete}
use native.Mathlib.Omega.{arith}
use lib.Dec.{eqb, ltb}
use lib.ListN.{length, get_or, set, replicate, length-replicate, length-set, length-append, get_or-append, get_or-eq_default, get_or-replicate}
use lib.Seq.{get_or-set_same, get_or-set_other, get_or-append_seam}
use borrow.Author.Tests.{lt-ltb, le-ltb, eq-eqb, ne_eqb, eqb-true, eqb-false}
use Rattle.lists.proofs.Parts.{le_or_lt}
use Rattle.tables.specs.Layout.{sets}
use Rattle.tables.specs.Image.{count_at}
use Rattle.reach.specs.Reach.{Walk, Among, queue_set, mark_set, enter_set, none_met}

-- ---- how many are set

pub marked : List ℕ → ℕ
marked [] = 0
marked (m ∷ ms) = cond (eqb m 0) (marked ms) (suc (marked ms))

marked_le : (l : List ℕ) → marked l ≤ length l
unfolding marked
marked_le [] = zero-le
marked_le (m ∷ ms) = go (eqb m 0) (marked_le ms)
  where
    go : (b : Bool) → marked ms ≤ length ms → cond b (marked ms) (suc (marked ms)) ≤ suc (length ms)
    go true h = omega arith
    go false h = omega arith

marked_none : (n : ℕ) → marked (replicate n 0) ≡ 0
unfolding marked
marked_none zero = refl
marked_none (suc n) = marked_none n

module _ (m : ℕ) (set_mark : m ≡ 0 → ⊥) where
  marked_first : (l : List ℕ) (t : ℕ) → t < length l → get_or l t 0 ≡ 0 → marked (set l t m) ≡ suc (marked l)
  unfolding marked
  marked_first [] t h e = absurd (not-suc-le-zero h)
  marked_first (x ∷ l) zero h e = rw (ne_eqb _ _ set_mark, eq-eqb _ _ e)
  marked_first (x ∷ l) (suc t) h e = go (eqb x 0) (marked_first l t (le_of_suc-le-suc h) e)
    where
      go : (b : Bool) → marked (set l t m) ≡ suc (marked l) → cond b (marked (set l t m)) (suc (marked (set l t m))) ≡ suc (cond b (marked l) (suc (marked l)))
      go true p = p
      go false p = ap suc p

  marked_again : (l : List ℕ) (t : ℕ) → (get_or l t 0 ≡ 0 → ⊥) → marked (set l t m) ≡ marked l
  unfolding marked
  marked_again [] t n = refl
  marked_again (x ∷ l) zero n = rw (ne_eqb _ _ set_mark, ne_eqb _ _ n)
  marked_again (x ∷ l) (suc t) n = ap (λ (k : ℕ). cond (eqb x 0) k (suc k)) (marked_again l t n)

-- ---- a walk in which every set stands in the queue once, and just if it is marked

module _ (image : List ℕ) where
  abbrev pub mark_of : Walk → ℕ → ℕ
  mark_of w t = get_or w.marks t 0

  pub record Sane (w : Walk) : Type 0 where
    pub long : length w.marks ≡ count_at image sets
    pub size : length w.queue ≡ marked w.marks
    pub met : (i : ℕ) → i < length w.queue → mark_of w (get_or w.queue i 0) ≡ 0 → ⊥
    pub queued : (t : ℕ) → (mark_of w t ≡ 0 → ⊥) → Among t w.queue

  -- never more sets than there are
  pub sane_few : {w : Walk} → Sane w → length w.queue ≤ count_at image sets
  sane_few {w} s = omega (arith, s.long, s.size, marked_le w.marks)

  -- a marked set is a set
  pub marked_known : {w : Walk} → Sane w → (t : ℕ) → (mark_of w t ≡ 0 → ⊥) → t < count_at image sets
  marked_known {w} s t n = pick (le_or_lt (count_at image sets) t)
    where
      pick : (count_at image sets ≤ t) ⊎ (t < count_at image sets) → t < count_at image sets
      pick (inl h) = absurd (n (get_or-eq_default w.marks 0 (rw s.long h)))
      pick (inr h) = h

  pub none_marked : (t : ℕ) → mark_of (none_met image) t ≡ 0
  unfolding none_met
  none_marked t = pick (le_or_lt (count_at image sets) t)
    where
      pick : (count_at image sets ≤ t) ⊎ (t < count_at image sets) → ◌≡◌ {A = ℕ} (get_or (replicate (count_at image sets) 0) t 0) 0
      pick (inl h) = get_or-eq_default (replicate (count_at image sets) 0) 0 (rw (length-replicate {A = ℕ} (count_at image sets) 0) h)
      pick (inr h) = get_or-replicate _ t 0 0 h

  pub sane_none : Sane (none_met image)
  unfolding none_met
  sane_none =
      record {
        long = length-replicate _ _;
        size = sym (marked_none (count_at image sets));
        met = λ i h e. not-suc-le-zero h;
        queued = λ t n. absurd (n (none_marked t));
      }

  -- what meeting a set does
  pub record Entered (m t : ℕ) (w w' : Walk) : Type 0 where
    pub here : t < count_at image sets → mark_of w' t ≡ m
    pub elsewhere : (u : ℕ) → (u ≡ t → ⊥) → mark_of w' u ≡ mark_of w u
    pub nowhere : count_at image sets ≤ t → w' ≡ w
    pub longer : length w.queue ≤ length w'.queue
    pub same : (i : ℕ) → i < length w.queue → get_or w'.queue i 0 ≡ get_or w.queue i 0
    pub sane : Sane w'

  module _ (m t : ℕ) (set_mark : m ≡ 0 → ⊥) (w : Walk) (s : Sane w) where
    past : count_at image sets ≤ t → Entered m t w w
    past h =
        record { here = λ less. absurd (omega arith); elsewhere = λ u n. refl; nowhere = λ _. refl; longer = omega arith; same = λ i l. refl; sane = s }

    module _ (less : t < count_at image sets) where
      inside : t < length w.marks
      inside = rw s.long less

      mark_here : get_or (set w.marks t m) t 0 ≡ m
      mark_here = get_or-set_same w.marks t m 0 inside

      stays_marked : (u : ℕ) → (mark_of w u ≡ 0 → ⊥) → get_or (set w.marks t m) u 0 ≡ 0 → ⊥
      stays_marked u n e =
          elim (ℕ_discrete u t) [
            | yes p ↦ set_mark (sym (subst (λ (k : ℕ). get_or (set w.marks t m) k 0 ≡ m) (sym p) mark_here) ∙ e)
            | no q ↦ n (sym (get_or-set_other w.marks t u m 0 q) ∙ e)
          ]

      was_marked : (u : ℕ) → (u ≡ t → ⊥) → (get_or (set w.marks t m) u 0 ≡ 0 → ⊥) → mark_of w u ≡ 0 → ⊥
      was_marked u q n e = n (get_or-set_other w.marks t u m 0 q ∙ e)

      again : (mark_of w t ≡ 0 → ⊥) → Entered m t w (mark_set image m t w)
      unfolding mark_set
      again n =
          record {
            here = λ _. mark_here;
            elsewhere = λ u q. get_or-set_other w.marks t u m 0 q;
            nowhere = λ h. absurd (omega arith);
            longer = omega arith;
            same = λ i l. refl;
            sane = record {
              long = length-set w.marks t m ∙ s.long;
              size = s.size ∙ sym (marked_again m set_mark w.marks t n);
              met = λ i l. stays_marked _ (s.met i l);
              queued = λ u r. elim (ℕ_discrete u t) [
                | yes p ↦ s.queued u (rw p n)
                | no q ↦ s.queued u (was_marked u q r)
              ];
            };
          }

      among_more : (u : ℕ) → Among u w.queue → Among u (w.queue ++ (t ∷ []))
      among_more u a =
          record {
            place = a.place;
            inside = simp length-append (omega (arith, a.inside));
            found = get_or-append w.queue (t ∷ []) 0 a.place a.inside ∙ a.found;
          }

      first_met : (i : ℕ) → i < length (w.queue ++ (t ∷ [])) → get_or (set w.marks t m) (get_or (w.queue ++ (t ∷ [])) i 0) 0 ≡ 0 → ⊥
      first_met i l e = pick (le_or_lt (length w.queue) i)
        where
          total : i < length w.queue + 1
          total = simp length-append at l

          last : i ≡ length w.queue → get_or (w.queue ++ (t ∷ [])) i 0 ≡ t
          last p = rw p (get_or-append_seam w.queue t [] 0)

          pick : (length w.queue ≤ i) ⊎ (i < length w.queue) → ⊥
          pick (inl h) =
              let end : i ≡ length w.queue = omega (arith, total) in
              set_mark (sym mark_here ∙ ap (λ (k : ℕ). get_or (set w.marks t m) k 0) (sym (last end)) ∙ e)
          pick (inr h) =
              stays_marked (get_or w.queue i 0) (s.met i h)
              (ap (λ (k : ℕ). get_or (set w.marks t m) k 0) (sym (get_or-append w.queue (t ∷ []) 0 i h)) ∙ e)

      first : mark_of w t ≡ 0 → Entered m t w (queue_set image t (mark_set image m t w))
      unfolding queue_set mark_set
      first z =
          let more = marked_first m set_mark w.marks t inside z in
          let most = marked_le (set w.marks t m) in
          let long = length-set w.marks t m in
          let fits : length w.queue < count_at image sets = omega (arith, s.size, s.long) in
          rw (lt-ltb _ _ fits)
          (record {
            here = λ _. mark_here;
            elsewhere = λ u q. get_or-set_other w.marks t u m 0 q;
            nowhere = λ h. absurd (omega arith);
            longer = simp length-append (omega arith);
            same = λ i l. get_or-append w.queue (t ∷ []) 0 i l;
            sane = record {
              long = long ∙ s.long;
              size = simp length-append (omega (arith, s.size, more));
              met = first_met;
              queued = λ u r. elim (ℕ_discrete u t) [
                | yes p ↦ record { place = length w.queue; inside = simp length-append (omega arith); found = get_or-append_seam w.queue t [] 0 ∙ sym p }
                | no q ↦ among_more u (s.queued u (was_marked u q r))
              ];
            };
          })

    pub entered : Entered m t w (enter_set image m t w)
    unfolding enter_set
    entered = pick (le_or_lt (count_at image sets) t)
      where
        marked_or : (less : t < count_at image sets) (b : Bool) → eqb (mark_of w t) 0 ≡ b → Entered m t w (cond b (queue_set image t (mark_set image m t w)) (mark_set image m t w))
        marked_or less true e = first less (eqb-true _ _ e)
        marked_or less false e = again less (eqb-false _ _ e)

        pick : (count_at image sets ≤ t) ⊎ (t < count_at image sets) → Entered m t w (cond (ltb t (count_at image sets)) (cond (eqb (mark_of w t) 0) (queue_set image t (mark_set image m t w)) (mark_set image m t w)) w)
        pick (inl h) = rw (le-ltb _ _ h) (past h)
        pick (inr h) = rw (lt-ltb _ _ h) (marked_or h (eqb (mark_of w t) 0) refl)
