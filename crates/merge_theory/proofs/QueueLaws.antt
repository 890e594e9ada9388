-- The queue turn by turn (`visits`) is the queue set by set (`QueueWalk`), as code walks it. Assumes `Sound`, for the number of turns.
use mathlib.Core.Path.{◌≡◌, refl, sym, ap, ◌∙◌, subst, subst₂}
use mathlib.Core.List.{List, [], ◌∷◌, ◌++◌, append-nil, append_assoc}
use Prim.Native.Nat.{ℕ, zero, suc}
use native.Mathlib.Nat.{not-suc-le-zero}
use Rattle.merge_theory.specs.Lists.{Every, flat_map}
use Rattle.merge_theory.specs.Document.{Document, set_of, Sound}
use Rattle.merge_theory.specs.Expand.{entering, marking, queued, marked, QueueWalk, empty, pop, visits}
use Rattle.merge_theory.proofs.ListLaws.{head_in}
use Rattle.merge_theory.proofs.ExpandLaws.{Low, all_low, queued_low}

module _ (D : Document) where
  pub marked_append : (seen rows more : List ℕ) → marked D seen (rows ++ more) ≡ marked D (marked D seen rows) more
  unfolding marked
  marked_append seen [] more = refl
  marked_append seen (r ∷ rows) more = marked_append (marking (D.kind_of r) seen (set_of D r)) rows more

  pub queued_append : (seen rows more : List ℕ) → queued D seen (rows ++ more) ≡ queued D seen rows ++ queued D (marked D seen rows) more
  unfolding queued marked
  queued_append seen [] more = refl
  queued_append seen (r ∷ rows) more =
      ap (λ (l : List ℕ). entering (D.kind_of r) seen (set_of D r) ++ l) (queued_append (marking (D.kind_of r) seen (set_of D r)) rows more)
      ∙ sym (append_assoc (entering (D.kind_of r) seen (set_of D r)) (queued D (marking (D.kind_of r) seen (set_of D r)) rows) _)

  -- one turn: the sets of `queue` leave it one by one, and what they queue stands behind `later`
  turn : (queue later seen visited : List ℕ)
      → QueueWalk D (marked D seen (flat_map D.rows_of queue)) (later ++ queued D seen (flat_map D.rows_of queue)) visited
      → QueueWalk D seen (queue ++ later) (queue ++ visited)
  unfolding flat_map queued marked
  turn [] later seen visited w = subst (λ (q : List ℕ). QueueWalk D seen q visited) (append-nil later) w
  turn (s ∷ queue) later seen visited w =
      pop (subst (λ (q : List ℕ). QueueWalk D (marked D seen rows) q (queue ++ visited))
      (sym (append_assoc queue later (queued D seen rows)))
      (turn queue (later ++ queued D seen rows) (marked D seen rows) visited
      (subst₂ (λ (m q : List ℕ). QueueWalk D m q visited) (marked_append seen rows rest)
      (ap (λ (l : List ℕ). later ++ l) (queued_append seen rows rest) ∙ sym (append_assoc later (queued D seen rows) _)) w)))
    where
      rows : List ℕ
      rows = D.rows_of s

      rest : List ℕ
      rest = flat_map D.rows_of queue

-- the queue is worked off
pub visits_queue : (D : Document) {At : ℕ → Type 0} (S : Sound D At) (n : ℕ) (seen queue : List ℕ) → Low D S n queue
    → QueueWalk D seen queue (visits D n seen queue)
unfolding visits
visits_queue D S zero seen [] low = empty
visits_queue D S zero seen (q ∷ queue) low = absurd (not-suc-le-zero (low q head_in).1)
visits_queue D S (suc n) seen [] low = empty
visits_queue D S (suc n) seen (q ∷ queue) low =
    subst (λ (l : List ℕ). QueueWalk D seen l (visits D (suc n) seen (q ∷ queue))) (append-nil (q ∷ queue))
    (turn D (q ∷ queue) [] seen _ (visits_queue D S n _ _ (queued_low D S n seen (q ∷ queue) low)))

-- a queue walk has one outcome
queue_unique : (D : Document) {seen queue visited visited' : List ℕ} → QueueWalk D seen queue visited → QueueWalk D seen queue visited'
    → visited ≡ visited'
queue_unique D empty empty = refl
queue_unique D (pop {s = s} w) (pop w') = ap (λ (l : List ℕ). s ∷ l) (queue_unique D w w')

-- whoever works it off meets the sets of `visits`
pub visited_once : (D : Document) {At : ℕ → Type 0} (S : Sound D At) (sets visited : List ℕ) → Every At sets → QueueWalk D [] sets visited
    → visited ≡ visits D D.limit [] sets
visited_once D S sets visited all w = queue_unique D w (visits_queue D S D.limit [] sets (all_low D S all))
