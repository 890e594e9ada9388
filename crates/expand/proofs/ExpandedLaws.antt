-- What a caller of `expand_selections` and `queue_set` takes from their contracts. Assumes nothing but what each law names.
use mathlib.Core.Path.{◌≡◌, ◌∙◌}
use mathlib.Core.Bool.{false}
use mathlib.Core.List.{List, [], ◌∷◌, ◌++◌}
use Prim.Native.Nat.{ℕ, ◌+◌, ◌-◌, ◌≤◌, ◌<◌, min}
use native.Mathlib.Omega.{arith}
use borrow.Author.Tests.{lt-ltb, le-ltb}
use lib.Dec.{ltb}
use lib.ListN.{length, set}
use Rattle.lists.specs.Part.{Stores, Outside}
use Rattle.lists.proofs.Parts.{pushed, set_outside}
use Rattle.merge_theory.specs.Lists.{Every}
use Rattle.merge_theory.specs.Document.{Document, Sound}
use Rattle.merge_theory.specs.Expand.{expand}
use Rattle.merge_theory.proofs.Theorems.{expand_queue}
use Rattle.expand.specs.declared.Area.{Area}
use Rattle.expand.specs.declared.Expansion.{Expansion}
use Rattle.expand.specs.Expanding.{queue_next, queue_words, list_next, Listed}

-- where the sets at hand are sound, the list is the theory's
pub listed_expand : {image : List ℕ} {area : Area} {D : Document} {s s' : List ℕ} {x : Expansion} {r : ℕ} {starts : List ℕ} {At : ℕ → Type 0}
    → Listed image area D s s' x r starts → Sound D At → Every At starts
    → Stores s' (area.store + x.listed) (r - x.listed) (expand D starts)
listed_expand {D = D} {starts = starts} l sound all =
    record { inside = l.list.inside; words = l.list.words ∙ expand_queue D sound starts all l.visited l.walk }

-- a set is queued, where the queue has room
module _ (area : Area) (x : Expansion) (s : List ℕ) (t : ℕ) (room : area.queue + x.queued < area.end) where
  pub queue_next_lem : queue_next area x ≡ record { queued = x.queued + 1; listed = x.listed; number = x.number }
  unfolding queue_next
  queue_next_lem = rw (lt-ltb _ _ room)

  pub queue_words_lem : queue_words area x s t ≡ set s (area.queue + x.queued) t
  unfolding queue_words
  queue_words_lem = rw (lt-ltb _ _ room)

  pub queue_stores : {sets : List ℕ} → Stores s area.queue x.queued sets → area.end ≤ length s
      → Stores (queue_words area x s t) area.queue (x.queued + 1) (sets ++ (t ∷ []))
  queue_stores {sets} r fits = rw queue_words_lem ((pushed s area.queue x.queued t (omega arith)).words sets r)

  pub queue_outside : Outside (area.queue + x.queued) 1 s (queue_words area x s t)
  queue_outside = rw queue_words_lem (set_outside s (area.queue + x.queued) t)

-- and where it has none, nothing changes
pub queue_full : (area : Area) (x : Expansion) (s : List ℕ) (t : ℕ) {at : ℕ} (here : at ≡ area.queue + x.queued) → area.end ≤ at → (x ≡ queue_next area x) × (s ≡ queue_words area x s t)
unfolding queue_next queue_words
queue_full area x s t here full =
    let past : area.end ≤ area.queue + x.queued = omega arith in
    let full : ltb (area.queue + x.queued) area.end ≡ false = le-ltb _ _ past in
    (rw full, rw full)

-- ---- one place further

pub listed_further : (x : Expansion) → x.listed < 4294967295 → record { queued = x.queued; listed = x.listed + 1; number = x.number } ≡ list_next x
unfolding list_next
listed_further x h =
    let next : min (x.listed + 1) 4294967295 ≡ x.listed + 1 = omega arith in
    rw next
