-- The theorems of this crate, on an image without fault: the walk's queue has the sets that are reached, and its marks say which fragments
-- are spread in them. Assumes nothing.
use mathlib.Core.Path.{◌≡◌, sym, ◌∙◌}
use mathlib.Core.Logic.{◌↔◌}
use mathlib.Core.Bool.{true}
use mathlib.Core.List.{List}
use Prim.Native.Nat.{ℕ, ◌+◌, ◌≤◌, ◌<◌}
use native.Mathlib.Omega.{arith}
use lib.Dec.{eqb}
use lib.ListN.{length, get_or}
use borrow.Author.Tests.{eq-eqb, eqb-true}
use Rattle.tables.specs.declared.Range.{Range}
use Rattle.tables.specs.Layout.{fragments, sets}
use Rattle.tables.specs.Image.{count_at}
use Rattle.tables.specs.Columns.{fragment_set}
use Rattle.tables.specs.Good.{Good}
use Rattle.reach.specs.Reach.{ReachedFrom, SpreadFrom, led, reached_from, walk_words, Walked}
use Rattle.reach.proofs.WalkLaws.{held_mark, held_set, held_count}
use Rattle.reach.proofs.ReachMeaning.{queued_reached, reached_queued, marked_spread, spread_marked}

module _ (image : List ℕ) (good : Good image) (range : Range) (within : range.first + range.count ≤ count_at image sets)
    {s s' : List ℕ} {n : ℕ} (walked : Walked image (reached_from image range) s s' n) (room : walk_words image ≤ length s) where
  -- a set stands in the queue exactly if the range reaches it
  pub queue_exactly : (t : ℕ) → ((i : ℕ) × (i < n) × (get_or s' (count_at image sets + i) 0 ≡ t)) ↔ ReachedFrom image range t
  queue_exactly t = (to, from)
    where
      to : (i : ℕ) × (i < n) × (get_or s' (count_at image sets + i) 0 ≡ t) → ReachedFrom image range t
      to (i, less, e) =
          let held = walked.holds room in
          let count = held_count image held in
          queued_reached image good range within t (record { place = i; inside = omega arith; found = sym (held_set image held i less) ∙ e })

      from : ReachedFrom image range t → (i : ℕ) × (i < n) × (get_or s' (count_at image sets + i) 0 ≡ t)
      from r =
          let held = walked.holds room in
          let count = held_count image held in
          let a = reached_queued image good range within t r in
          let inside = a.inside in
          (a.place, omega arith, held_set image held a.place (omega arith) ∙ a.found)

  -- `is_spread` says whether a fragment is spread in a set that the range reaches
  pub spread_exactly : (f : ℕ) → f < count_at image fragments → (eqb (get_or s' (fragment_set image f) 0) led ≡ true) ↔ SpreadFrom image range f
  spread_exactly f known = (to, from)
    where
      read : get_or s' (fragment_set image f) 0 ≡ get_or (reached_from image range).marks (fragment_set image f) 0
      read = held_mark image (walked.holds room) (fragment_set image f) (good.fragment f known).set

      to : eqb (get_or s' (fragment_set image f) 0) led ≡ true → SpreadFrom image range f
      to e = marked_spread image good range within f known (sym read ∙ eqb-true _ _ e)

      from : SpreadFrom image range f → eqb (get_or s' (fragment_set image f) 0) led ≡ true
      from h = eq-eqb _ _ (read ∙ spread_marked image good range within f known h)
