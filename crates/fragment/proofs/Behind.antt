-- The words behind the heights: what a walk that is lent them leaves, and what stays as it was. Assumes nothing.
use Prim.Native.Nat.{ℕ, ◌+◌, ◌*◌, ◌-◌, ◌<◌, ◌≤◌, zero-le}
use mathlib.Core.Path.{◌≡◌, refl, sym, ap, ◌∙◌}
use mathlib.Core.Bool.{Bool, true, false, not}
use mathlib.Core.List.{List, ◌++◌}
use native.Mathlib.Nat.{le_refl}
use native.Mathlib.Omega.{arith}
use lib.Dec.{eqb}
use lib.ListN.{length, take, drop, get_or}
use Rattle.lists.specs.Part.{write, Outside}
use Rattle.lists.proofs.Parts.{length_part, write_outside, stores_get_or, outside_wider}
use Rattle.lists.proofs.Loans.{lent_back, lent_part_lem, stores_out}
use Rattle.tables.specs.Layout.{fragments, sets}
use Rattle.tables.specs.Image.{count_at}
use Rattle.tables.specs.Columns.{fragment_set}
use Rattle.tables.specs.Good.{Good}
use Rattle.tables.specs.declared.Range.{Range}
use Rattle.reach.specs.Reach.{reached_from, led, Walked}
use Rattle.fragment.specs.Rounds.{height_at}
use Rattle.fragment.specs.Rules.{is_spread_from, own_set, operation_sets, reaches_itself, is_unused, fragments_words}
use Rattle.fragment.specs.Walks.{behind, HeightsKept, Marked, Ready}
use Rattle.fragment.proofs.HeightLaws as laws
use Rattle.fragment.proofs.Links.{fragment_set_in}

-- the part that is lent, and the whole when it is back
abbrev pub lent_part : (s : List ℕ) (start words : ℕ) → List ℕ
lent_part s start words = take (start + words - start) (drop start s)

abbrev pub lent_back_with : (s : List ℕ) (start words : ℕ) (ys : List ℕ) → List ℕ
lent_back_with s start words ys = take start s ++ (ys ++ drop (start + words - start) (drop start s))

module _ (image s : List ℕ) {start words : ℕ} (ys : List ℕ) (fits : start + words ≤ length s) (same : length ys ≡ length (lent_part s start words))
    (from : start ≡ behind image) (size : words ≡ 2 * count_at image sets) where
  back : length ys ≡ words
  back = same ∙ ap length (lent_part_lem s start words) ∙ length_part s start words fits

  whole : lent_back_with s start words ys ≡ write s start ys
  whole = lent_back s start words ys back

  pub part_keeps : HeightsKept image s (lent_back_with s start words ys)
  part_keeps = rw (whole, ← size, ← back, ← from) (write_outside s start ys (omega (arith, back)))

  pub walk_marks : (range : Range) {n : ℕ} → Walked image (reached_from image range) (lent_part s start words) ys n → Marked image range (lent_back_with s start words ys)
  walk_marks range walked =
      let at : start + 0 ≡ behind image = omega arith in
      let enough : 2 * count_at image sets ≤ length (lent_part s start words) = omega (arith, same, back) in
      rw (whole, ← at) (stores_out s start (walked.holds enough).marks (omega (arith, back)))

module _ (image s : List ℕ) (f : ℕ) where
  -- the walk's marks say whether a fragment is spread
  pub mark_says : (range : Range) {r : Bool} → Marked image range s → fragment_set image f < count_at image sets → r ≡ eqb (get_or s (behind image + fragment_set image f) 0) led → r ≡ is_spread_from image range f
  unfolding is_spread_from
  mark_says range marked known e = e ∙ ap (λ (m : ℕ). eqb m led) (stores_get_or marked (fragment_set image f) known)

-- ---- what stays

-- all that changes lies in the words that are needed
module _ (image : List ℕ) {s s' : List ℕ} where
  pub order_within : {start : ℕ} → start ≤ behind image → Outside start (2 * count_at image sets) s s' → Outside 0 (fragments_words image) s s'
  order_within from o = outside_wider o 0 (fragments_words image) zero-le (omega arith)

  pub behind_within : HeightsKept image s s' → Outside 0 (fragments_words image) s s'
  behind_within o = order_within (le_refl _) o

  pub heights_within : Outside 0 (behind image) s s' → Outside 0 (fragments_words image) s s'
  heights_within o = outside_wider o 0 (fragments_words image) zero-le (omega arith)

kept_heights : (image s s' : List ℕ) → HeightsKept image s s' → (t : ℕ) → t < count_at image sets → height_at s' t ≡ height_at s t
kept_heights image s s' o t h = laws.all_three (o.below _ (omega arith)) (o.below _ (omega arith)) (o.below _ (omega arith))

pub ready_still : {image s s' : List ℕ} → HeightsKept image s s' → Ready image s → Ready image s'
ready_still {image} {s} {s'} o ready = record {
  good = ready.good;
  room = omega (arith, o.long, ready.room);
  heights = λ t h.
      let m = ready.heights t h in
      let e = kept_heights image s s' o t h in
      record {
        chain = ap (λ h. h.chain) e ∙ m.chain;
        links = λ short. ap (λ h. h.links) e ∙ m.links short;
        nested = λ short. ap (λ h. h.nested) e ∙ m.nested short;
      };
}

-- ---- what the walk found

pub found_itself : {image s : List ℕ} (good : Good image) (room : fragments_words image ≤ length s) (f : ℕ) (known : f < count_at image fragments) {r : Bool}
    (read : fragments_words image ≤ length s → fragment_set image f < count_at image sets → r ≡ eqb (get_or s (behind image + fragment_set image f) 0) led)
    {first : ℕ} → first ≡ fragment_set image f → Marked image (record { first = first; count = 1 }) s → r ≡ reaches_itself image f
unfolding reaches_itself
found_itself {image} {s} good room f known read e marked =
    let inside = fragment_set_in good f known in
    let own : Marked image (own_set image f) s = rw (← e) marked in
    mark_says image s f (own_set image f) own inside (read room inside)

pub is_used : {image s : List ℕ} (good : Good image) (room : fragments_words image ≤ length s) (f : ℕ) (known : f < count_at image fragments) {r : Bool}
    (read : fragments_words image ≤ length s → fragment_set image f < count_at image sets → r ≡ eqb (get_or s (behind image + fragment_set image f) 0) led)
    → Marked image (operation_sets image) s → r ≡ true → is_unused image f ≡ false
unfolding is_unused
is_used {image} {s} good room f known read marked e =
    let inside = fragment_set_in good f known in
    rw (sym (mark_says image s f (operation_sets image) marked inside (read room inside)) ∙ e)

pub unused_same : {image s : List ℕ} → Ready image s → Marked image (operation_sets image) s → (f : ℕ) → f < count_at image fragments
    → is_unused image f ≡ not (eqb (get_or s (behind image + fragment_set image f) 0) led)
unfolding is_unused
unused_same {image} {s} ready marked f known = ap not (sym (mark_says image s f (operation_sets image) marked (fragment_set_in ready.good f known) refl))

-- the operations' sets, as they were read
pub from_operations : (image : List ℕ) {range : Range} {s : List ℕ} → range ≡ operation_sets image → Marked image range s → Marked image (operation_sets image) s
from_operations image e marked = rw (← e) marked
