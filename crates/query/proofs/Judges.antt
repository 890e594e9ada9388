-- The stages of the check: the room that each has, and a law for each `return`. Assumes nothing.
use Prim.Native.Nat.{ℕ, ◌+◌, ◌-◌, ◌≤◌, min}
use mathlib.Core.Path.{◌≡◌, refl, sym, ap, ◌∙◌}
use mathlib.Core.Bool.{Bool, true, false}
use mathlib.Core.List.{List, ◌++◌}
use mathlib.Core.Option.{Option, none, some}
use native.Mathlib.Omega.{arith}
use borrow.Author.Tests.{leb-true}
use lib.Dec.{leb}
use lib.ListN.{length, take, drop, replicate, length-append, length-replicate}
use lib.Seq.{length-take-le, drop_at}
use Rattle.std.proofs.lemmas.Result.{err_from_is_err_and}
use Rattle.lists.specs.First.{expect, ◌▷◌}
use Rattle.lists.specs.Part.{write}
use Rattle.lists.proofs.Parts.{length_write}
use Rattle.lists.proofs.FirstLaws.{some_is_not_none}
use Rattle.tables.specs.Layout.{selections}
use Rattle.tables.specs.Image.{count_at}
use Rattle.tables.specs.Header.{Refusal, header_fault}
use Rattle.rows.specs.RowFault.{row_fault, image_fault}
use Rattle.tables.specs.Good.{Good}
use Rattle.rows.proofs.Promise.{good_image, rows_decide}
use Rattle.variable.specs.Uses.{uses_words}
use Rattle.fragment.specs.Rules as fragment
use Rattle.selection.specs.declared.arena.Reply.{Reply}
use Rattle.selection.specs.Regions.{arena_of}
use Rattle.selection.proofs.RegionLaws.{store_is}
use Rattle.query.specs.Needed.{most_work, scratch_needed}
use Rattle.query.specs.Reply.{answer, of_image, refused, faulty, reply_by, reply, scratch_after}
use Rattle.query.specs.Operation.{Ready, CheckedAll}
use Rattle.std.specs.Prelude.{Result, IsErrAnd}
use Rattle.query.specs.declared.fault.Fault.{Fault}
use Rattle.query.specs.Faults.{fault_reply}
use Rattle.query.specs.Outcome.{outcome}
use Rattle.query.specs.Judging.{Room, Fits, JudgesDocument, JudgesImage, JudgesAll}
use Rattle.query.proofs.Sizes.{nine_counts}

module _ {image : List ℕ} {work : ℕ} where
  -- ---- the words needed cover what each rule is lent
  module _ (s : List ℕ) (fits : Fits image work (length s)) where
    pub covers_fragments : fragment.fragments_words image ≤ length s
    unfolding scratch_needed
    covers_fragments = omega (arith, fits.room, nine_counts image)

    pub covers_operations : uses_words image + ((arena_of image work).store + work + 1 + count_at image selections) ≤ length s
    unfolding scratch_needed
    covers_operations =
        let store = store_is {image = image} {arena = arena_of image work} work fits.good refl fits.limit in
        omega (arith, fits.room, nine_counts image, store)

    module _ {s' : List ℕ} {f : Option fragment.Refusal} (same : s' ≡ fragment.cleared s (fragment.fragments_words image))
        (shows : Good image → fragment.fragments_words image ≤ length s → f ≡ fragment.fragments_fault image) where
      as_long : length s' ≡ length s
      unfolding fragment.cleared
      as_long =
          let fill : length {A = ℕ} (replicate (min (fragment.fragments_words image) (length s)) 0) ≡ min (fragment.fragments_words image) (length s) = length-replicate _ _ in
          ap length same ∙ length_write s 0 (replicate (min (fragment.fragments_words image) (length s)) 0) (omega (arith, fill))

      shown : f ≡ fragment.fragments_fault image
      shown = shows fits.good covers_fragments

      pub by_fragments : (r : fragment.Refusal) → f ≡ some r → JudgesDocument image work s s' (answer r.kind r.operation r.a 0 0)
      by_fragments r wrong = record { long = as_long; says = let told = sym wrong ∙ shown in rw (← told) refl }

      pub ready_after : f ≡ none → Ready image work s'
      ready_after good = record { good = fits.good; fragments = sym shown ∙ good; limit = fits.limit; room = omega (arith, as_long, covers_operations) }

      pub by_operations : {s'' : List ℕ} {r : Reply} → f ≡ none → CheckedAll image work s' s'' r → JudgesDocument image work s s'' r
      by_operations good checked = record { long = checked.long ∙ as_long; says = let told = sym good ∙ shown in rw (← told) checked.says }

  -- ---- rows
  module _ (s : List ℕ) (room : Room image work (length s)) {f : Option Refusal} (shows : f ≡ image_fault image) where
    rows_shown : f ≡ row_fault image
    rows_shown = shows ∙ rows_decide image room.header

    pub fits_after : f ≡ none → Fits image work (length s)
    fits_after good = record { good = good_image image (sym shows ∙ good); limit = room.limit; room = room.room }

    -- what the rows show is the reply
    pub by_rows : (o : Refusal) → f ≡ some o → JudgesImage image work s s (answer o.kind 0 o.a o.b 0)
    unfolding faulty ◌▷◌
    by_rows o told = record { long = refl; says = let found = sym told ∙ rows_shown in rw (← found) refl }

    pub by_document : {s' : List ℕ} {p : Reply} → f ≡ none → JudgesDocument image work s s' p → JudgesImage image work s s' p
    unfolding faulty ◌▷◌
    by_document good judged = record { long = judged.long; says = let none_found = sym good ∙ rows_shown in rw (← none_found) judged.says }

-- ---- a fault that was passed on is the outcome
pub ended_by : (i : ℕ) (r : Result ℕ Fault) (fault : Fault) → IsErrAnd r (λ e. e ≡ fault) → outcome i r ≡ fault_reply fault
ended_by i r fault given = let p = err_from_is_err_and r given in rw p.1 (ap fault_reply p.2)

-- ---- the whole
module _ (image : List ℕ) (work : ℕ) where
  -- where nothing is refused, there is room
  pub room_after : (long : ℕ) → refused image work long ≡ none → Room image work long
  unfolding refused ◌▷◌ expect
  room_after long e = by_header (header_fault image) refl e
    where
      by_scratch : (b : Bool) → leb (scratch_needed image work) long ≡ b → header_fault image ≡ none → work ≤ most_work → expect b (answer 3 0 (scratch_needed image work) 0 0) ≡ none
          → Room image work long
      by_scratch true h header few e = record { header = header; limit = few; room = leb-true _ _ h }
      by_scratch false h header few e = some_is_not_none e

      by_work : (b : Bool) → leb work most_work ≡ b → header_fault image ≡ none
          → (expect b (answer 2 0 work 0 0) ▷ expect (leb (scratch_needed image work) long) (answer 3 0 (scratch_needed image work) 0 0)) ≡ none → Room image work long
      by_work true h header e = by_scratch (leb (scratch_needed image work) long) refl header (leb-true _ _ h) e
      by_work false h header e = some_is_not_none e

      by_header : (o : Option Refusal) → header_fault image ≡ o
          → (of_image o ▷ expect (leb work most_work) (answer 2 0 work 0 0) ▷ expect (leb (scratch_needed image work) long) (answer 3 0 (scratch_needed image work) 0 0)) ≡ none → Room image work long
      by_header none h e = by_work (leb work most_work) refl h e
      by_header (some r) h e = some_is_not_none e

  -- the needed words are lent, come back, and are cleared
  pub all_clear : (s ys : List ℕ) (n : ℕ) → n ≡ scratch_needed image work → n ≤ length s → length ys ≡ n
      → write (ys ++ drop n s) 0 (replicate (min n (length (ys ++ drop n s) - 0)) 0) ≡ replicate (scratch_needed image work) 0 ++ drop (scratch_needed image work) s
  unfolding write
  all_clear s ys n e room back =
      let size : min n (length (ys ++ drop n s) - 0) ≡ length ys = omega (arith, length-append ys (drop n s)) in
      let fill : 0 + length {A = ℕ} (replicate (length ys) 0) ≡ length ys = omega (arith, length-replicate {A = ℕ} (length ys) 0) in
      rw (← e, size, fill, drop_at ys (drop n s) (length ys) refl) (ap (λ (k : ℕ). replicate k 0 ++ drop n s) back)

  -- so the stages have room in what is lent
  pub room_lent : (s : List ℕ) (n : ℕ) → refused image work (length s) ≡ none → n ≡ scratch_needed image work → Room image work (length (take n s))
  room_lent s n e needed =
      let room = room_after (length s) e in
      let lent : length (take n s) ≡ n = length-take-le n s (omega (arith, room.room)) in
      record { header = room.header; limit = room.limit; room = omega (arith, lent) }

  pub all_judged : (s ys s' : List ℕ) {n : ℕ} {r : Reply} → refused image work (length s) ≡ none → n ≡ scratch_needed image work → JudgesImage image work (take n s) ys r
      → s' ≡ write (ys ++ drop n s) 0 (replicate (min n (length (ys ++ drop n s) - 0)) 0) → JudgesAll image work s s' r
  all_judged s ys s' {n} e needed judged cleared =
      let room = room_after (length s) e in
      let fits : n ≤ length s = omega (arith, room.room) in
      record { says = judged.says; clear = cleared ∙ all_clear s ys n needed fits (judged.long ∙ length-take-le n s fits) }

  module _ (s : List ℕ) {f : Option Reply} (shows : f ≡ refused image work (length s)) where
    pub reply_refused : {r : Reply} → f ≡ some r → (r ≡ reply image work (length s)) × (s ≡ scratch_after image work s)
    unfolding reply_by scratch_after
    reply_refused wrong = let told = sym wrong ∙ shows in (rw (← told) refl, rw (← told) refl)

    pub reply_judged : {s' : List ℕ} {r : Reply} → f ≡ none → JudgesAll image work s s' r → (r ≡ reply image work (length s)) × (s' ≡ scratch_after image work s)
    unfolding reply_by scratch_after
    reply_judged good judged = let told = sym shows ∙ good in (rw told judged.says, rw told judged.clear)
