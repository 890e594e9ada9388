-- Where the selections of a set stand, and that they stand inside the image.
-- Assumes nothing.
use Prim.Native.Nat.{ℕ, ◌+◌, ◌*◌, ◌<◌, ◌≤◌}
use mathlib.Core.Path.{◌≡◌, refl, sym}
use mathlib.Core.List.{List}
use mathlib.Core.Bool.{Bool, true, false, cond}
use mathlib.Core.Option.{Option, none, some}
use native.Mathlib.Nat.{add-mul, mul-le-mul_right, add-sub_cancel_left, sub_self}
use native.Mathlib.Omega.{arith}
use borrow.Author.Tests.{lt-ltb, le-ltb, leb-true}
use borrow.Rule.Slice.PartAt.{sl_partˢ}
use borrow.Rule.Slice.Shared.{by_size}
use denote.Ref.{Bor}
use lib.Dec.{ltb, leb}
use lib.ListN.{length}
use Rattle.tables.specs.Layout.{sets, selections}
use Rattle.tables.specs.Image.{word_at, count_at, offset_at, end_of, width_at, lies_within}
use Rattle.tables.specs.declared.Range.{Range}
use Rattle.tables.specs.Header.{Refusal, header_fault, header_shows}
use Rattle.tables.specs.Lookup.{unless, rows_place, set_place, PartOf}
use Rattle.tables.specs.Columns.{set_selections}
use Rattle.std.specs.Prelude.{Result, Ok, Err, Some, None}
use Rattle.std.specs.Prelude as Std
use Rattle.std.specs.Result.{result_ok}
use Rattle.tables.specs.declared.header.BadHeader.{BadHeader}
use Rattle.tables.specs.declared.lookup.Place.{Place}
use Rattle.std.proofs.lemmas.Option.{none-some}
use Rattle.tables.proofs.Tidy.{nine_tables, good_header}

-- a header that passes has no fault, and any other has one
pub passes : {fault : Option Refusal} {u : Unit {0}} (r : Result (Unit {0}) BadHeader) → header_shows r ≡ fault → result_ok r ≡ Some u → none ≡ fault
passes (Ok _) this good = this
passes (Err bad) this good = absurd (none-some _ good)

-- a law for each `return` of `set_place`
module _ (image : List ℕ) (set : ℕ) where
  pub bad_header : (r : Result (Unit {0}) BadHeader) → header_shows r ≡ header_fault image → result_ok r ≡ None → None ≡ set_place image set
  unfolding set_place
  bad_header (Ok u) this wrong = absurd (none-some u (sym wrong))
  bad_header (Err bad) this wrong = simp (← this)

  pub no_such_set : none ≡ header_fault image → count_at image sets ≤ set → None ≡ set_place image set
  unfolding set_place
  no_such_set good past = simp (← good, le-ltb _ _ past)

  pub bad_range : none ≡ header_fault image → set < count_at image sets → lies_within (set_selections image set) (count_at image selections) ≡ false → None ≡ set_place image set
  unfolding set_place
  bad_range good this over = simp (← good, lt-ltb _ _ this, over)

  pub found : none ≡ header_fault image → set < count_at image sets → lies_within (set_selections image set) (count_at image selections) ≡ true
      → {rows : Range} {place : Place} → rows ≡ set_selections image set → place ≡ rows_place image rows → Some place ≡ set_place image set
  unfolding set_place
  found good this few rows place = simp (place, rows, ← good, lt-ltb _ _ this, few)

-- rows first to first + rows of a table that has as many lie between its offset and its end
rows_inside : (offset count width first rows : ℕ) → first + rows ≤ count → offset + first * width + rows * width ≤ offset + count * width
rows_inside offset count width first rows few = omega (arith, add-mul first rows width, mul-le-mul_right width few)

pub place_inside : (image : List ℕ) (set : ℕ) (place : Place) → set_place image set ≡ Some place → place.start + place.words ≤ length image
unfolding set_place rows_place end_of
place_inside image set place at = go (header_fault image) (ltb set (count_at image sets)) (leb (first + rows) (count_at image selections)) refl refl at
  where
    first : ℕ
    first = (set_selections image set).first

    rows : ℕ
    rows = (set_selections image set).count

    width : ℕ
    width = width_at image selections

    goal : Type 0
    goal = place.start + place.words ≤ length image

    never : None ≡ Some place → goal
    never e = absurd (none-some place e)

    go : (h : Option Refusal) (is_set few : Bool) → header_fault image ≡ h → leb (first + rows) (count_at image selections) ≡ few → unless h (cond is_set (cond few (Some (record { start = offset_at image selections + first * width; words = rows * width })) None) None) ≡ Some place → goal
    go none true true good few e =
        let inside = (good_header image good).inside selections (omega (arith, nine_tables (word_at image 0))) in
        let starts : offset_at image selections + first * width ≡ place.start = cc in
        let counts : rows * width ≡ place.words = cc in
        omega (arith, rows_inside (offset_at image selections) (count_at image selections) width first rows (leb-true _ _ few))
    go none true false good few e = never e
    go none false few good t e = never e
    go (some a) is_set few good t e = never e

-- what the code returns is the part of the slice at the place
pub part_at : (whole : Bor (List ℕ)) {place : Std.Option Place} {start words : ℕ} → place ≡ Some (record { start = start; words = words }) → PartOf whole place (sl_partˢ whole (by_size 4 start whole.ref_ptr.1) start (start + words))
part_at whole {start} {words} this = rw this (record { holds = rw add-sub_cancel_left; block = refl; lies = omega arith })

pub part_nowhere : (whole : Bor (List ℕ)) {place : Std.Option Place} → place ≡ None → PartOf whole place (sl_partˢ whole (by_size 4 (length whole.now) whole.ref_ptr.1) (length whole.now) (length whole.now))
part_nowhere whole this = rw this (record { holds = rw sub_self; block = refl; lies = omega arith })
