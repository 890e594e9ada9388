-- The pass over the selections: how it begins, enters a set, takes a row, and ends. Assumes nothing.
use Prim.Native.Nat.{ℕ, ◌+◌, ◌<◌, ◌≤◌}
use mathlib.Core.Path.{◌≡◌, refl, sym, ap, ◌∙◌}
use mathlib.Core.Bool.{Bool, true, false, cond}
use mathlib.Core.List.{List}
use native.Mathlib.Nat.{le_refl}
use native.Mathlib.Numerals.{add-one}
use native.Mathlib.Omega.{arith}
use borrow.Author.Count.{below_none, below_more}
use Rattle.tables.specs.Layout.{NONE, operations, fragments, sets, selections}
use Rattle.tables.specs.Image.{count_at}
use Rattle.tables.specs.Columns.{set_selections, selection_at}
use Rattle.tables.specs.declared.Range.{Range}
use Rattle.tables.specs.declared.columns.Selection.{Selection}
use Rattle.tables.specs.Numbering.{set_end, set_start, owns_set}
use Rattle.rows.specs.Selections.{selection_rule, good_selection}
use Rattle.rows.specs.SelectionPass.{GoodTo, Passing, Passed, StoppedAt}
use Rattle.std.specs.Prelude.{Result, Ok, Err}
use Rattle.rows.specs.RowFault.{error_shows, rows_show, row_rule, broken_row, GoodBelow}
use Rattle.rows.specs.declared.BadImage.{BadImage}
use Rattle.rows.specs.declared.BadImage.TheVariants.{Row}
use mathlib.Core.Option.{some}
use Rattle.tables.proofs.Tidy.{good_header}
use Rattle.tables.proofs.Counts.{limit_of, few_rows}
use Rattle.rows.proofs.RowPass.{bad_row_shown, no_row_shown}
use Rattle.rows.proofs.HomeLaws.{set_first, set_inside, start_inside, least_in_set, least_in_none}
use Rattle.tables.proofs.ColumnLaws.{next_set_first, next_set_more, next_set_most}

-- the loop over the rows of one set
module _ (image : List ℕ) (row next end least : ℕ) (p : Passing image row next end least) where
  pub number_fits : next ≤ NONE
  number_fits = let taken = p.so_far.leaves in let few = p.few in let here = p.before_end in omega (arith, next_set_most image row)

  -- the row at hand, as the code reads it, and its rule, as the running numbers say it
  module _ (within : row < end) {selection : Selection} (read : selection ≡ selection_at image row) {b : Bool} (rule : b ≡ selection_rule image selection next least) where
    judged : good_selection image row ≡ b
    unfolding good_selection
    judged =
        rw (← p.so_far.leaves, p.one_home row (le_refl row) within)
        (sym (rule ∙ ap (λ (s : Selection). selection_rule image s next least) read))

    pub takes_row : b ≡ true → {taken : ℕ} → taken ≡ cond (owns_set selection) 1 0 → Passing image (row + 1) (next + taken) end least
    takes_row good taken = record {
      so_far = record {
        good = below_more _ row p.so_far.good (judged ∙ good);
        leaves = rw (taken, next_set_more image row, ← p.so_far.leaves, read);
      };
      before_end = omega arith;
      one_home = λ r from. p.one_home r (omega arith);
      few = p.few;
    }

    pub stops_at : b ≡ false → StoppedAt image end (Row selections row)
    stops_at bad = record { row = row; before_end = within; good = p.so_far.good; stops = judged ∙ bad; shown = refl }

-- a row that the pass stopped at is the one that is shown
pub stop_shown : (image : List ℕ) {end : ℕ} {bad : BadImage} → StoppedAt image end bad → end ≤ count_at image selections → some (error_shows bad) ≡ broken_row image selections
unfolding row_rule
stop_shown image at within =
    let less : at.row < count_at image selections = omega (arith, at.before_end) in
    rw at.shown (bad_row_shown image selections at.row less at.good at.stops)

-- what the rows after the last set come to
pub finished : (image : List ℕ) {end : ℕ} → end ≡ count_at image selections → (r : Result ℕ BadImage) → Passed image end r → rows_show r ≡ broken_row image selections
unfolding row_rule
finished image all (Ok next) so_far = no_row_shown image selections (λ r less. so_far.good r (omega arith))
finished image all (Err bad) at = stop_shown image at (omega arith)

-- the loop over the sets, at a set: the rows before its start are passed
pub record AtSet (image : List ℕ) (s row next : ℕ) : Type 0 where
  pub within : s ≤ count_at image sets
  pub from : row ≡ set_start image s
  pub so_far : GoodTo image row next

module _ (image : List ℕ) (good : GoodBelow image 5) where
  few : (t : ℕ) → t < 9 → count_at image t ≤ limit_of t
  few = few_rows image (good_header image good.header).few

  few_numbers : (end : ℕ) → end ≤ count_at image selections → count_at image operations + count_at image fragments + end ≤ NONE
  few_numbers end within =
      omega (arith, few operations (omega arith), few fragments (omega arith), few selections (omega arith))

  -- the first number that a selection's set can have
  module _ {a b : ℕ} (first : a ≡ count_at image operations) (second : b ≡ count_at image fragments) where
    pub first_fits : a + b ≤ NONE
    first_fits = omega (arith, few_numbers 0 (omega arith))

    pub begins : AtSet image 0 0 (a + b)
    unfolding set_start
    begins = record { within = omega arith; from = refl; so_far = record { good = below_none _; leaves = rw (first, second, next_set_first image) } }

  module _ {s : ℕ} (here : s < count_at image sets) {rows : Range} (read : rows ≡ set_selections image s) where
    to_end : rows.first + rows.count ≡ set_end image s
    unfolding set_end
    to_end = rw read

    pub end_fits : rows.first + rows.count ≤ 8192
    end_fits = omega (arith, to_end, set_inside image good s here, few selections (omega arith))

    pub enters_set : {row next : ℕ} → AtSet image s row next → Passing image rows.first next (rows.first + rows.count) (s + 1)
    enters_set at =
        let start : rows.first ≡ set_start image s = rw read (set_first image good s here) in
        let end = to_end in
        let here_at : rows.first ≡ _ = start ∙ sym at.from in
        record {
          so_far = rw here_at at.so_far;
          before_end = omega arith;
          one_home = λ r above below. least_in_set image good s r here (omega arith) (omega arith);
          few = few_numbers _ (omega (arith, set_inside image good s here));
        }

    pub stopped : {bad : BadImage} → StoppedAt image (rows.first + rows.count) bad → some (error_shows bad) ≡ broken_row image selections
    stopped at = stop_shown image at (omega (arith, to_end, set_inside image good s here))

    pub leaves_set : {next : ℕ} → GoodTo image (rows.first + rows.count) next → AtSet image (s + 1) (rows.first + rows.count) next
    unfolding set_start
    leaves_set so_far = record { within = omega arith; from = rw add-one to_end; so_far = so_far }

  -- after the last set
  pub enters_none : {s row next : ℕ} → AtSet image s row next → count_at image sets ≤ s → {end : ℕ} → end ≡ count_at image selections
      → Passing image row next end 0
  enters_none {s} {row} at all to =
      let last : s ≡ count_at image sets = omega (arith, at.within) in
      let from : row ≡ set_start image (count_at image sets) = at.from ∙ ap (set_start image) last in
      record {
        so_far = at.so_far;
        before_end = omega (arith, start_inside image good (count_at image sets) (le_refl _));
        one_home = λ r above below. least_in_none image good r (omega arith);
        few = few_numbers _ (omega arith);
      }
