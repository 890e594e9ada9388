-- The law of the promise: a fault-free image is good. Assumes nothing.
use Prim.Native.Nat.{ℕ, zero, suc, ◌+◌, ◌≤◌}
use mathlib.Core.Path.{◌≡◌, refl, ◌∙◌}
use mathlib.Core.Bool.{Bool, true, false, cond}
use mathlib.Core.List.{List}
use mathlib.Core.Option.{none}
use native.Mathlib.Nat.{le_refl}
use native.Mathlib.Numerals.{add-one}
use native.Mathlib.Omega.{arith}
use Rattle.tables.specs.Layout.{operations, fragments, sets, selections}
use Rattle.tables.specs.Image.{word_at, count_at}
use Rattle.tables.specs.Columns.{selection_at}
use Rattle.tables.specs.Numbering.{owns_set, next_set}
use Rattle.lists.specs.First.{◌▷◌}
use Rattle.lists.proofs.EveryLaws.{all_below}
use Rattle.tables.specs.Header.{header_fault}
use Rattle.rows.specs.RowFault.{row_fault, image_fault, GoodBelow}
use Rattle.tables.specs.Good.{Good, GoodOwned}
use Rattle.tables.proofs.Tidy.{nine_tables, good_header}
use Rattle.rows.proofs.PlainPromise.{good_header_of, every_row, no_set_left, kind_of_type, ascending, reference_row, operation_row, fragment_row, set_row, argument_keeps, variable_row}
use Rattle.tables.proofs.ColumnLaws.{next_set_first, next_set_more}
use Rattle.rows.proofs.SelectionPromise.{selection_row, only_home, all_stand, owned_set, one_owner}
use Rattle.rows.proofs.ValuePromise.{value_row, own_key, all_claimed}

module _ (image : List ℕ) (fault-free : image_fault image ≡ none) where
  all_good : GoodBelow image 9
  all_good = record { header = good_header_of image fault-free; rows = λ t ht r h. every_row image fault-free t r ht h }

  -- the sets of operations and fragments are there
  own_sets : count_at image operations + count_at image fragments ≤ count_at image sets
  own_sets = go (count_at image fragments) (le_refl _)
    where
      operations_few : count_at image operations ≤ count_at image sets
      operations_few = all_below _ _ (λ i h. (operation_row image 9 all_good (omega arith) i h).set)

      go : (j : ℕ) → j ≤ count_at image fragments → count_at image operations + j ≤ count_at image sets
      go zero h = omega (arith, operations_few)
      go (suc j) h =
          let row = fragment_row image 9 all_good (omega arith) j h in
          omega (arith, row.set, row.set_number)

  -- no owner takes a number past the sets
  few_owned : (r : ℕ) → r ≤ count_at image selections → next_set image r ≤ count_at image sets
  few_owned zero h = omega (arith, next_set_first image, own_sets)
  few_owned (suc r) h = go (owns_set (selection_at image r)) refl (few_owned r (omega arith))
    where
      more : (b : Bool) → owns_set (selection_at image r) ≡ b → next_set image (suc r) ≡ next_set image r + cond b 1 0
      more b e = rw (← add-one r, next_set_more image r, e)

      go : (b : Bool) → owns_set (selection_at image r) ≡ b → next_set image r ≤ count_at image sets → next_set image (suc r) ≤ count_at image sets
      go true e few =
          let own : GoodOwned image r = owned_set image fault-free r h e in
          omega (arith, more true e, own.known, own.number)
      go false e few = omega (arith, more false e)

  -- The promise holds.
  pub good_image : Good image
  good_image = record {
    nine = nine_tables (word_at image 0);
    few = (good_header image (good_header_of image fault-free)).few;
    type_kinds = kind_of_type image 9 all_good (omega arith);
    types_ascend = ascending image 9 all_good (omega arith);
    reference = reference_row image 9 all_good (omega arith);
    operation = operation_row image 9 all_good (omega arith);
    fragment = fragment_row image 9 all_good (omega arith);
    set = set_row image 9 all_good (omega arith);
    selection = selection_row image fault-free;
    argument = λ a h.
        let keeps = argument_keeps image 9 all_good (omega arith) a h in
        record { reference = keeps.reference; default = keeps.default; value = keeps.value; no_key = own_key image fault-free a h keeps.value };
    value = value_row image fault-free;
    variable = variable_row image 9 all_good (omega arith);
    one_home = only_home image fault-free;
    all_stand = all_stand image fault-free;
    own_sets = own_sets;
    all_owned = omega (arith, no_set_left image fault-free, few_owned (count_at image selections) (le_refl _));
    one_owner = one_owner image;
    all_claimed = all_claimed image fault-free;
  }

-- the fault of an image with a good header is that of its rows
pub rows_decide : (image : List ℕ) → header_fault image ≡ none → image_fault image ≡ row_fault image
unfolding image_fault ◌▷◌
rows_decide image header = rw header

pub rows_good : {image : List ℕ} → header_fault image ≡ none → row_fault image ≡ none → Good image
rows_good {image} header rows = good_image image (rows_decide image header ∙ rows)
