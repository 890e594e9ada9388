-- Laws of the tables whose rows are judged one by one: a variable whose type is there, where a set starts, and what a search for the first bad row
-- found. Assumes nothing.
use Prim.Native.Nat.{ℕ, zero, suc, ◌+◌, ◌-◌, ◌<◌}
use mathlib.Core.Path.{◌≡◌, refl, sym, ap}
use mathlib.Core.Bool.{true, false}
use mathlib.Core.List.{List}
use native.Mathlib.Numerals.{sub-one}
use borrow.Author.Tests.{lt-ltb}
use lib.Dec.{leb}
use Rattle.lists.proofs.EveryLaws.{first_bad_lem}
use Rattle.tables.specs.declared.Range.{Range}
use Rattle.rows.specs.RowFault.{row_rule, first_bad}
use Rattle.tables.specs.Layout.{references}
use Rattle.tables.specs.Image.{count_at}
use Rattle.tables.specs.Columns.{set_selections, variable_type, variable_default}
use Rattle.rows.specs.Rows.{good_variable}
use Rattle.tables.specs.Numbering.{set_end, set_start}

-- a variable whose type is there is good where its default is 0 or 1
pub variable_default_decides : (image : List ℕ) (r : ℕ) → variable_type image r < count_at image references → {d : ℕ} → d ≡ variable_default image r → leb d 1 ≡ good_variable image r
unfolding good_variable
variable_default_decides image r h e = rw (lt-ltb _ _ h, e)

pub start_first : (image : List ℕ) (s : ℕ) → s ≡ 0 → 0 ≡ set_start image s
unfolding set_start
start_first image s e = sym (ap (set_start image) e)

-- the set before, by subtraction
pub start_next : (image : List ℕ) (s : ℕ) → (s ≡ 0 → ⊥) → {rows : Range} → rows ≡ set_selections image (s - 1) → rows.first + rows.count ≡ set_start image s
unfolding set_start set_end
start_next image zero h rows = absurd (h refl)
start_next image (suc s) h rows = rw (rows, sub-one)

-- the pass over a table: every row before this one is good
pub stops_at : (image : List ℕ) (t r : ℕ) → r < count_at image t → ((k : ℕ) → k < r → row_rule image t k ≡ true) → row_rule image t r ≡ false → r ≡ first_bad image t
unfolding first_bad
stops_at image t r h below here = sym (first_bad_lem (row_rule image t) (count_at image t) r h below here)
