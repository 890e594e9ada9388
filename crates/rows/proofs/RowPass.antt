-- The pass over all tables: what the row check shows, given what its parts do. Assumes nothing.
use Prim.Native.Nat.{ℕ, zero, suc, ◌+◌, ◌<◌, ◌≤◌}
use mathlib.Core.Path.{◌≡◌, refl, sym, ap}
use mathlib.Core.Bool.{true, false, not}
use mathlib.Core.List.{List}
use mathlib.Core.Option.{none, some}
use native.Mathlib.Omega.{arith}
use borrow.Author.Tests.{le-leb, lt-leb}
use Rattle.lists.specs.First.{expect, ◌▷◌, first_fault}
use native.Mathlib.Nat.{le_refl}
use Rattle.lists.proofs.EveryLaws.{none_bad, some_found, none_found}
use Rattle.lists.proofs.FirstLaws.{goes_on, stays, kept, each_none}
use Rattle.tables.specs.Layout.{sets, selections, values}
use Rattle.tables.specs.Image.{count_at}
use Rattle.tables.specs.Header.{Refusal, header_fault}
use Rattle.tables.specs.Numbering.{set_start, next_set, next_value}
use Rattle.rows.specs.RowFault.{bad_row, rows_show, error_shows, first_bad, broken_row, left_over, unclaimed_fault, row_fault, row_rule, GoodBelow}
use Rattle.std.specs.Prelude.{Option, Some, None, Result, IsErrAnd}
use Rattle.std.proofs.lemmas.Result.{err_from_is_err_and}
use Rattle.lists.specs.Every.{position, found}
use Rattle.rows.specs.declared.BadImage.{BadImage}
use Rattle.rows.proofs.RowLaws.{stops_at}
use Rattle.rows.proofs.PlainPromise.{rows_good}

-- tables without fault are good, and good ones have none
pub passed_good : (image : List ℕ) (n : ℕ) → header_fault image ≡ none → first_fault (broken_row image) n ≡ none → GoodBelow image n
passed_good image n header tables = record {
  header = header;
  rows = λ t ht r h. rows_good image t (each_none (broken_row image) n tables t ht) r h;
}

good_passed : (image : List ℕ) (n : ℕ) → ((t : ℕ) → t < n → (r : ℕ) → r < count_at image t → row_rule image t r ≡ true) → first_fault (broken_row image) n ≡ none
unfolding first_fault broken_row first_bad expect ◌▷◌
good_passed image zero rows = refl
good_passed image (suc n) rows =
    let all = none_bad (row_rule image n) (count_at image n) (λ r h. rows n (omega arith) r h) in
    rw (good_passed image n (λ t ht. rows t (omega arith)), all, le-leb _ _ (le_refl (count_at image n)))

pub good_tables : (image : List ℕ) (n : ℕ) → GoodBelow image n → first_fault (broken_row image) n ≡ none
good_tables image n below = good_passed image n below.rows

module _ (image : List ℕ) (n : ℕ) {row : ℕ} (this : row ≡ first_bad image n) where
  whole : count_at image n ≤ row → broken_row image n ≡ none
  unfolding broken_row expect
  whole h = rw (← this, le-leb _ _ h)

  broken : row < count_at image n → broken_row image n ≡ some (bad_row n row)
  unfolding broken_row expect
  broken h = rw (← this, lt-leb _ _ h)

  -- its first bad row is the fault
  pub breaks : first_fault (broken_row image) n ≡ none → n < 9 → row < count_at image n → some (bad_row n row) ≡ row_fault image
  unfolding row_fault ◌▷◌
  breaks before less h = rw (stays (broken_row image) n 9 (bad_row n row) before less (broken h))

-- a table whose rows are judged one after the other: a row that is bad after good ones is shown, and none where all are good
module _ (image : List ℕ) (t : ℕ) where
  pub bad_row_shown : (r : ℕ) → r < count_at image t → ((k : ℕ) → k < r → row_rule image t k ≡ true) → row_rule image t r ≡ false → some (bad_row t r) ≡ broken_row image t
  bad_row_shown r less before here = sym (broken image t (stops_at image t r less before here) less)

  pub no_row_shown : ((k : ℕ) → k < count_at image t → row_rule image t k ≡ true) → none ≡ broken_row image t
  unfolding first_bad
  no_row_shown all = sym (whole image t (sym (none_bad (row_rule image t) (count_at image t) all)) (le_refl _))

-- what a search for the first bad row of a table gives
module _ (image : List ℕ) (n : ℕ) {rows : ℕ} (all : rows ≡ count_at image n) where
  -- the search among them for one that breaks the rule
  abbrev searched : Option ℕ
  searched = found rows (position rows (λ r. not (row_rule image n r)))

  is_first : position rows (λ r. not (row_rule image n r)) ≡ first_bad image n
  unfolding first_bad
  is_first = rw all

  pub no_row_found : None ≡ searched → none ≡ broken_row image n
  no_row_found e = let none_at = none_found e in sym (whole image n is_first (omega arith))

  pub row_found : {row : ℕ} → Some row ≡ searched → some (bad_row n row) ≡ broken_row image n
  row_found e = let at = some_found e in rw (← at.0) (sym (broken image n is_first (omega (arith, at.1))))

-- one table more
pub good_more : (image : List ℕ) (n : ℕ) → GoodBelow image n → {row : ℕ} → row ≡ first_bad image n → count_at image n ≤ row → GoodBelow image (n + 1)
good_more image n below this h = passed_good image (n + 1) below.header (goes_on (broken_row image) n (good_tables image n below) (whole image n this h))

-- ---- what a check shows that ends with the refusal of a part

-- a `?` passes it on as it is
pub passed_on : {T : Type 0} (r : Result T BadImage) (bad : BadImage) → IsErrAnd r (λ e. e ≡ bad) → rows_show r ≡ some (error_shows bad)
passed_on r bad given = let p = err_from_is_err_and r given in rw p.1 (ap (λ e. some (error_shows e)) p.2)

-- the first table with a fault
pub table_breaks : (image : List ℕ) (m : ℕ) {x : Refusal} → first_fault (broken_row image) m ≡ none → m < 9 → some x ≡ broken_row image m → some x ≡ row_fault image
unfolding row_fault ◌▷◌
table_breaks image m {x} before less this = rw (stays (broken_row image) m 9 x before less (sym this))

pub lower_breaks : (image : List ℕ) (m : ℕ) {x : Refusal} → m ≤ 9 → some x ≡ first_fault (broken_row image) m → some x ≡ row_fault image
unfolding row_fault ◌▷◌
lower_breaks image m {x} less this = rw (kept (broken_row image) m 9 x (sym this) less)

-- no table is broken: what is left unclaimed decides
pub all_whole : (image : List ℕ) {claimed-sets claimed-values : ℕ} → first_fault (broken_row image) 9 ≡ none
    → claimed-sets ≡ next_set image (count_at image selections) → claimed-values ≡ next_value image (count_at image values)
    → unclaimed_fault image claimed-sets claimed-values ≡ row_fault image
unfolding row_fault ◌▷◌
all_whole image before s v = rw (before, s, v)

-- ---- what is left unclaimed

module _ (image : List ℕ) (claimed-sets claimed-values : ℕ) where
  pub sets_left : claimed-sets < count_at image sets → {n : ℕ} → n ≡ count_at image sets → some (bad_row sets n) ≡ unclaimed_fault image claimed-sets claimed-values
  unfolding unclaimed_fault left_over expect ◌▷◌
  sets_left h e = rw (e, lt-leb _ _ h)

  pub selections_left : count_at image sets ≤ claimed-sets → set_start image (count_at image sets) < count_at image selections
      → {n : ℕ} → n ≡ count_at image selections → some (bad_row selections n) ≡ unclaimed_fault image claimed-sets claimed-values
  unfolding unclaimed_fault left_over expect ◌▷◌
  selections_left s h e = rw (e, le-leb _ _ s, lt-leb _ _ h)

  pub values_left : count_at image sets ≤ claimed-sets → count_at image selections ≤ set_start image (count_at image sets)
      → claimed-values < count_at image values → {n : ℕ} → n ≡ count_at image values → some (bad_row values n) ≡ unclaimed_fault image claimed-sets claimed-values
  unfolding unclaimed_fault left_over expect ◌▷◌
  values_left s t h e = rw (e, le-leb _ _ s, le-leb _ _ t, lt-leb _ _ h)

  pub nothing_left : count_at image sets ≤ claimed-sets → count_at image selections ≤ set_start image (count_at image sets)
      → count_at image values ≤ claimed-values → none ≡ unclaimed_fault image claimed-sets claimed-values
  unfolding unclaimed_fault left_over expect ◌▷◌
  nothing_left s t h = rw (le-leb _ _ s, le-leb _ _ t, le-leb _ _ h)

-- a good header, and no table looked at yet
pub none_yet : (image : List ℕ) → header_fault image ≡ none → GoodBelow image 0
none_yet image good = record { header = good; rows = λ t ht r h. absurd (omega arith) }
