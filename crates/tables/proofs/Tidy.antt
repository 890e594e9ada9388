-- What a good header promises, once over the number of tables. Assumes nothing.
use Prim.Native.Nat.{ℕ, suc, ◌<◌, ◌≤◌, zero-le}
use mathlib.Core.Path.{◌≡◌, ap}
use mathlib.Core.List.{List, map}
use mathlib.Core.Option.{none}
use native.Mathlib.Nat.{le_refl, le_of_lt}
use native.Mathlib.Decide.{le_ind}
use native.Mathlib.Omega.{arith}
use borrow.Author.Tests.{leb-true, eqb-true}
use lib.Dec.{leb, leb→le}
use lib.ListN.{length}
use Rattle.lists.specs.First.{first_fault}
use Rattle.lists.proofs.FirstLaws.{first_none, next_none, passed, each_none}
use Rattle.tables.specs.Layout.{Table, edition1, newest_edition, table_count, most_rows}
use Rattle.tables.specs.Image.{word_at, count_at, offset_at, end_of, start_of}
use Rattle.tables.specs.Header.{table_fault, edition_fault, header_fault}
use Rattle.tables.specs.Tidy.{Tidy}
use Rattle.tables.proofs.Widths.{one_edition, most_of}
use Rattle.tables.proofs.Lists.{everywhere}

module _ (image : List ℕ) (e n : ℕ) (good : first_fault (table_fault image e) n ≡ none) where
  rows_few : (t : ℕ) → t < n → count_at image t ≤ most_rows e t
  unfolding table_fault
  rows_few t h = leb-true _ _ (passed _ _ (first_none _ _ (each_none _ n good t h)))

  starts : (t : ℕ) → t < n → offset_at image t ≡ start_of image e t
  unfolding table_fault
  starts t h = eqb-true _ _ (passed _ _ (next_none _ _ (each_none _ n good t h)))

  -- from where a table ends, or the header, the places where the next ones start only grow
  grows : (s t : ℕ) → s ≤ t → t ≤ n → start_of image e s ≤ start_of image e t
  unfolding start_of end_of
  grows s t h =
      le_ind (λ (k : ℕ). k ≤ n → start_of image e s ≤ start_of image e k) (λ _. le_refl _)
      (λ k _ ih more. omega (arith, ih (omega arith), starts k more)) t h

  pub tidy : start_of image e n ≡ length image → Tidy image e n
  unfolding start_of
  tidy last = record {
    few = rows_few;
    after_header = λ t h. omega (arith, starts t h, grows 0 t zero-le (le_of_lt h));
    apart = λ s t less h. omega (arith, starts t h, grows (suc s) t less (le_of_lt h));
    inside = λ t h. omega (arith, grows (suc t) n h (le_refl n));
  }

-- every edition so far has nine tables
pub nine_exactly : (e : ℕ) → table_count e ≡ 9
unfolding table_count
nine_exactly e = ap length (one_edition e)

pub nine_tables : (e : ℕ) → 9 ≤ table_count e
unfolding table_count
nine_tables e = rw (one_edition e) (omega arith)

module _ (image : List ℕ) (good : header_fault image ≡ none) where
  pub known_edition : (1 ≤ word_at image 0) × (word_at image 0 ≤ newest_edition)
  unfolding edition_fault
  known_edition =
      let after-length = next_none _ _ good in
      (leb-true _ _ (passed _ _ (first_none _ _ after-length)), leb-true _ _ (passed _ _ (first_none _ _ (next_none _ _ after-length))))

  pub good_header : Tidy image (word_at image 0) (table_count (word_at image 0))
  unfolding edition_fault
  good_header =
      let after-length = next_none _ _ good in
      let after_none = next_none _ _ after-length in
      let after-new = next_none _ _ after_none in
      let after-total = next_none _ _ after-new in
      tidy image _ _ (first_none _ _ after-total) (eqb-true _ _ (passed _ _ (next_none _ _ after-total)))

-- no table has more rows than the largest limit
pub no_limit_over : (e t : ℕ) → most_rows e t ≤ 16384
no_limit_over e t =
    rw (most_of e t) (leb→le _ _ (everywhere (λ n. leb n 16384) (map (λ (x : Table). x.most) edition1) 0 tt tt t))
