-- Kind 4, both ways: the row check finds no fault exactly where every row keeps the row rules and nothing is left over, and shows
-- table t, row r exactly where these break first. `rows_good` (Promise) says only that what passes is good, which a check that refuses
-- too much would satisfy too; it, one that refuses too little, and one that shows another row fail here.
-- Assumes nothing.
use Prim.Native.Nat.{ℕ, zero, suc, ◌<◌, ◌≤◌}
use mathlib.Core.Path.{◌≡◌, refl, sym, ap, ◌∙◌}
use mathlib.Core.Logic.{◌↔◌, ◌⊎◌, inl, inr}
use mathlib.Core.Bool.{Bool, true, false, not}
use mathlib.Core.List.{List}
use mathlib.Core.Option.{Option, none, some}
use native.Mathlib.Nat.{le_refl}
use native.Mathlib.Numerals.{add-one}
use native.Mathlib.Decide.{dec_le, dec_lt}
use native.Mathlib.Omega.{arith}
use Rattle.lists.proofs.Tests.{not_true}
use Rattle.lists.proofs.FirstLaws.{some_is_not_none}
use Rattle.lists.proofs.EveryLaws.{position_passes, good_before}
use Rattle.tables.specs.Layout.{NONE, sets, selections, values}
use Rattle.tables.specs.Image.{count_at}
use Rattle.tables.specs.Header.{Refusal, header_fault}
use Rattle.tables.specs.Numbering.{set_start, next_set, next_value}
use Rattle.tables.proofs.Tidy.{good_header}
use Rattle.tables.proofs.Counts.{few_rows}
use Rattle.rows.specs.RowFault.{bad_row, row_rule, first_bad, row_fault, GoodBelow}
use Rattle.rows.specs.Meaning.{Keeps, KeepsBelow, KeepsRowRules, BrokenAt, a_row, sets_left, selections_left, values_left}
use Rattle.rows.proofs.RowLaws.{stops_at}
use Rattle.rows.proofs.RowPass.{good_tables, breaks, good_more, all_whole, none_yet}
use Rattle.rows.proofs.RowPass.{nothing_left, sets_left as sets-fault, selections_left as selections-fault, values_left as values-fault}
use Rattle.rows.proofs.PlainPromise.{every_row, no_set_left, no_selection_left, no_value_left}
use Rattle.rows.proofs.Promise.{rows_decide}
use Rattle.rows.proofs.PlainMeaning.{type_exactly, reference_exactly, operation_exactly, fragment_exactly, set_exactly, argument_exactly, variable_exactly}
use Rattle.rows.proofs.SelectionMeaning.{selection_exactly}
use Rattle.rows.proofs.ValueMeaning.{value_exactly}
use Rattle.rows.proofs.LeftMeaning.{sets_exactly, selections_exactly, values_exactly}

nine_cases : (P : ℕ → Type 0) → P 0 → P 1 → P 2 → P 3 → P 4 → P 5 → P 6 → P 7 → P 8 → (t : ℕ) → t < 9 → P t
nine_cases P a b c d e f g h i zero less = a
nine_cases P a b c d e f g h i (suc zero) less = b
nine_cases P a b c d e f g h i (suc (suc zero)) less = c
nine_cases P a b c d e f g h i (suc (suc (suc zero))) less = d
nine_cases P a b c d e f g h i (suc (suc (suc (suc zero)))) less = e
nine_cases P a b c d e f g h i (suc (suc (suc (suc (suc zero))))) less = f
nine_cases P a b c d e f g h i (suc (suc (suc (suc (suc (suc zero)))))) less = g
nine_cases P a b c d e f g h i (suc (suc (suc (suc (suc (suc (suc zero))))))) less = h
nine_cases P a b c d e f g h i (suc (suc (suc (suc (suc (suc (suc (suc zero)))))))) less = i
nine_cases P a b c d e f g h i (suc (suc (suc (suc (suc (suc (suc (suc (suc t))))))))) less = absurd (omega arith)

module _ (image : List ℕ) (header : header_fault image ≡ none) where
  -- ---- one row, where all before it are good

  values_few : count_at image values ≤ NONE
  values_few = omega (arith, few_rows image (good_header image header).few values (omega arith))

  keeps_of : (t r : ℕ) → GoodBelow image t → ((q : ℕ) → q < r → row_rule image t q ≡ true) → row_rule image t r ≡ true → Keeps image t r
  unfolding row_rule
  keeps_of t r below lower good = record {
    type_row = λ e. (type_exactly image r (λ q h. rw e at (lower q h))).0 (rw e at good);
    reference_row = λ e. (reference_exactly image r).0 (rw e at good);
    operation_row = λ e. (operation_exactly image r).0 (rw e at good);
    fragment_row = λ e. (fragment_exactly image header r).0 (rw e at good);
    set_row = λ e. (set_exactly image r).0 (rw e at good);
    selection_row = λ e. (selection_exactly image (rw e at below) r (λ q h. rw e at (lower q h))).0 (rw e at good);
    argument_row = λ e. (argument_exactly image r).0 (rw e at good);
    value_row = λ e. (value_exactly image r (λ q h. rw e at (lower q h)) values_few).0 (rw e at good);
    variable_row = λ e. (variable_exactly image r).0 (rw e at good);
  }

  good_of : (r t : ℕ) → t < 9 → GoodBelow image t → ((q : ℕ) → q < r → row_rule image t q ≡ true) → Keeps image t r → row_rule image t r ≡ true
  unfolding row_rule
  good_of r =
      nine_cases (λ (t : ℕ). GoodBelow image t → ((q : ℕ) → q < r → row_rule image t q ≡ true) → Keeps image t r → row_rule image t r ≡ true)
      (λ _ lower k. (type_exactly image r lower).1 (k.type_row refl))
      (λ _ _ k. (reference_exactly image r).1 (k.reference_row refl))
      (λ _ _ k. (operation_exactly image r).1 (k.operation_row refl))
      (λ _ _ k. (fragment_exactly image header r).1 (k.fragment_row refl))
      (λ _ _ k. (set_exactly image r).1 (k.set_row refl))
      (λ below lower k. (selection_exactly image below r lower).1 (k.selection_row refl))
      (λ _ _ k. (argument_exactly image r).1 (k.argument_row refl))
      (λ _ lower k. (value_exactly image r lower values_few).1 (k.value_row refl))
      (λ _ _ k. (variable_exactly image r).1 (k.variable_row refl))

  -- ---- all rows before some

  good_rows : (t : ℕ) → t < 9 → GoodBelow image t → (n : ℕ) → ((q : ℕ) → q < n → Keeps image t q) → (q : ℕ) → q < n → row_rule image t q ≡ true
  good_rows t ht below zero keeps q less = absurd (omega arith)
  good_rows t ht below (suc n) keeps q less =
      let lower = good_rows t ht below n (λ p h. keeps p (omega arith)) in
      elim (dec_lt q n) [
        | yes before ↦ lower q before
        | no here ↦
            let last : n ≡ q = omega arith in
            rw last at (good_of n t ht below lower (keeps n (le_refl _)))
      ]

  good_below : (n : ℕ) → n ≤ 9 → KeepsBelow image n → GoodBelow image n
  good_below zero few keeps = none_yet image header
  good_below (suc n) few keeps =
      let below : GoodBelow image n = good_below n (omega arith) (λ u h. keeps u (omega arith)) in
      let rows = good_rows n (omega arith) below (count_at image n) (keeps n (le_refl _)) in
      record { header = header; rows = λ u h. elim (dec_lt u n) [ yes before ↦ below.rows u before | no here ↦ let last : n ≡ u = omega arith in rw last at rows ] }

  below_of : (n : ℕ) → GoodBelow image n → (t : ℕ) → t < n → GoodBelow image t
  below_of n good t ht = record { header = header; rows = λ u h. good.rows u (omega arith) }

  keeps_below : (n : ℕ) → GoodBelow image n → KeepsBelow image n
  keeps_below n good t ht r h = keeps_of t r (below_of n good t ht) (λ q less. good.rows t ht q (omega arith)) (good.rows t ht r h)

  -- ---- no fault

  whole : GoodBelow image 9 → count_at image sets ≤ next_set image (count_at image selections) → count_at image selections ≤ set_start image (count_at image sets)
      → count_at image values ≤ next_value image (count_at image values) → row_fault image ≡ none
  whole all s t v = sym (all_whole image (good_tables image 9 all) refl refl) ∙ sym (nothing_left image _ _ s t v)

  pub rows_exactly : (row_fault image ≡ none) ↔ KeepsRowRules image
  rows_exactly = (says, holds)
    where
      says : row_fault image ≡ none → KeepsRowRules image
      says e =
          let free = rows_decide image header ∙ e in
          let all : GoodBelow image 9 = record { header = header; rows = λ t ht r h. every_row image free t r ht h } in
          record {
            rows = keeps_below 9 all;
            no_set_left = (sets_exactly image all).0 (no_set_left image free);
            no_selection_left = (selections_exactly image all).0 (no_selection_left image free);
            no_value_left = (values_exactly image all).0 (no_value_left image free);
          }

      holds : KeepsRowRules image → row_fault image ≡ none
      holds k =
          let all = good_below 9 (le_refl _) k.rows in
          whole all ((sets_exactly image all).1 k.no_set_left) ((selections_exactly image all).1 k.no_selection_left)
          ((values_exactly image all).1 k.no_value_left)

  -- ---- the row that is shown

  -- what does not hold of rows that are left over
  short : {P : Type 0} (m n : ℕ) → (m ≤ n → P) → (P → ⊥) → n < m
  short m n holds fails = elim (dec_lt n m) [ yes less ↦ less | no few ↦ absurd (fails (holds (omega arith))) ]

  shows : {t r : ℕ} → BrokenAt image t r → row_fault image ≡ some (bad_row t r)
  shows {t} {r} (a_row ht h below lower fails) =
      let good = good_below t (omega arith) below in
      let rows = good_rows t ht good r lower in
      sym (breaks image t (stops_at image t r h rows (go (row_rule image t r) refl (keeps_of t r good rows))) (good_tables image t good) ht h)
    where
      go : (b : Bool) → row_rule image t r ≡ b → (row_rule image t r ≡ true → Keeps image t r) → row_rule image t r ≡ false
      go true e keeps = absurd (fails (keeps e))
      go false e keeps = e
  shows (sets_left t r below left) =
      let all = good_below 9 (le_refl _) below in
      rw t (sym (all_whole image (good_tables image 9 all) refl refl) ∙ sym (sets-fault image _ _ (short _ _ (sets_exactly image all).0 left) r))
  shows (selections_left t r below s left) =
      let all = good_below 9 (le_refl _) below in
      rw t
      (sym (all_whole image (good_tables image 9 all) refl refl)
      ∙ sym (selections-fault image _ _ ((sets_exactly image all).1 s) (short _ _ (selections_exactly image all).0 left) r))
  shows (values_left t r below s n left) =
      let all = good_below 9 (le_refl _) below in
      rw t
      (sym (all_whole image (good_tables image 9 all) refl refl)
      ∙ sym (values-fault image _ _ ((sets_exactly image all).1 s) ((selections_exactly image all).1 n) (short _ _ (values_exactly image all).0 left) r))

  -- the rules are kept, or break at a place, and at no other
  abbrev pub SomeBroken : Type 0
  SomeBroken = (t : ℕ) × (r : ℕ) × BrokenAt image t r

  first_broken : (t : ℕ) → t < 9 → GoodBelow image t → first_bad image t < count_at image t → BrokenAt image t (first_bad image t)
  unfolding first_bad
  first_broken t ht below less =
      let before = good_before (row_rule image t) (count_at image t) in
      a_row ht less (keeps_below t below) (λ q h. keeps_of t q below (λ p l. before p (omega arith)) (before q h))
      (λ k. fails (good_of (first_bad image t) t ht below before k))
    where
      fails : row_rule image t (first_bad image t) ≡ true → ⊥
      fails e = unlike (sym (not_true _ e) ∙ position_passes (count_at image t) (λ r. not (row_rule image t r)) less)
        where
          unlike : false ≡ true → ⊥
          unlike h = let z : ◌≡◌ {A = ℕ} 0 1 = cc in omega arith

  search_to : (n : ℕ) → n ≤ 9 → GoodBelow image n ⊎ SomeBroken
  search_to zero few = inl (none_yet image header)
  search_to (suc n) few = go (search_to n (omega arith))
    where
      go : GoodBelow image n ⊎ SomeBroken → GoodBelow image (suc n) ⊎ SomeBroken
      go (inr broken) = inr broken
      go (inl below) =
          elim (dec_lt (first_bad image n) (count_at image n)) [
            | yes less ↦ inr (n, first_bad image n, first_broken n (omega arith) below less)
            | no past ↦ inl (rw add-one at (good_more image n below refl (omega arith)))
          ]

  pub kept_or_broken : KeepsRowRules image ⊎ SomeBroken
  kept_or_broken = go (search_to 9 (le_refl _))
    where
      go : GoodBelow image 9 ⊎ SomeBroken → KeepsRowRules image ⊎ SomeBroken
      go (inr broken) = inr broken
      go (inl all) =
          let rows = keeps_below 9 all in
          let owned = sets_exactly image all in
          let stand = selections_exactly image all in
          let claimed = values_exactly image all in
          elim (dec_le (count_at image sets) (next_set image (count_at image selections))) [
            | no over ↦ inr (sets, count_at image sets, sets_left refl refl rows (λ s. over (owned.1 s)))
            | yes s ↦ elim (dec_le (count_at image selections) (set_start image (count_at image sets))) [
              | no over ↦ inr (selections, count_at image selections, selections_left refl refl rows (owned.0 s) (λ n. over (stand.1 n)))
              | yes n ↦ elim (dec_le (count_at image values) (next_value image (count_at image values))) [
                | no over ↦ inr (values, count_at image values, values_left refl refl rows (owned.0 s) (stand.0 n) (λ v. over (claimed.1 v)))
                | yes v ↦ inl (record { rows = rows; no_set_left = owned.0 s; no_selection_left = stand.0 n; no_value_left = claimed.0 v })
              ]
            ]
          ]

  table : Option Refusal → ℕ
  table none = 0
  table (some x) = x.a

  row : Option Refusal → ℕ
  row none = 0
  row (some x) = x.b

  pub broken_once : {t r u q : ℕ} → BrokenAt image t r → BrokenAt image u q → (t ≡ u) × (r ≡ q)
  unfolding table row
  broken_once a b = let same = sym (shows a) ∙ shows b in (ap table same, ap row same)

  pub row_fault_exactly : (t r : ℕ) → (row_fault image ≡ some (bad_row t r)) ↔ BrokenAt image t r
  unfolding table row
  row_fault_exactly t r = (says, shows)
    where
      says : row_fault image ≡ some (bad_row t r) → BrokenAt image t r
      says e = go kept_or_broken
        where
          go : KeepsRowRules image ⊎ SomeBroken → BrokenAt image t r
          go (inl k) = some_is_not_none (sym e ∙ rows_exactly.1 k)
          go (inr (u, q, broken)) =
              let same = sym (shows broken) ∙ e in
              let t-is : u ≡ t = ap table same in
              let r-is : q ≡ r = ap row same in
              rw (← t-is, ← r-is) broken
