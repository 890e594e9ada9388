-- The laws of places: what a search for a place found, and what that says of the list that stands there. Assumes nothing.
use mathlib.Core.Path.{◌≡◌, refl, sym, ap, ◌∙◌}
use mathlib.Core.Logic.{⊎_elim}
use mathlib.Core.Bool.{Bool, true, false, not, ◌&&◌, ◌||◌, or_assoc}
use mathlib.Core.List.{List, [], ◌∷◌, ◌++◌, append-nil, map}
use Prim.Native.Nat.{ℕ, zero, suc, ◌+◌, ◌-◌, ◌≤◌, ◌<◌}
use native.Mathlib.Nat.{add-zero}
use native.Mathlib.Decide.{ℕ_discrete}
use native.Mathlib.Omega.{arith}
use lib.Dec.{eqb}
use lib.ListN.{length, get_or, drop_of_length-le}
use lib.Seq.{drop-cons, take-suc}
use borrow.Author.Tests.{eq-eqb, ne_eqb}
use Rattle.lists.specs.Every.{position}
use Rattle.lists.proofs.EveryLaws.{position_found, position_none, position_le, position_passes, before_position}
use Rattle.lists.proofs.Parts.{le_or_lt, stores_length, stores_get_or}
use Rattle.merge_theory.specs.Lists.{keep, filter, is_in, distinct}
use Rattle.merge_theory.specs.Groups.{keys_of}
use Rattle.merge_theory.proofs.Loops.{filter_append, map_append}
use Rattle.lists.specs.declared.Span.{Span}
use Rattle.lists.specs.Part.{StoredAt}
use Rattle.selection.specs.Places.{seek, row_in, before, onward, appears, fresh_keys, fresh_from}

-- ---- a search

-- the places passed fail
pub record Passed (test : ℕ → Bool) (from end place : ℕ) : Type 0 where
  pub ahead : from ≤ place
  pub within : place - from ≤ end - from
  pub failed : (k : ℕ) → k < place - from → test (from + k) ≡ false

module _ (test : ℕ → Bool) (from end : ℕ) where
  pub passed_none : Passed test from end from
  passed_none = record { ahead = omega arith; within = omega arith; failed = λ k h. absurd (omega arith) }

  pub passed_more : (place : ℕ) → Passed test from end place → place < end → test place ≡ false → Passed test from end (place + 1)
  passed_more place h less fails = record { ahead = omega arith; within = omega arith; failed = λ k l. go k l (ℕ_discrete k (place - from)) }
    where
      go : (k : ℕ) → k < place + 1 - from → Dec (k ≡ place - from) → test (from + k) ≡ false
      go k l (yes e) = let is : from + k ≡ place = omega arith in rw is fails
      go k l (no ne) = h.failed k (omega arith)

  pub seek_found : (place : ℕ) → Passed test from end place → place < end → test place ≡ true → place ≡ seek test from end
  unfolding seek
  seek_found place h less here =
      let is : from + (place - from) ≡ place = omega arith in
      let at : position (end - from) (λ k. test (from + k)) ≡ place - from = position_found (end - from) (λ k. test (from + k)) (place - from) (omega arith) h.failed (rw is here) in
      rw at (sym is)

  pub seek_none : (place : ℕ) → Passed test from end place → end ≤ place → place ≡ seek test from end
  unfolding seek
  seek_none place h over =
      let at : position (end - from) (λ k. test (from + k)) ≡ end - from = position_none (end - from) (λ k. test (from + k)) (λ k l. h.failed k (omega arith)) in
      rw at (omega arith)

  pub seek_ge : from ≤ seek test from end
  unfolding seek
  seek_ge = omega arith

  pub seek_le : from ≤ end → seek test from end ≤ end
  unfolding seek
  seek_le h = omega (arith, position_le (end - from) (λ k. test (from + k)))

  pub seek_passes : seek test from end < end → test (seek test from end) ≡ true
  unfolding seek
  seek_passes h = position_passes (end - from) (λ k. test (from + k)) (omega arith)

  -- what does not change at a place that fails is the same where the search ends
  pub seek_skips : {A : Type 0} (F : ℕ → A) → ((p : ℕ) → from ≤ p → p < end → test p ≡ false → F p ≡ F (p + 1)) → F from ≡ F (seek test from end)
  unfolding seek
  seek_skips {A} F step = go (position (end - from) (λ k. test (from + k))) (position_le (end - from) (λ k. test (from + k))) (before_position (end - from) (λ k. test (from + k)))
    where
      go : (d : ℕ) → d ≤ end - from → ((k : ℕ) → k < d → test (from + k) ≡ false) → F from ≡ F (from + d)
      go zero h fails = ap F (sym (add-zero from))
      go (suc d) h fails =
          let next : from + d + 1 ≡ from + suc d = omega arith in
          go d (omega arith) (λ k l. fails k (omega arith)) ∙ step (from + d) (omega arith) (omega arith) (fails d (omega arith)) ∙ ap F next

  -- the places that a search passed fail
  pub seek_passed : Passed test from end (seek test from end)
  unfolding seek
  seek_passed = record {
    ahead = omega arith;
    within = omega (arith, position_le (end - from) (λ k. test (from + k)));
    failed = λ k h. before_position (end - from) (λ k. test (from + k)) k (omega arith);
  }

  pub passed_trans : {mid place : ℕ} → Passed test from end mid → Passed test mid end place → Passed test from end place
  passed_trans {mid} {place} p q = record { ahead = omega (arith, p.ahead, q.ahead); within = omega (arith, p.ahead, p.within, q.ahead, q.within); failed = go }
    where
      go : (k : ℕ) → k < place - from → test (from + k) ≡ false
      go k h = ⊎_elim
          (λ over. let at : mid + (from + k - mid) ≡ from + k = omega arith in rw at at (q.failed (from + k - mid) (omega (arith, p.ahead, q.ahead))))
          (λ less. p.failed k (omega (arith, p.ahead)))
          (le_or_lt mid (from + k))

  -- where no place was passed that would do, and the search ends here
  pub seek_is : {place : ℕ} → Passed test from end place → (place < end → test place ≡ true) → place ≡ seek test from end
  seek_is {place} p here = ⊎_elim (λ over. seek_none place p over) (λ less. seek_found place p less (here less)) (le_or_lt end place)

-- a search goes on from a place that it passes
pub seek_further : (test : ℕ → Bool) (from end : ℕ) {mid : ℕ} → Passed test from end mid → seek test mid end ≡ seek test from end
seek_further test from end {mid} p = seek_is test from end (passed_trans test from end p (seek_passed test mid end)) (λ less. seek_passes test mid end less)

-- a search for what passes another test at each place
pub seek_cong : (t u : ℕ → Bool) (from end : ℕ) → ((q : ℕ) → from ≤ q → q < end → t q ≡ u q) → seek t from end ≡ seek u from end
seek_cong t u from end same =
    let p = seek_passed t from end in
    seek_is u from end
    (record { ahead = p.ahead; within = p.within; failed = λ k h. sym (same (from + k) (omega arith) (omega (arith, p.within))) ∙ p.failed k h })
    (λ less. sym (same (seek t from end) p.ahead less) ∙ seek_passes t from end less)

-- ---- the rows of a list, by place

module _ {s : List ℕ} {store : ℕ} {x : Span} {l : List ℕ} (list : StoredAt s store x l) where
  pub rows_length : length l ≡ x.end - x.start
  rows_length = stores_length list.rows

  pub row_is : (p : ℕ) → x.start ≤ p → p < x.end → row_in s store p ≡ get_or l (p - x.start) 0
  row_is p h less =
      let place : store + p ≡ store + x.start + (p - x.start) = omega arith in
      rw place (stores_get_or list.rows (p - x.start) (omega arith))

  pub onward_here : (p : ℕ) → x.start ≤ p → p < x.end → onward x l p ≡ row_in s store p ∷ onward x l (p + 1)
  unfolding onward
  onward_here p h less =
      let long = rows_length in
      let next : suc (p - x.start) ≡ p + 1 - x.start = omega arith in
      drop-cons l (p - x.start) 0 (omega arith) ∙ rw (next, row_is p h less)

  pub before_here : (p : ℕ) → x.start ≤ p → p < x.end → before x l (p + 1) ≡ before x l p ++ (row_in s store p ∷ [])
  unfolding before
  before_here p h less =
      let long = rows_length in
      let next : p + 1 - x.start ≡ suc (p - x.start) = omega arith in
      rw (next, row_is p h less) (take-suc l (p - x.start) 0 (omega arith))

  pub onward_over : (p : ℕ) → x.end ≤ p → onward x l p ≡ []
  unfolding onward
  onward_over p h = let long = rows_length in drop_of_length-le l {i = p - x.start} (omega arith)

pub onward_start : (x : Span) (l : List ℕ) → onward x l x.start ≡ l
unfolding onward
onward_start x l = let none : x.start - x.start ≡ 0 = omega arith in rw none

pub before_start : (x : Span) (l : List ℕ) → before x l x.start ≡ []
unfolding before
before_start x l = let none : x.start - x.start ≡ 0 = omega arith in rw none

-- ---- the rows from a place on that pass a test

-- what a search from `from` found: q is the place of the first row that passes
pub record Found (t : ℕ → Bool) (x : Span) (l : List ℕ) (from q row : ℕ) : Type 0 where
  pub ahead : from ≤ q
  pub same : filter t (onward x l from) ≡ filter t (onward x l q)
  pub over : x.end ≤ q → filter t (onward x l from) ≡ []
  pub here : q < x.end → filter t (onward x l from) ≡ row ∷ filter t (onward x l (q + 1))
  pub passes : q < x.end → t row ≡ true

-- the same row, said in another way
pub found_row : {t : ℕ → Bool} {x : Span} {l : List ℕ} {from q row row' : ℕ} → Found t x l from q row → (q < x.end → row ≡ row') → Found t x l from q row'
found_row {t} {x} {l} {from} {q} f is = record {
  ahead = f.ahead;
  same = f.same;
  over = f.over;
  here = λ less. f.here less ∙ ap (λ (r : ℕ). r ∷ filter t (onward x l (q + 1))) (is less);
  passes = λ less. ap t (sym (is less)) ∙ f.passes less;
}

module _ {s : List ℕ} {store : ℕ} {x : Span} {l : List ℕ} (list : StoredAt s store x l) (t : ℕ → Bool) where
  pub filter_here : (p : ℕ) → x.start ≤ p → p < x.end → t (row_in s store p) ≡ true → filter t (onward x l p) ≡ row_in s store p ∷ filter t (onward x l (p + 1))
  unfolding filter
  filter_here p h less yes-t = rw (onward_here list p h less, yes-t)

  pub filter_skip : (p : ℕ) → x.start ≤ p → p < x.end → t (row_in s store p) ≡ false → filter t (onward x l p) ≡ filter t (onward x l (p + 1))
  unfolding filter
  filter_skip p h less no-t = rw (onward_here list p h less, no-t)

  pub found : (test : ℕ → Bool) (from : ℕ) {q : ℕ} → x.start ≤ from → ((p : ℕ) → x.start ≤ p → p < x.end → test p ≡ t (row_in s store p))
      → q ≡ seek test from x.end → Found t x l from q (row_in s store q)
  unfolding filter
  found test from {q} low agree e =
      let ge = seek_ge test from x.end in
      let skips : filter t (onward x l from) ≡ filter t (onward x l q) =
      rw e (seek_skips test from x.end (λ p. filter t (onward x l p)) (λ p h less no-t. filter_skip p (omega arith) less (sym (agree p (omega arith) less) ∙ no-t))) in
      let ahead : from ≤ q = rw e ge in
      let passes : q < x.end → t (row_in s store q) ≡ true = λ less. sym (agree q (omega arith) less) ∙ rw e (seek_passes test from x.end (rw e at less)) in
      record {
        ahead = ahead;
        same = skips;
        over = λ past. skips ∙ rw (onward_over list q past);
        here = λ less. skips ∙ filter_here q (omega arith) less (passes less);
        passes = passes;
      }

  -- a place that passes is found at once
  pub found_here : (q : ℕ) → x.start ≤ q → (q < x.end → t (row_in s store q) ≡ true) → Found t x l q q (row_in s store q)
  unfolding filter
  found_here q low passes = record {
    ahead = omega arith;
    same = refl;
    over = λ past. rw (onward_over list q past);
    here = λ less. filter_here q low less (passes less);
    passes = passes;
  }

-- ---- keys where they first appear

pub eqb_sym : (a b : ℕ) → eqb a b ≡ eqb b a
eqb_sym a b = go (ℕ_discrete a b)
  where
    go : Dec (a ≡ b) → eqb a b ≡ eqb b a
    go (yes e) = eq-eqb a b e ∙ sym (eq-eqb b a (sym e))
    go (no ne) = ne_eqb a b ne ∙ sym (ne_eqb b a (λ e. ne (sym e)))

or_false : (b : Bool) → (b || false) ≡ b
or_false true = refl
or_false false = refl

or_true : (b : Bool) → (b || true) ≡ true
or_true true = refl
or_true false = refl

is_in_append : (a : ℕ) (xs ys : List ℕ) → is_in a (xs ++ ys) ≡ (is_in a xs || is_in a ys)
unfolding is_in
is_in_append a [] ys = refl
is_in_append a (x ∷ xs) ys = ap (λ b. eqb a x || b) (is_in_append a xs ys) ∙ sym (or_assoc (eqb a x) (is_in a xs) (is_in a ys))

pub filter_cong : (p q : ℕ → Bool) (xs : List ℕ) → ((y : ℕ) → p y ≡ q y) → filter p xs ≡ filter q xs
unfolding filter
filter_cong p q [] h = refl
filter_cong p q (y ∷ ys) h = rw (h y, filter_cong p q ys h)

pub filter_filter : (p q : ℕ → Bool) (xs : List ℕ) → filter p (filter q xs) ≡ filter (λ y. q y && p y) xs
unfolding filter
filter_filter p q [] = refl
filter_filter p q (y ∷ ys) = go (q y) (filter_filter p q ys)
  where
    go : (b : Bool) → filter p (filter q ys) ≡ filter (λ z. q z && p z) ys → filter p (keep b y (filter q ys)) ≡ keep (b && p y) y (filter (λ z. q z && p z) ys)
    go true e = ap (keep (p y) y) e
    go false e = e

-- where nothing was seen, nothing is left out
pub none_seen : (xs : List ℕ) → filter (λ k. not (is_in k [])) xs ≡ xs
unfolding filter is_in
none_seen [] = refl
none_seen (y ∷ ys) = ap (λ (m : List ℕ). y ∷ m) (none_seen ys)

-- a key that is not among some, and not this one
apart : (k a : ℕ) (S : List ℕ) → not (is_in k (S ++ a ∷ [])) ≡ (not (eqb k a) && not (is_in k S))
unfolding is_in
apart k a S = rw (is_in_append k S (a ∷ [])) (go (is_in k S) (eqb k a))
  where
    go : (b c : Bool) → not (b || (c || false)) ≡ (not c && not b)
    go true true = refl
    go true false = refl
    go false true = refl
    go false false = refl

module _ (key : ℕ → ℕ) (among : ℕ → Bool) where
  pub fresh_rest : (seen rows : List ℕ) → fresh_keys key among seen rows ≡ filter (λ k. not (is_in k (map key (filter among seen)))) (keys_of key (filter among rows))
  unfolding fresh_keys keys_of distinct filter appears
  fresh_rest seen [] = refl
  fresh_rest seen (f ∷ rows) = rw (fresh_rest (seen ++ f ∷ []) rows, filter_append among seen (f ∷ []), map_append key (filter among seen) (filter among (f ∷ []))) (go (among f))
    where
      S : List ℕ
      S = map key (filter among seen)

      X : List ℕ
      X = distinct (map key (filter among rows))

      go : (b : Bool) → keep (b && not (is_in (key f) S)) (key f) (filter (λ k. not (is_in k (S ++ map key (keep b f [])))) X)
          ≡ filter (λ k. not (is_in k S)) (distinct (map key (keep b f (filter among rows))))
      go true = ap (keep (not (is_in (key f) S)) (key f)) (filter_cong _ _ X (λ k. apart k (key f) S) ∙ sym (filter_filter (λ k. not (is_in k S)) (λ y. not (eqb y (key f))) X))
      go false = filter_cong _ _ X (λ k. ap (λ (m : List ℕ). not (is_in k m)) (append-nil S))

  -- from the beginning, these are the keys in order of first appearance
  pub fresh_all : (rows : List ℕ) → keys_of key (filter among rows) ≡ fresh_keys key among [] rows
  unfolding filter
  fresh_all rows = sym (fresh_rest [] rows ∙ none_seen (keys_of key (filter among rows)))

  module _ {s : List ℕ} {store : ℕ} {x : Span} {l : List ℕ} (list : StoredAt s store x l) where
    -- whether a key was seen, one row further on
    seen_more : (k q : ℕ) → x.start ≤ q → q < x.end
        → is_in k (map key (filter among (before x l (q + 1)))) ≡ (is_in k (map key (filter among (before x l q))) || (among (row_in s store q) && eqb (key (row_in s store q)) k))
    unfolding filter is_in
    seen_more k q low less =
        rw (before_here list q low less, filter_append among (before x l q) (row_in s store q ∷ []), map_append key (filter among (before x l q)) (filter among (row_in s store q ∷ [])), is_in_append k (map key (filter among (before x l q))) (map key (filter among (row_in s store q ∷ []))))
        (ap (λ b. is_in k (map key (filter among (before x l q))) || b) (last (among (row_in s store q))))
      where
        last : (b : Bool) → is_in k (map key (keep b (row_in s store q) [])) ≡ (b && eqb (key (row_in s store q)) k)
        last true = or_false (eqb k (key (row_in s store q))) ∙ eqb_sym k (key (row_in s store q))
        last false = refl

    -- whether a search for this row's key ended at the row itself
    pub appears_by : (test : ℕ → Bool) (p : ℕ) → x.start ≤ p → p < x.end
        → ((q : ℕ) → x.start ≤ q → q < p → test q ≡ (among (row_in s store q) && eqb (key (row_in s store q)) (key (row_in s store p))))
        → eqb (seek test x.start p) p ≡ not (is_in (key (row_in s store p)) (map key (filter among (before x l p))))
    unfolding filter is_in
    appears_by test p low less agree = go (ℕ_discrete (seek test x.start p) p)
      where
        k : ℕ
        k = key (row_in s store p)

        F : ℕ → Bool
        F q = is_in k (map key (filter among (before x l q)))

        none : F x.start ≡ false
        none = rw (before_start x l)

        stays : (q d : ℕ) → x.start ≤ q → q + d ≤ p → F q ≡ true → F (q + d) ≡ true
        stays q zero low h e = ap F (add-zero q) ∙ e
        stays q (suc d) low h e =
            let next : q + suc d ≡ q + d + 1 = omega arith in
            rw next (seen_more k (q + d) (omega arith) (omega arith) ∙ rw (stays q d low (omega arith) e))

        go : Dec (seek test x.start p ≡ p) → eqb (seek test x.start p) p ≡ not (F p)
        go (yes e) =
            let skips : F x.start ≡ F (seek test x.start p) = seek_skips test x.start p F (λ q h m fails. sym (seen_more k q h (omega arith) ∙ rw (sym (agree q h m) ∙ fails) (or_false (F q)))) in
            let all : F p ≡ false = ap F (sym e) ∙ sym skips ∙ none in
            eq-eqb _ _ e ∙ sym (ap not all)
        go (no ne) =
            let q = seek test x.start p in
            let ge : x.start ≤ q = seek_ge test x.start p in
            let le : q ≤ p = seek_le test x.start p low in
            let lt : q < p = omega arith in
            let hit : (among (row_in s store q) && eqb (key (row_in s store q)) k) ≡ true = sym (agree q ge lt) ∙ seek_passes test x.start p lt in
            let there : F (q + 1) ≡ true = seen_more k q ge (omega arith) ∙ rw hit (or_true (F q)) in
            let place : q + 1 + (p - (q + 1)) ≡ p = omega arith in
            let all : F p ≡ true = ap F (sym place) ∙ stays (q + 1) (p - (q + 1)) (omega arith) (omega arith) there in
            ne_eqb _ _ ne ∙ sym (ap not all)

    -- a row that appears, and one that does not
    pub fresh_here : (p : ℕ) → x.start ≤ p → p < x.end → appears key among (before x l p) (row_in s store p) ≡ true
        → fresh_from key among x l p ≡ key (row_in s store p) ∷ fresh_from key among x l (p + 1)
    unfolding fresh_keys
    fresh_here p low less e = rw (onward_here list p low less, e, before_here list p low less)

    pub fresh_skip : (p : ℕ) → x.start ≤ p → p < x.end → appears key among (before x l p) (row_in s store p) ≡ false → fresh_from key among x l p ≡ fresh_from key among x l (p + 1)
    unfolding fresh_keys
    fresh_skip p low less e = rw (onward_here list p low less, e, before_here list p low less)

    pub fresh_over : (p : ℕ) → x.end ≤ p → fresh_from key among x l p ≡ []
    unfolding fresh_keys
    fresh_over p h = rw (onward_over list p h)
