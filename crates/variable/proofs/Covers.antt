-- What a list of ends covers: each step of the code adds to it the rows of the ranges that it reaches, and no other.
-- Assumes nothing.
use mathlib.Core.Path.{◌≡◌, refl, ap, subst, ◌∙◌}
use mathlib.Core.Logic.{◌⊎◌, inl, inr}
use mathlib.Core.Bool.{Bool, true, false, cond}
use mathlib.Core.List.{List}
use Prim.Native.Nat.{ℕ, zero, suc, ◌+◌, ◌≤◌, ◌<◌, max}
use native.Mathlib.Nat.{not-suc-le-zero}
use native.Mathlib.Decide.{ℕ_discrete}
use native.Mathlib.Omega.{arith}
use lib.Dec.{ltb}
use lib.ListN.{length, get_or, set, length-set}
use lib.Seq.{get_or-set_same, get_or-set_other}
use borrow.Author.Tests.{lt-ltb, le-ltb}
use Rattle.lists.proofs.Parts.{le_or_lt}
use Rattle.tables.specs.declared.Range.{Range}
use Rattle.tables.specs.Layout.{NONE, values}
use Rattle.tables.specs.Image.{count_at, row_in}
use Rattle.tables.proofs.Ranges.{row_in_lem}
use Rattle.reach.specs.Turns.{turns}
use Rattle.reach.specs.Reach.{RowOf}
use Rattle.variable.specs.Uses.{Uses, furthest, reach_range}

-- row r lies before the end of a row at it or before
pub record Covers (ends : List ℕ) (r : ℕ) : Type 0 where
  pub place : ℕ
  pub before : place ≤ r
  pub beyond : r < get_or ends place 0

-- ---- how far the ranges go that begin below n

pub furthest_from : (end : ℕ → ℕ) (n r : ℕ) → r < furthest end n → (k : ℕ) × (k < n) × (r < end k)
unfolding furthest
furthest_from end zero r h = absurd (not-suc-le-zero h)
furthest_from end (suc n) r h = pick (le_or_lt (end n) r) (furthest_from end n r)
  where
    pick : (end n ≤ r) ⊎ (r < end n) → (r < furthest end n → (k : ℕ) × (k < n) × (r < end k)) → (k : ℕ) × (k < suc n) × (r < end k)
    pick (inl past) below = let (k, l, e) = below (omega arith) in (k, omega arith, e)
    pick (inr less) below = (n, omega arith, less)

pub furthest_of : (end : ℕ → ℕ) (n r k : ℕ) → k < n → r < end k → r < furthest end n
unfolding furthest
furthest_of end zero r k l h = absurd (not-suc-le-zero l)
furthest_of end (suc n) r k l h =
    elim (ℕ_discrete k n) [
      | yes p ↦ let e : end k ≡ end n = ap end p in omega arith
      | no q ↦ let below : r < furthest end n = furthest_of end n r k (omega arith) h in omega arith
    ]

pub furthest_same : (end end' : ℕ → ℕ) (n : ℕ) → ((k : ℕ) → k < n → end k ≡ end' k) → furthest end n ≡ furthest end' n
unfolding furthest
furthest_same end end' zero h = refl
furthest_same end end' (suc n) h = rw (furthest_same end end' n (λ k l. h k (omega arith)), h n (omega arith))

abbrev pub end_of : List ℕ → ℕ → ℕ
end_of ends k = get_or ends k 0

pub covers_of : (ends : List ℕ) (r : ℕ) → r < furthest (end_of ends) (suc r) → Covers ends r
covers_of ends r h = let (k, l, e) = furthest_from (end_of ends) (suc r) r h in record { place = k; before = omega arith; beyond = e }

pub of_covers : (ends : List ℕ) (r : ℕ) → Covers ends r → r < furthest (end_of ends) (suc r)
of_covers ends r c = let before = c.before in furthest_of (end_of ends) (suc r) r c.place (omega arith) c.beyond

-- what is covered up to row r hangs on the ends up to it alone
pub covers_low : (ends ends' : List ℕ) (r x : ℕ) → ((k : ℕ) → k < suc r → end_of ends' k ≡ end_of ends k) → x ≤ r → Covers ends' x → Covers ends x
covers_low ends ends' r x same h c =
    let before = c.before in
    record { place = c.place; before = before; beyond = subst (λ (e : ℕ). x < e) (same c.place (omega arith)) c.beyond }

-- ---- a step that adds the rows of Q to what is covered

module _ (image : List ℕ) where
  pub record Adds (Q : ℕ → Type 0) (u u' : Uses) : Type 0 where
    pub long : length u'.ends ≡ length u.ends
    pub marks : u'.marks ≡ u.marks
    pub old : (r : ℕ) → Covers u.ends r → Covers u'.ends r
    pub new : (r : ℕ) → Q r → Covers u'.ends r
    pub only : (r : ℕ) → Covers u'.ends r → Covers u.ends r ⊎ Q r

  pub adds_then : {Q R : ℕ → Type 0} {u v w : Uses} → Adds Q u v → Adds R v w → Adds (λ r. Q r ⊎ R r) u w
  adds_then {Q} {R} {u} {v} {w} p q =
      record { long = q.long ∙ p.long; marks = q.marks ∙ p.marks; old = λ r c. q.old r (p.old r c); new = λ r. both r; only = λ r c. back r (q.only r c) }
    where
      both : (r : ℕ) → Q r ⊎ R r → Covers w.ends r
      both r (inl h) = q.old r (p.new r h)
      both r (inr h) = q.new r h

      first : (r : ℕ) → Covers u.ends r ⊎ Q r → Covers u.ends r ⊎ (Q r ⊎ R r)
      first r (inl c) = inl c
      first r (inr h) = inr (inl h)

      back : (r : ℕ) → Covers v.ends r ⊎ R r → Covers u.ends r ⊎ (Q r ⊎ R r)
      back r (inl c) = first r (p.only r c)
      back r (inr h) = inr (inr h)

  pub adds_as : {Q R : ℕ → Type 0} {u v : Uses} → Adds Q u v → ((r : ℕ) → Q r → R r) → ((r : ℕ) → R r → Q r) → Adds R u v
  adds_as {Q} {R} {u} p to from =
      record { long = p.long; marks = p.marks; old = p.old; new = λ r h. p.new r (from r h); only = λ r c. back r (p.only r c) }
    where
      back : (r : ℕ) → Covers u.ends r ⊎ Q r → Covers u.ends r ⊎ R r
      back r (inl c) = inl c
      back r (inr h) = inr (to r h)

  -- one of the turns below n adds r
  pub record InTurn (Q : ℕ → ℕ → Type 0) (n r : ℕ) : Type 0 where
    pub turn : ℕ
    pub less : turn < n
    pub adds : Q turn r

  pub adds_turns : {Q : ℕ → ℕ → Type 0} (turn : ℕ → Uses → Uses) (n : ℕ) (u : Uses) → length u.ends ≡ count_at image values
      → ((k : ℕ) (v : Uses) → k < n → length v.ends ≡ count_at image values → Adds (Q k) v (turn k v)) → Adds (InTurn Q n) u (turns turn n u)
  unfolding turns
  adds_turns {Q} turn zero u long each =
      record { long = refl; marks = refl; old = λ r c. c; new = λ r h. absurd (not-suc-le-zero h.less); only = λ r c. inl c }
  adds_turns {Q} turn (suc n) u long each =
      let before = adds_turns {Q = Q} turn n u long (λ k v l. each k v (omega arith)) in
      adds_as (adds_then before (each n (turns turn n u) (omega arith) (before.long ∙ long))) (λ r. to r) (λ r. from r)
    where
      to : (r : ℕ) → InTurn Q n r ⊎ Q n r → InTurn Q (suc n) r
      to r (inl h) = let less = h.less in record { turn = h.turn; less = omega arith; adds = h.adds }
      to r (inr h) = record { turn = n; less = omega arith; adds = h }

      from : (r : ℕ) → InTurn Q (suc n) r → InTurn Q n r ⊎ Q n r
      from r h =
          let less : h.turn < suc n = h.less in
          elim (ℕ_discrete h.turn n) [
            | yes p ↦ inr (subst (λ (k : ℕ). Q k r) p h.adds)
            | no q ↦ inl (record { turn = h.turn; less = omega arith; adds = h.adds })
          ]

  -- ---- a range is reached

  module _ (rows : Range) (u : Uses) (long : length u.ends ≡ count_at image values) (within : rows.first + rows.count ≤ count_at image values) (small : count_at image values ≤ NONE) where
    end_is : row_in rows rows.count ≡ rows.first + rows.count
    end_is = row_in_lem rows rows.count (omega arith)

    module _ (less : rows.first < count_at image values) where
      here : get_or (set u.ends rows.first (max (get_or u.ends rows.first 0) (row_in rows rows.count))) rows.first 0 ≡ max (get_or u.ends rows.first 0) (row_in rows rows.count)
      here = get_or-set_same u.ends rows.first _ 0 (rw long less)

      elsewhere : (k : ℕ) → (k ≡ rows.first → ⊥) → get_or (set u.ends rows.first (max (get_or u.ends rows.first 0) (row_in rows rows.count))) k 0 ≡ get_or u.ends k 0
      elsewhere k n = get_or-set_other u.ends rows.first k _ 0 n

      inside_adds : Adds (RowOf rows) u (record { ends = set u.ends rows.first (max (get_or u.ends rows.first 0) (row_in rows rows.count)); marks = u.marks })
      inside_adds =
          record {
            long = length-set u.ends rows.first _;
            marks = refl;
            old = λ r c. elim (ℕ_discrete c.place rows.first) [
              | yes p ↦
                  let was : r < get_or u.ends rows.first 0 = subst (λ (k : ℕ). r < get_or u.ends k 0) p c.beyond in
                  let before = c.before in
                  let value = here in
                  record { place = rows.first; before = omega arith; beyond = omega arith }
              | no q ↦ record { place = c.place; before = c.before; beyond = rw (elsewhere c.place q) c.beyond }
            ];
            new = λ r h.
                let from = h.from in
                let below = h.below in
                let value = here in
                let end = end_is in
                record { place = rows.first; before = from; beyond = omega arith };
            only = λ r c. elim (ℕ_discrete c.place rows.first) [
              | yes p ↦ split r (subst (λ (k : ℕ). k ≤ r) p c.before) (subst (λ (k : ℕ). r < get_or (set u.ends rows.first (max (get_or u.ends rows.first 0) (row_in rows rows.count))) k 0) p c.beyond) (le_or_lt (get_or u.ends rows.first 0) r)
              | no q ↦ inl (record { place = c.place; before = c.before; beyond = rw (← elsewhere c.place q) c.beyond })
            ];
          }
        where
          split : (r : ℕ) → rows.first ≤ r → r < get_or (set u.ends rows.first (max (get_or u.ends rows.first 0) (row_in rows rows.count))) rows.first 0
              → (get_or u.ends rows.first 0 ≤ r) ⊎ (r < get_or u.ends rows.first 0) → Covers u.ends r ⊎ RowOf rows r
          split r from beyond (inl past) = let value = here in let end = end_is in inr (record { from = from; below = omega arith })
          split r from beyond (inr was) = inl (record { place = rows.first; before = from; beyond = was })

    pub adds_range : Adds (RowOf rows) u (reach_range image rows u)
    unfolding reach_range
    adds_range = pick (le_or_lt (count_at image values) rows.first)
      where
        pick : (count_at image values ≤ rows.first) ⊎ (rows.first < count_at image values)
            → Adds (RowOf rows) u (cond (ltb rows.first (count_at image values)) (record { ends = set u.ends rows.first (max (get_or u.ends rows.first 0) (row_in rows rows.count)); marks = u.marks }) u)
        pick (inl past) =
            rw (le-ltb _ _ past)
            (record { long = refl; marks = refl; old = λ r c. c; new = λ r h. let from = h.from in let below = h.below in absurd (omega arith); only = λ r c. inl c })
        pick (inr less) = rw (lt-ltb _ _ less) (inside_adds less)

    -- the ends of other rows stay
    pub range_elsewhere : (k : ℕ) → (k ≡ rows.first → ⊥) → get_or (reach_range image rows u).ends k 0 ≡ get_or u.ends k 0
    unfolding reach_range
    range_elsewhere k n = pick (ltb rows.first (count_at image values))
      where
        pick : (b : Bool) → get_or (cond b (record { ends = set u.ends rows.first (max (get_or u.ends rows.first 0) (row_in rows rows.count)); marks = u.marks }) u).ends k 0 ≡ get_or u.ends k 0
        pick true = get_or-set_other u.ends rows.first k _ 0 n
        pick false = refl
