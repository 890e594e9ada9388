-- The laws of `every`, `position`, `total` and `distinct`: what they say, and what a loop over the numbers below n found.
-- Assumes nothing.
use mathlib.Core.Path.{◌≡◌, refl, sym, ap, ◌∙◌}
use mathlib.Core.Bool.{Bool, true, false, not, cond, false≢true}
use Prim.Native.Nat.{ℕ, zero, suc, ◌+◌, ◌<◌, ◌≤◌, zero-le, suc-le-suc}
use native.Mathlib.Nat.{le_of_suc-le-suc, not-suc-le-zero, le_of_eq, le_refl}
use native.Mathlib.Decide.{le_ind, dec_le}
use borrow.Author.Tests.{lt-ltb, le-ltb, ltb-true}
use lib.Arith.{lt_of_le-ne}
use lib.Dec.{ltb}
use native.Mathlib.Numerals.{add-one}
use native.Mathlib.Omega.{arith}
use borrow.Author.Tests.{eq-eqb, ne_eqb, eqb-true}
use lib.Dec.{eqb}
use Rattle.std.specs.Prelude.{Some, None, is_some, unwrap_or, nat_eq}
use Rattle.std.specs.Option.{option_eq}
use Rattle.std.proofs.lemmas.Option.{none-some, cond_some}
use Rattle.lists.specs.Every.{every, position, found, total, find, absent, distinct, Distinct}
use Rattle.lists.proofs.Tests.{both, first_of, second_of, not_true, not_false, not_is_true}

-- where all numbers below m are below n, m is n at most
pub all_below : (m n : ℕ) → ((k : ℕ) → k < m → k < n) → m ≤ n
all_below zero n h = zero-le
all_below (suc m) n h = h m (le_refl _)

-- `every` passes if each number does
pub every_intro : (n : ℕ) (p : ℕ → Bool) → ((k : ℕ) → k < n → p k ≡ true) → every n p ≡ true
unfolding every
every_intro zero p h = refl
every_intro (suc n) p h = both (h zero (suc-le-suc zero-le)) (every_intro n (λ k. p (suc k)) (λ k l. h (suc k) (suc-le-suc l)))

-- and only then
pub every_at : (n : ℕ) (p : ℕ → Bool) → every n p ≡ true → (k : ℕ) → k < n → p k ≡ true
unfolding every
every_at zero p e k l = absurd (not-suc-le-zero l)
every_at (suc n) p e zero l = first_of (p zero) (every n (λ k. p (suc k))) e
every_at (suc n) p e (suc k) l =
    every_at n (λ k. p (suc k)) (second_of (p zero) (every n (λ k. p (suc k))) e) k (le_of_suc-le-suc l)

-- one failure is enough
pub every_fails : (n : ℕ) (p : ℕ → Bool) (k : ℕ) → k < n → p k ≡ false → every n p ≡ false
every_fails n p k l e = go (every n p) refl
  where
    go : (b : Bool) → every n p ≡ b → every n p ≡ false
    go true t = absurd (false≢true (sym e ∙ every_at n p t k l))
    go false f = f

pub every_cong : (n : ℕ) (p q : ℕ → Bool) → ((k : ℕ) → k < n → p k ≡ q k) → every n p ≡ every n q
unfolding every
every_cong zero p q h = refl
every_cong (suc n) p q h =
    rw (h zero (suc-le-suc zero-le), every_cong n (λ k. p (suc k)) (λ k. q (suc k)) (λ k l. h (suc k) (suc-le-suc l)))

pub position_cong : (n : ℕ) (p q : ℕ → Bool) → ((k : ℕ) → k < n → p k ≡ q k) → position n p ≡ position n q
unfolding position
position_cong zero p q h = refl
position_cong (suc n) p q h =
    rw (h zero (suc-le-suc zero-le), position_cong n (λ k. p (suc k)) (λ k. q (suc k)) (λ k l. h (suc k) (suc-le-suc l)))

-- a number that passes, below which none does, is the position
pub position_found : (n : ℕ) (p : ℕ → Bool) (i : ℕ) → i < n → ((k : ℕ) → k < i → p k ≡ false) → p i ≡ true → position n p ≡ i
unfolding position
position_found zero p i l below here = absurd (not-suc-le-zero l)
position_found (suc n) p zero l below here = rw here
position_found (suc n) p (suc i) l below here =
    rw (below zero (suc-le-suc zero-le))
    (ap suc (position_found n (λ k. p (suc k)) i (le_of_suc-le-suc l) (λ k m. below (suc k) (suc-le-suc m)) here))

pub position_none : (n : ℕ) (p : ℕ → Bool) → ((k : ℕ) → k < n → p k ≡ false) → position n p ≡ n
unfolding position
position_none zero p none = refl
position_none (suc n) p none =
    rw (none zero (suc-le-suc zero-le)) (ap suc (position_none n (λ k. p (suc k)) (λ k l. none (suc k) (suc-le-suc l))))

pub position_le : (n : ℕ) (p : ℕ → Bool) → position n p ≤ n
unfolding position
position_le zero p = zero-le
position_le (suc n) p = go (p zero) (position_le n (λ k. p (suc k)))
  where
    go : (b : Bool) {m : ℕ} → m ≤ n → cond b zero (suc m) ≤ suc n
    go true h = zero-le
    go false h = suc-le-suc h

-- where the position is below n, it passes
pub position_passes : (n : ℕ) (p : ℕ → Bool) → position n p < n → p (position n p) ≡ true
unfolding position
position_passes zero p l = absurd (not-suc-le-zero l)
position_passes (suc n) p l = go (p zero) refl (position_passes n (λ k. p (suc k))) l
  where
    go : (b : Bool) {m : ℕ} → p zero ≡ b → (m < n → p (suc m) ≡ true) → cond b zero (suc m) < suc n → p (cond b zero (suc m)) ≡ true
    go true e rest below = e
    go false e rest below = rest (le_of_suc-le-suc below)

-- it is below n where any number passes
pub position_below : (n : ℕ) (p : ℕ → Bool) (k : ℕ) → k < n → p k ≡ true → position n p < n
unfolding position
position_below zero p k l e = absurd (not-suc-le-zero l)
position_below (suc n) p zero l e = rw e (suc-le-suc zero-le)
position_below (suc n) p (suc k) l e = go (p zero) (position_below n (λ k. p (suc k)) k (le_of_suc-le-suc l) e)
  where
    go : (b : Bool) {m : ℕ} → m < n → cond b zero (suc m) < suc n
    go true h = suc-le-suc zero-le
    go false h = suc-le-suc h

-- a search that ends at n found nothing, and one that ends elsewhere below n found something
pub past : {m n : ℕ} → m ≡ n → ltb m n ≡ false
past {m} {n} e = le-ltb m n (le_of_eq (sym e))

pub present : {m n : ℕ} → m ≤ n → (m ≡ n → ⊥) → ltb m n ≡ true
present {m} {n} l ne = lt-ltb m n (lt_of_le-ne l ne)

-- below the position none passes
pub before_position : (n : ℕ) (p : ℕ → Bool) (k : ℕ) → k < position n p → p k ≡ false
unfolding position
before_position zero p k l = absurd (not-suc-le-zero l)
before_position (suc n) p k l = go (p zero) refl (before_position n (λ j. p (suc j))) k l
  where
    go : (b : Bool) → p zero ≡ b → ((k : ℕ) → k < position n (λ j. p (suc j)) → p (suc k) ≡ false)
        → (k : ℕ) → k < cond b zero (suc (position n (λ j. p (suc j)))) → p k ≡ false
    go true e rest k below = absurd (not-suc-le-zero below)
    go false e rest zero below = e
    go false e rest (suc k) below = rest k (le_of_suc-le-suc below)

-- ---- a search's answer

pub found_some : {n i : ℕ} → i < n → found n i ≡ Some i
found_some {n} {i} l = rw (lt-ltb i n l)

pub found_none : {n i : ℕ} → n ≤ i → found n i ≡ None
found_none {n} {i} l = rw (le-ltb i n l)

-- what an answer says of the number
pub some_found : {n i j : ℕ} → Some j ≡ found n i → (i ≡ j) × (i < n)
some_found {n} {i} {j} e = let here = cond_some (ltb i n) i j (sym e) in (here.1, ltb-true i n here.0)

pub none_found : {n i : ℕ} → None ≡ found n i → n ≤ i
none_found {n} {i} e = elim (dec_le n i) [ yes l ↦ l | no l ↦ absurd (none-some i (e ∙ found_some (omega arith))) ]

-- a position is n at most, so n stands for no answer
position_is : (n : ℕ) (p : ℕ → Bool) → n ≤ position n p → position n p ≡ n
position_is n p l = omega (arith, position_le n p)

pub unwrap_found : (n : ℕ) (p : ℕ → Bool) → unwrap_or (found n (position n p)) n ≡ position n p
unwrap_found n p = elim (dec_le n (position n p)) [
  | yes l ↦ rw (found_none l) (omega (arith, position_le n p))
  | no l ↦ let below : position n p < n = omega arith in rw (found_some below)
]

-- `is_none` of the answer says that the position is n
pub none_where : (n : ℕ) (p : ℕ → Bool) (b : Bool) → is_some (found n (position n p)) ≡ not b → b ≡ eqb (position n p) n
none_where n p b is = elim (dec_le n (position n p)) [
  | yes l ↦ let none : false ≡ not b = rw (found_none l) at is in rw (eq-eqb (position n p) n (position_is n p l)) (not_false b (sym none))
  | no l ↦ let below : position n p < n = omega arith in let some : true ≡ not b = rw (found_some below) at is in
      rw (ne_eqb (position n p) n (λ e. omega arith)) (not_is_true b (sym some))
]

-- the answer is k, for a k below n, where the position is k
pub same_found : {n k : ℕ} (i : ℕ) → k < n → option_eq nat_eq (found n i) (Some k) ≡ eqb i k
same_found {n} {k} i below = elim (dec_le n i) [
  | yes l ↦ rw (found_none l) (sym (ne_eqb _ _ (λ e. omega arith)))
  | no l ↦ let here : i < n = omega arith in rw (found_some here)
]

-- a number that passes, below which none does, is the answer; where none passes, there is none
pub found_here : (n : ℕ) (p : ℕ → Bool) (i : ℕ) → i < n → ((k : ℕ) → k < i → p k ≡ false) → p i ≡ true → Some i ≡ found n (position n p)
found_here n p i l below here = rw (position_found n p i l below here) (sym (found_some l))

pub found_nowhere : (n : ℕ) (p : ℕ → Bool) → ((k : ℕ) → k < n → p k ≡ false) → None ≡ found n (position n p)
found_nowhere n p none = rw (position_none n p none) (sym (found_none (le_refl n)))

-- ---- the first row that fails its rule

module _ (good : ℕ → Bool) where
  -- all rows passed are good, and this one is not: it is the first that fails
  pub first_bad_lem : (n i : ℕ) → i < n → ((k : ℕ) → k < i → good k ≡ true) → good i ≡ false → position n (λ k. not (good k)) ≡ i
  first_bad_lem n i l below here = position_found n (λ k. not (good k)) i l (λ k m. not_true (good k) (below k m)) (rw here)

  pub none_bad : (n : ℕ) → ((k : ℕ) → k < n → good k ≡ true) → position n (λ k. not (good k)) ≡ n
  none_bad n all = position_none n (λ k. not (good k)) (λ k l. not_true (good k) (all k l))

  -- the rows before the first that fails are good
  pub good_before : (n k : ℕ) → k < position n (λ k. not (good k)) → good k ≡ true
  good_before n k l = not_false (good k) (before_position n (λ k. not (good k)) k l)

-- ---- running sums

pub total_more : (start : ℕ) (add : ℕ → ℕ) (n : ℕ) → total start add (n + 1) ≡ total start add n + add n
unfolding total
total_more start add n = rw add-one

pub total_grows : (start : ℕ) (add : ℕ → ℕ) (m n : ℕ) → m ≤ n → total start add m ≤ total start add n
unfolding total
total_grows start add m n h = le_ind (λ (k : ℕ). total start add m ≤ total start add k) (le_refl _) (λ k _ ih. omega arith) n h

-- ---- distinct keys

module _ (n : ℕ) (key : ℕ → ℕ) where
  pub distinct_holds : distinct n key ≡ true → Distinct n key
  unfolding distinct
  distinct_holds e j k l m p = sym (own j l) ∙ ap (find n key) p ∙ own k m
    where
      own : (k : ℕ) → k < n → find n key (key k) ≡ k
      own k l = eqb-true _ _ (every_at n (λ k. eqb (find n key (key k)) k) e k l)

  pub absent_holds : (wanted : ℕ) → absent n key wanted ≡ true → (k : ℕ) → k < n → key k ≡ wanted → ⊥
  unfolding absent
  absent_holds wanted e k l p =
      let none : find n key wanted ≡ n = eqb-true _ _ e in
      let some : find n key wanted < n = position_below n (λ k. eqb (key k) wanted) k l (eq-eqb _ _ p) in
      omega arith

  -- and only then
  pub distinct_intro : Distinct n key → distinct n key ≡ true
  unfolding distinct
  distinct_intro apart =
      every_intro n (λ k. eqb (find n key (key k)) k)
      (λ k l. eq-eqb _ _ (position_found n (λ j. eqb (key j) (key k)) k l (λ j m. ne_eqb _ _ (unlike j k m l)) (eq-eqb (key k) (key k) refl)))
    where
      unlike : (j k : ℕ) → j < k → k < n → key j ≡ key k → ⊥
      unlike j k m l p = let same = apart j k (omega arith) l p in omega arith

  pub absent_intro : (wanted : ℕ) → ((k : ℕ) → k < n → key k ≡ wanted → ⊥) → absent n key wanted ≡ true
  unfolding absent
  absent_intro wanted none = eq-eqb _ _ (position_none n (λ k. eqb (key k) wanted) (λ k l. ne_eqb _ _ (none k l)))

-- keys that are the same one by one
pub distinct_same : (n : ℕ) (key other : ℕ → ℕ) → ((k : ℕ) → k < n → key k ≡ other k) → Distinct n key → Distinct n other
distinct_same n key other same apart j k l m p = apart j k l m (same j l ∙ p ∙ sym (same k m))
