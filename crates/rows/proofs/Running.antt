-- A running sum, told by the last row before that adds to it: the numbers of specs/Numbering are those of specs/Meaning. Assumes nothing.
use Prim.Native.Nat.{ℕ, zero, suc, ◌+◌, ◌<◌, ◌≤◌}
use mathlib.Core.Path.{◌≡◌, refl, sym, ◌∙◌}
use mathlib.Core.Logic.{◌↔◌, ◌⊎◌, inl, inr}
use mathlib.Core.Bool.{Bool, true, false, cond, false≢true}
use native.Mathlib.Nat.{le_refl}
use native.Mathlib.Decide.{le_ind, dec_lt}
use native.Mathlib.Omega.{arith}
use Rattle.lists.specs.Every.{total}
use Rattle.lists.proofs.EveryLaws.{total_more}
use Rattle.rows.specs.Meaning.{LastBefore}

-- rows of one sort, by a test, and what each of them adds
module _ (start : ℕ) (test : ℕ → Bool) (more : ℕ → ℕ) (Sort : ℕ → Type 0) (means : (k : ℕ) → (test k ≡ true) ↔ Sort k) where
  abbrev adds : ℕ → ℕ
  adds k = cond (test k) (more k) 0

  fails : (k : ℕ) → (Sort k → ⊥) → test k ≡ false
  fails k none = go (test k) refl
    where
      go : (b : Bool) → test k ≡ b → test k ≡ false
      go true e = absurd (none ((means k).0 e))
      go false e = e

  -- from row m on nothing is added
  stays : (m n : ℕ) → m ≤ n → ((k : ℕ) → m ≤ k → k < n → Sort k → ⊥) → total start adds n ≡ total start adds m
  unfolding total
  stays m n h =
      le_ind (λ (j : ℕ). ((k : ℕ) → m ≤ k → k < j → Sort k → ⊥) → total start adds j ≡ total start adds m) (λ _. refl)
      (λ j from ih none.
      let flat : adds j ≡ 0 = rw (fails j (none j from (le_refl _))) in
      omega (arith, ih (λ k a b. none k a (omega arith)))) n h

  after_last : (q n : ℕ) → LastBefore Sort q n → total start adds n ≡ total start adds q + more q
  after_last q n l =
      let up : total start adds (q + 1) ≡ total start adds q + more q = rw (total_more start adds q, (means q).1 l.one) in
      stays (q + 1) n (omega (arith, l.earlier)) (λ k a b. l.last k (omega arith) b) ∙ up

  last_before : (n : ℕ) → ((k : ℕ) → k < n → Sort k → ⊥) ⊎ ((q : ℕ) × LastBefore Sort q n)
  last_before zero = inl (λ k h. absurd (omega arith))
  last_before (suc n) = go (test n) refl (last_before n)
    where
      -- row n is of another sort
      other : test n ≡ false → (k : ℕ) → k < suc n → (k < n → ⊥) → Sort k → ⊥
      other e k h past sort = let here : n ≡ k = omega arith in false≢true (sym (rw here at e) ∙ (means k).1 sort)

      go : (b : Bool) → test n ≡ b → ((k : ℕ) → k < n → Sort k → ⊥) ⊎ ((q : ℕ) × LastBefore Sort q n)
          → ((k : ℕ) → k < suc n → Sort k → ⊥) ⊎ ((q : ℕ) × LastBefore Sort q (suc n))
      go true e found = inr (n, record { earlier = le_refl _; one = (means n).0 e; last = λ k a b. absurd (omega arith) })
      go false e (inl none) = inl (λ k h sort. elim (dec_lt k n) [ yes less ↦ none k less sort | no past ↦ other e k h past sort ])
      go false e (inr (q, l)) =
          inr (
            q,
            record {
              earlier = omega (arith, l.earlier);
              one = l.one;
              last = λ k a h sort. elim (dec_lt k n) [ yes less ↦ l.last k a less sort | no past ↦ other e k h past sort ];
            },
          )

  -- a number is the sum exactly if it is the start where no row adds, and else what the last that does leaves
  pub running : (n x : ℕ) → (x ≡ total start adds n)
      ↔ ((((k : ℕ) → k < n → Sort k → ⊥) → x ≡ start) × ((q : ℕ) → LastBefore Sort q n → x ≡ total start adds q + more q))
  unfolding total
  running n x = (λ e. (λ none. e ∙ stays 0 n (omega arith) (λ k _. none k), λ q l. e ∙ after_last q n l), λ r. go r (last_before n))
    where
      go : (((k : ℕ) → k < n → Sort k → ⊥) → x ≡ start) × ((q : ℕ) → LastBefore Sort q n → x ≡ total start adds q + more q)
          → ((k : ℕ) → k < n → Sort k → ⊥) ⊎ ((q : ℕ) × LastBefore Sort q n) → x ≡ total start adds n
      go r (inl none) = r.0 none ∙ sym (stays 0 n (omega arith) (λ k _. none k))
      go r (inr (q, l)) = r.1 q l ∙ sym (after_last q n l)
