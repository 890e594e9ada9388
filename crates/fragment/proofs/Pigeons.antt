-- More numbers than values: two are equal. Assumes nothing.
use Prim.Native.Nat.{ℕ, zero, suc, ◌<◌, ◌≤◌}
use mathlib.Core.Path.{◌≡◌, sym, ◌∙◌}
use mathlib.Core.Bool.{cond}
use native.Mathlib.Omega.{arith}
use native.Mathlib.Decide.{dec_le, ℕ_discrete}
use borrow.Author.Tests.{eq-eqb, ne_eqb, eqb-true, eqb-false}
use lib.Dec.{eqb}
use Rattle.lists.specs.Every.{position}
use Rattle.lists.proofs.EveryLaws.{position_passes, before_position}

pub record Twice (m : ℕ) (key : ℕ → ℕ) : Type 0 where
  pub lower : ℕ
  pub upper : ℕ
  pub apart : lower < upper
  pub inside : upper < m
  pub same : key lower ≡ key upper

pub pigeons : (n m : ℕ) (key : ℕ → ℕ) → n < m → ((i : ℕ) → i < m → key i < n) → Twice m key
pigeons zero m key more below = let h = below 0 more in absurd (omega arith)
pigeons (suc n) zero key more below = absurd (omega arith)
pigeons (suc n) (suc m) key more below =
    elim (dec_le m found) [
      | yes past ↦ back (pigeons n m other (omega arith) (λ i l. lower i l (λ e. unlike past i l e))) past
      | no here ↦ record { lower = found; upper = m; apart = omega arith; inside = omega arith; same = eqb-true _ _ (position_passes m (λ j. eqb (key j) (key m)) (omega arith)) }
    ]
  where
    found : ℕ
    found = position m (λ j. eqb (key j) (key m))

    unlike : m ≤ found → (j : ℕ) → j < m → key j ≡ key m → ⊥
    unlike past j l = eqb-false _ _ (before_position m (λ j. eqb (key j) (key m)) j (omega arith))

    -- the value n is given up for that of m
    other : ℕ → ℕ
    other j = cond (eqb (key j) n) (key m) (key j)

    changed : (j : ℕ) → key j ≡ n → other j ≡ key m
    changed j e = rw (eq-eqb _ _ e)

    kept : (j : ℕ) → (key j ≡ n → ⊥) → other j ≡ key j
    kept j ne = rw (ne_eqb _ _ ne)

    lower : (i : ℕ) → i < m → (key i ≡ key m → ⊥) → other i < n
    lower i l differs =
        let a = below i (omega arith) in
        let b = below m (omega arith) in
        elim (ℕ_discrete (key i) n) [
          | yes e ↦ let no-n : key m ≡ n → ⊥ = λ q. differs (e ∙ sym q) in rw (changed i e) (omega arith)
          | no ne ↦ rw (kept i ne) (omega arith)
        ]

    back : Twice m other → m ≤ found → Twice (suc m) key
    back t past =
        let j = t.lower in
        let k = t.upper in
        let less = t.apart in
        let inside = t.inside in
        let this : key j ≡ key k → Twice (suc m) key = λ e. record { lower = j; upper = k; apart = less; inside = omega arith; same = e } in
        elim (ℕ_discrete (key j) n) [
          | yes p ↦ elim (ℕ_discrete (key k) n) [
            | yes q ↦ this (p ∙ sym q)
            | no q ↦ absurd (unlike past k inside (sym (kept k q) ∙ sym t.same ∙ changed j p))
          ]
          | no p ↦ elim (ℕ_discrete (key k) n) [
            | yes q ↦ absurd (unlike past j (omega arith) (sym (kept j p) ∙ t.same ∙ changed k q))
            | no q ↦ this (sym (kept j p) ∙ t.same ∙ kept k q)
          ]
        ]
