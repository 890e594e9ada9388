-- The words that a clearing leaves at the front. Assumes nothing.
use Prim.Native.Nat.{ℕ, zero, suc, ◌+◌, ◌*◌, ◌-◌, ◌<◌, ◌≤◌, min, zero-le}
use mathlib.Core.Path.{◌≡◌, refl, sym, ap, ◌∙◌}
use mathlib.Core.List.{List}
use native.Mathlib.Omega.{arith}
use native.Mathlib.Decide.{dec_le}
use lib.Seq.{ext_get_or}
use lib.ListN.{length, get_or, replicate, length-replicate}
use Rattle.lists.specs.Part.{write, Outside}
use Rattle.lists.proofs.Parts.{write_outside, part_write, get_d_part, outside_wider}
use Rattle.fragment.specs.Rounds.{height_at, no_height}
use Rattle.fragment.specs.Rules.{cleared}
use Rattle.fragment.proofs.HeightLaws as laws

abbrev pub none : ℕ → List ℕ
none n = replicate n 0

zeros : (n k : ℕ) → ◌≡◌ {A = ℕ} (get_or (none n) k 0) 0
zeros zero k = refl
zeros (suc n) zero = refl
zeros (suc n) (suc k) = zeros n k

module _ (s : List ℕ) (n : ℕ) {s' : List ℕ} (e : s' ≡ write s 0 (none (min n (length s - 0)))) where
  long : length (none (min n (length s - 0))) ≡ min n (length s - 0)
  long = length-replicate {A = ℕ} _ 0

  pub cleared_outside : {m : ℕ} → n ≡ m → Outside 0 m s s'
  cleared_outside {m} same = rw e (outside_wider (write_outside s 0 (none (min n (length s - 0))) (omega (arith, long))) 0 m zero-le (omega (arith, long)))

  cleared_word : (k : ℕ) → k < min n (length s - 0) → get_or s' k 0 ≡ 0
  cleared_word k h =
      let ws = none (min n (length s - 0)) in
      let here : k ≡ 0 + k = omega arith in
      ap (λ (q : List ℕ). get_or q k 0) e
      ∙ ap (λ (j : ℕ). get_or (write s 0 ws) j 0) here
      ∙ sym (get_d_part (write s 0 ws) 0 (length ws) k (omega (arith, long)))
      ∙ ap (λ (q : List ℕ). get_or q k 0) (part_write s 0 ws (omega (arith, long)))
      ∙ zeros (min n (length s - 0)) k

  pub all_cleared : {m : ℕ} → n ≡ 3 * m → n ≤ length s → (t : ℕ) → t < m → height_at s' t ≡ no_height
  all_cleared same room t h = laws.all_three (cleared_word _ (omega arith)) (cleared_word _ (omega arith)) (cleared_word _ (omega arith))

-- what was changed in the first n words alone, and then cleared, is the old cleared
pub cleared_again : (s t : List ℕ) (n : ℕ) {t' : List ℕ} → Outside 0 n s t → t' ≡ write t 0 (none (min n (length t - 0))) → t' ≡ cleared s n
unfolding cleared
cleared_again s t n {t'} o e =
    let same : length t ≡ length s = o.long in
    let zeros-t = none (min n (length t - 0)) in
    let zeros-s = none (min n (length s)) in
    let long-t : length zeros-t ≡ min n (length t - 0) = length-replicate {A = ℕ} _ 0 in
    let long-s : length zeros-s ≡ min n (length s) = length-replicate {A = ℕ} _ 0 in
    let out-t = write_outside t 0 zeros-t (omega arith) in
    let out-s = write_outside s 0 zeros-s (omega arith) in
    let long-t' : length t' ≡ length t = ap length e ∙ out-t.long in
    ext_get_or 0 t' (write s 0 zeros-s) (long-t' ∙ same ∙ sym out-s.long) λ i h.
    elim (dec_le (min n (length s)) i) [
      | yes p ↦ ap (λ (q : List ℕ). get_or q i 0) e ∙ out-t.above i (omega arith) ∙ o.above i (omega arith) ∙ sym (out-s.above i (omega arith))
      | no q ↦
          let size : min n (length s - 0) ≡ min n (length s) = omega arith in
          cleared_word t n e i (omega arith) ∙ sym (cleared_word s n {s' = write s 0 zeros-s} (rw size) i (omega arith))
    ]
