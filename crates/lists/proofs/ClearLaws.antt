-- Words that are cleared: they are 0, and all others stay.
use mathlib.Core.Path.{◌≡◌, refl, ◌∙◌}
use mathlib.Core.List.{List}
use Prim.Native.Nat.{ℕ, zero, suc, ◌+◌, ◌-◌, ◌≤◌, ◌<◌, min}
use native.Mathlib.Omega.{arith}
use lib.ListN.{length, get_or, replicate, length-replicate}
use Rattle.lists.specs.Part.{write, Stores, Outside}
use Rattle.lists.proofs.Parts.{write_outside, stores_written, stores_get_or}

abbrev blank : ℕ → List ℕ
blank n = replicate n 0

zeros : (n i : ℕ) → get_or (blank n) i 0 ≡ 0
zeros zero i = refl
zeros (suc n) zero = refl
zeros (suc n) (suc i) = zeros n i

pub record Cleared (at n : ℕ) (s s' : List ℕ) : Type 0 where
  pub outside : Outside at n s s'
  pub empty : (j : ℕ) → j < n → get_or s' (at + j) 0 ≡ 0

pub cleared : {at n : ℕ} {s s' : List ℕ} → s' ≡ write s at (blank (min n (length s - at))) → at + n ≤ length s → Cleared at n s s'
cleared {at} {n} {s} {s'} is fits =
    let size : length (blank (min n (length s - at))) ≡ n = length-replicate (min n (length s - at)) 0 ∙ (omega arith) in
    let room : at + length (blank (min n (length s - at))) ≤ length s = omega (arith, size) in
    let there : Stores s' at (length (blank (min n (length s - at)))) (blank (min n (length s - at))) = rw is (stores_written s at (blank (min n (length s - at))) room) in
    record {
      outside = rw (← size, is) (write_outside s at (blank (min n (length s - at))) room);
      empty = λ j h. stores_get_or there j (omega (arith, size)) ∙ zeros (min n (length s - at)) j;
    }
