-- The laws of a part that was lent: what the callee is lent, what the whole is when the part is back, and what is stored in either.
-- Assumes nothing.
use mathlib.Core.Path.{◌≡◌, sym, ap, ◌∙◌}
use mathlib.Core.List.{List, ◌++◌, append_assoc}
use Prim.Native.Nat.{ℕ, ◌+◌, ◌-◌, ◌≤◌}
use native.Mathlib.Omega.{arith}
use lib.ListN.{length, take, drop}
use lib.Seq.{ext_get_or, drop-drop}
use Rattle.lists.specs.Part.{part, write, Stores}
use Rattle.lists.proofs.Parts.{length_part, get_d_part, part_write, length_write}

-- `&mut s[a..a + k]`, back at ys: the form that the borrow checker leaves, as a write
pub lent_back : (s : List ℕ) (a k : ℕ) (ys : List ℕ) → length ys ≡ k → take a s ++ (ys ++ drop (a + k - a) (drop a s)) ≡ write s a ys
unfolding write
lent_back s a k ys h =
    let end : a + (a + k - a) ≡ a + length ys = omega arith in
    rw (drop-drop, end, append_assoc)

-- `&mut s[a..a + k]`, as it is lent
pub lent_part_lem : (s : List ℕ) (a k : ℕ) → take (a + k - a) (drop a s) ≡ part s a k
unfolding part
lent_part_lem s a k = let size : a + k - a ≡ k = omega arith in rw size

pub part_part : (s : List ℕ) (a k at n : ℕ) → a + k ≤ length s → at + n ≤ k → part (part s a k) at n ≡ part s (a + at) n
part_part s a k at n h p =
    let whole : length (part s a k) ≡ k = length_part s a k h in
    let inner : length (part (part s a k) at n) ≡ n = length_part (part s a k) at n (omega arith) in
    let outer : length (part s (a + at) n) ≡ n = length_part s (a + at) n (omega arith) in
    ext_get_or 0 (part (part s a k) at n) (part s (a + at) n) (inner ∙ sym outer) λ i l.
    let place : a + (at + i) ≡ a + at + i = omega arith in
    rw (get_d_part (part s a k) at n i (omega arith), get_d_part s a k (at + i) (omega arith), get_d_part s (a + at) n i (omega arith), place)

pub stores_in : {s : List ℕ} {at n : ℕ} {ws : List ℕ} (a k : ℕ) → Stores s (a + at) n ws → a + k ≤ length s → at + n ≤ k → Stores (part s a k) at n ws
stores_in {s} {at} {n} a k r h p =
    record { inside = rw (length_part s a k h) p; words = part_part s a k at n h p ∙ r.words }

pub stores_out : {ys : List ℕ} {at n : ℕ} {ws : List ℕ} (s : List ℕ) (a : ℕ) → Stores ys at n ws → a + length ys ≤ length s → Stores (write s a ys) (a + at) n ws
stores_out {ys} {at} {n} s a r h =
    let long = length_write s a ys h in
    let inside : a + at + n ≤ length (write s a ys) = omega (arith, r.inside) in
    let there = sym (part_part (write s a ys) a (length ys) at n (omega arith) r.inside) in
    record { inside = inside; words = there ∙ ap (λ (l : List ℕ). part l at n) (part_write s a ys h) ∙ r.words }
