-- The laws of parts of a list of words, and the frame laws. Assumes nothing.
use mathlib.Core.Path.{◌≡◌, refl, sym, ap, ◌∙◌}
use mathlib.Core.Logic.{◌⊎◌, inl, inr, ⊎_elim}
use mathlib.Core.List.{List, [], ◌∷◌, ◌++◌, append_assoc, append-nil}
use Prim.Native.Nat.{ℕ, suc, ◌+◌, ◌-◌, ◌≤◌, ◌<◌}
use native.Mathlib.Nat.{add-zero}
use native.Mathlib.Decide.{dec_le}
use native.Mathlib.Numerals.{add-one}
use native.Mathlib.Omega.{arith}
use lib.ListN.{length, take, drop, get_or, set, length-append, length-take, length-drop, length-set, take-append-drop, get_or-append}
use lib.Seq.{get_or-take, get_or-drop, get_or-append-add, get_or-set_other, get_or-set_same, get_or_at, ext_get_or, take-add, drop-drop, drop-cons, length-take-le, take-suc-set, drop-set-lt, set_at, append_snoc, take_at, drop_at}
use Rattle.lists.specs.Part.{part, write, Stores, Outside, Pushed}

pub le_or_lt : (a b : ℕ) → (a ≤ b) ⊎ (b < a)
le_or_lt a b = elim (dec_le a b) [ yes h ↦ inl h | no h ↦ inr (omega arith) ]

-- ---- a part

pub length_part : (s : List ℕ) (at n : ℕ) → at + n ≤ length s → length (part s at n) ≡ n
unfolding part
length_part s at n h = simp (length-take, length-drop) (omega arith)

pub part_none : (s : List ℕ) (at : ℕ) → part s at 0 ≡ []
unfolding part
part_none s at = refl

pub get_d_part : (s : List ℕ) (at n i : ℕ) → i < n → get_or (part s at n) i 0 ≡ get_or s (at + i) 0
unfolding part
get_d_part s at n i h = rw (get_or-take, get_or-drop)

pub part_join : (s : List ℕ) (at n m : ℕ) → part s at (n + m) ≡ part s at n ++ part s (at + n) m
unfolding part
part_join s at n m = take-add n m (drop at s) ∙ ap (λ (t : List ℕ). take n (drop at s) ++ take m t) (drop-drop n at s)

pub part_cons : (s : List ℕ) (at n : ℕ) → at < length s → part s at (suc n) ≡ get_or s at 0 ∷ part s (at + 1) n
unfolding part
part_cons s at n h = rw (add-one, drop-cons s at 0)

pub part_snoc : (s : List ℕ) (at n : ℕ) → at + n < length s → part s at (n + 1) ≡ part s at n ++ (get_or s (at + n) 0 ∷ [])
part_snoc s at n h = part_join s at n 1 ∙ ap (λ (t : List ℕ). part s at n ++ t) (part_cons s (at + n) 0 h ∙ ap (λ (t : List ℕ). get_or s (at + n) 0 ∷ t) (part_none s (at + n + 1)))

-- ---- a write

module _ (s : List ℕ) (at : ℕ) (ws : List ℕ) (fits : at + length ws ≤ length s) where
  length_front : length (take at s ++ ws) ≡ at + length ws
  length_front = simp (length-append, length-take) (omega arith)

  pub length_write : length (write s at ws) ≡ length s
  unfolding write
  length_write = simp (length-append, length-take, length-drop) (omega arith)

  write_below : (k : ℕ) → k < at → get_or (write s at ws) k 0 ≡ get_or s k 0
  unfolding write
  write_below k h =
      let in_front : k < length (take at s ++ ws) = rw length_front (omega arith) in
      let in-low : k < length (take at s) = simp length-take (omega arith) in
      get_or-append (take at s ++ ws) (drop (at + length ws) s) 0 k in_front ∙ get_or-append (take at s) ws 0 k in-low ∙ get_or-take at s k 0 h

  write_above : (k : ℕ) → at + length ws ≤ k → get_or (write s at ws) k 0 ≡ get_or s k 0
  unfolding write
  write_above k h =
      let past : k ≡ length (take at s ++ ws) + (k - (at + length ws)) = rw length_front (omega arith) in
      let same : at + length ws + (k - (at + length ws)) ≡ k = omega arith in
      ap (λ (j : ℕ). get_or (take at s ++ ws ++ drop (at + length ws) s) j 0) past
      ∙ get_or-append-add (take at s ++ ws) (drop (at + length ws) s) (k - (at + length ws)) 0
      ∙ get_or-drop (at + length ws) s (k - (at + length ws)) 0
      ∙ ap (λ (j : ℕ). get_or s j 0) same

  -- everything outside what was written is as before
  pub write_outside : Outside at (length ws) s (write s at ws)
  write_outside = record { long = length_write; below = write_below; above = write_above }

  -- what was written is there
  pub part_write : part (write s at ws) at (length ws) ≡ ws
  unfolding part write
  part_write =
      let low : length (take at s) ≡ at = length-take-le at s (omega arith) in
      rw (append_assoc, drop_at (take at s) (ws ++ drop (at + length ws) s) at low, take_at ws (drop (at + length ws) s) (length ws) refl)

-- one word more
pub write_more : (s : List ℕ) (at : ℕ) (ws : List ℕ) (v : ℕ) → at + length ws < length s → set (write s at ws) (at + length ws) v ≡ write s at (ws ++ (v ∷ []))
unfolding write
write_more s at ws v h =
    let n = at + length ws in
    let front : length (take at s ++ ws) ≡ n = length_front s at ws (omega arith) in
    let more : at + length (ws ++ (v ∷ [])) ≡ suc n = simp length-append (omega arith) in
    rw (drop-cons s n 0, set_at (take at s ++ ws) (get_or s n 0) (drop (suc n) s) v n front, more, ← append_snoc (take at s ++ ws) v (drop (suc n) s), append_assoc (take at s) ws (v ∷ []))

pub write_none : (s : List ℕ) (at : ℕ) → write s at [] ≡ s
unfolding write
write_none s at = ap (λ (k : ℕ). take at s ++ [] ++ drop k s) (add-zero at) ∙ ap (λ (r : List ℕ). r ++ drop at s) (append-nil (take at s)) ∙ take-append-drop at s

-- a word and then a write after it are one write
pub write_after : (s : List ℕ) (at v : ℕ) (ws : List ℕ) → at < length s → write (set s at v) (at + 1) ws ≡ write s at (v ∷ ws)
unfolding write
write_after s at v ws h =
    let end : at + 1 + length ws ≡ at + suc (length ws) = omega arith in
    rw (drop-set-lt (at + 1 + length ws) s at v (omega arith), end, add-one, take-suc-set s at v h, append_snoc)

-- ---- the frame

pub set_outside : (s : List ℕ) (at v : ℕ) → Outside at 1 s (set s at v)
set_outside s at v =
    record { long = length-set s at v; below = λ k h. get_or-set_other s at k v 0 (omega arith); above = λ k h. get_or-set_other s at k v 0 (omega arith) }

-- THE frame law: a part that lies outside what changed is as before
pub keeps : {at n : ℕ} {s s' : List ℕ} → Outside at n s s' → (b m : ℕ) → (b + m ≤ at) ⊎ (at + n ≤ b) → part s' b m ≡ part s b m
unfolding part
keeps {at} {n} {s} {s'} o b m d =
    let len : length (take m (drop b s')) ≡ length (take m (drop b s)) = simp (length-take, length-drop, o.long) in
    ext_get_or 0 (take m (drop b s')) (take m (drop b s)) len λ i h.
    let inside : i < m = omega (arith, length-take m (drop b s')) in
    let word : get_or s' (b + i) 0 ≡ get_or s (b + i) 0 = ⊎_elim (λ l. o.below (b + i) (omega arith)) (λ l. o.above (b + i) (omega arith)) d in
    rw (get_or-take m (drop b s') i 0 inside, get_or-take m (drop b s) i 0 inside, get_or-drop b s' i 0, get_or-drop b s i 0) word

pub outside_trans : {at n : ℕ} {s s' s'' : List ℕ} → Outside at n s s' → Outside at n s' s'' → Outside at n s s''
outside_trans o p =
    record { long = p.long ∙ o.long; below = λ k h. p.below k h ∙ o.below k h; above = λ k h. p.above k h ∙ o.above k h }

-- what is outside a part is outside each part of it
pub outside_wider : {at n : ℕ} {s s' : List ℕ} → Outside at n s s' → (b m : ℕ) → b ≤ at → at + n ≤ b + m → Outside b m s s'
outside_wider o b m p q = record { long = o.long; below = λ k h. o.below k (omega arith); above = λ k h. o.above k (omega arith) }

-- what lies behind the part is as before
pub outside_drop : {n : ℕ} {s s' : List ℕ} → Outside 0 n s s' → drop n s' ≡ drop n s
outside_drop {n} {s} {s'} o =
    ext_get_or 0 (drop n s') (drop n s) (simp (length-drop, o.long)) λ i h.
    rw (get_or-drop n s' i 0, get_or-drop n s i 0) (o.above (n + i) (omega arith))

pub outside_none : (at n : ℕ) (s : List ℕ) → Outside at n s s
outside_none at n s = record { long = refl; below = λ k h. refl; above = λ k h. refl }

-- ---- what a part stores

pub stores_length : {s : List ℕ} {at n : ℕ} {ws : List ℕ} → Stores s at n ws → length ws ≡ n
stores_length {s} {at} {n} r = ap length (sym r.words) ∙ length_part s at n r.inside

pub stores_kept : {at n b m : ℕ} {s s' ws : List ℕ} → Outside at n s s' → Stores s b m ws → (b + m ≤ at) ⊎ (at + n ≤ b) → Stores s' b m ws
stores_kept {b = b} {m = m} o r d = record { inside = rw o.long r.inside; words = keeps o b m d ∙ r.words }

pub stores_join : {s : List ℕ} {at n m : ℕ} {xs ys : List ℕ} → Stores s at n xs → Stores s (at + n) m ys → Stores s at (n + m) (xs ++ ys)
stores_join {s} {at} {n} {m} p q =
    let inside : at + (n + m) ≤ length s = omega (arith, q.inside) in
    record { inside = inside; words = part_join s at n m ∙ rw (p.words, q.words) }

pub stores_split : {s : List ℕ} {at k : ℕ} (xs ys : List ℕ) → Stores s at k (xs ++ ys) → Stores s at (length xs) xs × Stores s (at + length xs) (k - length xs) ys
stores_split {s} {at} {k} xs ys r =
    let n = length xs in
    let m = k - n in
    let long : length xs + length ys ≡ k = simp length-append at (stores_length r) in
    let sum : k ≡ n + m = omega arith in
    let front-in : at + n ≤ length s = omega (arith, r.inside) in
    let back_in : at + n + m ≤ length s = omega (arith, r.inside) in
    let whole : part s at n ++ part s (at + n) m ≡ xs ++ ys = sym (part_join s at n m) ∙ ap (part s at) (sym sum) ∙ r.words in
    let cut = length_part s at n front-in in
    let front : part s at n ≡ xs = sym (take_at (part s at n) (part s (at + n) m) n cut) ∙ ap (take n) whole ∙ take_at xs ys n refl in
    let back : part s (at + n) m ≡ ys = sym (drop_at (part s at n) (part s (at + n) m) n cut) ∙ ap (drop n) whole ∙ drop_at xs ys n refl in
    (record { inside = front-in; words = front }, record { inside = back_in; words = back })

pub stores_written : (s : List ℕ) (at : ℕ) (ws : List ℕ) → at + length ws ≤ length s → Stores (write s at ws) at (length ws) ws
stores_written s at ws fits = record { inside = rw (length_write s at ws fits) fits; words = part_write s at ws fits }

-- words written right after what is stored are stored with it
pub stores_more : {s : List ℕ} {at n : ℕ} {xs : List ℕ} (ws : List ℕ) → Stores s at n xs → at + n + length ws ≤ length s → Stores (write s (at + n) ws) at (n + length ws) (xs ++ ws)
stores_more {s} {at} {n} ws r fits =
    stores_join (stores_kept (write_outside s (at + n) ws fits) r (inl (omega arith))) (stores_written s (at + n) ws fits)

pub stores_none : (s : List ℕ) (at : ℕ) → at ≤ length s → Stores s at 0 []
stores_none s at h = record { inside = omega arith; words = part_none s at }

pub stores_get_or : {s : List ℕ} {at n : ℕ} {ws : List ℕ} → Stores s at n ws → (i : ℕ) → i < n → get_or s (at + i) 0 ≡ get_or ws i 0
stores_get_or {s} {at} {n} r i h = sym (get_d_part s at n i h) ∙ ap (λ (l : List ℕ). get_or l i 0) r.words

-- ---- one word more, and one less

pub pushed : (s : List ℕ) (at n v : ℕ) → at + n < length s → Pushed s (set s (at + n) v) at n v (n + 1)
pushed s at n v h =
    let t = set s (at + n) v in
    let long : length t ≡ length s = length-set s (at + n) v in
    let word : part t (at + n) 1 ≡ v ∷ [] = part_cons t (at + n) 0 (omega arith) ∙ rw (get_or-set_same s (at + n) v 0 h, part_none t (at + n + 1)) in
    let here : Stores t (at + n) 1 (v ∷ []) = record { inside = omega arith; words = word } in
    record { size = refl; words = λ ws r. stores_join (stores_kept (set_outside s (at + n) v) r (inl (omega arith))) here; frame = set_outside s (at + n) v }

pub popped : {s : List ℕ} {at n : ℕ} (ws : List ℕ) (v : ℕ) → Stores s at n (ws ++ (v ∷ [])) → Stores s at (n - 1) ws × (get_or s (at + (n - 1)) 0 ≡ v)
popped {s} {at} {n} ws v r =
    let long : length ws + 1 ≡ n = simp length-append at (stores_length r) in
    let size : length ws ≡ n - 1 = omega arith in
    let last : get_or (ws ++ (v ∷ [])) (n - 1) 0 ≡ v = get_or_at ws v [] 0 (n - 1) size in
    (rw (← size) (stores_split ws (v ∷ []) r).0, stores_get_or r (n - 1) (omega arith) ∙ last)

-- a part whose words are as before stores what it did
pub stores_same : {s s' : List ℕ} {at n : ℕ} {ws : List ℕ} → length s' ≡ length s → ((k : ℕ) → at ≤ k → k < at + n → get_or s' k 0 ≡ get_or s k 0)
    → Stores s at n ws → Stores s' at n ws
stores_same {s} {s'} {at} {n} {ws} long same r =
    let in-new : at + n ≤ length s' = omega (arith, r.inside) in
    let size : length (part s' at n) ≡ length (part s at n) = length_part s' at n in-new ∙ sym (length_part s at n r.inside) in
    let words : part s' at n ≡ part s at n =
    ext_get_or 0 (part s' at n) (part s at n) size λ i h.
    let inside : i < n = omega (arith, length_part s' at n in-new) in
    get_d_part s' at n i inside ∙ same (at + i) (omega arith) (omega arith) ∙ sym (get_d_part s at n i inside) in
    record { inside = in-new; words = words ∙ r.words }
