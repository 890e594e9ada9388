-- The laws of one search: where it goes on and where it ends, and that it stays as it is while places are linked or other words
-- change. Assumes nothing.
use mathlib.Core.Path.{◌≡◌, sym, ap, ◌∙◌}
use mathlib.Core.List.{List}
use Prim.Native.Nat.{ℕ, zero, suc, ◌+◌, ◌*◌, ◌≤◌, ◌<◌, ◌/◌, ◌%◌}
use native.Mathlib.Omega.{arith}
use native.Mathlib.Decide.{dec_le}
use Rattle.index.specs.declared.Index.{Index}
use Rattle.index.specs.Indexed.{key_at, link_place, link_at, words_of, Finds, here, deeper, nowhere, halved, Agree, Descends, Extends, Level, Searching, Comes}

-- ---- where a link stands

pub link_behind : (index : Index) (p bits : ℕ) → index.at + index.count ≤ link_place index p bits
unfolding link_place
link_behind index p bits = omega arith

pub link_inside : (index : Index) (p bits : ℕ) → p < index.count → link_place index p bits < index.at + words_of index
unfolding link_place
link_inside index p bits l = omega arith

-- two links at one place are links of one place
pub link_once : (index : Index) (p q b c : ℕ) → link_place index p b ≡ link_place index q c → p ≡ q
unfolding link_place
link_once index p q b c e = omega arith

-- and for one bit
pub link_bit : (index : Index) (p q b c : ℕ) → link_place index p b ≡ link_place index q c → b % 2 ≡ c % 2
unfolding link_place
link_bit index p q b c e = omega arith

module _ {s : List ℕ} {index : Index} {key r : ℕ} where
  -- ---- one step

  pub ends_here : {p bits : ℕ} → Finds s index key r p bits → key_at s index p ≡ key → r ≡ p
  ends_here (here k e) same = e
  ends_here (deeper ne lt inside f) same = absurd (ne same)
  ends_here (nowhere ne le e) same = absurd (ne same)

  pub ends_nowhere : {p bits : ℕ} → Finds s index key r p bits → (key_at s index p ≡ key → ⊥) → link_at s index p bits ≤ p → r ≡ index.count
  ends_nowhere (here k e) ne le = absurd (ne k)
  ends_nowhere (deeper _ lt inside f) ne le = omega arith
  ends_nowhere (nowhere _ _ e) ne le = e

  pub goes_on : {p bits : ℕ} → Finds s index key r p bits → (key_at s index p ≡ key → ⊥) → p < link_at s index p bits
      → Finds s index key r (link_at s index p bits) (bits / 2) × (link_at s index p bits < index.count)
  goes_on (here k e) ne lt = absurd (ne k)
  goes_on (deeper _ _ inside f) ne lt = (f, inside)
  goes_on (nowhere _ le e) ne lt = let no : ⊥ = omega arith in absurd no

-- ---- words in which every search that goes on goes on as before

module _ {s t : List ℕ} {index : Index} {key : ℕ} (kept : Extends s index t) where
  pub other_key : {p : ℕ} → p < index.count → (key_at s index p ≡ key → ⊥) → key_at t index p ≡ key → ⊥
  other_key {p} l ne e = ne (sym (kept.keys p l) ∙ e)

  pub deeper_there : {r p bits : ℕ} → p < index.count → (key_at s index p ≡ key → ⊥) → p < link_at s index p bits → link_at s index p bits < index.count
      → Finds t index key r (link_at s index p bits) (bits / 2) → Finds t index key r p bits
  deeper_there {r} {p} {bits} l ne lt inside f =
      let same : link_at t index p bits ≡ link_at s index p bits = kept.links p bits l lt in
      deeper {p = p} {bits = bits} (other_key l ne) (rw same lt) (rw same inside) (rw same f)

-- ---- the level of a place

pub level_top : {s : List ℕ} {index : Index} {depth : ℕ → ℕ} (key : ℕ) → depth 0 ≡ 0 → Level s index depth key 0 key
unfolding halved
level_top key top = record { rest = rw top; shared = λ i h. (let no : ⊥ = omega arith in absurd no) }

pub level_down : {s : List ℕ} {index : Index} {depth : ℕ → ℕ} {key p bits : ℕ} → Level s index depth key p bits → Descends s index depth p bits
    → Level s index depth key (link_at s index p bits) (bits / 2)
unfolding halved
level_down {s} {index} {depth} {key} {p} {bits} v d =
    record {
      rest = rw d.level (ap (λ (k : ℕ). k / 2) v.rest);
      shared = λ i h. elim (dec_le (depth p) i) [
        | yes l ↦
            let level = d.level in
            let last : i ≡ depth p = omega arith in
            rw last (d.bit ∙ ap (λ (k : ℕ). k % 2) v.rest)
        | no l ↦ sym (d.agrees i (omega arith)) ∙ v.shared i (omega arith)
      ];
    }

-- numbers that agree in t bits, and of which the same is left, are one
pub same_number : (t x y : ℕ) → Agree t x y → halved t x ≡ halved t y → x ≡ y
unfolding halved
same_number zero x y agree e = e
same_number (suc t) x y agree e =
    let bit = agree t (omega arith) in
    same_number t x y (λ i h. agree i (omega arith)) (omega arith)

byte_halved : (t x m : ℕ) → halved t x < 256 * m → halved (suc (suc (suc (suc (suc (suc (suc (suc t)))))))) x < m
unfolding halved
byte_halved t x m h = omega arith

whole : (x : ℕ) → x < 4294967296 → halved 0 x < 256 * 16777216
unfolding halved
whole x h = h

-- nothing is left of a word without its 32 bits
pub word_halved : (x : ℕ) → x < 4294967296 → halved 32 x ≡ 0
word_halved x h =
    let three = byte_halved 0 x 16777216 (whole x h) in
    let two = byte_halved 8 x 65536 three in
    let one = byte_halved 16 x 256 two in
    let none = byte_halved 24 x 1 one in
    omega arith

-- a link that leads as before, between places whose levels and keys are as before
pub descends_kept : {s t : List ℕ} {index : Index} {depth depth' : ℕ → ℕ} {p bits : ℕ} → link_at t index p bits ≡ link_at s index p bits → depth' p ≡ depth p
    → depth' (link_at s index p bits) ≡ depth (link_at s index p bits) → key_at t index p ≡ key_at s index p → key_at t index (link_at s index p bits) ≡ key_at s index (link_at s index p bits)
    → Descends s index depth p bits → Descends t index depth' p bits
descends_kept link own below key lower d =
    record { level = rw (link, own, below) d.level; agrees = rw (link, own, key, lower) d.agrees; bit = rw (link, own, lower) d.bit }

-- ---- a search under way

pub searching_begins : (s : List ℕ) (index : Index) (key : ℕ) → Searching s index key 0 key
searching_begins s index key = record { onward = λ r f. f; back = λ t e r f. f }

pub searching_on : {s : List ℕ} {index : Index} {key p bits : ℕ} → Searching s index key p bits → p < index.count → (key_at s index p ≡ key → ⊥)
    → p < link_at s index p bits → link_at s index p bits < index.count → Searching s index key (link_at s index p bits) (bits / 2)
searching_on g l ne lt inside =
    record {
      onward = λ r f. (goes_on (g.onward r f) ne lt).0;
      back = λ t e r f. g.back t e r (deeper_there e l ne lt inside f);
    }

-- ---- the search comes to a place

pub comes_first : (s : List ℕ) (index : Index) (key : ℕ) → 0 < index.count → Comes s index key 0 key
comes_first s index key some = record { inside = some; searching = searching_begins s index key; linked = λ n first l. (first, level_top key l.top) }

pub comes_on : {s : List ℕ} {index : Index} {key p bits : ℕ} → Comes s index key p bits → (key_at s index p ≡ key → ⊥) → p < link_at s index p bits
    → link_at s index p bits < index.count → Comes s index key (link_at s index p bits) (bits / 2)
comes_on {p = p} {bits = bits} g ne lt inside = record {
  inside = inside;
  searching = searching_on g.searching g.inside ne lt inside;
  linked = λ n first l. (l.low p bits g.inside, level_down (g.linked n first l).1 (l.down p bits g.inside lt));
}
