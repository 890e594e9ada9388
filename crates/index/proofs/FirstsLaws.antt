-- The laws of first places that are told while the places are linked. Assumes nothing.
use mathlib.Core.Path.{◌≡◌, refl, sym, ap, ◌∙◌}
use mathlib.Core.Logic.{◌⊎◌, inl, inr, ⊎_elim}
use mathlib.Core.Bool.{false}
use mathlib.Core.List.{List}
use Prim.Native.Nat.{ℕ, ◌+◌, ◌*◌, ◌≤◌, ◌<◌}
use native.Mathlib.Omega.{arith}
use borrow.Author.Tests.{eq-eqb, leb-false}
use lib.Dec.{eqb, leb}
use lib.ListN.{length, get_or, set, length-set, get_or-eq_default}
use lib.Seq.{get_or-set_other, get_or-set_same}
use Rattle.lists.specs.Every.{find}
use Rattle.lists.specs.Part.{Outside}
use Rattle.lists.proofs.EveryLaws.{position_cong, position_found}
use Rattle.lists.proofs.Parts.{le_or_lt, set_outside}
use Rattle.index.specs.declared.Index.{Index}
use Rattle.index.specs.Indexed.{key_at, first_place, words_of, Linked, Links, Apart, Firsts, Built}
use Rattle.index.proofs.IndexLaws.{linked_kept}

-- ---- keys that agree

pub keys_agree : (n : ℕ) (f g : ℕ → ℕ) → ((k : ℕ) → k < n → f k ≡ g k) → (r : ℕ) → r < n → find n f (f r) ≡ find n g (g r)
keys_agree n f g same r l = position_cong n _ _ (λ k h. rw (same k h, same r l))

firsts_agree : (s t : List ℕ) (index : Index) → ((k : ℕ) → k < index.count → key_at t index k ≡ key_at s index k) → (k : ℕ) → k < index.count
    → first_place t index (key_at t index k) ≡ first_place s index (key_at s index k)
unfolding first_place
firsts_agree s t index same k l = keys_agree index.count (key_at t index) (key_at s index) same k l

-- ---- some of them are told

-- s becomes s', in which the first m are
pub record Told (s : List ℕ) (index : Index) (to m : ℕ) (s' : List ℕ) : Type 0 where
  pub long : length s' ≡ length s
  pub words : to + index.count ≤ length s → (k : ℕ) → k < m → get_or s' (to + k) 0 ≡ first_place s index (key_at s index k)
  pub frame : (k : ℕ) → (k < to) ⊎ (to + index.count ≤ k) → (k < index.at + index.count) ⊎ (index.at + words_of index ≤ k) → get_or s' k 0 ≡ get_or s k 0

-- place 0 is the first with its key
first_of_all : (s : List ℕ) (index : Index) → 0 < index.count → first_place s index (key_at s index 0) ≡ 0
unfolding first_place
first_of_all s index some = position_found index.count (λ j. eqb (key_at s index j) (key_at s index 0)) 0 some (λ k h. absurd (omega arith)) (eq-eqb (key_at s index 0) (key_at s index 0) refl)

put_long : (s : List ℕ) (to : ℕ) {s' : List ℕ} → s' ≡ set s to 0 → length s' ≡ length s
put_long s to put = rw put (length-set s to 0)

module _ (index : Index) (to : ℕ) (apart : Apart index to) (some : 0 < index.count) where
  -- the first of all, which is linked before the loop
  module _ {s s' : List ℕ} (l : Linked s index 1) (put : s' ≡ set s to 0) where
    pub linked_first : Linked s' index 1
    linked_first = rw put (linked_kept index (set_outside s to 0) (⊎_elim (λ d. inr (omega arith)) (λ d. inl (omega arith)) apart) some (omega arith) l)

    pub told_first : Told s' index to 1 s'
    told_first = record {
      long = refl;
      words = λ room k h.
          let one : k ≡ 0 = omega arith in
          let there : to + k ≡ to = omega arith in
          let long = put_long s to put in
          rw (there, one) (ap (λ (x : List ℕ). get_or x to 0) put ∙ get_or-set_same s to 0 0 (omega arith) ∙ sym (first_of_all s' index some));
      frame = λ k h m. refl;
    }

  -- one place more, which was linked
  module _ {s₀ s s₁ s₂ : List ℕ} {m place v : ℕ} (less : m < index.count) (told : Told s₀ index to m s) (links : Links s index m s₁)
      (first : v ≡ first_place s index (key_at s index m)) (here : place ≡ to + m) (put : s₂ ≡ set s₁ place v) where
    spot_apart : (index.at + words_of index ≤ place) ⊎ (place + 1 ≤ index.at)
    spot_apart = ⊎_elim (λ d. inr (omega arith)) (λ d. inl (omega arith)) apart

    pub linked_told : Linked s₂ index (m + 1)
    linked_told = rw put (linked_kept index (set_outside s₁ place v) spot_apart some (omega arith) links.linked)

    same_keys : (k : ℕ) → k < index.count → key_at s index k ≡ key_at s₀ index k
    same_keys k l = told.frame (index.at + k) (⊎_elim (λ d. inr (omega arith)) (λ d. inl (omega arith)) apart) (inl (omega arith))

    word_told : to + index.count ≤ length s₀ → (k : ℕ) → k < m + 1 → get_or (set s₁ place v) (to + k) 0 ≡ first_place s₀ index (key_at s₀ index k)
    word_told room k l =
        let long : length s₁ ≡ length s₀ = links.frame.long ∙ told.long in
        ⊎_elim
        (λ past.
        let same : k ≡ m = omega arith in
        let spot : to + k ≡ place = omega arith in
        rw (spot, same) (get_or-set_same s₁ place v 0 (omega arith) ∙ first ∙ firsts_agree s₀ s index same_keys m less))
        (λ before.
        get_or-set_other s₁ place (to + k) v 0 (omega arith)
        ∙ ⊎_elim (λ d. links.frame.below (to + k) (omega arith)) (λ d. links.frame.above (to + k) (omega arith)) apart
        ∙ told.words room k before)
        (le_or_lt m k)

    pub told_more : Told s₀ index to (m + 1) s₂
    told_more = rw put record {
      long = length-set s₁ place v ∙ links.frame.long ∙ told.long;
      words = word_told;
      frame = λ k h l.
          get_or-set_other s₁ place k v 0 (⊎_elim (λ d. omega arith) (λ d. omega arith) h)
          ∙ ⊎_elim (λ d. links.frame.below k (omega arith)) (λ d. links.frame.above k (omega arith)) l
          ∙ told.frame k h l;
    }

  -- all are linked and told
  pub all_told : {s t s₀ s' : List ℕ} {n : ℕ} → Outside (index.at + index.count) (2 * index.count) s t → s₀ ≡ set t to 0 → Linked s' index n → n ≡ index.count
      → Told s₀ index to n s' → Firsts s index to s'
  all_told {s} {t} {s₀} {s'} cleared put l all told = record {
    long = told.long ∙ long₀;
    indexed = λ inside a room. record { linked = λ _. rw all at l };
    words = λ inside a room k h.
        told.words (omega (arith, long₀)) k (omega arith) ∙ firsts_agree s s₀ index same_keys₀ k h;
    frame = λ k h l. told.frame k h l ∙ frame₀ k h l;
  }
    where
      long₀ : length s₀ ≡ length s
      long₀ = put_long t to put ∙ cleared.long

      frame₀ : (k : ℕ) → (k < to) ⊎ (to + index.count ≤ k) → (k < index.at + index.count) ⊎ (index.at + words_of index ≤ k) → get_or s₀ k 0 ≡ get_or s k 0
      frame₀ k h l =
          rw put (get_or-set_other t to k 0 0 (⊎_elim (λ d. omega arith) (λ d. omega arith) h)
          ∙ ⊎_elim (λ d. cleared.below k (omega arith)) (λ d. cleared.above k (omega arith)) l)

      same_keys₀ : (k : ℕ) → k < index.count → key_at s₀ index k ≡ key_at s index k
      same_keys₀ k h = frame₀ (index.at + k) (⊎_elim (λ d. inr (omega arith)) (λ d. inl (omega arith)) apart) (inl (omega arith))

-- ---- nothing is done

pub none_told : (s : List ℕ) (index : Index) (to : ℕ) → (0 < index.count → index.at + words_of index ≤ length s → Apart index to → to ≤ length s → ⊥) → Firsts s index to s
none_told s index to never = record {
  long = refl;
  indexed = λ inside a room. record { linked = λ some. absurd (never some inside a room) };
  words = λ inside a room k h. absurd (never (omega arith) inside a (omega arith));
  frame = λ k h l. refl;
}

pub not_told : (s : List ℕ) (index : Index) (to : ℕ) → leb (index.at + words_of index) (length s) ≡ false → Firsts s index to s
not_told s index to short = none_told s index to (λ some inside a room. omega (arith, leb-false (index.at + words_of index) (length s) short))

-- ---- told past the end

pub built : {s s' : List ℕ} {index : Index} {to : ℕ} → to ≡ length s → Firsts s index to s' → Built s index s'
built {s} {s'} {index} {to} end f = record {
  indexed = λ room. f.indexed room (inr (omega arith)) (omega arith);
  frame = record {
    long = f.long;
    below = λ k l. kept k (inl l);
    above = λ k l. kept k (inr (omega arith));
  };
}
  where
    kept : (k : ℕ) → (k < index.at + index.count) ⊎ (index.at + words_of index ≤ k) → get_or s' k 0 ≡ get_or s k 0
    kept k l = ⊎_elim (λ past. get_or-eq_default s' 0 (omega (arith, f.long)) ∙ sym (get_or-eq_default s 0 past)) (λ inside. f.frame k (inl (omega arith)) l) (le_or_lt (length s) k)
