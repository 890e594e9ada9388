-- The laws of an index: none of its words but the links change as places are linked one by one, and then every key is found.
-- Assumes nothing.
use mathlib.Core.Path.{◌≡◌, refl, sym, ap, ◌∙◌}
use mathlib.Core.Logic.{◌⊎◌, ⊎_elim}
use mathlib.Core.Bool.{false, cond}
use mathlib.Core.List.{List}
use Prim.Native.Nat.{ℕ, suc, ◌+◌, ◌*◌, ◌-◌, ◌≤◌, ◌<◌, ◌/◌, ◌%◌, min}
use native.Mathlib.Omega.{arith}
use native.Mathlib.Decide.{dec_le, ℕ_discrete}
use borrow.Author.Tests.{eq-eqb, ne_eqb, eqb-true, eqb-false, leb-false}
use lib.Dec.{eqb, leb}
use lib.ListN.{length, get_or, set, replicate, length-replicate, length-set, get_or-replicate}
use lib.Seq.{get_or-set_other, get_or-set_same}
use Rattle.lists.specs.Every.{position}
use Rattle.lists.specs.Part.{write, Outside}
use Rattle.lists.proofs.EveryLaws.{position_below, position_found, position_passes, position_le, before_position}
use Rattle.lists.proofs.Parts.{write_outside, stores_written, stores_get_or, set_outside, outside_wider, outside_none}
use Rattle.index.specs.declared.Index.{Index}
use Rattle.index.specs.Indexed.{key_at, first_place, link_place, link_at, words_of, Finds, here, deeper, nowhere, Descends, Extends, Level, Searching, Linked, Indexed, Links}
use Rattle.index.proofs.SearchLaws.{link_behind, link_inside, link_once, link_bit, ends_here, ends_nowhere, other_key, deeper_there, descends_kept}

-- ---- the first place of a key

module _ (s : List ℕ) (index : Index) (key : ℕ) where
  abbrev pub among : ℕ → ℕ
  among n = position n (λ j. eqb (key_at s index j) key)

  pub first_has : (n : ℕ) → among n < n → key_at s index (among n) ≡ key
  first_has n h = eqb-true _ _ (position_passes n (λ j. eqb (key_at s index j) key) h)

  pub none_before : (n j : ℕ) → j < among n → key_at s index j ≡ key → ⊥
  none_before n j h = eqb-false _ _ (before_position n (λ j. eqb (key_at s index j) key) j h)

  -- a key of a linked place is found, at the first place that has it
  pub linked_found : {n : ℕ} → Linked s index n → among n < n → Finds s index key (among n) 0 key
  linked_found {n} l h =
      let has = first_has n h in
      rw has at (l.found (among n) h (λ j k e. none_before n j k (e ∙ has)))

-- all places are linked: every search finds the first place
pub finds_first : {s : List ℕ} {index : Index} → Indexed s index → 0 < index.count → (key : ℕ) → Finds s index key (first_place s index key) 0 key
unfolding first_place
finds_first {s} {index} i some key =
    let n = index.count in
    let l = i.linked some in
    let few = position_le n (λ j. eqb (key_at s index j) key) in
    elim (dec_le n (first_place s index key)) [
      | yes h ↦
          let none : first_place s index key ≡ n = omega arith in
          rw none (l.missing key (λ j k. none_before s index key n j (omega arith)))
      | no h ↦ linked_found s index key l (omega arith)
    ]

-- ---- one place more, at the end of the search for its key

module _ (s : List ℕ) (index : Index) (n q bits : ℕ) (l : Linked s index n) (below : n < index.count) (early : q < n)
    (ne : key_at s index q ≡ key_at s index n → ⊥) (ends : link_at s index q bits ≤ q) where
  abbrev slot : ℕ
  slot = link_place index q bits

  abbrev after : List ℕ
  after = set s slot n

  slot_inside : slot < length s
  slot_inside = omega (arith, link_inside index q bits (omega arith), l.inside)

  key_kept : (p : ℕ) → p < index.count → key_at after index p ≡ key_at s index p
  key_kept p h = get_or-set_other s slot (index.at + p) n 0 (omega (arith, link_behind index q bits))

  link_set : (p b : ℕ) → link_place index p b ≡ slot → link_at after index p b ≡ n
  link_set p b e = rw e (get_or-set_same s slot n 0 slot_inside)

  link_kept : (p b : ℕ) → (link_place index p b ≡ slot → ⊥) → link_at after index p b ≡ link_at s index p b
  link_kept p b other = get_or-set_other s slot (link_place index p b) n 0 other

  -- no link that leads on stood there
  leads_elsewhere : (p b : ℕ) → p < link_at s index p b → link_place index p b ≡ slot → ⊥
  leads_elsewhere p b lt e =
      let one = link_once index p q b bits e in
      let same : link_at s index p b ≡ link_at s index q bits = ap (λ (k : ℕ). get_or s k 0) e in
      omega arith

  extends : Extends s index after
  extends = record { keys = key_kept; links = λ p b h lt. link_kept p b (leads_elsewhere p b lt) }

  -- the new place has another key, and no link of it leads on
  past_new : {key r : ℕ} (b : ℕ) → (key_at s index n ≡ key → ⊥) → r ≡ index.count → Finds after index key r n b
  past_new {key} b other e =
      let elsewhere : link_place index n b ≡ slot → ⊥ = λ h. (let one = link_once index n q b bits h in omega arith) in
      let same = link_kept n b elsewhere in
      let low = l.low n b below in
      nowhere {p = n} {bits = b} (other_key extends below other) (omega arith) e

  -- a search for another key ends as before
  others_kept : {key r p b : ℕ} → (key_at s index n ≡ key → ⊥) → p < n → Finds s index key r p b → Finds after index key r p b
  others_kept {p = p} other h (here k e) = here (key_kept p (omega arith) ∙ k) e
  others_kept {p = p} {b = b} other h (deeper ne lt inside f) =
      deeper_there extends (omega arith) ne lt inside (others_kept other (l.low p b (omega arith)) f)
  others_kept {key} {r} {p} {b} other h (nowhere ne le e) =
      let there = other_key extends (omega arith) ne in
      elim (ℕ_discrete (link_place index p b) slot) [
        | yes hit ↦
            let leads = link_set p b hit in
            deeper {p = p} {bits = b} there (omega arith) (omega arith) (rw leads (past_new (b / 2) other e))
        | no miss ↦
            let same = link_kept p b miss in
            nowhere {p = p} {bits = b} there (omega arith) e
      ]

  -- the new place stands one level below
  unfoldable new_depth : ℕ → ℕ
  new_depth p = cond (eqb p n) (suc (l.depth q)) (l.depth p)

  depth_new : new_depth n ≡ suc (l.depth q)
  unfolding new_depth
  depth_new = rw (eq-eqb n n refl)

  depth_old : (p : ℕ) → p < n → new_depth p ≡ l.depth p
  unfolding new_depth
  depth_old p h = rw (ne_eqb p n (omega arith))

  module _ (v : Level s index l.depth (key_at s index n) q bits) where
    new_down : (b : ℕ) → link_place index q b ≡ slot → Descends after index new_depth q b
    new_down b hit =
        let leads = link_set q b hit in
        let same = link_bit index q q b bits hit in
        record {
          level = rw (leads, depth_new, depth_old q early);
          agrees = rw (leads, depth_old q early, key_kept n below, key_kept q (omega arith)) v.shared;
          bit = rw (leads, depth_old q early, key_kept n below) (ap (λ (k : ℕ). k % 2) (sym v.rest) ∙ sym same);
        }

    all_down : (p b : ℕ) → p < index.count → p < link_at after index p b → Descends after index new_depth p b
    all_down p b h leads = elim (ℕ_discrete (link_place index p b) slot) [
      | yes hit ↦ let one = link_once index p q b bits hit in rw one (new_down b (rw one at hit))
      | no miss ↦
          let same = link_kept p b miss in
          let low = l.low p b h in
          let lt : p < link_at s index p b = omega arith in
          descends_kept same (depth_old p (omega arith)) (depth_old (link_at s index p b) low) (key_kept p h) (key_kept (link_at s index p b) (omega arith)) (l.down p b h lt)
    ]

  module _ (v : Level s index l.depth (key_at s index n) q bits) (g : Searching s index (key_at s index n) q bits) where
    -- the key was not there
    new_key : (j : ℕ) → j < n → key_at s index j ≡ key_at s index n → ⊥
    new_key j h e =
        let key = key_at s index n in
        let first = position_below n (λ k. eqb (key_at s index k) key) j h (eq-eqb _ _ e) in
        let from = g.onward _ (linked_found s index key l first) in
        let none = ends_nowhere from ne ends in
        omega arith

    -- so that this place is its first
    pub new_first : n ≡ first_place s index (key_at s index n)
    unfolding first_place
    new_first = sym (position_found index.count (λ j. eqb (key_at s index j) (key_at s index n)) n below (λ k h. ne_eqb _ _ (new_key k h)) (eq-eqb (key_at s index n) (key_at s index n) refl))

    -- now it is found
    new_found : Finds after index (key_at s index n) n 0 (key_at s index n)
    new_found =
        let leads = link_set q bits refl in
        let there : Finds after index (key_at s index n) n n (bits / 2) = here (key_kept n below) refl in
        g.back after extends n (deeper {p = q} {bits = bits} (other_key extends (omega arith) ne) (omega arith) (omega arith) (rw leads there))

    linked_more : Linked after index (n + 1)
    linked_more =
        record {
          inside = rw (length-set s slot n) l.inside;
          low = λ p b h. elim (ℕ_discrete (link_place index p b) slot) [
            | yes hit ↦ let leads = link_set p b hit in omega arith
            | no miss ↦ let same = link_kept p b miss in let low = l.low p b h in omega arith
          ];
          depth = new_depth;
          top = depth_old 0 (omega arith) ∙ l.top;
          down = all_down v;
          found = λ p h first. elim (dec_le n p) [
            | yes k ↦ let one : p ≡ n = omega arith in rw (one, key_kept n below) new_found
            | no k ↦
                let same = key_kept p (omega arith) in
                let before : (j : ℕ) → j < p → key_at s index j ≡ key_at s index p → ⊥ = λ j m e. first j m (key_kept j (omega arith) ∙ e ∙ sym same) in
                rw same (others_kept (λ e. new_key p (omega arith) (sym e)) (omega arith) (l.found p (omega arith) before))
          ];
          missing = λ key none.
              let before : (j : ℕ) → j < n + 1 → key_at s index j ≡ key → ⊥ = λ j m e. none j m (key_kept j (omega arith) ∙ e) in
              others_kept (before n (omega arith)) (omega arith) (l.missing key (λ j m. before j (omega arith)));
        }

    -- the place is linked
    pub place_linked : Links s index n after
    place_linked = record {
      linked = linked_more;
      frame = outside_wider (set_outside s slot n) (index.at + index.count) (2 * index.count) (link_behind index q bits) (omega (arith, link_inside index q bits (omega arith)));
    }

-- the key was there: nothing is linked
pub place_known : {s : List ℕ} {index : Index} {n q : ℕ} → Linked s index n → n < index.count → q < n → key_at s index q ≡ key_at s index n → Links s index n s
place_known {s} {index} {n} {q} l below early e =
    record {
      linked = record {
        inside = l.inside;
        low = λ p b h. let low = l.low p b h in omega arith;
        depth = l.depth;
        top = l.top;
        down = l.down;
        found = λ p h first. elim (dec_le n p) [
          | yes k ↦ let one : p ≡ n = omega arith in absurd (first q (omega arith) (e ∙ ap (key_at s index) (sym one)))
          | no k ↦ l.found p (omega arith) first
        ];
        missing = λ key none. l.missing key (λ j m. none j (omega arith));
      };
      frame = outside_none _ _ s;
    }

-- and the search has ended at its first place
pub known_first : {s : List ℕ} {index : Index} {n q bits : ℕ} → Linked s index n → n < index.count → q < n → Searching s index (key_at s index n) q bits
    → key_at s index q ≡ key_at s index n → q ≡ first_place s index (key_at s index n)
unfolding first_place
known_first {s} {index} {n} {q} l below early g e =
    let key = key_at s index n in
    let some = position_below n (λ j. eqb (key_at s index j) key) q early (eq-eqb _ _ e) in
    let same : among s index key n ≡ q = ends_here (g.onward _ (linked_found s index key l some)) e in
    sym (position_found index.count (λ j. eqb (key_at s index j) key) q (omega arith) (λ k h. before_position n (λ j. eqb (key_at s index j) key) k (omega arith)) (eq-eqb _ _ e))

-- ---- the first place, and all of them

-- the links are cleared: none leads on, so that place 0 alone is linked
module _ (s : List ℕ) {t : List ℕ} (index : Index) (inside : index.at + words_of index ≤ length s)
    (e : t ≡ write s (index.at + index.count) (replicate (min (2 * index.count) (length s - (index.at + index.count))) 0)) where
  abbrev zeros : List ℕ
  zeros = replicate (2 * index.count) 0

  zeros_long : length zeros ≡ 2 * index.count
  zeros_long = length-replicate {A = ℕ} (2 * index.count) 0

  cleared : t ≡ write s (index.at + index.count) zeros
  cleared = let all : min (2 * index.count) (length s - (index.at + index.count)) ≡ 2 * index.count = omega arith in rw all at e

  pub cleared_frame : Outside (index.at + index.count) (2 * index.count) s t
  cleared_frame =
      let frame = write_outside s (index.at + index.count) zeros (omega (arith, zeros_long)) in
      rw cleared (rw zeros_long at frame)

  link_cleared : (p b : ℕ) → p < index.count → link_at t index p b ≡ 0
  unfolding link_place
  link_cleared p b h =
      let stored = stores_written s (index.at + index.count) zeros (omega (arith, zeros_long)) in
      let k = 2 * p + b % 2 in
      let place : index.at + (index.count + k) ≡ index.at + index.count + k = omega arith in
      let word : get_or (write s (index.at + index.count) zeros) (index.at + index.count + k) 0 ≡ get_or zeros k 0 = stores_get_or stored k (omega (arith, zeros_long)) in
      rw (cleared, place) (word ∙ get_or-replicate {A = ℕ} (2 * index.count) k 0 0 (omega arith))

  pub first_linked : 0 < index.count → Linked t index 1
  first_linked some =
      let nowhere-on : (key b : ℕ) → (key_at t index 0 ≡ key → ⊥) → Finds t index key index.count 0 b =
      λ key b ne. (let none = link_cleared 0 b some in nowhere {p = 0} {bits = b} ne (omega arith) refl) in
      record {
        inside = rw cleared_frame.long inside;
        low = λ p b h. let none = link_cleared p b h in omega arith;
        depth = λ p. 0;
        top = refl;
        down = λ p b h lt. (let none = link_cleared p b h in let no : ⊥ = omega arith in absurd no);
        found = λ p h first. let one : p ≡ 0 = omega arith in here (ap (key_at t index) (sym one)) one;
        missing = λ key none. nowhere-on key key (none 0 (omega arith));
      }

-- nothing is built where the words do not suffice
pub never_indexed : {s : List ℕ} {index : Index} → (index.count ≡ 0 → ⊥) → leb (index.at + words_of index) (length s) ≡ false → Indexed s index → ⊥
never_indexed {s} {index} some short i =
    let inside = (i.linked (omega arith)).inside in
    omega (arith, leb-false (index.at + words_of index) (length s) short)

-- ---- words elsewhere may change

module _ {a m : ℕ} {s t : List ℕ} (index : Index) (frame : Outside a m s t) (apart : (index.at + words_of index ≤ a) ⊎ (a + m ≤ index.at)) where
  word_kept : (k : ℕ) → index.at ≤ k → k < index.at + words_of index → get_or t k 0 ≡ get_or s k 0
  word_kept k h l = ⊎_elim (λ d. frame.below k (omega arith)) (λ d. frame.above k (omega arith)) apart

  pub keys_kept : (p : ℕ) → p < index.count → key_at t index p ≡ key_at s index p
  keys_kept p h = word_kept (index.at + p) (omega arith) (omega arith)

  links_kept : (p b : ℕ) → p < index.count → link_at t index p b ≡ link_at s index p b
  links_kept p b h = word_kept (link_place index p b) (omega (arith, link_behind index p b)) (link_inside index p b h)

  carries : Extends s index t
  carries = record { keys = keys_kept; links = λ p b h lt. links_kept p b h }

  finds_kept : {key r p b : ℕ} → p < index.count → Finds s index key r p b → Finds t index key r p b
  finds_kept {p = p} h (here k e) = here (keys_kept p h ∙ k) e
  finds_kept h (deeper ne lt inside f) = deeper_there carries h ne lt inside (finds_kept inside f)
  finds_kept {p = p} {b = b} h (nowhere ne le e) =
      let same = links_kept p b h in
      nowhere {p = p} {bits = b} (other_key carries h ne) (omega arith) e

  pub linked_kept : {n : ℕ} → 0 < index.count → n ≤ index.count → Linked s index n → Linked t index n
  linked_kept some few l = record {
    inside = rw frame.long l.inside;
    low = λ p b h. let same = links_kept p b h in let low = l.low p b h in omega arith;
    depth = l.depth;
    top = l.top;
    down = λ p b h leads.
        let same = links_kept p b h in
        let low = l.low p b h in
        descends_kept same refl refl (keys_kept p h) (keys_kept (link_at s index p b) (omega arith)) (l.down p b h (omega arith));
    found = λ p h first.
        let same = keys_kept p (omega arith) in
        rw same (finds_kept some (l.found p h (λ j k e. first j k (keys_kept j (omega arith) ∙ e ∙ sym same))));
    missing = λ key none. finds_kept some (l.missing key (λ j k e. none j k (keys_kept j (omega arith) ∙ e)));
  }

  -- THE frame law of an index
  pub indexed_kept : Indexed s index → Indexed t index
  indexed_kept i = record { linked = λ some. linked_kept some (omega arith) (i.linked some) }
