-- The laws of the store of known lists.
use mathlib.Core.Path.{◌≡◌, refl, sym, ap, ◌∙◌, subst}
use mathlib.Core.Logic.{◌⊎◌, inl, inr}
use mathlib.Core.Bool.{Bool, true, false, cond, ◌&&◌, ◌||◌, and-false}
use mathlib.Core.List.{List, [], ◌∷◌, ◌++◌, append_assoc}
use Prim.Native.Nat.{ℕ, zero, suc, ◌+◌, ◌-◌, ◌≤◌, ◌<◌, min}
use native.Mathlib.Decide.{ℕ_discrete}
use native.Mathlib.Omega.{arith}
use lib.Dec.{T, eqb, leb}
use lib.ListN.{length, get_or, set, length-set}
use lib.Seq.{get_or-set_same, get_or-set_other}
use borrow.Author.Tests.{eq-eqb, ne_eqb, leb-true}
use Rattle.lists.specs.Every.{every}
use Rattle.lists.specs.Part.{Stores, StoredAt, Outside}
use Rattle.lists.proofs.ClearLaws.{Cleared, cleared}
use Rattle.lists.proofs.EveryLaws.{every_cong}
use Rattle.lists.proofs.Parts.{stores_length, stores_get_or, stores_same}
use Rattle.merge_theory.specs.Lists.{◌∈◌, here, there, same_list, is_known}
use Rattle.merge_theory.proofs.ListLaws.{is_known→in, in_append, not_in_nil}
use Rattle.merge_theory.proofs.Loops.{is_known_append}
use Rattle.known.specs.declared.Registry.{Registry}
use Rattle.lists.specs.declared.Span.{Span}
use Rattle.known.specs.KnownLists.{bucket, key_words, key_of, slot_at, KeptAt, Unlike, Trail, ends, leads, Known, same_rows, is_list_at, forgotten_words, kept_words}

-- ---- keys

bucket_most : (n sum : ℕ) → bucket n sum ≤ n
unfolding bucket
bucket_most n sum = go (leb sum n) refl
  where
    go : (b : Bool) → leb sum n ≡ b → cond b sum (min (sum - n) n) ≤ n
    go true e = leb-true sum n e
    go false e = omega arith

pub key_most : (n : ℕ) (s : List ℕ) (at rows : ℕ) → key_words n s at rows ≤ n
unfolding key_words
key_most n s at zero = omega arith
key_most n s at (suc rows) = bucket_most n (key_words n s at rows + get_or s (at + rows) 0)

-- the same words have one key
key_same : (n : ℕ) (s s' : List ℕ) (at at' rows : ℕ) → ((k : ℕ) → k < rows → get_or s (at + k) 0 ≡ get_or s' (at' + k) 0) → key_words n s at rows ≡ key_words n s' at' rows
unfolding key_words
key_same n s s' at at' zero same = refl
key_same n s s' at at' (suc rows) same = rw (key_same n s s' at at' rows (λ k h. same k (omega arith)), same rows (omega arith))

-- a list's slot is that of the key of its rows
pub slot_is : (registry : Registry) {s : List ℕ} {x : Span} {l : List ℕ} → StoredAt s registry.store x l → slot_at registry s x ≡ registry.heads + key_of registry.keys l
unfolding slot_at
slot_is registry {s} {x} {l} list =
    let long : x.end - x.start ≡ length l = sym (stores_length list.rows) in
    ap (λ k. registry.heads + k) (key_same registry.keys s l (registry.store + x.start) 0 (x.end - x.start) (λ k h. stores_get_or list.rows k h ∙ ap (λ j. get_or l j 0) (let e : k ≡ 0 + k = omega arith in e))
    ∙ ap (key_words registry.keys l 0) long)

-- ---- the words of two places, as lists

same_by_words : (a b : List ℕ) → length a ≡ length b → every (length a) (λ k. eqb (get_or a k 0) (get_or b k 0)) ≡ same_list a b
unfolding same_list every
same_by_words [] [] e = refl
same_by_words [] (y ∷ ys) e = absurd (omega arith)
same_by_words (x ∷ xs) [] e = absurd (omega arith)
same_by_words (x ∷ xs) (y ∷ ys) e = ap (λ t. eqb x y && t) (same_by_words xs ys (omega arith))

same_list_length : (a b : List ℕ) → (length a ≡ length b → ⊥) → same_list a b ≡ false
unfolding same_list
same_list_length [] [] h = absurd (h refl)
same_list_length [] (y ∷ ys) h = refl
same_list_length (x ∷ xs) [] h = refl
same_list_length (x ∷ xs) (y ∷ ys) h = rw (same_list_length xs ys (λ e. h (ap suc e)), and-false)

stored_same : {s : List ℕ} {a b n : ℕ} {l k : List ℕ} → Stores s a n l → Stores s b n k → same_rows s a b n ≡ same_list l k
stored_same {s} {a} {b} {n} {l} {k} p q =
    let long = stores_length p in
    let lock = stores_length q in
    every_cong n _ (λ i. eqb (get_or l i 0) (get_or k i 0)) (λ i h. rw (stores_get_or p i h, stores_get_or q i h))
    ∙ ap (λ m. every m (λ i. eqb (get_or l i 0) (get_or k i 0))) (sym long)
    ∙ same_by_words l k (long ∙ sym lock)

-- whether l is the list that is kept at a place, by its length and then its words
is_kept : {registry : Registry} {s : List ℕ} {place b m : ℕ} {l k : List ℕ} → Stores s b m l → KeptAt registry s place k → is_list_at s (registry.store + place) b m ≡ same_list l k
unfolding is_list_at
is_kept {registry} {s} {place} {b} {m} {l} {k} list f = rw f.size (decide (ℕ_discrete (length k) m))
  where
    decide : Dec (length k ≡ m) → (eqb (length k) m && same_rows s b (registry.store + place + 1) m) ≡ same_list l k
    decide (yes e) = rw (eq-eqb _ _ e) (stored_same list (rw e at f.rows))
    decide (no e) = rw (ne_eqb _ _ e) (sym (same_list_length l k (λ h. e (sym h ∙ stores_length list))))

-- ---- a search along the lists of one key

-- a list is not among those of other keys
unlike_new : (registry : Registry) (l : List ℕ) (ls : List (List ℕ)) → Unlike registry (key_of registry.keys l) ls → is_known l ls ≡ false
unlike_new registry l ls unlike = go (is_known l ls) refl
  where
    go : (b : Bool) → is_known l ls ≡ b → b ≡ false
    go true e = absurd (unlike l (is_known→in l ls (subst T (sym e) tt)) refl)
    go false e = refl

-- so a list is known by those before the last of its key, or is that one
known_there : (registry : Registry) (l k : List ℕ) (front back : List (List ℕ)) → Unlike registry (key_of registry.keys l) back
    → is_known l (front ++ k ∷ back) ≡ (is_known l front || same_list l k)
unfolding is_known
known_there registry l k front back unlike = is_known_append l front (k ∷ back) ∙ rw (unlike_new registry l back unlike) (or_none (is_known l front) (same_list l k))
  where
    or_none : (a b : Bool) → (a || (b || false)) ≡ (a || b)
    or_none true b = refl
    or_none false true = refl
    or_none false false = refl

pub trail_below : {registry : Registry} {s : List ℕ} {key end next : ℕ} {ls : List (List ℕ)} → Trail registry s key end next ls → next ≤ end
trail_below (ends none unlike) = omega arith
trail_below (leads place front k back is parts unlike fits kept rest) = omega arith

module _ {registry : Registry} {s : List ℕ} {b m : ℕ} {l : List ℕ} (list : Stores s b m l) where
  pub hit : {end next place : ℕ} {ls : List (List ℕ)} → Trail registry s (key_of registry.keys l) end next ls → next ≡ suc place → is_list_at s (registry.store + place) b m ≡ true → is_known l ls ≡ true
  hit (ends none unlike) at t = absurd (omega arith)
  hit {place = place} (leads spot front k back is parts unlike fits kept rest) at t =
      let same_place : spot ≡ place = omega arith in
      let same : same_list l k ≡ true = sym (is_kept list kept) ∙ rw same_place t in
      rw parts (known_there registry l k front back unlike ∙ rw same (or_true (is_known l front)))
    where
      or_true : (a : Bool) → (a || true) ≡ true
      or_true true = refl
      or_true false = refl

  -- the list that is kept there is not it: those before it decide
  pub miss : {end next place : ℕ} {ls : List (List ℕ)} → Trail registry s (key_of registry.keys l) end next ls → next ≡ suc place → is_list_at s (registry.store + place) b m ≡ false
      → (rest : List (List ℕ)) × Trail registry s (key_of registry.keys l) place (get_or s (registry.chain + place) 0) rest × (is_known l ls ≡ is_known l rest)
  miss (ends none unlike) at t = absurd (omega arith)
  miss {place = place} (leads spot front k back is parts unlike fits kept rest) at t =
      let same_place : spot ≡ place = omega arith in
      let other : same_list l k ≡ false = sym (is_kept list kept) ∙ rw same_place t in
      (front, rw same_place at rest, rw parts (known_there registry l k front back unlike ∙ rw other (or_false (is_known l front))))
    where
      or_false : (a : Bool) → (a || false) ≡ a
      or_false true = refl
      or_false false = refl

pub nowhere : (registry : Registry) {s : List ℕ} (l : List ℕ) {end next : ℕ} {ls : List (List ℕ)} → Trail registry s (key_of registry.keys l) end next ls → next ≡ 0 → is_known l ls ≡ false
nowhere registry l {ls = ls} (ends none unlike) e = unlike_new registry l ls unlike
nowhere registry l (leads place front k back is parts unlike fits kept rest) e = absurd (omega arith)

-- ---- what stays

-- the words that are read lie below `end`
trail_kept : {registry : Registry} {s s' : List ℕ} {key end next : ℕ} {ls : List (List ℕ)} → length s' ≡ length s
    → ((k : ℕ) → registry.chain ≤ k → k < registry.chain + end → get_or s' k 0 ≡ get_or s k 0)
    → ((k : ℕ) → registry.store ≤ k → k < registry.store + end → get_or s' k 0 ≡ get_or s k 0)
    → Trail registry s key end next ls → Trail registry s' key end next ls
trail_kept long chain store (ends none unlike) = ends none unlike
trail_kept {registry} {s} {s'} {key} long chain store (leads place front k back is parts unlike fits kept rest) =
    let link = chain (registry.chain + place) (omega arith) (omega arith) in
    leads place front k back is parts unlike fits
    (record {
      size = store (registry.store + place) (omega arith) (omega arith) ∙ kept.size;
      rows = stores_same long (λ j ge less. store j (omega arith) (omega arith)) kept.rows;
    })
    (rw link (trail_kept long (λ j ge less. chain j ge (omega arith)) (λ j ge less. store j ge (omega arith)) rest))

-- known lists stay known where the registry's words, and the first n places of the store, stay
pub known_kept : {registry : Registry} {s s' : List ℕ} {n : ℕ} {ls : List (List ℕ)} → registry.heads + registry.keys < registry.chain → length s' ≡ length s
    → ((k : ℕ) → registry.heads ≤ k → k < registry.chain + n → get_or s' k 0 ≡ get_or s k 0)
    → ((k : ℕ) → registry.store ≤ k → k < registry.store + n → get_or s' k 0 ≡ get_or s k 0)
    → Known registry s n ls → Known registry s' n ls
known_kept {registry} {s} low long front store r = record {
  trails = λ key h.
      rw (front (registry.heads + key) (omega arith) (omega arith))
      (trail_kept {s = s} long (λ k ge less. front k (omega arith) less) store (r.trails key h));
}

-- ---- nothing known

pub record Forgets (registry : Registry) (s s' : List ℕ) : Type 0 where
  pub frame : Outside registry.heads (registry.keys + 1) s s'
  pub known : Known registry s' 0 []

pub forgets : (registry : Registry) (s : List ℕ) → registry.heads + registry.keys < length s → Forgets registry s (forgotten_words registry s)
forgets registry s room =
    let clear : Cleared registry.heads (registry.keys + 1) s (forgotten_words registry s) = cleared refl (omega arith) in
    record {
      frame = clear.outside;
      known = record { trails = λ key h. ends (clear.empty key (omega arith)) (λ k m e. not_in_nil m) };
    }

-- ---- one list more

-- the regions lie one behind the other, and there is room for n places
pub record Fits (registry : Registry) (n : ℕ) : Type 0 where
  pub heads : registry.heads + registry.keys < registry.chain
  pub chain : registry.chain + n ≤ registry.store

both_unlike : (registry : Registry) (key : ℕ) (l : List ℕ) {ls : List (List ℕ)} → (key_of registry.keys l ≡ key → ⊥) → Unlike registry key ls
    → Unlike registry key (ls ++ l ∷ [])
both_unlike registry key l {ls} other unlike k m e = go (in_append ls m)
  where
    go : (k ∈ ls) ⊎ (k ∈ (l ∷ [])) → ⊥
    go (inl before) = unlike k before e
    go (inr (here is)) = other (ap (key_of registry.keys) (sym is) ∙ e)
    go (inr (there more)) = not_in_nil more

-- a list of another key does not matter
trail_more : {registry : Registry} {s : List ℕ} {key end next : ℕ} {ls : List (List ℕ)} (l : List ℕ) {more : ℕ} → (key_of registry.keys l ≡ key → ⊥)
    → end ≤ more → Trail registry s key end next ls → Trail registry s key more next (ls ++ l ∷ [])
trail_more {registry} {key = key} l other wider (ends none unlike) = ends none (both_unlike registry key l other unlike)
trail_more {registry} {key = key} {ls = ls} l {more} other wider (leads place front k back is parts unlike fits kept rest) =
    leads {end = more} {ls = ls ++ l ∷ []} place front k (back ++ l ∷ []) is (rw parts (append_assoc front (k ∷ back) (l ∷ [])))
    (both_unlike registry key l other unlike) (omega arith) kept rest

-- the words that keeping a list changes, and what it writes there
record Writes (registry : Registry) (slot n : ℕ) (x : Span) (s s' : List ℕ) : Type 0 where
  pub long : length s' ≡ length s
  pub words : (k : ℕ) → (k ≡ registry.chain + n → ⊥) → (k ≡ slot → ⊥) → (k ≡ registry.store + n → ⊥) → get_or s' k 0 ≡ get_or s k 0
  pub link : slot < registry.chain → registry.chain + n < registry.store → registry.store + n < length s
      → get_or s' (registry.chain + n) 0 ≡ get_or s slot 0
  pub first : slot < registry.chain → registry.chain + n < registry.store → registry.store + n < length s → get_or s' slot 0 ≡ x.start
  pub size : registry.store + n < length s → get_or s' (registry.store + n) 0 ≡ x.end - x.start

writes : (registry : Registry) (slot n : ℕ) (x : Span) (s : List ℕ) → Writes registry slot n x s (kept_words registry slot n x s)
unfolding kept_words
writes registry slot n x s =
    let link = registry.chain + n in
    let place = registry.store + n in
    let m = x.end - x.start in
    let s₁ = set s link (get_or s slot 0) in
    let s₂ = set s₁ slot x.start in
    let long₁ = length-set s link (get_or s slot 0) in
    let long₂ = length-set s₁ slot x.start in
    record {
      long = length-set s₂ place m ∙ long₂ ∙ long₁;
      words = λ k a b c. get_or-set_other s₂ place k m 0 c ∙ get_or-set_other s₁ slot k x.start 0 b ∙ get_or-set_other s link k (get_or s slot 0) 0 a;
      link = λ low spread room.
          get_or-set_other s₂ place link m 0 (λ e. omega arith) ∙ get_or-set_other s₁ slot link x.start 0 (λ e. omega arith)
          ∙ get_or-set_same s link (get_or s slot 0) 0 (omega arith);
      first = λ low spread room. get_or-set_other s₂ place slot m 0 (λ e. omega arith) ∙ get_or-set_same s₁ slot x.start 0 (omega (arith, long₁));
      size = λ room. get_or-set_same s₂ place m 0 (omega (arith, long₁, long₂));
    }

slot_among : (registry : Registry) (s : List ℕ) (x : Span) → (registry.heads ≤ slot_at registry s x) × (slot_at registry s x ≤ registry.heads + registry.keys)
unfolding slot_at
slot_among registry s x =
    let most = key_most registry.keys s (registry.store + x.start) (x.end - x.start) in
    (omega arith, omega arith)

-- what `keep` leaves: all but words of the registry, and the place before the list
pub record Keeps (registry : Registry) (n : ℕ) (s s' : List ℕ) : Type 0 where
  pub long : length s' ≡ length s
  pub front : (k : ℕ) → k < registry.heads → registry.heads ≤ registry.chain → registry.chain ≤ registry.store → get_or s' k 0 ≡ get_or s k 0
  pub behind : (k : ℕ) → registry.heads + registry.keys < k → (k ≡ registry.chain + n → ⊥) → (k ≡ registry.store + n → ⊥) → get_or s' k 0 ≡ get_or s k 0

pub keeps : (registry : Registry) (n : ℕ) (x : Span) (s : List ℕ) → Keeps registry n s (kept_words registry (slot_at registry s x) n x s)
keeps registry n x s =
    let w = writes registry (slot_at registry s x) n x s in
    let among = slot_among registry s x in
    record {
      long = w.long;
      front = λ k h p q. w.words k (λ e. omega arith) (λ e. omega (arith, among)) (λ e. omega arith);
      behind = λ k h p q. w.words k p (λ e. omega (arith, among)) q;
    }

-- the list l, which is stored one word behind n places, is known where it is kept
module _ {registry : Registry} {s : List ℕ} {n : ℕ} {x : Span} {ls : List (List ℕ)} (l : List ℕ) (fits : Fits registry (suc n))
    (start : x.start ≡ suc n) (ordered : x.start ≤ x.end) (r : Known registry s n ls) (list : StoredAt s registry.store x l) where
  slot : ℕ
  slot = slot_at registry s x

  at : slot_at registry s x ≡ registry.heads + key_of registry.keys l
  at = slot_is registry list

  s' : List ℕ
  s' = kept_words registry (slot_at registry s x) n x s

  w : Writes registry (slot_at registry s x) n x s s'
  unfolding s'
  w = writes registry (slot_at registry s x) n x s

  long : length l ≡ x.end - x.start
  long = stores_length list.rows

  room : registry.store + n < length s
  room = omega (arith, list.rows.inside)

  low : slot_at registry s x < registry.chain
  low = omega (arith, slot_among registry s x, fits.heads)

  stored : (k : ℕ) → registry.store ≤ k → (k ≡ registry.store + n → ⊥) → get_or s' k 0 ≡ get_or s k 0
  stored k ge apart = w.words k (λ e. omega (arith, fits.chain)) (λ e. omega (arith, low, fits.chain)) apart

  was : (k : ℕ) → k ≤ registry.keys → {next : ℕ} → next ≡ get_or s (registry.heads + k) 0 → Trail registry s' k n next ls
  was k h e =
      trail_kept {s = s} w.long (λ j ge less. w.words j (λ p. omega arith) (λ p. omega (arith, low)) (λ p. omega (arith, fits.chain)))
      (λ j ge less. stored j ge (λ same. omega arith)) (rw e (r.trails k h))

  kept : KeptAt registry s' n l
  kept =
      let place : registry.store + x.start ≡ registry.store + n + 1 = omega arith in
      let rows : Stores s (registry.store + n + 1) (length l) l = rw (← place, long) list.rows in
      record {
        size = w.size room ∙ sym long;
        rows = stores_same w.long (λ j ge less. stored j (omega arith) (λ e. omega arith)) rows;
      }

  trail : (k : ℕ) → k ≤ registry.keys → Trail registry s' k x.end (get_or s' (registry.heads + k) 0) (ls ++ (l ∷ []))
  trail k h = by (ℕ_discrete (key_of registry.keys l) k)
    where
      by : Dec (key_of registry.keys l ≡ k) → Trail registry s' k x.end (get_or s' (registry.heads + k) 0) (ls ++ (l ∷ []))
      by (yes e) =
          let here : registry.heads + k ≡ slot_at registry s x = omega (arith, at, e) in
          let link = w.link low (omega (arith, fits.chain)) room in
          leads {end = x.end} {next = get_or s' (registry.heads + k) 0} n ls l [] (rw here (w.first low (omega (arith, fits.chain)) room) ∙ start) refl (λ j m u. not_in_nil m)
          (omega (arith, long)) kept (was k h (link ∙ ap (λ j. get_or s j 0) (sym here)))
      by (no e) =
          let other : registry.heads + k ≡ slot_at registry s x → ⊥ = λ same. e (omega (arith, at)) in
          let stays = w.words (registry.heads + k) (λ j. omega (arith, fits.heads)) other (λ j. omega (arith, fits.heads, fits.chain)) in
          trail_more l e (omega (arith, start, ordered)) (was k h stays)

  pub known_more : Known registry (kept_words registry (slot_at registry s x) n x s) x.end (ls ++ (l ∷ []))
  unfolding s'
  known_more = record { trails = trail }
