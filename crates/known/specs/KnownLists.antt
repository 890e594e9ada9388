-- The lists that a pass has met, stored and found again. What crates above rely on is `Known`, `Finds` and the laws of proofs/KnownLaws; how
-- lists are found, by keys and chains, is this crate's own affair.
--     Known registry s n ls    ls are stored in the first n places of the store, and found by their keys
--     Finds ..                 r says whether a list is among the known ones, whatever these are
--     forgotten_words, kept_words   the words after `forget` and `keep`
use Rattle.std.specs.Prelude.{◌≡◌, Bool, cond, ◌&&◌, List, ◌∷◌, ◌++◌, ℕ, zero, suc, ◌+◌, ◌-◌, ◌≤◌, min, eqb, leb, length, get_or, set, replicate}
use Rattle.lists.specs.Every.{every}
use Rattle.lists.specs.Part.{write, Stores, StoredAt}
use Rattle.lists.specs.declared.Span.{Span}
use Rattle.merge_theory.specs.Lists.{◌∈◌, is_known}
use Rattle.known.specs.declared.Registry.{Registry}

-- ---- keys: lists with the same rows have the same key

-- a number of at most n for a sum
unfoldable pub bucket : ℕ → ℕ → ℕ
bucket n sum = cond (leb sum n) sum (min (sum - n) n)

-- the rows from a place on, added one by one
unfoldable pub key_words : ℕ → List ℕ → (at rows : ℕ) → ℕ
key_words n s at zero = 0
key_words n s at (suc rows) = bucket n (key_words n s at rows + get_or s (at + rows) 0)

abbrev pub key_of : ℕ → List ℕ → ℕ
key_of n l = key_words n l 0 (length l)

-- where the last known list with a list's key is recorded
unfoldable pub slot_at : Registry → List ℕ → Span → ℕ
slot_at registry s x = registry.heads + key_words registry.keys s (registry.store + x.start) (x.end - x.start)

-- ---- known lists

-- a list is stored as its length and then its rows
pub record KeptAt (registry : Registry) (s : List ℕ) (place : ℕ) (l : List ℕ) : Type 0 where
  pub size : get_or s (registry.store + place) 0 ≡ length l
  pub rows : Stores s (registry.store + place + 1) (length l) l

-- none of these lists has the key
abbrev pub Unlike : Registry → ℕ → List (List ℕ) → Type 0
Unlike registry key ls = (k : List ℕ) → k ∈ ls → key_of registry.keys k ≡ key → ⊥

-- the lists of ls that have the key: `next` is 0 where there is none, else one more than the place of the last one's length; that
-- list ends before `end`, and those before it are found in the same way
pub data Trail (registry : Registry) (s : List ℕ) (key : ℕ) : ℕ → ℕ → List (List ℕ) → Type 0 where
  ends : {end next : ℕ} {ls : List (List ℕ)} → next ≡ 0 → Unlike registry key ls → Trail registry s key end next ls
  leads : {end next : ℕ} {ls : List (List ℕ)} (place : ℕ) (front : List (List ℕ)) (l : List ℕ) (back : List (List ℕ)) → next ≡ suc place
      → ls ≡ front ++ l ∷ back → Unlike registry key back → place + suc (length l) ≤ end → KeptAt registry s place l
      → Trail registry s key place (get_or s (registry.chain + place) 0) front → Trail registry s key end next ls

pub record Known (registry : Registry) (s : List ℕ) (n : ℕ) (ls : List (List ℕ)) : Type 0 where
  pub trails : (key : ℕ) → key ≤ registry.keys → Trail registry s key n (get_or s (registry.heads + key) 0) ls

-- ---- the contracts

-- the answer of a search that starts from a list's slot
pub record Finds (registry : Registry) (s : List ℕ) (slot : ℕ) (x : Span) (r : Bool) : Type 0 where
  pub answer : slot ≡ slot_at registry s x → (n : ℕ) (ls : List (List ℕ)) (l : List ℕ) → Known registry s n ls → StoredAt s registry.store x l
      → r ≡ is_known l ls

abbrev pub same_rows : List ℕ → ℕ → ℕ → ℕ → Bool
same_rows s a b n = every n (λ k. eqb (get_or s (a + k) 0) (get_or s (b + k) 0))

-- the list that is stored at a place is the n words from b
unfoldable pub is_list_at : List ℕ → ℕ → ℕ → ℕ → Bool
is_list_at s at b n = eqb (get_or s at 0) n && same_rows s b (at + 1) n

abbrev pub forgotten_words : Registry → List ℕ → List ℕ
forgotten_words registry s = write s registry.heads (replicate (min (registry.keys + 1) (length s - registry.heads)) 0)

-- the list is kept behind n places: chained to the last list of its key, which it is now, its length before it
unfoldable pub kept_words : Registry → ℕ → ℕ → Span → List ℕ → List ℕ
kept_words registry slot n x s = set (set (set s (registry.chain + n) (get_or s slot 0)) slot x.start) (registry.store + n) (x.end - x.start)
