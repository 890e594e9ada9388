-- Words that can be searched by key: the keys, then two links for each place.
--     first_place       what a search is to find
--     Finds, passed     how the links lead there, and over how many places
--     Linked, Indexed   some places, or all, are found by the links
--     Arrives, Ends     a search ends at a place, or at a link
--     Links, Built      one place more is linked, or all are
--     Firsts            all are, and the first places are told
-- Assumes nothing.
use Rattle.std.specs.Prelude.{ℕ, zero, suc, ◌+◌, ◌*◌, ◌≤◌, ◌<◌, ◌/◌, ◌%◌, ◌≡◌, ◌⊎◌, List, length, get_or}
use Rattle.lists.specs.Every.{find}
use Rattle.lists.specs.Part.{Outside}
use Rattle.index.specs.declared.Index.{Index}

-- the words that an index takes
abbrev pub words_of : Index → ℕ
words_of index = 3 * index.count

-- the key of a place
abbrev pub key_at : List ℕ → Index → ℕ → ℕ
key_at s index p = get_or s (index.at + p) 0

-- the first place whose key it is; the count where none is
unfoldable pub first_place : List ℕ → Index → ℕ → ℕ
first_place s index key = find index.count (key_at s index) key

-- where the link of a place for the next bit stands, and where it leads
unfoldable pub link_place : Index → (place bits : ℕ) → ℕ
link_place index p bits = index.at + (index.count + (2 * p + bits % 2))

abbrev pub link_at : List ℕ → Index → (place bits : ℕ) → ℕ
link_at s index p bits = get_or s (link_place index p bits) 0

-- the search for a key ends at r, from a place and with the bits that are left of the key: at a place that has the key, or at the
-- count where the link does not lead on to a later place
pub data Finds (s : List ℕ) (index : Index) (key r : ℕ) : (place bits : ℕ) → Type 0 where
  here : {p bits : ℕ} → key_at s index p ≡ key → r ≡ p → Finds s index key r p bits
  deeper : {p bits : ℕ} → (key_at s index p ≡ key → ⊥) → p < link_at s index p bits → link_at s index p bits < index.count
      → Finds s index key r (link_at s index p bits) (bits / 2) → Finds s index key r p bits
  nowhere : {p bits : ℕ} → (key_at s index p ≡ key → ⊥) → link_at s index p bits ≤ p → r ≡ index.count → Finds s index key r p bits

-- the places that a search passes
unfoldable pub passed : {s : List ℕ} {index : Index} {key r p bits : ℕ} → Finds s index key r p bits → ℕ
passed (here k e) = 1
passed (deeper ne lt inside f) = suc (passed f)
passed (nowhere ne le e) = 1

-- what is left of a number without its t lowest bits, and whether two numbers agree in these
unfoldable pub halved : (t x : ℕ) → ℕ
halved zero x = x
halved (suc t) x = halved t x / 2

abbrev pub Agree : (t x y : ℕ) → Type 0
Agree t x y = (i : ℕ) → i < t → halved i x % 2 ≡ halved i y % 2

-- the link of a place leads one level down, to a place that agrees with it in all bits that led to it, and with the search in one more
pub record Descends (s : List ℕ) (index : Index) (depth : ℕ → ℕ) (p bits : ℕ) : Type 0 where
  pub level : depth (link_at s index p bits) ≡ suc (depth p)
  pub agrees : Agree (depth p) (key_at s index p) (key_at s index (link_at s index p bits))
  pub bit : halved (depth p) (key_at s index (link_at s index p bits)) % 2 ≡ bits % 2

-- the first n places are linked: each that is the first of its key is found, other keys are not, no link leads further, and each
-- place has its level in the tree
pub record Linked (s : List ℕ) (index : Index) (n : ℕ) : Type 0 where
  pub inside : index.at + words_of index ≤ length s
  pub low : (p bits : ℕ) → p < index.count → link_at s index p bits < n
  pub depth : ℕ → ℕ
  pub top : depth 0 ≡ 0
  pub down : (p bits : ℕ) → p < index.count → p < link_at s index p bits → Descends s index depth p bits
  pub found : (p : ℕ) → p < n → ((j : ℕ) → j < p → key_at s index j ≡ key_at s index p → ⊥) → Finds s index (key_at s index p) p 0 (key_at s index p)
  pub missing : (key : ℕ) → ((j : ℕ) → j < n → key_at s index j ≡ key → ⊥) → Finds s index key index.count 0 key

-- words in which every search that goes on goes on as before
pub record Extends (s : List ℕ) (index : Index) (t : List ℕ) : Type 0 where
  pub keys : (p : ℕ) → p < index.count → key_at t index p ≡ key_at s index p
  pub links : (p bits : ℕ) → p < index.count → p < link_at s index p bits → link_at t index p bits ≡ link_at s index p bits

-- a search has come to its place by as many bits as that has levels above it
pub record Level (s : List ℕ) (index : Index) (depth : ℕ → ℕ) (key p bits : ℕ) : Type 0 where
  pub rest : bits ≡ halved (depth p) key
  pub shared : Agree (depth p) (key_at s index p) key

-- a search under way: what it is to find it finds from here, and what is found from here it finds
pub record Searching (s : List ℕ) (index : Index) (key place bits : ℕ) : Type 0 where
  pub onward : (r : ℕ) → Finds s index key r 0 key → Finds s index key r place bits
  pub back : (t : List ℕ) → Extends s index t → (r : ℕ) → Finds t index key r place bits → Finds t index key r 0 key

-- the search for a key comes to a place, with these bits left; among linked places to one of them
pub record Comes (s : List ℕ) (index : Index) (key place bits : ℕ) : Type 0 where
  pub inside : place < index.count
  pub searching : Searching s index key place bits
  pub linked : (n : ℕ) → 0 < n → (l : Linked s index n) → (place < n) × Level s index l.depth key place bits

-- it ends at a place that has the key, or at a link that does not lead on
pub record Arrives (s : List ℕ) (index : Index) (key place : ℕ) : Type 0 where
  pub bits : ℕ
  pub comes : Comes s index key place bits
  pub has : key_at s index place ≡ key

pub record Ends (s : List ℕ) (index : Index) (key link : ℕ) : Type 0 where
  pub place : ℕ
  pub bits : ℕ
  pub comes : Comes s index key place bits
  pub other : key_at s index place ≡ key → ⊥
  pub stands : link ≡ link_place index place bits
  pub ends : (link_at s index place bits ≤ place) ⊎ (index.count ≤ link_at s index place bits)

-- all are, if there are any
pub record Indexed (s : List ℕ) (index : Index) : Type 0 where
  pub linked : 0 < index.count → Linked s index index.count

-- s becomes s', in which one place more is linked; only links change
pub record Links (s : List ℕ) (index : Index) (n : ℕ) (s' : List ℕ) : Type 0 where
  pub linked : Linked s' index (n + 1)
  pub frame : Outside (index.at + index.count) (2 * index.count) s s'

-- the words of as many places from `to` on lie apart from the index
abbrev pub Apart : Index → (to : ℕ) → Type 0
Apart index to = (to + index.count ≤ index.at) ⊎ (index.at + words_of index ≤ to)

-- s becomes s', in which the keys can be searched, and the words from `to` on tell for each place the first one with its key; only
-- these and links change
pub record Firsts (s : List ℕ) (index : Index) (to : ℕ) (s' : List ℕ) : Type 0 where
  pub long : length s' ≡ length s
  pub indexed : index.at + words_of index ≤ length s → Apart index to → to ≤ length s → Indexed s' index
  pub words : index.at + words_of index ≤ length s → Apart index to → to + index.count ≤ length s
      → (k : ℕ) → k < index.count → get_or s' (to + k) 0 ≡ first_place s index (key_at s index k)
  pub frame : (k : ℕ) → (k < to) ⊎ (to + index.count ≤ k) → (k < index.at + index.count) ⊎ (index.at + words_of index ≤ k) → get_or s' k 0 ≡ get_or s k 0

-- s becomes s', in which the keys can be searched; only links change
pub record Built (s : List ℕ) (index : Index) (s' : List ℕ) : Type 0 where
  pub indexed : index.at + words_of index ≤ length s → Indexed s' index
  pub frame : Outside (index.at + index.count) (2 * index.count) s s'
