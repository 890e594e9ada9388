-- Classes of selections: by response name, and by name and parent. A class is told by its first row. Assumes nothing.
-- For n rows: their parents from word 0 on, the classes of their names from n, those of pairs from 2 × n, an index from 3 × n.
use Rattle.std.specs.Prelude.{◌≡◌, Bool, cond, ◌&&◌, List, ℕ, ◌+◌, ◌*◌, ◌≤◌, ◌<◌, min, eqb, ltb, length, get_or}
use Rattle.lists.specs.Every.{position}
use Rattle.lists.specs.Part.{Outside}
use Rattle.tables.specs.Columns.{type_kind, response_name, object_type}
use Rattle.index.specs.declared.Index.{Index}

-- the class of a parent: itself if it is one of so many types and an object; all others share one
unfoldable pub parent_class : (image : List ℕ) (many parent : ℕ) → ℕ
parent_class image many parent = cond (ltb parent many && eqb (type_kind image parent) object_type) parent many

-- the class of a row's parent, which stands in the words
abbrev pub parent_class_at : (image : List ℕ) (many : ℕ) (s : List ℕ) → ℕ → ℕ
parent_class_at image many s r = parent_class image many (get_or s r 0)

-- the rows have one name; and parents of one class as well
abbrev pub alike_name : List ℕ → ℕ → ℕ → Bool
alike_name image r k = eqb (response_name image k) (response_name image r)

abbrev pub alike_pair : (image : List ℕ) (many : ℕ) (s : List ℕ) → ℕ → ℕ → Bool
alike_pair image many s r k = alike_name image r k && eqb (parent_class_at image many s k) (parent_class_at image many s r)

-- for each of n rows, with so many types, the first row that is alike; only the classes and the words of the index have changed
pub record Classes (image : List ℕ) (n many : ℕ) (s s' : List ℕ) : Type 0 where
  pub frame : Outside n (5 * n) s s'
  pub names : 6 * n ≤ length s → (r : ℕ) → r < n → get_or s' (n + r) 0 ≡ position n (alike_name image r)
  pub pairs : 6 * n ≤ length s → (r : ℕ) → r < n → get_or s' (2 * n + r) 0 ≡ position n (alike_pair image many s r)

-- ---- by keys

abbrev pub index_of : ℕ → Index
index_of n = record { at = 3 * n; count = n }

abbrev pub key_of : List ℕ → (n row : ℕ) → ℕ
key_of s n k = get_or s (3 * n + k) 0

-- the key of a pair: one number for the class of the name and that of the parent
unfoldable pub pair_key : (image : List ℕ) (many : ℕ) (s : List ℕ) (n row : ℕ) → ℕ
pair_key image many s n k = min (get_or s (n + k) 0) n * (many + 1) + parent_class image many (get_or s k 0)

-- n words from `at` on are what f says; the others are as before
pub record Written (f : ℕ → ℕ) (at n : ℕ) (s s' : List ℕ) : Type 0 where
  pub words : at + n ≤ length s → (k : ℕ) → k < n → get_or s' (at + k) 0 ≡ f k
  pub frame : Outside at n s s'

abbrev pub Keys : (ℕ → ℕ) → ℕ → (s s' : List ℕ) → Type 0
Keys f n s s' = Written f (3 * n) n s s'
