-- Links between the places of a list: from each place to the next one of its class, and to the first. Assumes nothing.
use Rattle.std.specs.Prelude.{◌≡◌, ◌⊎◌, Bool, cond, ◌&&◌, List, ℕ, ◌+◌, ◌*◌, ◌≤◌, ◌<◌, eqb, leb, ltb, length, get_or, set}
use Rattle.lists.specs.declared.Span.{Span}
use Rattle.selection.specs.declared.links.Chain.{Chain}
use Rattle.selection.specs.Places.{seek}

module _ (s : List ℕ) (c : Chain) where
  -- the row that stands at a place, and its class
  abbrev pub row_of : ℕ → ℕ
  row_of p = get_or s (c.store + p) 0

  abbrev pub class_at : ℕ → ℕ
  class_at p = get_or s (c.classes + row_of p) 0

  -- where a place leads to, and where its group begins
  abbrev pub next_at : ℕ → ℕ
  next_at p = get_or s (c.links + 4 * p) 0

  abbrev pub first_at : ℕ → ℕ
  first_at p = get_or s (c.links + 4 * p + 1) 0

  -- the last place of a class, where one was met
  abbrev pub last_of : ℕ → ℕ
  last_of k = get_or s (c.lasts + k) 0

-- each place leads to the next of its class, and knows the first
pub record Linked (s : List ℕ) (c : Chain) (x : Span) : Type 0 where
  pub next : (p : ℕ) → x.start ≤ p → p < x.end → next_at s c p ≡ seek (λ q. eqb (class_at s c q) (class_at s c p)) (p + 1) x.end
  pub first : (p : ℕ) → x.start ≤ p → p < x.end → first_at s c p ≡ seek (λ q. eqb (class_at s c q) (class_at s c p)) x.start p

-- what linking may rely on: rows and classes below n, regions one behind the other. Of two chains that share the words of links,
-- the second has its own two words further on
pub record Linkable (s : List ℕ) (n : ℕ) (c : Chain) (x : Span) : Type 0 where
  pub rows : (p : ℕ) → x.start ≤ p → p < x.end → row_of s c p < n
  pub classes : (r : ℕ) → r < n → get_or s (c.classes + r) 0 < n
  pub apart : c.classes + n ≤ c.lasts
  pub before : c.lasts + n ≤ c.links
  pub below : c.links + 4 * x.end ≤ c.store + 2
  pub inside : c.store + x.end ≤ length s

-- a word that is neither a last place of n classes nor a link of this chain from a place on, below another
pub record Spared (c : Chain) (n start end k : ℕ) : Type 0 where
  pub lasts : (k < c.lasts) ⊎ (c.lasts + n ≤ k)
  pub links : (p : ℕ) → start ≤ p → p < end → (k ≡ c.links + 4 * p → ⊥) × (k ≡ c.links + 4 * p + 1 → ⊥)

-- only last places of classes and this chain's links of the list have changed
pub record Links (s s' : List ℕ) (c : Chain) (x : Span) : Type 0 where
  pub long : length s' ≡ length s
  pub linked : (n : ℕ) → Linkable s n c x → Linked s' c x
  pub frame : (n : ℕ) → Linkable s n c x → (k : ℕ) → Spared c n x.start x.end k → get_or s' k 0 ≡ get_or s k 0

-- ---- one place

-- a place of the list before another one, of that class
unfoldable pub is_earlier : List ℕ → Chain → Span → (before place class : ℕ) → Bool
is_earlier s c x before place class = leb x.start before && ltb before place && eqb (class_at s c before) class

-- the place is the last of its class, and leads to the end
unfoldable pub end_words : List ℕ → Chain → Span → (place class first : ℕ) → List ℕ
end_words s c x place class first = set (set (set s (c.lasts + class) place) (c.links + 4 * place) x.end) (c.links + 4 * place + 1) first

-- the same where the last place of its class is known
unfoldable pub join_words : List ℕ → Chain → Span → (before place class : ℕ) → List ℕ
join_words s c x before place class = end_words (set s (c.links + 4 * before) place) c x place class (first_at s c before)

-- the last place of the class is believed only if it is earlier, and of that class
abbrev pub link_from : List ℕ → Chain → Span → (before place class : ℕ) → List ℕ
link_from s c x before place class = cond (is_earlier s c x before place class) (join_words s c x before place class) (end_words s c x place class place)

unfoldable pub link_words : List ℕ → Chain → Span → ℕ → List ℕ
link_words s c x place = link_from s c x (last_of s c (class_at s c place)) place (class_at s c place)
