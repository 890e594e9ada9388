-- What expanding promises: the code's queue is the queue of the merge theory. Assumes nothing.
--     StartSet image t                      t is an operation's set or a field's: what an expansion may start from
--     Expandable image area s x starts     the words and the state from which the sets `starts` can be expanded
--     Listed image area D s s' x r starts  what stands in the words after it, r being the place where the list ends
--     Expanded image area s s' x r         the contract: the second gives the third, however fields compare
use Rattle.std.specs.Prelude.{◌≡◌, Bool, cond, List, [], ◌∷◌, ℕ, ◌+◌, ◌-◌, ◌≤◌, ◌<◌, min, eqb, ltb, length, get_or, set}
use Rattle.lists.specs.Part.{Stores}
use Rattle.merge_theory.specs.Lists.{◌∈◌, Every, flat_map}
use Rattle.merge_theory.specs.Document.{Document}
use Rattle.merge_theory.specs.Expand.{QueueWalk, fields_of}
use Rattle.tables.specs.declared.Range.{Range}
use Rattle.tables.specs.Layout.{operations, fragments, sets, selections}
use Rattle.tables.specs.Image.{count_at}
use Rattle.tables.specs.Columns.{field, selection_kind, selection_target}
use Rattle.tables.specs.Good.{Good}
use Rattle.expand.specs.declared.Area.{Area}
use Rattle.expand.specs.declared.Expansion.{Expansion}
use Rattle.expand.specs.ImageDocument.{document_by}

-- no number is listed twice
pub data Once : List ℕ → Type 0 where
  once_none : Once []
  once_more : {x : ℕ} {xs : List ℕ} → (x ∈ xs → ⊥) → Once xs → Once (x ∷ xs)

-- ---- leaves: a set is queued, a field is listed

-- whether the queue has room
abbrev pub has_room : Area → Expansion → Bool
has_room area x = ltb (area.queue + x.queued) area.end

unfoldable pub queue_next : Area → Expansion → Expansion
queue_next area x = cond (has_room area x) (record { queued = x.queued + 1; listed = x.listed; number = x.number }) x

unfoldable pub queue_words : Area → Expansion → List ℕ → ℕ → List ℕ
queue_words area x s t = cond (has_room area x) (set s (area.queue + x.queued) t) s

-- one place further, as far as a word can say
unfoldable pub list_next : Expansion → Expansion
list_next x = record { queued = x.queued; listed = min (x.listed + 1) 4294967295; number = x.number }

unfoldable pub list_words : Area → Expansion → List ℕ → ℕ → List ℕ
list_words area x s row = set s (area.store + x.listed) row

-- a fragment is queued where its mark is not this expansion's number, and is then marked
abbrev pub is_marked : Area → Expansion → List ℕ → ℕ → Bool
is_marked area x s fragment = eqb (get_or s (area.marks + fragment) 0) x.number

unfoldable pub fragment_next : Area → Expansion → List ℕ → ℕ → Expansion
fragment_next area x s fragment = cond (is_marked area x s fragment) x (queue_next area x)

unfoldable pub fragment_words : Area → Expansion → List ℕ → ℕ → ℕ → List ℕ
fragment_words area x s fragment t =
    cond (is_marked area x s fragment) s (queue_words area x (set s (area.marks + fragment) x.number) t)

-- ---- the contract of expanding

-- the regions of an image, each behind the one before: a mark for each fragment, a place in the queue for each set
pub record AreaFor (image : List ℕ) (area : Area) : Type 0 where
  pub queue : area.queue ≡ area.marks + count_at image fragments
  pub end : area.end ≡ area.queue + count_at image sets
  pub store : area.end ≤ area.store

module _ (image : List ℕ) where
  pub data StartSet (t : ℕ) : Type 0 where
    of_operation : t < count_at image operations → StartSet t
    of_field : (r : ℕ) → r < count_at image selections → selection_kind image r ≡ field → selection_target image r ≡ t
        → t < count_at image sets → StartSet t

  -- rows of the table, each once
  pub record Fresh (rows : List ℕ) : Type 0 where
    pub inside : Every (λ r. r < count_at image selections) rows
    pub once : Once rows

  -- and fields all of them
  pub record FieldRows (rows : List ℕ) : Type 0 where
    pub fresh : Fresh rows
    pub fields : Every (λ r. selection_kind image r ≡ field) rows

  module _ (area : Area) where
    -- no fragment's mark is n or more
    abbrev pub MarksBelow : List ℕ → ℕ → Type 0
    MarksBelow s n = (j : ℕ) → j < count_at image fragments → get_or s (area.marks + j) 0 < n

    pub record Expandable (s : List ℕ) (x : Expansion) (starts : List ℕ) : Type 0 where
      pub good : Good image
      pub regions : AreaFor image area
      pub queue : Stores s area.queue x.queued starts
      pub allowed : Every StartSet starts
      pub once : Once starts
      pub marks : MarksBelow s x.number
      pub room : area.store + x.listed + count_at image selections ≤ length s
      -- places in the store are words
      pub small : x.listed + count_at image selections ≤ 4294967295

    -- what stays: the parents and classes, the links, the store below the list that begins at `from`, and what lies behind the
    -- list's end
    pub record Framed (s s' : List ℕ) (from end : ℕ) : Type 0 where
      pub long : length s' ≡ length s
      pub parents : (k : ℕ) → k < area.marks → get_or s' k 0 ≡ get_or s k 0
      pub links : (k : ℕ) → area.end ≤ k → k < area.store → get_or s' k 0 ≡ get_or s k 0
      pub known : (k : ℕ) → area.store ≤ k → k < area.store + from → get_or s' k 0 ≡ get_or s k 0
      pub beyond : (k : ℕ) → area.store + end ≤ k → get_or s' k 0 ≡ get_or s k 0

    -- the sets left the queue in the order of `visited`, and the list is their fields
    pub record Listed (D : Document) (s s' : List ℕ) (x : Expansion) (r : ℕ) (starts : List ℕ) : Type 0 where
      pub visited : List ℕ
      pub walk : QueueWalk D [] starts visited
      pub list : Stores s' (area.store + x.listed) (r - x.listed) (flat_map (fields_of D) visited)
      pub rows : FieldRows (flat_map (fields_of D) visited)
      pub grows : x.listed ≤ r
      pub most : r ≤ x.listed + count_at image selections
      pub marks : MarksBelow s' (x.number + 1)
      pub frame : Framed s s' x.listed r

    pub record Expanded (s s' : List ℕ) (x : Expansion) (r : ℕ) : Type 0 where
      pub long : length s' ≡ length s
      pub lists : (same_shape : ℕ → ℕ → Bool) (same_arguments : Range → Range → Bool) (starts : List ℕ) → Expandable s x starts
          → Listed (document_by same_shape same_arguments image) s s' x r starts
