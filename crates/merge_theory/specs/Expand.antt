-- The fields of merged selection sets, as a relation and by the queue. Assumes nothing.
use Rattle.std.specs.Prelude.{not, List, [], ◌∷◌, ◌++◌, ℕ, zero, suc}
use Rattle.merge_theory.specs.Lists.{◌∈◌, flat_map, filter, is_in}
use Rattle.merge_theory.specs.Document.{Kind, field, spread, inline, Document, is_field, IsField, NoField, set_of}

-- ---- the relation. 5.3.2: "fragments and inline fragments visited too"

module _ (D : Document) where
  -- t is s, or is reached from s by inlines and spreads alone
  pub data Within (s : ℕ) : ℕ → Type 0 where
    itself : Within s s
    through : {t row u : ℕ} → Within s t → row ∈ D.rows_of t → NoField D row → u ∈ set_of D row → Within s u

  -- f is a field of the merged sets
  pub data FieldIn (sets : List ℕ) (f : ℕ) : Type 0 where
    field_of : {s t : ℕ} → s ∈ sets → Within s t → f ∈ D.rows_of t → IsField D f → FieldIn sets f

-- ---- the queue. "A queue of sets; fields are listed in order under their set's parent, inlines and each fragment the first time are
-- queued."

-- the sets that a row queues, where the fragments of `seen` have been queued before
unfoldable pub entering : Kind → List ℕ → List ℕ → List ℕ
entering field seen sets = []
entering inline seen sets = sets
entering spread seen sets = filter (λ t. not (is_in t seen)) sets

-- the fragments queued after that row
unfoldable pub marking : Kind → List ℕ → List ℕ → List ℕ
marking field seen sets = seen
marking inline seen sets = seen
marking spread seen sets = sets ++ seen

module _ (D : Document) where
  -- the same of rows in order
  unfoldable pub queued : List ℕ → List ℕ → List ℕ
  queued seen [] = []
  queued seen (r ∷ rows) = entering (D.kind_of r) seen (set_of D r) ++ queued (marking (D.kind_of r) seen (set_of D r)) rows

  unfoldable pub marked : List ℕ → List ℕ → List ℕ
  marked seen [] = seen
  marked seen (r ∷ rows) = marked (marking (D.kind_of r) seen (set_of D r)) rows

  -- the queue set by set: the sets of `queue`, and those that they queue, leave it in the order of `visited`
  pub data QueueWalk : (seen queue visited : List ℕ) → Type 0 where
    empty : {seen : List ℕ} → QueueWalk seen [] []
    pop : {seen queue visited : List ℕ} {s : ℕ} → QueueWalk (marked seen (D.rows_of s)) (queue ++ queued seen (D.rows_of s)) visited
        → QueueWalk seen (s ∷ queue) (s ∷ visited)

  -- The same as a function. A turn takes all that the queue holds, so that `limit` turns suffice (`expand_queue`).
  unfoldable pub visits : ℕ → List ℕ → List ℕ → List ℕ
  visits zero seen queue = []
  visits (suc n) seen [] = []
  visits (suc n) seen (s ∷ queue) =
      let rows = flat_map D.rows_of (s ∷ queue) in
      s ∷ queue ++ visits n (marked seen rows) (queued seen rows)

  -- the fields of a set, in order
  unfoldable pub fields_of : ℕ → List ℕ
  fields_of s = filter (λ r. is_field (D.kind_of r)) (D.rows_of s)

  -- the fields of merged sets, in order
  unfoldable pub expand : List ℕ → List ℕ
  expand sets = flat_map fields_of (visits D.limit [] sets)
