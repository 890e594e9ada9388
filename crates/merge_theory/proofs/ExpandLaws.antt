-- `expand` lists exactly the fields of the merged sets. That it lists no others needs no assumption; that it lists all needs `Sound`.
use mathlib.Core.Path.{subst}
use mathlib.Core.Logic.{◌⊎◌, inl, inr, ⊎_map, ⊎_elim}
use mathlib.Core.Bool.{not}
use mathlib.Core.List.{List, [], ◌∷◌, ◌++◌}
use Prim.Native.Nat.{ℕ, zero, suc, ◌<◌}
use native.Mathlib.Nat.{not-suc-le-zero}
use native.Mathlib.Omega.{arith}
use lib.Dec.{T}
use Rattle.merge_theory.specs.Lists.{◌∈◌, here, there, Every, flat_map, filter, is_in}
use Rattle.merge_theory.specs.Document.{Kind, field, spread, inline, Document, is_field, NoField, set_of, Sound, FieldAt, field_at}
use Rattle.merge_theory.specs.Expand.{Within, itself, through, FieldIn, field_of, entering, marking, queued, marked, visits, fields_of, expand}
use Rattle.merge_theory.proofs.ListLaws.{head_in, not_in_nil, in_left, in_right, in_append, in_flat_map, from_flat_map, in_filter, from_filter, is_in→in, decide}

-- ---- what the queue holds

from_entering : (k : Kind) (seen sets : List ℕ) {u : ℕ} → u ∈ entering k seen sets → T (not (is_field k)) × (u ∈ sets)
unfolding entering
from_entering field seen sets m = absurd (not_in_nil m)
from_entering spread seen sets m = (tt, (from_filter (λ t. not (is_in t seen)) sets m).0)
from_entering inline seen sets m = (tt, m)

entering_covers : (k : Kind) (seen sets : List ℕ) {u : ℕ} → T (not (is_field k)) → u ∈ sets → (u ∈ entering k seen sets) ⊎ (u ∈ seen)
unfolding entering
entering_covers spread seen sets {u} t m = pick (decide (is_in u seen))
  where
    pick : T (is_in u seen) ⊎ T (not (is_in u seen)) → (u ∈ filter (λ t. not (is_in t seen)) sets) ⊎ (u ∈ seen)
    pick (inl y) = inr (is_in→in u seen y)
    pick (inr f) = inl (in_filter (λ t. not (is_in t seen)) m f)
entering_covers inline seen sets t m = inl m
entering_covers field seen sets {u = u} t m = elim t [ ]

from_marking : (k : Kind) (seen sets : List ℕ) {u : ℕ} → u ∈ marking k seen sets → (u ∈ entering k seen sets) ⊎ (u ∈ seen)
unfolding marking
from_marking field seen sets m = inr m
from_marking spread seen sets m = ⊎_elim (λ l. entering_covers spread seen sets tt l) inr (in_append sets m)
from_marking inline seen sets m = inr m

module _ (D : Document) where
  -- one of the rows, no field, leads to u
  abbrev Queues : List ℕ → ℕ → Type 0
  Queues rows u = (row : ℕ) × (row ∈ rows) × NoField D row × (u ∈ set_of D row)

  from_queued : (seen rows : List ℕ) {u : ℕ} → u ∈ queued D seen rows → Queues rows u
  unfolding queued
  from_queued seen [] m = absurd (not_in_nil m)
  from_queued seen (r ∷ rows) {u} m = pick (in_append (entering k seen sets) m) (λ m. from_queued (marking k seen sets) rows m)
    where
      k : Kind
      k = D.kind_of r

      sets : List ℕ
      sets = set_of D r

      pick : (u ∈ entering k seen sets) ⊎ (u ∈ queued D (marking k seen sets) rows)
          → (u ∈ queued D (marking k seen sets) rows → Queues rows u) → Queues (r ∷ rows) u
      pick (inl l) rest = let (t, i) = from_entering k seen sets l in (r, head_in, t, i)
      pick (inr q) rest = let (row, i, t, j) = rest q in (row, there i, t, j)

  -- a set that later rows queue, or that was marked before them, as it stands before the row that precedes them
  one_row_earlier : (seen rows : List ℕ) (r : ℕ) {u : ℕ}
      → (u ∈ queued D (marking (D.kind_of r) seen (set_of D r)) rows) ⊎ (u ∈ marking (D.kind_of r) seen (set_of D r))
      → (u ∈ queued D seen (r ∷ rows)) ⊎ (u ∈ seen)
  unfolding queued
  one_row_earlier seen rows r (inl l) = inl (in_right (entering (D.kind_of r) seen (set_of D r)) l)
  one_row_earlier seen rows r (inr y) = ⊎_map (λ l. in_left _ l) (λ y. y) (from_marking (D.kind_of r) seen (set_of D r) y)

  -- what a row leads to, fields aside, is in the queue now or was before
  queued_covers : (seen rows : List ℕ) {row u : ℕ} → row ∈ rows → NoField D row → u ∈ set_of D row → (u ∈ queued D seen rows) ⊎ (u ∈ seen)
  unfolding queued
  queued_covers seen (r ∷ rows) {u = u} (here e) t m =
      ⊎_map (λ l. in_left _ l) (λ y. y)
      (entering_covers (D.kind_of r) seen (set_of D r) (subst (NoField D) e t) (subst (λ x. u ∈ set_of D x) e m))
  queued_covers seen (r ∷ rows) (there i) t m =
      one_row_earlier seen rows r (queued_covers (marking (D.kind_of r) seen (set_of D r)) rows i t m)
  queued_covers seen [] {row = row} {u = u} x3 t m = elim x3 [ ]

  -- what is marked was marked before or is in the queue
  from_marked : (seen rows : List ℕ) {u : ℕ} → u ∈ marked D seen rows → (u ∈ queued D seen rows) ⊎ (u ∈ seen)
  unfolding marked
  from_marked seen [] m = inr m
  from_marked seen (r ∷ rows) m = one_row_earlier seen rows r (from_marked (marking (D.kind_of r) seen (set_of D r)) rows m)

-- ---- `expand` lists fields of the merged sets only

module _ (D : Document) where
  pub within_trans : {s t u : ℕ} → Within D s t → Within D t u → Within D s u
  within_trans w itself = w
  within_trans w (through v i t j) = through (within_trans w v) i t j

  -- what leaves the queue is reached from what stood in it
  visits_within : (n : ℕ) (seen queue : List ℕ) {t : ℕ} → t ∈ visits D n seen queue → (s : ℕ) × (s ∈ queue) × Within D s t
  unfolding visits
  visits_within zero seen queue m = absurd (not_in_nil m)
  visits_within (suc n) seen [] m = absurd (not_in_nil m)
  visits_within (suc n) seen (q ∷ qs) {t} m = pick (in_append queue m) (λ m. visits_within n (marked D seen rows) (queued D seen rows) m)
    where
      queue : List ℕ
      queue = q ∷ qs

      rows : List ℕ
      rows = flat_map D.rows_of queue

      rest : List ℕ
      rest = visits D n (marked D seen rows) (queued D seen rows)

      pick : (t ∈ queue) ⊎ (t ∈ rest) → (t ∈ rest → (s : ℕ) × (s ∈ queued D seen rows) × Within D s t)
          → (s : ℕ) × (s ∈ queue) × Within D s t
      pick (inl q) below = (t, q, itself)
      pick (inr r) below =
          let (u, i, w) = below r in
          let (row, j, f, k) = from_queued D seen rows i in
          let (s, q, l) = from_flat_map D.rows_of queue j in
          (s, q, within_trans (through itself l f k) w)

  pub expand_sound : (sets : List ℕ) {f : ℕ} → f ∈ expand D sets → FieldIn D sets f
  unfolding expand fields_of
  expand_sound sets m =
      let (t, v, i) = from_flat_map (fields_of D) (visits D D.limit [] sets) m in
      let (s, q, w) = visits_within D.limit [] sets v in
      let (j, is) = from_filter (λ r. is_field (D.kind_of r)) (D.rows_of t) i in
      field_of q w j is

-- ---- what is at hand stays so

module _ (D : Document) {At : ℕ → Type 0} (S : Sound D At) where
  pub within_at : {s t : ℕ} → At s → Within D s t → At t
  within_at at itself = at
  within_at at (through w i f j) = S.closed (within_at at w) i j

  pub field_in_at : {sets : List ℕ} {f : ℕ} → Every At sets → FieldIn D sets f → FieldAt D At f
  field_in_at all (field_of {s = s} m w i is) = field_at (within_at (all s m) w) i is

  pub field_sets_at : {f : ℕ} → FieldAt D At f → Every At (set_of D f)
  field_sets_at (field_at at i is) t j = S.closed at i j

-- ---- and all of them: the queue holds every set that is reached

module _ (D : Document) {At : ℕ → Type 0} (S : Sound D At) where
  -- every set of the queue is at hand, and below n
  abbrev pub Low : ℕ → List ℕ → Type 0
  Low n queue = (q : ℕ) → q ∈ queue → At q × (S.rank q < n)

  pub all_low : {sets : List ℕ} → Every At sets → Low D.limit sets
  all_low all q m = (all q m, S.bounded (all q m))

  pub queued_low : (n : ℕ) (seen queue : List ℕ) → Low (suc n) queue → Low n (queued D seen (flat_map D.rows_of queue))
  queued_low n seen queue low q m =
      let (row, i, t, j) = from_queued D seen (flat_map D.rows_of queue) m in
      let (s, k, l) = from_flat_map D.rows_of queue i in
      let (at, h₁) = low s k in
      let h₂ : S.rank q < S.rank s = S.falls at l j in
      (S.closed at l j, omega arith)

  -- what stands in the queue leaves it
  queue_visited : (n : ℕ) (seen queue : List ℕ) → Low n queue → {q : ℕ} → q ∈ queue → q ∈ visits D n seen queue
  unfolding visits
  queue_visited zero seen queue low {q} m = absurd (not-suc-le-zero (low q m).1)
  queue_visited (suc n) seen [] low m = m
  queue_visited (suc n) seen (q ∷ queue) low m = in_left _ m

  -- what a set that left the queue leads to, fields aside, leaves it too, or was marked before
  visits_closed : (n : ℕ) (seen queue : List ℕ) → Low n queue → {t row u : ℕ} → t ∈ visits D n seen queue
      → row ∈ D.rows_of t → NoField D row → u ∈ set_of D row → (u ∈ visits D n seen queue) ⊎ (u ∈ seen)
  unfolding visits
  visits_closed zero seen queue low m i f j = absurd (not_in_nil m)
  visits_closed (suc n) seen [] low m i f j = absurd (not_in_nil m)
  visits_closed (suc n) seen (q ∷ qs) low {t} {row} {u} m i f j =
      pick (in_append queue m) (λ m. visits_closed n (marked D seen rows) next (queued_low n seen queue low) m i f j)
    where
      queue : List ℕ
      queue = q ∷ qs

      rows : List ℕ
      rows = flat_map D.rows_of queue

      next : List ℕ
      next = queued D seen rows

      rest : List ℕ
      rest = visits D n (marked D seen rows) next

      queue_now : (u ∈ next) ⊎ (u ∈ seen) → (u ∈ (queue ++ rest)) ⊎ (u ∈ seen)
      queue_now = ⊎_map (λ q. in_right queue (queue_visited n (marked D seen rows) next (queued_low n seen queue low) q)) (λ y. y)

      pick : (t ∈ queue) ⊎ (t ∈ rest) → (t ∈ rest → (u ∈ rest) ⊎ (u ∈ marked D seen rows)) → (u ∈ (queue ++ rest)) ⊎ (u ∈ seen)
      pick (inl q) below = queue_now (queued_covers D seen rows (in_flat_map D.rows_of q i) f j)
      pick (inr r) below = ⊎_elim (λ l. inl (in_right queue l)) (λ y. queue_now (from_marked D seen rows y)) (below r)

  within_visited : (sets : List ℕ) → Every At sets → {s t : ℕ} → s ∈ sets → Within D s t → t ∈ visits D D.limit [] sets
  within_visited sets all m itself = queue_visited D.limit [] sets (all_low all) m
  within_visited sets all m (through w i f j) =
      ⊎_elim (λ l. l) (λ y. absurd (not_in_nil y)) (visits_closed D.limit [] sets (all_low all) (within_visited sets all m w) i f j)

  pub expand_complete : (sets : List ℕ) → Every At sets → {f : ℕ} → FieldIn D sets f → f ∈ expand D sets
  unfolding expand fields_of
  expand_complete sets all (field_of m w i is) =
      in_flat_map (fields_of D) (within_visited sets all m w) (in_filter (λ r. is_field (D.kind_of r)) i is)

  -- the fields of sets at hand are fields at hand
  pub expand_at : (sets : List ℕ) → Every At sets → Every (FieldAt D At) (expand D sets)
  expand_at sets all f m = field_in_at D S all (expand_sound D sets m)
