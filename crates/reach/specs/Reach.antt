-- The sets that some sets reach (kinds 5, 9, 12 and 13): as relations, as a worklist, and as the walk's contract says it.
--     Leads, Reaches, SpreadsIn    the relations
--     reached_from                 the worklist: every set once, with a mark
--     Holds, Walks, Walked         what the lent words hold, before and after
-- Assumes nothing.
use Rattle.std.specs.Prelude.{ℕ, zero, suc, ◌+◌, ◌*◌, ◌≤◌, ◌<◌, ◌≡◌, cond, List, [], ◌∷◌, ◌++◌, eqb, ltb, length, get_or, set, replicate}
use Rattle.lists.specs.Part.{Stores, Outside}
use Rattle.tables.specs.declared.Range.{Range}
use Rattle.tables.specs.Layout.{sets}
use Rattle.tables.specs.Image.{count_at, row_in}
use Rattle.tables.specs.Columns.{spread, set_selections, selection_kind, selection_target, selection_at, set_below}
use Rattle.tables.specs.Good.{StandsIn}
use Rattle.reach.specs.Turns.{turns}

-- a row of a range
pub record RowOf (rows : Range) (r : ℕ) : Type 0 where
  pub from : rows.first ≤ r
  pub below : r < rows.first + rows.count

-- ---- what reaches what

module _ (image : List ℕ) where
  -- a selection that stands in set s leads to set t: to its own, or to its fragment's
  pub record Leads (s t : ℕ) : Type 0 where
    pub row : ℕ
    pub stands : StandsIn image row s
    pub below : set_below image (selection_at image row) ≡ t
    pub known : t < count_at image sets

  -- t is s, or what s leads to leads to it
  pub data Reaches (s : ℕ) : ℕ → Type 0 where
    itself : Reaches s s
    onward : {t u : ℕ} → Reaches s t → Leads t u → Reaches s u

  -- a spread of fragment f stands in set s
  pub record SpreadsIn (s f : ℕ) : Type 0 where
    pub row : ℕ
    pub stands : StandsIn image row s
    pub kind : selection_kind image row ≡ spread
    pub target : selection_target image row ≡ f

  -- a set of the range reaches t
  pub record ReachedFrom (range : Range) (t : ℕ) : Type 0 where
    pub start : ℕ
    pub starts : RowOf range start
    pub reaches : Reaches start t

  -- a set that the range reaches leads to t
  pub record LedFrom (range : Range) (t : ℕ) : Type 0 where
    pub via : ℕ
    pub reached : ReachedFrom range via
    pub leads : Leads via t

  -- fragment f is spread in a set that the range reaches
  pub record SpreadFrom (range : Range) (f : ℕ) : Type 0 where
    pub via : ℕ
    pub reached : ReachedFrom range via
    pub spreads : SpreadsIn via f

-- t is one of the list's
pub record Among (t : ℕ) (l : List ℕ) : Type 0 where
  pub place : ℕ
  pub inside : place < length l
  pub found : get_or l place 0 ≡ t

-- ---- the worklist

-- a mark for each set, and the sets met, in order
pub record Walk : Type 0 where
  pub marks : List ℕ
  pub queue : List ℕ

-- marks: 0 for a set not met, and
abbrev pub begun : ℕ
begun = 1

abbrev pub led : ℕ
led = 2

module _ (image : List ℕ) where
  -- one set more in the queue, which has room for as many as there are
  unfoldable pub queue_set : ℕ → Walk → Walk
  queue_set t w =
      record { marks = w.marks; queue = cond (ltb (length w.queue) (count_at image sets)) (w.queue ++ (t ∷ [])) w.queue }

  unfoldable pub mark_set : (mark t : ℕ) → Walk → Walk
  mark_set mark t w = record { marks = set w.marks t mark; queue = w.queue }

  -- a set is met: it is marked, and queued if it had no mark
  unfoldable pub enter_set : (mark t : ℕ) → Walk → Walk
  enter_set mark t w =
      let marked = mark_set mark t w in
      cond (ltb t (count_at image sets)) (cond (eqb (get_or w.marks t 0) 0) (queue_set t marked) marked) w

  -- the row k of a set's selections, and the set that it leads to
  abbrev pub member_of : (t k : ℕ) → ℕ
  member_of t k = row_in (set_selections image t) k

  unfoldable pub walk_selection : ℕ → Walk → Walk
  walk_selection r = enter_set led (set_below image (selection_at image r))

  unfoldable pub walk_set : ℕ → Walk → Walk
  walk_set t = turns (λ k. walk_selection (member_of t k)) (set_selections image t).count

  -- the sets that stand in the queue from `at` on, and those that they put there
  unfoldable pub walk_queue : (steps at : ℕ) → Walk → Walk
  walk_queue zero at w = w
  walk_queue (suc steps) at w =
      let next = walk_queue steps (suc at) (walk_set (get_or w.queue at 0) w) in
      cond (ltb at (length w.queue)) next w

  unfoldable pub none_met : Walk
  none_met = record { marks = replicate (count_at image sets) 0; queue = [] }

  unfoldable pub start_sets : Range → Walk
  start_sets range = turns (λ k. enter_set begun (row_in range k)) range.count none_met

  -- each set is queued once, so that as many steps as there are sets suffice
  unfoldable pub reached_from : Range → Walk
  reached_from range = walk_queue (count_at image sets) 0 (start_sets range)

-- ---- the lent words: a mark for each set, then the queue

module _ (image : List ℕ) where
  abbrev pub walk_words : ℕ
  walk_words = 2 * count_at image sets

  -- the words hold a walk, n sets of which are queued
  pub record Holds (s : List ℕ) (n : ℕ) (w : Walk) : Type 0 where
    pub room : walk_words ≤ length s
    pub few : n ≤ count_at image sets
    pub marks : Stores s 0 (count_at image sets) w.marks
    pub queue : Stores s (count_at image sets) n w.queue

  -- s and n become s' and n' as the walk becomes what `step` makes of it
  pub record Walks (step : Walk → Walk) (s : List ℕ) (n : ℕ) (s' : List ℕ) (n' : ℕ) : Type 0 where
    pub few : n ≤ count_at image sets → n' ≤ count_at image sets
    pub holds : (w : Walk) → Holds s n w → Holds s' n' (step w)
    pub frame : Outside 0 walk_words s s'

  -- what the whole walk leaves, whatever stood in s, n being its answer
  pub record Walked (w : Walk) (s s' : List ℕ) (n : ℕ) : Type 0 where
    pub few : n ≤ count_at image sets
    pub holds : walk_words ≤ length s → Holds s' n w
    pub frame : Outside 0 walk_words s s'
