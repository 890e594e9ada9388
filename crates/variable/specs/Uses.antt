-- The arguments that an operation reaches and the variables in their values (kinds 12 and 13), as the code finds them: for every image.
-- For each value row, how far the reached ranges go that begin there; for each variable of the operation, whether it is used.
-- Assumes nothing.
use Rattle.std.specs.Prelude.{ℕ, zero, suc, ◌+◌, ◌*◌, ◌≤◌, max, ◌≡◌, Bool, true, cond, not, List, eqb, leb, ltb, length, get_or, set, replicate}
use Rattle.lists.specs.Every.{position}
use Rattle.lists.specs.Part.{Stores, Outside}
use Rattle.tables.specs.declared.Range.{Range}
use Rattle.tables.specs.Layout.{arguments, values, variables}
use Rattle.tables.specs.Image.{count_at, row_in}
use Rattle.tables.specs.Columns.{spread, variable, list, operation_directives, fragment_directives, set_selections, selection_kind, selection_target, field_arguments, selection_directives, value_kind, value_atom, value_members}
use Rattle.reach.specs.Turns.{turns}
use Rattle.reach.specs.Reach.{Walk, member_of, reached_from, walk_words, Holds}
use Rattle.variable.specs.Definitions.{find_name, usage_allowed}

-- an end for each value row, a mark for each variable
pub record Uses : Type 0 where
  pub ends : List ℕ
  pub marks : List ℕ

-- how far the ranges go that begin below row n, `end` saying how far those that begin at a row do
unfoldable pub furthest : (end : ℕ → ℕ) → ℕ → ℕ
furthest end zero = 0
furthest end (suc n) = max (furthest end n) (end n)

module _ (image : List ℕ) where
  -- a range of value rows is reached: its first row knows how far it goes
  unfoldable pub reach_range : Range → Uses → Uses
  reach_range rows u =
      cond (ltb rows.first (count_at image values))
      (record { ends = set u.ends rows.first (max (get_or u.ends rows.first 0) (row_in rows rows.count)); marks = u.marks })
      u

  -- the arguments of a selection, of its directives, and of the definition of the fragment that it spreads
  unfoldable pub reach_selection : ℕ → Uses → Uses
  reach_selection r u =
      let own = reach_range (selection_directives image r) (reach_range (field_arguments image r) u) in
      cond (eqb (selection_kind image r) spread) (reach_range (fragment_directives image (selection_target image r)) own) own

  unfoldable pub reach_set : ℕ → Uses → Uses
  reach_set t = turns (λ k. reach_selection (member_of image t k)) (set_selections image t).count

  -- the sets of a queue
  unfoldable pub reach_queue : List ℕ → Uses → Uses
  reach_queue queue = turns (λ i. reach_set (get_or queue i 0)) (length queue)

  unfoldable pub none_used : Uses
  none_used = record { ends = replicate (count_at image values) 0; marks = replicate (count_at image variables) 0 }

  -- the directives of an operation, then the sets that it reaches
  unfoldable pub reach_arguments : ℕ → Uses
  reach_arguments i = reach_queue (reached_from image (record { first = i; count = 1 })).queue (reach_range (operation_directives image i) none_used)

  unfoldable pub mark_variable : ℕ → Uses → Uses
  mark_variable k u = record { ends = u.ends; marks = set u.marks k 1 }

  -- a reached value: a variable is marked, the members of a list or an object are reached
  unfoldable pub use_value : Range → ℕ → Uses → Uses
  use_value defined r u =
      let marked = mark_variable (find_name image defined (value_atom image r)) u in
      let deeper = reach_range (value_members image r) u in
      cond (eqb (value_kind image r) variable) marked (cond (leb list (value_kind image r)) deeper u)

-- one pass up the rows, `end` being how far the ranges go that begin below the next one
pub record Pass : Type 0 where
  pub uses : Uses
  pub end : ℕ

module _ (image : List ℕ) where
  unfoldable pub pass_row : Range → ℕ → Pass → Pass
  pass_row defined r p =
      let end = max p.end (get_or p.uses.ends r 0) in
      let used = use_value image defined r p.uses in
      record { uses = cond (ltb r end) used p.uses; end = end }

  abbrev pub pass_begins : Uses → Pass
  pass_begins u = record { uses = u; end = 0 }

  unfoldable pub mark_variables : Range → Uses → Uses
  mark_variables defined u = (turns (pass_row defined) (count_at image values) (pass_begins u)).uses

  -- all that an operation uses
  unfoldable pub uses_of : Range → ℕ → Uses
  uses_of defined i = mark_variables defined (reach_arguments image i)

  -- 12: how far into its variables the first stands that is not marked; the count where there is none
  unfoldable pub first_unused : Range → (mark : ℕ → ℕ) → ℕ
  first_unused defined mark = position defined.count (λ k. eqb (mark k) 0)

  -- an argument is no direct variable of the operation's, or an allowed one
  unfoldable pub argument_allowed : Range → ℕ → Bool
  argument_allowed defined a =
      let k = find_name image defined (value_atom image a) in
      let allowed = usage_allowed image (row_in defined k) a in
      cond (eqb (value_kind image a) variable) (cond (ltb k defined.count) allowed true) true

  -- an argument below `end` is allowed
  unfoldable pub allowed_below : Range → (a end : ℕ) → Bool
  allowed_below defined a end = let allowed = argument_allowed defined a in cond (ltb a end) allowed true

  -- 13: the first argument that is reached and not allowed; the count of all arguments where there is none
  unfoldable pub first_misused : Range → (end : ℕ → ℕ) → ℕ
  first_misused defined end = position (count_at image arguments) (λ a. not (allowed_below defined a (furthest end (suc a))))

-- ---- the lent words: those of the walk, then the ends, then the marks, then the names of the operation's variables (specs/Names)

module _ (image : List ℕ) where
  abbrev pub marks_at : ℕ
  marks_at = walk_words image + count_at image values

  abbrev pub names_at : ℕ
  names_at = marks_at + count_at image variables

  abbrev pub uses_words : ℕ
  uses_words = names_at + 3 * count_at image variables

  -- the end of a row and the mark of a variable, as the words have them; 0 past the last
  unfoldable pub end_in : List ℕ → ℕ → ℕ
  end_in s r = let word = get_or s (walk_words image + r) 0 in cond (ltb r (count_at image values)) word 0

  unfoldable pub mark_in : List ℕ → ℕ → ℕ
  mark_in s k = let word = get_or s (marks_at + k) 0 in cond (ltb k (count_at image variables)) word 0

  -- the words hold these ends and marks
  pub record Keeps (s : List ℕ) (u : Uses) : Type 0 where
    pub room : uses_words ≤ length s
    pub ends : Stores s (walk_words image) (count_at image values) u.ends
    pub marks : Stores s marks_at (count_at image variables) u.marks

  -- s becomes s' as the ends and marks become what `step` makes of them; the walk's words stay
  pub record Steps (step : Uses → Uses) (s s' : List ℕ) : Type 0 where
    pub keeps : (u : Uses) → Keeps s u → Keeps s' (step u)
    pub frame : Outside (walk_words image) (count_at image values + count_at image variables) s s'

  -- the sets that stand in the walk's queue are passed
  pub record Queued (s : List ℕ) (n : ℕ) (s' : List ℕ) : Type 0 where
    pub keeps : (w : Walk) (u : Uses) → Holds image s n w → Keeps s u → Keeps s' (reach_queue image w.queue u)
    pub frame : Outside (walk_words image) (count_at image values + count_at image variables) s s'

  -- what an operation reaches, whatever stood in s
  pub record Reached (i : ℕ) (s s' : List ℕ) : Type 0 where
    pub keeps : uses_words ≤ length s → Keeps s' (reach_arguments image i)
    pub frame : Outside 0 names_at s s'

  -- a row is passed, `end` and `end'` being how far ranges go before and after
  pub record Passes (defined : Range) (r end : ℕ) (s s' : List ℕ) (end' : ℕ) : Type 0 where
    pub keeps : (u : Uses) → Keeps s u → Keeps s' (pass_row image defined r (record { uses = u; end = end })).uses
    pub ends : (u : Uses) → Keeps s u → end' ≡ (pass_row image defined r (record { uses = u; end = end })).end
    pub frame : Outside (walk_words image) (count_at image values + count_at image variables) s s'
