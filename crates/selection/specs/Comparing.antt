-- What comparing the fields of a part, and queueing their sets, promises. Assumes nothing.
use Rattle.std.specs.Prelude.{◌≡◌, Bool, true, false, cond, not, ◌&&◌, List, [], ◌∷◌, ◌++◌, ℕ, ◌+◌, ◌-◌, ◌≤◌, ◌<◌, eqb, length}
use Rattle.std.proofs.Math.Option.{Option, none, some}
use Rattle.lists.specs.Part.{Stores, Outside}
use Rattle.merge_theory.specs.Lists.{filter}
use Rattle.std.specs.Prelude as options
use Rattle.std.specs.Prelude.{Some, None}
use Rattle.merge_theory.specs.Document.{Cause, shape, name, arguments, number_of}
use Rattle.selection.specs.declared.walk.Clash.{Clash}
use Rattle.selection.specs.declared.walk.Clash.TheVariants.{Shape, Name, Arguments}
use Rattle.merge_theory.specs.Steps.{State, stop}
use Rattle.merge_theory.specs.Walk.{against, compare_first, sets_below}
use Rattle.tables.specs.Layout.{NONE}
use Rattle.tables.specs.Columns.{selection_target, is_empty_set}
use Rattle.selection.specs.declared.arena.Arena.{Arena}
use Rattle.selection.specs.Regions.{area_of}
use Rattle.selection.specs.declared.arena.Walk as states
use Rattle.lists.specs.declared.Span.{Span}
use Rattle.expand.specs.declared.Expansion.{Expansion}
use Rattle.selection.specs.declared.groups.Segment.{Segment}
use Rattle.selection.specs.declared.groups.Part.{Part}
use Rattle.selection.specs.Standing.{Stands}
use Rattle.selection.specs.Places.{row_in, onward}
use Rattle.expand.specs.Expanding.{queue_next, queue_words}
use Rattle.selection.specs.Grouping.{member, Proper, Grounded, PartAt}
use Rattle.selection.specs.Following.{Threaded, Follows}
use Rattle.selection.specs.Refining.{document, pass_of, Holds, Tells, Site, Rows}

-- the reply kind of what two fields conflict in; 0 where they do not
abbrev pub kind_of_clash : Option Cause → ℕ
kind_of_clash none = 0
kind_of_clash (some c) = number_of c

abbrev pub cause_of : Clash → Cause
cause_of Shape = shape
cause_of Name = name
cause_of Arguments = arguments

abbrev pub clash_shows : options.Option Clash → Option Cause
clash_shows None = none
clash_shows (Some c) = some (cause_of c)

-- the state with a conflict
abbrev pub conflicted : ℕ → ℕ → ℕ → states.Walk → states.Walk
conflicted kind a b z = record {
  reply = record { kind = kind; operation = z.reply.operation; a = a; b = b; used = z.reply.used };
  known = z.known;
  expansions = z.expansions;
}

-- a field against those of a segment from one of its places on
pub record ComparesSegment (image s : List ℕ) (arena : Arena) (z : states.Walk) (x : Span) (g : Segment) (isShape : Bool) (a from : ℕ) (r : states.Walk) : Type 0 where
  pub same : r.reply.kind ≡ 0 → r ≡ z
  pub known : r.known ≡ z.known
  pub operation : r.reply.operation ≡ z.reply.operation
  pub tells : (l : List ℕ) → Grounded (document image) image s arena.store x l → Follows image s arena g x → x.start ≤ from
      → (from < x.end → member (document image) g (row_in s arena.store from) ≡ true) → (y : State) → Holds s arena z.reply.operation z y
      → Tells s arena z.reply.operation r (against stop z.reply.operation (pass_of image isShape).clash a (filter (member (document image) g) (onward x l from)) y)

-- the first field of a part against each other
pub record ComparesPart (image s : List ℕ) (arena : Arena) (z : states.Walk) (part : Part) (isShape : Bool) (r : states.Walk) : Type 0 where
  pub same : r.reply.kind ≡ 0 → r ≡ z
  pub known : r.known ≡ z.known
  pub operation : r.reply.operation ≡ z.reply.operation
  pub tells : (l rows : List ℕ) → Grounded (document image) image s arena.store part.list l → Threaded image s arena isShape part.list → PartAt (document image) isShape s arena.store l part rows
      → (y : State) → Holds s arena z.reply.operation z y
      → Tells s arena z.reply.operation r (compare_first stop z.reply.operation (pass_of image isShape).clash rows y)

-- ---- queueing

-- whether a field has a set that is not empty
unfoldable pub has_set : List ℕ → ℕ → Bool
has_set image row = not (eqb (selection_target image row) NONE) && not (is_empty_set image (selection_target image row))

abbrev pub filled_set : List ℕ → ℕ → options.Option ℕ
filled_set image row = cond (has_set image row) (Some (selection_target image row)) None

unfoldable pub field_next : List ℕ → Arena → Expansion → ℕ → Expansion
field_next image arena x row = cond (has_set image row) (queue_next (area_of arena) x) x

unfoldable pub field_words : List ℕ → Arena → Expansion → List ℕ → ℕ → List ℕ
field_words image arena x s row = cond (has_set image row) (queue_words (area_of arena) x s (selection_target image row)) s

-- r says that a part is one field without a set
pub record Bare (image s : List ℕ) (arena : Arena) (part : Part) (r : Bool) : Type 0 where
  pub alone : r ≡ true → (isShape : Bool) (l rows : List ℕ) → Grounded (document image) image s arena.store part.list l → Threaded image s arena isShape part.list
      → PartAt (document image) isShape s arena.store l part rows → rows ≡ row_in s arena.store part.first ∷ []
  pub leaf : r ≡ true → has_set image (row_in s arena.store part.first) ≡ false

-- fields whose sets are queued behind others: what then stands there, and that only the queue's words changed
pub record Queues (image : List ℕ) (arena : Arena) (s s' : List ℕ) (x x' : Expansion) (sets rows : List ℕ) : Type 0 where
  pub queue : Stores s' arena.queue x'.queued (sets ++ sets_below (document image) rows)
  pub frame : Outside arena.queue (arena.lasts - arena.queue) s s'

-- where the list stands in the words, with room for the sets
pub record CanQueue (image : List ℕ) (arena : Arena) (work op : ℕ) (isShape : Bool) (s : List ℕ) (z : states.Walk) (x : Span) (l : List ℕ) (e : Expansion) (sets rows : List ℕ) : Type 0 where
  pub site : Site image arena work op s z
  pub stands : Stands arena isShape s x l
  pub ordered : x.start ≤ x.end
  pub listed : Rows image arena work op l
  pub queue : Stores s arena.queue e.queued sets
  pub fits : arena.queue + length (sets ++ sets_below (document image) rows) ≤ arena.lasts

pub record QueuesSegment (image : List ℕ) (arena : Arena) (s s' : List ℕ) (e e' : Expansion) (x : Span) (g : Segment) (from : ℕ) : Type 0 where
  pub listed : e'.listed ≡ e.listed
  pub number : e'.number ≡ e.number
  pub long : length s' ≡ length s
  pub queues : (work op : ℕ) (isShape : Bool) (z : states.Walk) (l sets : List ℕ) → x.start ≤ from → (from < x.end → member (document image) g (row_in s arena.store from) ≡ true)
      → Proper (document image) isShape g → CanQueue image arena work op isShape s z x l e sets (filter (member (document image) g) (onward x l from))
      → Queues image arena s s' e e' sets (filter (member (document image) g) (onward x l from))

pub record QueuesPart (image : List ℕ) (arena : Arena) (s s' : List ℕ) (e e' : Expansion) (part : Part) : Type 0 where
  pub listed : e'.listed ≡ e.listed
  pub number : e'.number ≡ e.number
  pub long : length s' ≡ length s
  pub queues : (work op : ℕ) (isShape : Bool) (z : states.Walk) (l sets rows : List ℕ) → PartAt (document image) isShape s arena.store l part rows
      → CanQueue image arena work op isShape s z part.list l e sets rows → Queues image arena s s' e e' sets rows
