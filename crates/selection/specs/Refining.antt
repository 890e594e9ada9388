-- How the code of the walk is held to the merge theory's walk. Assumes nothing.
--     document image         the image as the merge theory's document
--     Tells s arena op z r   the words and the state z say what the result r of a walk is; nothing is asked of `deep`
--     Ample work more z      what keeps the state's numbers small, whatever the image is
--     Site ..                what a step needs of the image, the words and the state
--     Rows ..                what is known of the rows of a list
--     Kept ..                what stays: the parents, the known lists and their links, and what lies behind the room
--     Refines step ..        code that goes from s and z to s' and z' does what the step does
use Rattle.std.specs.Prelude.{◌≡◌, Bool, true, false, cond, Option, Some, None, Result, Ok, Err, is_some, List, ℕ, zero, suc, ◌+◌, ◌-◌, ◌*◌, ◌≤◌, ◌<◌, eqb, leb, length, get_or}
use Rattle.lists.specs.Part.{Stores}
use Rattle.merge_theory.specs.Lists.{Every}
use Rattle.merge_theory.specs.Document.{Document, number_of, FieldAt, Sound}
use Rattle.merge_theory.specs.Rule.{Reached}
use Rattle.merge_theory.specs.Steps.{entry, State, finished, conflict, out, deep, Step, ◌then◌, stop}
use Rattle.merge_theory.specs.Steps as steps
use Rattle.merge_theory.specs.Walk.{Pass, shape_pass, parent_pass, compare_first, descend, sets_below, noted, walk_parts, walk}
use Rattle.tables.specs.Layout.{selections}
use Rattle.tables.specs.Image.{count_at}
use Rattle.tables.specs.Good.{Good}
use Rattle.values.specs.Same.{same_arguments}
use Rattle.values.specs.Shape.{same_shape}
use Rattle.selection.specs.declared.arena.Arena.{Arena}
use Rattle.selection.specs.declared.arena.Reply.{Reply}
use Rattle.selection.specs.declared.arena.Walk as states
use Rattle.lists.specs.declared.Span.{Span}
use Rattle.expand.specs.declared.Expansion.{Expansion}
use Rattle.selection.specs.declared.walk.Met.{Met}
use Rattle.selection.specs.declared.groups.Part.{Part}
use Rattle.expand.specs.ImageDocument.{document_by}
pub use Rattle.selection.specs.Regions.{most_work}
use Rattle.selection.specs.Regions.{Places, area_of, registry_of}
use Rattle.expand.specs.Expanding.{MarksBelow, Once, StartSet}
use Rattle.known.specs.KnownLists.{Known, Finds, slot_at, kept_words}
use Rattle.selection.specs.Classes.{Classed}
use Rattle.selection.specs.Standing.{Stands}
use Rattle.selection.specs.Grouping.{PartAt}

abbrev pub document : List ℕ → Document
document image = document_by (same_shape image) (same_arguments image) image

abbrev pub pass_of : List ℕ → Bool → Pass
pass_of image true = shape_pass (document image)
pass_of image false = parent_pass (document image)

-- ---- what a state says

abbrev pub reply_of : ℕ → steps.Result → Reply
reply_of op (finished y) = record { kind = 0; operation = op; a = 0; b = 0; used = y.used }
reply_of op (conflict (entry s c a b) y) = record { kind = number_of c; operation = op; a = a; b = b; used = y.used }
reply_of op (out y) = record { kind = 17; operation = op; a = 0; b = 0; used = y.used }
-- never: the levels suffice
reply_of op (deep y) = record { kind = 17; operation = op; a = 0; b = 0; used = y.used }

pub record Holds (s : List ℕ) (arena : Arena) (op : ℕ) (z : states.Walk) (y : State) : Type 0 where
  pub known : Known (registry_of arena) s z.known y.known
  pub reply : z.reply ≡ reply_of op (finished y)

abbrev pub Tells : List ℕ → Arena → ℕ → states.Walk → steps.Result → Type 0
Tells s arena op z (finished y) = Holds s arena op z y
Tells s arena op z (conflict e y) = z.reply ≡ reply_of op (conflict e y)
Tells s arena op z (out y) = z.reply ≡ reply_of op (out y)
Tells s arena op z (deep y) = Unit {0}

-- a list is paid for, and noted as met
abbrev pub paid_for : List ℕ → State → State
paid_for l y = noted l (steps.charged (suc (length l)) y)

-- ---- a charge, and a list that is met

unfoldable pub charged : ℕ → ℕ → states.Walk → states.Walk
charged work cost z =
    cond (leb (z.reply.used + cost) work)
    (record {
      reply = record { kind = z.reply.kind; operation = z.reply.operation; a = z.reply.a; b = z.reply.b; used = z.reply.used + cost };
      known = z.known;
      expansions = z.expansions;
    })
    (record {
      reply = record { kind = 17; operation = z.reply.operation; a = z.reply.a; b = z.reply.b; used = z.reply.used };
      known = z.known;
      expansions = z.expansions;
    })

-- the list that the walk goes into, and whether there is one
abbrev pub goes_deeper : Met → Bool
goes_deeper m = is_some m.below

abbrev pub span_in : Option Span → Span
span_in (Some x) = x
span_in None = record { start = 0; end = 0 }

abbrev pub list_of : Met → Span
list_of m = span_in m.below

abbrev pub length_of : Span → ℕ
length_of x = x.end - x.start

-- a list that is not known, paid or not
unfoldable pub entered : Span → states.Walk → Met
entered x paid =
    cond (eqb paid.reply.kind 0)
    (record { walk = record { reply = paid.reply; known = x.end; expansions = paid.expansions }; below = Some x })
    (record { walk = paid; below = None })

unfoldable pub met_list : ℕ → states.Walk → Span → Bool → Met
met_list work z x old =
    cond old (record { walk = charged work 1 z; below = None }) (entered x (charged work (1 + length_of x) z))

unfoldable pub met_words : Arena → ℕ → states.Walk → Span → Bool → List ℕ → List ℕ
met_words arena work z x old s =
    cond old s (cond (eqb (charged work (1 + length_of x) z).reply.kind 0) (kept_words (registry_of arena) (slot_at (registry_of arena) s x) z.known x s) s)

pub record MeetsList (s s' : List ℕ) (arena : Arena) (work : ℕ) (z : states.Walk) (x : Span) (r : Met) : Type 0 where
  pub old : Bool
  pub finds : Finds (registry_of arena) s (slot_at (registry_of arena) s x) x old
  pub result : r ≡ met_list work z x old
  pub words : s' ≡ met_words arena work z x old s

-- ---- where a walk stops

-- the state z once the walk stopped there, with that reply
abbrev pub stopped : states.Walk → Reply → states.Walk
stopped z r = record { reply = r; known = z.known; expansions = z.expansions }

-- what a walk from z on ends in
abbrev pub ended : states.Walk → Result states.Walk Reply → states.Walk
ended z (Ok z') = z'
ended z (Err r) = stopped z r

-- the same of one that leaves the state alone where it goes on, and of one that meets a list
abbrev pub ended_here : states.Walk → Result Unit Reply → states.Walk
ended_here z (Ok _) = z
ended_here z (Err r) = stopped z r

abbrev pub met_from : states.Walk → Result Met Reply → Met
met_from z (Ok m) = m
met_from z (Err r) = record { walk = stopped z r; below = None }

-- a reply that ends a walk has a kind, and a state that goes on has none yet
abbrev pub Stops : Result Unit Reply → Type 0
Stops (Ok _) = Unit {0}
Stops (Err r) = r.kind ≡ 0 → ⊥

abbrev pub Ends : Result states.Walk Reply → Type 0
Ends (Ok z) = z.reply.kind ≡ 0
Ends (Err r) = r.kind ≡ 0 → ⊥

abbrev pub EndsMet : Result Met Reply → Type 0
EndsMet (Ok m) = m.walk.reply.kind ≡ 0
EndsMet (Err r) = r.kind ≡ 0 → ⊥

-- ---- whatever the image is

-- the words that known lists take, and the expansions made, are no more than the units charged
pub record Ample (work more : ℕ) (z : states.Walk) : Type 0 where
  pub going : z.reply.kind ≡ 0
  pub paid : z.known ≤ z.reply.used
  pub few : z.known ≤ most_work
  pub counted : z.expansions ≤ z.reply.used + more
  pub countable : z.expansions ≤ most_work + more
  pub budget : work ≤ most_work

-- an expansion that begins behind the known lists, under the next number
pub record Begun (z : states.Walk) (x : Expansion) : Type 0 where
  pub listed : x.listed ≡ z.known + 1
  pub number : x.number ≡ z.expansions + 1

-- ---- steps

module _ (image : List ℕ) (arena : Arena) (work op : ℕ) where
  -- the sets that the operation reaches
  abbrev pub Hand : ℕ → Type 0
  Hand = Reached (document image) op

  pub record Site (s : List ℕ) (z : states.Walk) : Type 0 where
    pub good : Good image
    pub regions : Places image arena
    pub chained : arena.chain + (work + 1 + count_at image selections) ≤ arena.links
    pub spread : arena.links + 4 * (work + 1 + count_at image selections) ≤ arena.store
    pub sound : Sound (document image) Hand
    pub parents : (r : ℕ) → r < count_at image selections → get_or s r 0 ≡ (document image).parent_of r
    pub classes : Classed image s
    pub room : arena.store + work + 1 + count_at image selections ≤ length s
    pub marks : MarksBelow image (area_of arena) s (z.expansions + 1)
    pub within : z.reply.used ≤ work

  pub record Rows (l : List ℕ) : Type 0 where
    pub fields : Every (FieldAt (document image) Hand) l
    pub inside : Every (λ f. f < count_at image selections) l
    pub once : Once l

  pub record Kept (s s' : List ℕ) (z z' : states.Walk) : Type 0 where
    pub long : length s' ≡ length s
    pub parents : (k : ℕ) → k < arena.marks → get_or s' k 0 ≡ get_or s k 0
    pub links : (k : ℕ) → arena.links ≤ k → k < arena.links + 4 * z.known → get_or s' k 0 ≡ get_or s k 0
    pub known : (k : ℕ) → arena.store ≤ k → k < arena.store + z.known → get_or s' k 0 ≡ get_or s k 0
    pub beyond : (k : ℕ) → arena.store + work + 1 + count_at image selections ≤ k → get_or s' k 0 ≡ get_or s k 0
    pub grows : z.known ≤ z'.known

  pub record Refines (step : Step) (s s' : List ℕ) (z z' : states.Walk) : Type 0 where
    pub tells : (y : State) → Holds s arena op z y → Tells s' arena op z' (step y)
    pub site : z'.reply.kind ≡ 0 → Site s' z'
    pub kept : Kept s s' z z'

  -- ---- the walk of a list, and of a part of it

  -- a list's parts, with levels to go: `walk` after its list is noted
  unfoldable pub walk_list : Pass → ℕ → List ℕ → Step
  walk_list P zero l y = deep y
  walk_list P (suc levels) l y = walk_parts (document image) P stop op (walk (document image) P stop op work levels) (P.parts l) y

  -- merged sets, if there are any
  abbrev pub lower : Pass → ℕ → List ℕ → Step
  lower P levels sets = descend (walk (document image) P stop op work levels) sets

  abbrev pub one_part : Pass → ℕ → List ℕ → Step
  one_part P levels rows = compare_first stop op P.clash rows then lower P levels (sets_below (document image) rows)

  -- a list that was entered: it stands in the store, and the step goes on as its walk
  pub record Entered (isShape : Bool) (step : ℕ → Step) (s s' : List ℕ) (z : states.Walk) (m : Met) : Type 0 where
    pub list : List ℕ
    pub stands : Stands arena isShape s' (list_of m) list
    pub ordered : (list_of m).start ≤ (list_of m).end
    pub rows : Rows list
    pub stored : (list_of m).end ≤ m.walk.known
    pub site : Site s' m.walk
    pub kept : Kept s s' z m.walk
    pub goes : (y : State) → Holds s arena op z y
        → Holds s' arena op m.walk (paid_for list y)
    pub same : (levels : ℕ) (y : State) → Holds s arena op z y → (s'' : List ℕ) (z'' : states.Walk)
        → Tells s'' arena op z'' (walk_list (pass_of image isShape) levels list (paid_for list y)) → Tells s'' arena op z'' (step levels y)

  -- what has been met: the step is done, or a list was entered
  pub record Meets (isShape : Bool) (step : ℕ → Step) (s s' : List ℕ) (z : states.Walk) (m : Met) : Type 0 where
    pub done : goes_deeper m ≡ false → (levels : ℕ) → Refines (step levels) s s' z m.walk
    pub entered : goes_deeper m ≡ true → Entered isShape step s s' z m

  -- sets that stand in the queue: what may be merged
  pub record Queued (s : List ℕ) (x : Expansion) (sets : List ℕ) : Type 0 where
    pub queue : Stores s arena.queue x.queued sets
    pub allowed : Every (StartSet image) sets
    pub once : Once sets
    pub hand : Every Hand sets

-- merged sets are expanded, and their list is met
pub record MeetsSets (image : List ℕ) (arena : Arena) (work : ℕ) (s s' : List ℕ) (z : states.Walk) (x : Expansion) (isShape : Bool) (m : Met) : Type 0 where
  pub operation : m.walk.reply.operation ≡ z.reply.operation
  pub going : goes_deeper m ≡ true → m.walk.reply.kind ≡ 0
  pub ample : m.walk.reply.kind ≡ 0 → Ample work 0 m.walk
  pub meets : (sets : List ℕ) → Site image arena work z.reply.operation s z → Queued image arena work z.reply.operation s x sets
      → Meets image arena work z.reply.operation isShape (λ levels. walk (document image) (pass_of image isShape) stop z.reply.operation work levels sets) s s' z m

-- one part: compared, and its sets met
pub record MeetsPart (image : List ℕ) (arena : Arena) (work : ℕ) (s s' : List ℕ) (z : states.Walk) (part : Part) (isShape : Bool) (m : Met) : Type 0 where
  pub operation : m.walk.reply.operation ≡ z.reply.operation
  pub going : goes_deeper m ≡ true → m.walk.reply.kind ≡ 0
  pub ample : m.walk.reply.kind ≡ 0 → Ample work 0 m.walk
  pub meets : (l rows : List ℕ) → Site image arena work z.reply.operation s z → Stands arena isShape s part.list l → part.list.start ≤ part.list.end
      → Rows image arena work z.reply.operation l → PartAt (document image) isShape s arena.store l part rows → Rows image arena work z.reply.operation rows
      → Meets image arena work z.reply.operation isShape (λ levels. one_part image arena work z.reply.operation (pass_of image isShape) levels rows) s s' z m

-- the walk of a list
pub record WalksList (image : List ℕ) (arena : Arena) (work : ℕ) (s s' : List ℕ) (z : states.Walk) (x : Span) (isShape : Bool) (levels : ℕ) (z' : states.Walk) : Type 0 where
  pub long : length s' ≡ length s
  pub operation : z'.reply.operation ≡ z.reply.operation
  pub ample : z'.reply.kind ≡ 0 → Ample work 0 z'
  pub walks : (l : List ℕ) → Site image arena work z.reply.operation s z → Stands arena isShape s x l → x.start ≤ x.end → x.end ≤ z.known
      → Rows image arena work z.reply.operation l
      → Refines image arena work z.reply.operation (walk_list image arena work z.reply.operation (pass_of image isShape) levels l) s s' z z'
