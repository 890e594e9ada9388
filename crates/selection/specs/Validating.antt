-- What the check of an operation promises: the reply is that of the merge theory's `check`. Assumes nothing.
use Rattle.std.specs.Prelude.{◌≡◌, Bool, true, List, [], ◌∷◌, ℕ, suc, ◌+◌, ◌≤◌, ◌<◌, length, get_or}
use Rattle.merge_theory.specs.Document.{Sound}
use Rattle.merge_theory.specs.Rule.{Reached}
use Rattle.merge_theory.specs.Steps.{State, finished, stop}
use Rattle.merge_theory.specs.Walk.{fresh, walk, check}
use Rattle.tables.specs.Layout.{operations, selections}
use Rattle.tables.specs.Image.{count_at}
use Rattle.tables.specs.Good.{Good}
use Rattle.selection.specs.declared.arena.Arena.{Arena}
use Rattle.selection.specs.declared.arena.Reply.{Reply}
use Rattle.selection.specs.declared.arena.Walk as states
use Rattle.selection.specs.declared.walk.Met.{Met}
use Rattle.expand.specs.ImageDocument.{limit_of_links}
use Rattle.selection.specs.Regions.{arena_of}
use Rattle.selection.specs.Classes.{Prepared}
use Rattle.selection.specs.Refining.{document, pass_of, reply_of, most_work, Tells, Ample, Site, goes_deeper, Meets}

-- the state at the start
abbrev pub at_start : ℕ → ℕ → states.Walk
at_start operation used = record { reply = record { kind = 0; operation = operation; a = 0; b = 0; used = used }; known = 0; expansions = 0 }

-- a state that has forgotten the lists of another pass
abbrev pub forgotten : states.Walk → states.Walk
forgotten z = record { reply = z.reply; known = 0; expansions = z.expansions }

-- only words from the marks on, up to the end of the room, have changed
pub record Within (image : List ℕ) (arena : Arena) (work : ℕ) (s s' : List ℕ) : Type 0 where
  pub long : length s' ≡ length s
  pub below : (k : ℕ) → k < arena.marks → get_or s' k 0 ≡ get_or s k 0
  pub beyond : (k : ℕ) → arena.store + work + 1 + count_at image selections ≤ k → get_or s' k 0 ≡ get_or s k 0

-- the operation's own set is met, with nothing known
pub record MeetsOperation (image : List ℕ) (arena : Arena) (work operation : ℕ) (s s' : List ℕ) (z : states.Walk) (isShape : Bool) (m : Met) : Type 0 where
  pub same : m.walk.reply.operation ≡ z.reply.operation
  pub going : goes_deeper m ≡ true → m.walk.reply.kind ≡ 0
  pub ample : m.walk.reply.kind ≡ 0 → Ample work 0 m.walk
  pub meets : Site image arena work z.reply.operation s z → operation ≡ z.reply.operation → operation < count_at image operations
      → Meets image arena work z.reply.operation isShape (λ levels. walk (document image) (pass_of image isShape) stop z.reply.operation work levels (operation ∷ [])) s s' (forgotten z) m

-- a pass over the operation
pub record Runs (image : List ℕ) (arena : Arena) (work operation : ℕ) (s s' : List ℕ) (z : states.Walk) (isShape : Bool) (z' : states.Walk) : Type 0 where
  pub long : length s' ≡ length s
  pub same : z'.reply.operation ≡ z.reply.operation
  pub ample : z'.reply.kind ≡ 0 → Ample work 0 z'
  pub site : Site image arena work z.reply.operation s z → operation ≡ z.reply.operation → operation < count_at image operations → z'.reply.kind ≡ 0
      → Site image arena work z.reply.operation s' z'
  pub frame : Site image arena work z.reply.operation s z → operation ≡ z.reply.operation → operation < count_at image operations → Within image arena work s s'
  pub tells : (y : State) → Site image arena work z.reply.operation s z → operation ≡ z.reply.operation → operation < count_at image operations
      → z.reply ≡ reply_of z.reply.operation (finished y)
      → Tells s' arena z.reply.operation z' (walk (document image) (pass_of image isShape) stop z.reply.operation work (suc limit_of_links) (operation ∷ []) (fresh y))

-- what the check of an operation may rely on, where its reply is said
pub record Checkable (image : List ℕ) (work operation used : ℕ) (s : List ℕ) : Type 0 where
  pub good : Good image
  pub sound : Sound (document image) (Reached (document image) operation)
  pub row : operation < count_at image operations
  pub prepared : Prepared image s
  pub room : (arena_of image work).store + work + 1 + count_at image selections ≤ length s
  pub small : work ≤ most_work
  pub within : used ≤ work

pub record Validates (image : List ℕ) (work operation used : ℕ) (s s' : List ℕ) (r : Reply) : Type 0 where
  pub long : length s' ≡ length s
  pub replies : Checkable image work operation used s → r ≡ reply_of operation (check (document image) work used operation)
  pub frame : Checkable image work operation used s → Within image (arena_of image work) work s s'
