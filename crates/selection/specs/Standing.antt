-- A list that stands in the store, with the links between its places. Assumes nothing.
use Rattle.std.specs.Prelude.{Bool, false, List, ◌≡◌, ℕ, ◌+◌, ◌*◌, ◌≤◌, ◌<◌, min, length, get_or}
use Rattle.selection.specs.declared.arena.Arena.{Arena}
use Rattle.lists.specs.declared.Span.{Span}
use Rattle.selection.specs.declared.links.Chain.{Chain}
use Rattle.lists.specs.Part.{StoredAt}
use Rattle.selection.specs.Linking.{Linked, Linkable}

-- the links by name, and those by name and parent, as far as a word can say where these begin
abbrev pub names_chain : Arena → Chain
names_chain arena = record { classes = arena.names; lasts = arena.lasts; links = arena.links; store = arena.store }

abbrev pub pairs_chain : Arena → Chain
pairs_chain arena = record { classes = arena.pairs; lasts = arena.lasts; links = min arena.links 4294967293 + 2; store = arena.store }

-- by pairs only where the shape pass is over
pub record Stands (arena : Arena) (isShape : Bool) (s : List ℕ) (x : Span) (l : List ℕ) : Type 0 where
  pub rows : StoredAt s arena.store x l
  pub names : Linked s (names_chain arena) x
  pub pairs : isShape ≡ false → Linked s (pairs_chain arena) x

-- what stays when a list is linked that begins at `from`: all but the last places of classes, and its own links and later ones
pub record LinkFrame (arena : Arena) (from : ℕ) (s s' : List ℕ) : Type 0 where
  pub long : length s' ≡ length s
  pub front : (k : ℕ) → k < arena.lasts → get_or s' k 0 ≡ get_or s k 0
  pub links : (k : ℕ) → arena.heads ≤ k → k < arena.links + 4 * from → get_or s' k 0 ≡ get_or s k 0
  pub store : (k : ℕ) → arena.store ≤ k → get_or s' k 0 ≡ get_or s k 0

pub record LinkableBoth (arena : Arena) (n : ℕ) (s : List ℕ) (x : Span) : Type 0 where
  pub names : Linkable s n (names_chain arena) x
  pub pairs : Linkable s n (pairs_chain arena) x
  pub heads : arena.lasts + n ≤ arena.heads
  pub small : arena.links ≤ 4294967293

-- a list is linked, by pairs only where the shape pass is over
pub record Stood (arena : Arena) (isShape : Bool) (s s' : List ℕ) (x : Span) : Type 0 where
  pub long : length s' ≡ length s
  pub names : (n : ℕ) → LinkableBoth arena n s x → Linked s' (names_chain arena) x
  pub pairs : (n : ℕ) → LinkableBoth arena n s x → isShape ≡ false → Linked s' (pairs_chain arena) x
  pub frame : (n : ℕ) → LinkableBoth arena n s x → LinkFrame arena x.start s s'
