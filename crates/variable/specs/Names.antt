-- The names of an operation's variables, where they can be searched: in the words behind the marks. Assumes nothing.
use Rattle.std.specs.Prelude.{ℕ, ◌+◌, ◌*◌, ◌≤◌, ◌<◌, min, ◌≡◌, List, length, get_or}
use Rattle.lists.specs.Part.{Outside}
use Rattle.index.specs.declared.Index.{Index}
use Rattle.index.specs.Indexed.{Indexed}
use Rattle.tables.specs.declared.Range.{Range}
use Rattle.tables.specs.Layout.{values, variables}
use Rattle.tables.specs.Image.{count_at}
use Rattle.reach.specs.Reach.{walk_words}
use Rattle.variable.specs.Definitions.{name_in}
use Rattle.variable.specs.Uses.{names_at, uses_words}

module _ (image : List ℕ) (defined : Range) where
  -- as many names as the table has rows for: of a good image, all
  abbrev pub name_index : Index
  name_index = record { at = names_at image; count = min defined.count (count_at image variables) }

  -- the words hold n of them
  abbrev pub HoldNames : List ℕ → ℕ → Type 0
  HoldNames s n = (k : ℕ) → k < n → get_or s (names_at image + k) 0 ≡ name_in image defined k

  -- they are written, whatever stood in s
  pub record Written (s s' : List ℕ) : Type 0 where
    pub names : uses_words image ≤ length s → HoldNames s' name_index.count
    pub frame : Outside (names_at image) name_index.count s s'

  -- they can be searched in s
  pub record Named (s : List ℕ) : Type 0 where
    pub names : HoldNames s name_index.count
    pub indexed : Indexed s name_index

  -- they are made so, whatever stood in s
  pub record Names (s s' : List ℕ) : Type 0 where
    pub named : uses_words image ≤ length s → Named s'
    pub frame : Outside (names_at image) (3 * count_at image variables) s s'

  -- P holds where they can be searched in s; in any case only ends and marks change
  pub record Searches (s s' : List ℕ) (P : Type 0) : Type 0 where
    pub says : Named s → P
    pub frame : Outside (walk_words image) (count_at image values + count_at image variables) s s'
