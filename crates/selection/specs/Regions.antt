-- The regions of the words that the walk is lent.
use Rattle.std.specs.Prelude.{◌≡◌, ℕ, ◌+◌, ◌*◌, ◌≤◌, min, List}
use Rattle.tables.specs.Layout.{fragments, sets, selections, most_rows}
use Rattle.tables.specs.Image.{word_at, count_at}
use Rattle.expand.specs.declared.Area.{Area}
use Rattle.known.specs.declared.Registry.{Registry}
use Rattle.selection.specs.declared.arena.Arena.{Arena}

-- no budget is larger: kind 2 is given before
abbrev pub most_work : ℕ
most_work = 1000000

-- the rows of a table, but no more than it may have: of a good image, its count
unfoldable pub rows_at_most : List ℕ → ℕ → ℕ
rows_at_most image t = min (count_at image t) (most_rows (word_at image 0) t)

-- the places of the store: what a budget pays for, and the list at hand with its length
unfoldable pub room_of : List ℕ → ℕ → ℕ
room_of image work = min work most_work + 1 + rows_at_most image selections

-- the parents from 0 on, a word for each selection, and so the classes of names and of pairs; then a mark for each fragment, a
-- word of queue for each set, the last place of each class, the last known list of each key; for each place of the store the known
-- list before, then four words of links; and the store
unfoldable pub arena_of : List ℕ → ℕ → Arena
arena_of image work =
    let rows = rows_at_most image selections in
    let marks = rows + rows + rows in
    let queue = marks + rows_at_most image fragments in
    let lasts = queue + rows_at_most image sets in
    let heads = lasts + rows in
    let chain = heads + rows + 1 in
    let links = chain + room_of image work in
    record {
      names = rows;
      pairs = rows + rows;
      marks = marks;
      queue = queue;
      lasts = lasts;
      heads = heads;
      chain = chain;
      links = links;
      store = links + 4 * room_of image work;
    }

-- those of an expansion, and those of the known lists
abbrev pub area_of : Arena → Area
area_of arena = record { marks = arena.marks; queue = arena.queue; end = arena.lasts; store = arena.store }

abbrev pub registry_of : Arena → Registry
registry_of arena = record { heads = arena.heads; keys = arena.names; chain = arena.chain; store = arena.store }

-- where the regions of a good image begin: each behind the one before
pub record Places (image : List ℕ) (arena : Arena) : Type 0 where
  pub names : arena.names ≡ count_at image selections
  pub pairs : arena.pairs ≡ arena.names + count_at image selections
  pub marks : arena.marks ≡ arena.pairs + count_at image selections
  pub queue : arena.queue ≡ arena.marks + count_at image fragments
  pub lasts : arena.lasts ≡ arena.queue + count_at image sets
  pub heads : arena.heads ≡ arena.lasts + count_at image selections
  pub chain : arena.chain ≡ arena.heads + count_at image selections + 1
  pub links : arena.chain ≤ arena.links
  pub store : arena.links ≤ arena.store
  pub small : arena.links ≤ 4294967293
