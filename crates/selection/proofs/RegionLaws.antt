-- The regions of a good image's words, and how many words they take.
use mathlib.Core.Path.{◌≡◌}
use mathlib.Core.List.{List}
use Prim.Native.Nat.{ℕ, ◌+◌, ◌*◌, ◌≤◌, ◌<◌}
use native.Mathlib.Omega.{arith}
use Rattle.tables.specs.Layout.{fragments, sets, selections}
use Rattle.tables.specs.Image.{count_at}
use Rattle.tables.specs.Good.{Good}
use Rattle.tables.proofs.Counts.{few_rows}
use Rattle.expand.specs.Expanding.{AreaFor}
use Rattle.selection.specs.declared.arena.Arena.{Arena}
use Rattle.selection.specs.Regions.{most_work, rows_at_most, room_of, arena_of, area_of, Places}

pub rows_all : {image : List ℕ} → Good image → (t : ℕ) → t < 9 → rows_at_most image t ≡ count_at image t
unfolding rows_at_most
rows_all good t h = omega (arith, good.nine, good.few t (omega (arith, good.nine)))

room_most : (image : List ℕ) (work : ℕ) → room_of image work ≤ most_work + 1 + rows_at_most image selections
unfolding room_of
room_most image work = omega arith

pub places : {image : List ℕ} {arena : Arena} (work : ℕ) → Good image → arena ≡ arena_of image work → Places image arena
unfolding arena_of
places {image} work good e =
    let most = room_most image work in
    let n = rows_all good selections (omega arith) in
    let f = rows_all good fragments (omega arith) in
    let t = rows_all good sets (omega arith) in
    rw e record {
      names = n;
      pairs = omega (arith, n);
      marks = omega (arith, n);
      queue = omega (arith, f);
      lasts = omega (arith, t);
      heads = omega (arith, n);
      chain = omega (arith, n);
      links = omega arith;
      store = omega arith;
      small = omega (arith, most, n, f, t, few_rows image good.few selections (omega arith), few_rows image good.few fragments (omega arith), few_rows image good.few sets (omega arith));
    }

-- an expansion's words
pub area_for : {image : List ℕ} {arena : Arena} → Places image arena → AreaFor image (area_of arena)
area_for r = record { queue = r.queue; end = r.lasts; store = omega (arith, r.heads, r.chain, r.links, r.store) }

-- the chain of all that a budget pays for, and of the list at hand, lies before the links
pub chain_fits : {image : List ℕ} {arena : Arena} (work : ℕ) → Good image → arena ≡ arena_of image work → work ≤ most_work
    → arena.links ≡ arena.chain + (work + 1 + count_at image selections)
unfolding arena_of room_of
chain_fits {image} work good e few = rw e (omega (arith, few, rows_all good selections (omega arith)))

-- and so do its links before the store
pub links_fit : {image : List ℕ} {arena : Arena} (work : ℕ) → Good image → arena ≡ arena_of image work → work ≤ most_work
    → arena.store ≡ arena.links + 4 * (work + 1 + count_at image selections)
unfolding arena_of room_of
links_fit {image} work good e few = rw e (omega (arith, few, rows_all good selections (omega arith)))

-- so the store begins behind ten words for each selection, five for each unit, and a few more
pub store_is : {image : List ℕ} {arena : Arena} (work : ℕ) → Good image → arena ≡ arena_of image work → work ≤ most_work
    → arena.store ≡ 10 * count_at image selections + count_at image fragments + count_at image sets + 5 * work + 6
store_is {image} {arena} work good e few =
    let r = places {image = image} {arena = arena} work good e in
    let front : arena.queue ≡ 3 * count_at image selections + count_at image fragments = omega (arith, r.names, r.pairs, r.marks, r.queue) in
    let chain : arena.chain ≡ arena.queue + count_at image sets + 2 * count_at image selections + 1 = omega (arith, r.lasts, r.heads, r.chain) in
    omega (arith, front, chain, chain_fits {image = image} {arena = arena} work good e few, links_fit {image = image} {arena = arena} work good e few)
