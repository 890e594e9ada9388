-- `Arena::of` meets its contract: each region begins where the one before ends. Assumes nothing.
use mathlib.Core.Path.{◌≡◌}
use mathlib.Core.List.{List}
use Prim.Native.Nat.{ℕ, ◌+◌, ◌*◌, min}
use Rattle.tables.specs.Layout.{fragments, sets, selections}
use Rattle.selection.specs.declared.arena.Arena.{Arena}
use Rattle.selection.specs.Regions.{most_work, rows_at_most, room_of, arena_of}
use Rattle.selection.proofs.arena.Arena.of.Goals as goal

regions : (image : List ℕ) (work : ℕ) {n f t b : ℕ} → n ≡ rows_at_most image selections → f ≡ rows_at_most image fragments → t ≡ rows_at_most image sets → b ≡ min work most_work
    → ◌≡◌ {A = Arena} (record {
      names = n;
      pairs = n + n;
      marks = n + n + n;
      queue = n + n + n + f;
      lasts = n + n + n + f + t;
      heads = n + n + n + f + t + n;
      chain = n + n + n + f + t + n + n + 1;
      links = n + n + n + f + t + n + n + 1 + (b + 1 + n);
      store = n + n + n + f + t + n + n + 1 + (b + 1 + n) + 4 * (b + 1 + n);
    }) (arena_of image work)
unfolding arena_of room_of
regions image work n f t b = rw (n, f, t, b)

pub returns : goal.returns
returns c =
    regions c.args.image.now c.args.work c.rows_at_most-rows.ensures.0 c.rows_at_most.ensures.0 c.rows_at_most-2.ensures.0 c.min.ensures
