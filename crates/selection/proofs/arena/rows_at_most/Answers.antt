-- `arena::rows_at_most` meets its contract: no table may have more rows than the largest limit. Assumes nothing.
use mathlib.Core.List.{List}
use native.Mathlib.Omega.{arith}
use mathlib.Core.Path.{◌≡◌}
use Prim.Native.Nat.{ℕ, ◌≤◌, min}
use Rattle.tables.specs.Image.{word_at, count_at}
use Rattle.selection.specs.Regions.{rows_at_most}
use Rattle.tables.specs.Layout.{most_rows}
use Rattle.tables.proofs.Tidy.{no_limit_over}
use Rattle.selection.proofs.arena.rows_at_most.Goals as goal

at_most : (image : List ℕ) (t : ℕ) {r n most e : ℕ} → r ≡ min n most → n ≡ count_at image t → most ≡ most_rows e t → e ≡ word_at image 0 → (r ≡ rows_at_most image t) × (r ≤ 16384)
unfolding rows_at_most
at_most image t {e = e} r n most edition =
    let few = no_limit_over e t in
    (rw (r, n, most, edition), omega arith)

pub returns : goal.returns
returns c = at_most _ _ c.min.ensures c.count.ensures c.most_rows.ensures c.word.ensures
