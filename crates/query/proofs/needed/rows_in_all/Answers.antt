-- `needed::rows_in_all` meets its contract. The loop's invariant: the sum is that of the tables passed. Assumes nothing.
use native.Mathlib.Omega.{arith}
use mathlib.Core.Path.{◌≡◌, refl, ◌∙◌}
use mathlib.Core.List.{List}
use Prim.Native.Nat.{ℕ, ◌+◌}
use Rattle.tables.specs.Layout.{table_count}
use Rattle.lists.specs.Every.{total}
use Rattle.tables.specs.Image.{word_at, count_at}
use Rattle.lists.proofs.EveryLaws.{total_more}
use Rattle.query.specs.Needed.{rows_in_all}
use Rattle.query.proofs.needed.rows_in_all.Goals as goal

more : (image : List ℕ) (t : ℕ) {sum n : ℕ} → sum ≡ total 0 (count_at image) t → n ≡ count_at image t → sum + n ≡ total 0 (count_at image) (t + 1)
more image t sum n = rw (total_more 0 (count_at image) t, sum, n)

all : (image : List ℕ) {sum t tables edition : ℕ} → sum ≡ total 0 (count_at image) t → t ≡ tables → tables ≡ table_count edition → edition ≡ word_at image 0 → sum ≡ rows_in_all image
unfolding rows_in_all
all image sum t tables edition = rw (sum, t, tables, edition)

pub loop-table-init : goal.loop-table-init
unfolding total
loop-table-init c = (refl, omega arith)

pub loop-table-preserved : goal.loop-table-preserved
loop-table-preserved c = (more _ _ c.loop-table.invariant.0 (c.from-sum.ensures ∙ c.count.ensures), omega (arith, c.from-sum.ensures))

pub returns : goal.returns
returns c = (all _ c.loop-table.invariant.0 (omega arith) c.table_count-table-end.ensures c.word.ensures, omega arith)
