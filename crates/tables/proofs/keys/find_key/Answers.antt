-- `keys::find_key` meets its contract: no row passed has the key. Assumes nothing.
use mathlib.Core.Path.{sym, ap, ◌∙◌}
use native.Mathlib.Omega.{arith}
use borrow.Author.Tests.{eq-eqb}
use lib.Dec.{eqb}
use Rattle.tables.specs.Keys.{key_of, key_in}
use Rattle.lists.proofs.EveryLaws.{found_here, found_nowhere}
use Rattle.tables.proofs.keys.find_key.Goals as goal

pub returns-then-key_of-key : goal.returns-then-key_of-key
returns-then-key_of-key c =
    let a = c.args in
    let read = c.key_of.ensures ∙ ap (key_of a.image.now a.table) c.row.ensures in
    found_here a.rows.count (λ i. eqb (key_in a.image.now a.table a.rows i) a.key) c.loop-i.i (omega arith) c.loop-i.invariant (eq-eqb _ _ (sym read ∙ c.if-key_of-key.true))

pub returns : goal.returns
returns c =
    let a = c.args in
    found_nowhere a.rows.count (λ i. eqb (key_in a.image.now a.table a.rows i) a.key) (λ k l. c.loop-i.invariant k (omega arith))
