-- `keys::are_keys_distinct` meets its contract: each row passed is the first of its key. Assumes nothing.
use mathlib.Core.Path.{◌≡◌, sym, ap, ◌∙◌}
use mathlib.Core.Bool.{false}
use native.Mathlib.Omega.{arith}
use lib.Dec.{eqb}
use Rattle.std.specs.Prelude.{Some, nat_eq}
use Rattle.std.specs.Option.{option_eq}
use Rattle.tables.specs.Keys.{key_of, key_in}
use Rattle.lists.specs.Every.{find, found, distinct}
use Rattle.lists.proofs.Tests.{not_is_true}
use Rattle.lists.proofs.EveryLaws.{every_intro, every_fails, same_found}
use Rattle.tables.proofs.keys.are_keys_distinct.Goals as goal

pub returns-then-ne : goal.returns-then-ne
unfolding distinct
returns-then-ne c =
    let a = c.args in
    let key = key_in a.image.now a.table a.rows in
    let n = a.rows.count in
    let read = c.key_of-key.ensures ∙ ap (key_of a.image.now a.table) c.row.ensures in
    let searched = c.find_key.ensures ∙ ap (λ w. found n (find n key w)) read in
    let unlike : option_eq nat_eq (found n (find n key (key c.loop-i.i))) (Some c.loop-i.i) ≡ false = rw searched at (not_is_true _ (sym c.if-ne.ensures)) in
    sym (every_fails _ _ c.loop-i.i (omega arith) (sym (same_found (find n key (key c.loop-i.i)) c.loop-i-test.true) ∙ unlike))

pub returns : goal.returns
unfolding distinct
returns c = sym (every_intro _ _ (λ k l. c.loop-i.invariant k (omega arith)))
