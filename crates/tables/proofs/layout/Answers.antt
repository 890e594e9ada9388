-- `tables::layout` meets its contract: the array and the definition hold the same numbers, and past them both give 0.
-- Assumes nothing.
use mathlib.Core.List.{List, map}
use mathlib.Core.Path.{◌≡◌, sym, ap, ◌∙◌}
use Prim.Native.Nat.{ℕ}
use lib.ListN.{get_or, get_or-eq_default}
use Rattle.std.proofs.lemmas.Bool.{ltb-true, ltb-false}
use denote.Ref.{Bor}
use Rattle.std.specs.Prelude.{Option, Some, None, unwrap_or, option_copied}
use Rattle.std.specs.Slice.{IsItemAt}
use Rattle.tables.specs.Layout.{edition1}
use Rattle.tables.proofs.Lists.{any_default}
use Rattle.tables.proofs.Widths.{pair_of, layout_of}
use Rattle.tables.proofs.layout.Goals as goal

-- what `get` lends, or the default past the end
item : {A : Type 0} (l : List A) (i : ℕ) (d : A) (r : Option (Bor A)) → IsItemAt l i r → unwrap_or (option_copied r) d ≡ get_or l i d
item l i d (Some x) h = h.1 ∙ any_default l i x.now d (ltb-true _ _ (sym h.0))
item l i d None h = sym (get_or-eq_default l d (ltb-false _ _ (sym h.0)))

pub returns : goal.returns
returns c =
    let both = layout_of c.args.edition c.args.table in
    let read : ◌≡◌ {A = ℕ × ℕ} c.unwrap_or.result (get_or (map pair_of edition1) c.args.table (0, 0)) =
    c.unwrap_or.ensures ∙ ap (λ o. unwrap_or o (0, 0)) c.copied.ensures ∙ item (map pair_of edition1) c.args.table (0, 0) c.get.result c.get.ensures.lookup in
    (cc, cc)
