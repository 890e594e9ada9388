-- `reach::leads_to` meets its contract. Assumes nothing.
use native.Mathlib.Omega.{arith}
use mathlib.Core.Path.{◌≡◌, sym}
use Prim.Native.Nat.{ℕ, ◌≤◌}
use Rattle.std.specs.Prelude.{Option, Some, None, MatchOption}
use Rattle.tables.specs.Layout.{sets, NONE}
use Rattle.tables.specs.Columns.{set_or_none}
use Rattle.tables.proofs.ColumnLaws.{set_named, none_named}
use Rattle.tables.proofs.Counts.{count_fits}
use Rattle.reach.proofs.leads_to.Goals as goal

-- as many sets as a word can count: NONE is none of them
named : (word most : ℕ) (r : Option ℕ) → r ≡ set_or_none word → most ≤ NONE → MatchOption r (most ≤ word) (λ set. set ≡ word)
named word most (Some set) e h = sym (set_named e).0
named word most None e h = let none = none_named e in omega arith

pub returns : goal.returns
returns c =
    rw (← c.selection_row.ensures) (named _ _ _ c.set_below.ensures (count_fits c.args.image.now (λ k. omega (arith, c.type_inv.image k)) sets))
