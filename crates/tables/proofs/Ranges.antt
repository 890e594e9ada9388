-- Laws of ranges: what a test of one says, and the rows in one that lies within a table. Assumes nothing.
use Prim.Native.Nat.{ℕ, ◌+◌, ◌≤◌}
use mathlib.Core.Path.{◌≡◌, sym, ◌∙◌}
use mathlib.Core.Bool.{Bool}
use native.Mathlib.Omega.{arith}
use Rattle.tables.specs.declared.Range.{Range}
use Rattle.tables.specs.Layout.{NONE}
use Rattle.tables.specs.Image.{row_in, lies_within}

-- a test of a range that a callee read
pub tested : {rows rows' : Range} {n n' : ℕ} {b v : Bool} → rows ≡ rows' → n ≡ n' → b ≡ lies_within rows n → b ≡ v → lies_within rows' n' ≡ v
tested range limit test v = rw (← range, ← limit) (sym test ∙ v)

-- a row number that a word can hold
pub row_in_lem : (range : Range) (k : ℕ) → range.first + k ≤ NONE → row_in range k ≡ range.first + k
unfolding row_in
row_in_lem range k h = omega arith
