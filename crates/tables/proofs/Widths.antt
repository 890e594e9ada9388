-- What the reader's sums and indices need of the layout. Assumes nothing.
use Prim.Native.Nat.{ℕ, zero, suc, ◌*◌, ◌^◌, ◌<◌, ◌-◌}
use mathlib.Core.Path.{◌≡◌, refl, sym, ap, ◌∙◌}
use mathlib.Core.List.{List, [], ◌∷◌, map}
use native.Mathlib.Nat.{le_of_lt, mul-le-mul_left, lt_of_le_of_lt}
use native.Mathlib.Omega.{arith}
use lib.ListN.{get_or}
use Rattle.tables.specs.Layout.{Table, table, edition1, editions, tables_of, row_width, most_rows}

-- there is one edition, whatever the number
pub one_edition : (e : ℕ) → tables_of e ≡ edition1
unfolding tables_of
one_edition e = go (e - 1)
  where
    go : (k : ℕ) → get_or editions k edition1 ≡ edition1
    go zero = refl
    go (suc k) = refl

column : {A : Type 0} (l : List Table) (t : ℕ) (f : Table → A) → f (get_or l t (table 0 0)) ≡ get_or (map f l) t (f (table 0 0))
column [] t f = refl
column (x ∷ l) zero f = refl
column (x ∷ l) (suc t) f = column l t f

-- the limits are a list of numbers
pub most_of : (e t : ℕ) → most_rows e t ≡ get_or (map (λ (x : Table). x.most) edition1) t 0
unfolding most_rows
most_of e t = ap (λ (l : List Table). (get_or l t (table 0 0)).most) (one_edition e) ∙ column edition1 t (λ x. x.most)

-- the layout as pairs of both numbers
abbrev pub pair_of : Table → ℕ × ℕ
pair_of x = (x.width, x.most)

pub layout_of : (e t : ℕ) → ◌≡◌ {A = ℕ × ℕ} (get_or (map pair_of edition1) t (0, 0)) (row_width e t, most_rows e t)
unfolding row_width most_rows
layout_of e t = sym (column edition1 t pair_of) ∙ ap (λ (l : List Table). pair_of (get_or l t (table 0 0))) (sym (one_edition e))

-- a word times a row width: no sum of such comes near the end of `usize`
pub scaled : (word width : ℕ) → word < 2 ^ 32 → width < 2 ^ 8 → word * width < 2 ^ 40
scaled word width hw hb = lt_of_le_of_lt (mul-le-mul_left word (le_of_lt hb)) (omega arith)
