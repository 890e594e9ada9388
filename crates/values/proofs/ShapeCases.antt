-- The shape of two types in each case that the code tells apart: what two kinds of references tell, so many steps suffice, one step of the
-- comparison, and a law for each `return` of the code. No contract speaks of `both_wrappers`, which stands here alone.
-- Assumes nothing.
use Prim.Native.Nat.{ℕ, zero, suc, ◌<◌, ◌≤◌}
use mathlib.Core.Path.{◌≡◌, refl, sym, ap, ◌∙◌}
use mathlib.Core.Logic.{◌⊎◌, inl, inr, ⊎_elim}
use mathlib.Core.Bool.{Bool, true, false, cond, ◌&&◌}
use mathlib.Core.List.{List}
use native.Mathlib.Omega.{arith}
use borrow.Author.Tests.{eq-eqb, ne_eqb, le-leb, lt-leb, lt-ltb, le-ltb, ltb-true}
use lib.Dec.{eqb, leb, ltb}
use Rattle.lists.proofs.Tests.{second_fails}
use Rattle.tables.specs.Columns.{type_kind, reference_kind, reference_child, is_composite}
use Rattle.values.specs.Shape.{is_leaf, are_names, are_lists, same_named, same_shape_in, same_shape}

-- ---- two reference kinds

-- two references side by side: unlike in wrapper or nullability, two names, or two lists
pub data Wrappers : Type 0 where
  Unlike : Wrappers
  Names : Wrappers
  Lists : Wrappers

unfoldable pub both_wrappers : ℕ → ℕ → Wrappers
both_wrappers left right = cond (are_names left right) Names (cond (are_lists left right) Lists Unlike)

module _ (left right : ℕ) where
  pub unlike : (left ≡ right → ⊥) → Unlike ≡ both_wrappers left right
  unfolding both_wrappers are_names are_lists
  unlike ne = rw (ne_eqb _ _ ne, second_fails (leb left 1) refl, second_fails (leb 2 left && leb left 3) refl)

  pub no_kind : 3 < left → Unlike ≡ both_wrappers left right
  unfolding both_wrappers are_names are_lists
  no_kind h = rw (lt-leb left 1 (omega arith), le-leb 2 left (omega arith), lt-leb left 3 h)

  -- the same of the two tests, as the code leans on it
  neither : (left ≡ right → ⊥) → (are_names left right ≡ false) × (are_lists left right ≡ false)
  unfolding are_names are_lists
  neither ne = (rw (ne_eqb _ _ ne, second_fails (leb left 1) refl), rw (ne_eqb _ _ ne, second_fails (leb 2 left && leb left 3) refl))

  neither_over : 3 < left → (are_names left right ≡ false) × (are_lists left right ≡ false)
  unfolding are_names are_lists
  neither_over h = (rw (lt-leb left 1 (omega arith)), rw (le-leb 2 left (omega arith), lt-leb left 3 h))

  names : left ≡ right → left ≤ 1 → are_names left right ≡ true
  unfolding are_names
  names e low = rw (le-leb left 1 low, eq-eqb _ _ e)

  lists : left ≡ right → 2 ≤ left → left ≤ 3 → (are_names left right ≡ false) × (are_lists left right ≡ true)
  unfolding are_names are_lists
  lists e low high = (rw (lt-leb left 1 (omega arith)), rw (le-leb 2 left low, le-leb left 3 high, eq-eqb _ _ e))

-- ---- two type kinds

pub a_leaf : (kind : ℕ) → (kind ≡ 0) ⊎ (kind ≡ 4) → is_leaf kind ≡ true
unfolding is_leaf
a_leaf kind e = ⊎_elim (λ h. rw h) (λ h. rw h) e

pub no_leaf : (kind : ℕ) → ((kind ≡ 0) ⊎ (kind ≡ 4) → ⊥) → is_leaf kind ≡ false
unfolding is_leaf
no_leaf kind ne = rw (ne_eqb kind 0 (λ h. ne (inl h)), ne_eqb kind 4 (λ h. ne (inr h)))

module _ (image : List ℕ) (left right : ℕ) {ours theirs : ℕ} (read : ours ≡ type_kind image left) (other : theirs ≡ type_kind image right) where
  pub two_leaves : is_leaf ours ≡ true → is_leaf theirs ≡ true → eqb left right ≡ same_named image left right
  unfolding same_named
  two_leaves l r = rw (← read, ← other, l, r)

  pub one_leaf : is_leaf ours ≡ true → is_leaf theirs ≡ false → false ≡ same_named image left right
  unfolding same_named
  one_leaf l r = rw (← read, ← other, l, r)

  pub two_composites : is_leaf ours ≡ false → is_composite ours ≡ true → {b : Bool} → is_composite theirs ≡ b → b ≡ same_named image left right
  unfolding same_named
  two_composites n l r = rw (← read, ← other, n, l, r)

  pub no_composite : is_leaf ours ≡ false → is_composite ours ≡ false → false ≡ same_named image left right
  unfolding same_named
  no_composite n l = rw (← read, ← other, n, l)

-- ---- two references

module _ (image : List ℕ) where
  -- any number of steps above the left row gives the same answer
  pub shape_steps : (n m l r : ℕ) → l < n → l < m → same_shape_in image n l r ≡ same_shape_in image m l r
  unfolding same_shape_in
  shape_steps zero m l r hn hm = absurd (omega arith)
  shape_steps (suc n) zero l r hn hm = absurd (omega arith)
  shape_steps (suc n) (suc m) l r hn hm =
      ap (cond (are_names (reference_kind image l) (reference_kind image r)) (same_named image (reference_child image l) (reference_child image r)))
      (go (are_lists (reference_kind image l) (reference_kind image r)) (ltb (reference_child image l) l) refl (shape_steps n m (reference_child image l) (reference_child image r)))
    where
      below : ℕ → Bool
      below steps = same_shape_in image steps (reference_child image l) (reference_child image r)

      go : (lists earlier : Bool) → ltb (reference_child image l) l ≡ earlier
          → (reference_child image l < n → reference_child image l < m → below n ≡ below m)
          → (lists && earlier && below n) ≡ (lists && earlier && below m)
      go false earlier e deeper = refl
      go true false e deeper = refl
      go true true e deeper = let less : reference_child image l < l = ltb-true _ _ e in deeper (omega arith) (omega arith)

  -- one step of the comparison
  pub shape_step : (l r : ℕ) → same_shape image l r
      ≡ cond (are_names (reference_kind image l) (reference_kind image r)) (same_named image (reference_child image l) (reference_child image r))
      (are_lists (reference_kind image l) (reference_kind image r) && ltb (reference_child image l) l && same_shape image (reference_child image l) (reference_child image r))
  unfolding same_shape same_shape_in
  shape_step l r =
      ap (cond (are_names (reference_kind image l) (reference_kind image r)) (same_named image (reference_child image l) (reference_child image r)))
      (go (are_lists (reference_kind image l) (reference_kind image r)) (ltb (reference_child image l) l) refl)
    where
      go : (lists earlier : Bool) → ltb (reference_child image l) l ≡ earlier
          → (lists && earlier && same_shape_in image l (reference_child image l) (reference_child image r))
          ≡ (lists && earlier && same_shape_in image (suc (reference_child image l)) (reference_child image l) (reference_child image r))
      go false earlier e = refl
      go true false e = refl
      go true true e = shape_steps l (suc (reference_child image l)) (reference_child image l) (reference_child image r) (ltb-true _ _ e) (omega arith)

  -- two references whose kinds were read
  module _ (l r : ℕ) {kind other : ℕ} (mine : kind ≡ reference_kind image l) (its : other ≡ reference_kind image r) where
    pub shape_unlike : (kind ≡ other → ⊥) → false ≡ same_shape image l r
    shape_unlike ne = let h = neither (reference_kind image l) (reference_kind image r) (λ e. ne (mine ∙ e ∙ sym its)) in rw (shape_step, h.0, h.1)

    pub shape_no_kind : 3 < kind → false ≡ same_shape image l r
    shape_no_kind over = let h = neither_over (reference_kind image l) (reference_kind image r) (omega arith) in rw (shape_step, h.0, h.1)

    -- two lists, of which the left's child is no earlier reference
    pub shape_endless : kind ≡ other → 2 ≤ kind → kind ≤ 3 → l ≤ reference_child image l → false ≡ same_shape image l r
    shape_endless e low high h =
        let both = lists (reference_kind image l) (reference_kind image r) (sym mine ∙ e ∙ its) (omega arith) (omega arith) in
        rw (shape_step, both.0, both.1, le-ltb _ _ h)

    -- else the children, as they were read, decide
    module _ {below across : ℕ} (read : below ≡ reference_child image l) (beside : across ≡ reference_child image r) where
      pub shape_names : kind ≡ other → kind ≤ 1 → same_named image below across ≡ same_shape image l r
      shape_names e low =
          rw (read, beside, shape_step, names (reference_kind image l) (reference_kind image r) (sym mine ∙ e ∙ its) (omega arith))

      pub shape_items : kind ≡ other → 2 ≤ kind → kind ≤ 3 → below < l → same_shape image below across ≡ same_shape image l r
      shape_items e low high h =
          let less : reference_child image l < l = omega arith in
          let both = lists (reference_kind image l) (reference_kind image r) (sym mine ∙ e ∙ its) (omega arith) (omega arith) in
          rw (read, beside) (sym (rw (shape_step l r, both.0, both.1, lt-ltb _ _ less)))
