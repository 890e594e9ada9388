-- The laws of innermost types: so many steps suffice, and a law for each way out of the loop. Assumes nothing.
use Prim.Native.Nat.{ℕ, zero, suc, ◌<◌, ◌≤◌}
use mathlib.Core.Path.{◌≡◌, refl, sym, ◌∙◌}
use mathlib.Core.Bool.{Bool, true, false, cond}
use mathlib.Core.List.{List}
use native.Mathlib.Omega.{arith}
use lib.Dec.{ltb}
use borrow.Author.Tests.{le-leb, lt-leb, lt-ltb, le-ltb, ltb-true}
use Rattle.tables.specs.Layout.{NONE}
use Rattle.tables.specs.Columns.{reference_kind, reference_child, is_list_reference, innermost_in, innermost}

module _ (image : List ℕ) where
  -- any number of steps above the reference's row gives the same type
  pub innermost_steps : (n m r : ℕ) → r < n → r < m → innermost_in image n r ≡ innermost_in image m r
  unfolding innermost_in
  innermost_steps zero m r hn hm = absurd (omega arith)
  innermost_steps (suc n) zero r hn hm = absurd (omega arith)
  innermost_steps (suc n) (suc m) r hn hm =
      go (is_list_reference (reference_kind image r)) (ltb (reference_child image r) r) refl (innermost_steps n m (reference_child image r))
    where
      child : ℕ
      child = reference_child image r

      go : (list earlier : Bool) → ltb child r ≡ earlier
          → (child < n → child < m → innermost_in image n child ≡ innermost_in image m child)
          → cond list (cond earlier (innermost_in image n child) NONE) child ≡ cond list (cond earlier (innermost_in image m child) NONE) child
      go false earlier e deeper = refl
      go true false e deeper = refl
      go true true e deeper = let less : child < r = ltb-true _ _ e in deeper (omega arith) (omega arith)

  -- a name, a list of an earlier reference, and a list of no earlier one
  pub named_core : (r : ℕ) → reference_kind image r < 2 → innermost image r ≡ reference_child image r
  unfolding innermost innermost_in
  named_core r h = rw (lt-leb _ _ h)

  pub listed_core : (r : ℕ) → 2 ≤ reference_kind image r → reference_child image r < r → innermost image r ≡ innermost image (reference_child image r)
  unfolding innermost innermost_in
  listed_core r h less =
      let below : innermost_in image r (reference_child image r) ≡ innermost image (reference_child image r) = innermost_steps r (suc (reference_child image r)) (reference_child image r) less (omega arith) in
      rw (le-leb _ _ h, lt-ltb _ _ less) below

  pub no_core : (r : ℕ) → 2 ≤ reference_kind image r → r ≤ reference_child image r → innermost image r ≡ NONE
  unfolding innermost innermost_in
  no_core r h more = rw (le-leb _ _ h, le-ltb _ _ more)

  -- the loop at row r, which has the innermost type of the reference it began with
  module _ (reference r : ℕ) (same : innermost image r ≡ innermost image reference) where
    pub ends_nowhere : 2 ≤ reference_kind image r → r ≤ reference_child image r → NONE ≡ innermost image reference
    ends_nowhere h more = sym (no_core r h more) ∙ same

    pub goes_down : 2 ≤ reference_kind image r → {child : ℕ} → child ≡ reference_child image r → child < r → innermost image child ≡ innermost image reference
    goes_down h e less = rw e (sym (listed_core r h (omega arith)) ∙ same)

    pub ends_at : reference_kind image r < 2 → reference_child image r ≡ innermost image reference
    ends_at h = sym (named_core r h) ∙ same
