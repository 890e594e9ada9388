-- The laws of `same_shape`: what it says of two references, and that on the output types of an image without fault it is reflexive
-- and symmetric; transitive it is in any image.
-- Assumes nothing.
use Prim.Native.Nat.{ℕ, zero, suc, ◌<◌, ◌≤◌}
use mathlib.Core.Path.{◌≡◌, refl, sym, ap, ◌∙◌, subst}
use mathlib.Core.Logic.{◌⊎◌, inl, inr, ⊎_elim}
use mathlib.Core.Bool.{Bool, true, false, cond, ◌&&◌, false≢true}
use mathlib.Core.List.{List}
use native.Mathlib.Omega.{arith}
use native.Mathlib.Decide.{dec_le, ℕ_discrete}
use borrow.Author.Tests.{eq-eqb, eqb-true, le-leb, lt-leb, leb-true, lt-ltb, ltb-true}
use lib.Dec.{eqb, leb, ltb}
use Rattle.lists.proofs.Tests.{both, first_of, second_of, all_three}
use Rattle.tables.specs.Layout.{references}
use Rattle.tables.specs.Image.{count_at}
use Rattle.tables.specs.Columns.{type_kind, reference_kind, reference_child, is_composite, input_object}
use Rattle.tables.specs.Good.{Good, GoodReference}
use Rattle.tables.proofs.Innermost.{named_core, listed_core}
use Rattle.values.specs.Shape.{scalar, enumeration, is_leaf, are_names, are_lists, same_named, same_shape}
use Rattle.values.specs.Fields.{OutputReference}
use Rattle.tables.proofs.ColumnLaws.{a_composite, below_composites, above_composites}
use Rattle.values.proofs.ShapeCases.{a_leaf, no_leaf, shape_step}

-- ---- two kinds

pub leaf_kind : (kind : ℕ) → is_leaf kind ≡ true → (kind ≡ scalar) ⊎ (kind ≡ enumeration)
leaf_kind kind e = go (ℕ_discrete kind scalar) (ℕ_discrete kind enumeration)
  where
    go : Dec (kind ≡ scalar) → Dec (kind ≡ enumeration) → (kind ≡ scalar) ⊎ (kind ≡ enumeration)
    go (yes p) d = inl p
    go (no n) (yes p) = inr p
    go (no n) (no m) = absurd (false≢true (sym (no_leaf kind (⊎_elim n m)) ∙ e))

-- a composite is no leaf
pub composite_no_leaf : (kind : ℕ) → is_composite kind ≡ true → is_leaf kind ≡ false
composite_no_leaf kind e =
    no_leaf kind
    (⊎_elim (λ z. false≢true (sym (below_composites kind (omega arith)) ∙ e)) (λ f. false≢true (sym (above_composites kind (omega arith)) ∙ e)))

pub composite_kind : (kind : ℕ) → is_composite kind ≡ true → (1 ≤ kind) × (kind < 4)
composite_kind kind e = (low (dec_le 1 kind), high (dec_le 4 kind))
  where
    low : Dec (1 ≤ kind) → 1 ≤ kind
    low (yes h) = h
    low (no n) = absurd (false≢true (sym (below_composites kind (omega arith)) ∙ e))

    high : Dec (4 ≤ kind) → kind < 4
    high (yes h) = absurd (false≢true (sym (above_composites kind h) ∙ e))
    high (no n) = omega arith

names_kinds : (l r : ℕ) → are_names l r ≡ true → (l ≤ 1) × (l ≡ r)
unfolding are_names
names_kinds l r e = (leb-true l 1 (first_of (leb l 1) (eqb l r) e), eqb-true l r (second_of (leb l 1) (eqb l r) e))

kinds_names : (l r : ℕ) → l ≤ 1 → l ≡ r → are_names l r ≡ true
unfolding are_names
kinds_names l r h e = both (le-leb l 1 h) (eq-eqb l r e)

no_names : (l r : ℕ) → 2 ≤ l → are_names l r ≡ false
unfolding are_names
no_names l r h = rw (lt-leb l 1 h)

lists_kinds : (l r : ℕ) → are_lists l r ≡ true → (2 ≤ l) × (l ≤ 3) × (l ≡ r)
unfolding are_lists
lists_kinds l r e =
    let h = all_three (leb 2 l) (leb l 3) (eqb l r) e in
    (leb-true 2 l h.0, leb-true l 3 h.1, eqb-true l r h.2)

kinds_lists : (l r : ℕ) → 2 ≤ l → l ≤ 3 → l ≡ r → are_lists l r ≡ true
unfolding are_lists
kinds_lists l r low high e = both (both (le-leb 2 l low) (le-leb l 3 high)) (eq-eqb l r e)

-- ---- two named types

-- what `same_named` says
pub data NamedSays (image : List ℕ) (l r : ℕ) : Type 0 where
  one_leaf : is_leaf (type_kind image l) ≡ true → l ≡ r → NamedSays image l r
  composites : is_composite (type_kind image l) ≡ true → is_composite (type_kind image r) ≡ true → NamedSays image l r

module _ (image : List ℕ) where
  pub named_says : (l r : ℕ) → same_named image l r ≡ true → NamedSays image l r
  unfolding same_named
  named_says l r = go (is_leaf (type_kind image l)) refl
    where
      go : (leaf : Bool) → is_leaf (type_kind image l) ≡ leaf
          → cond leaf (is_leaf (type_kind image r) && eqb l r) (is_composite (type_kind image l) && is_composite (type_kind image r)) ≡ true → NamedSays image l r
      go true h e = one_leaf h (eqb-true l r (second_of (is_leaf (type_kind image r)) (eqb l r) e))
      go false h e =
          let kinds = is_composite (type_kind image l) in
          let others = is_composite (type_kind image r) in
          composites (first_of kinds others e) (second_of kinds others e)

  pub says_named : (l r : ℕ) → NamedSays image l r → same_named image l r ≡ true
  unfolding same_named
  says_named l r (one_leaf h e) = rw h (both (subst (λ (t : ℕ). is_leaf (type_kind image t) ≡ true) e h) (eq-eqb l r e))
  says_named l r (composites h g) = rw (composite_no_leaf _ h) (both h g)

  named_sym : (l r : ℕ) → NamedSays image l r → NamedSays image r l
  named_sym l r (one_leaf h e) = one_leaf (subst (λ (t : ℕ). is_leaf (type_kind image t) ≡ true) e h) (sym e)
  named_sym l r (composites h g) = composites g h

  named_trans : (l m r : ℕ) → NamedSays image l m → NamedSays image m r → NamedSays image l r
  named_trans l m r (one_leaf h e) s = subst (λ (t : ℕ). NamedSays image t r) (sym e) s
  named_trans l m r (composites h g) (one_leaf i e) = absurd (false≢true (sym (composite_no_leaf _ g) ∙ i))
  named_trans l m r (composites h g) (composites i j) = composites h j

  -- an output type agrees with itself
  named_refl : (t : ℕ) → type_kind image t ≤ 5 → (type_kind image t ≡ input_object → ⊥) → NamedSays image t t
  named_refl t few output = go (ℕ_discrete (type_kind image t) scalar) (ℕ_discrete (type_kind image t) enumeration)
    where
      go : Dec (type_kind image t ≡ scalar) → Dec (type_kind image t ≡ enumeration) → NamedSays image t t
      go (yes p) d = one_leaf (a_leaf _ (inl p)) refl
      go (no n) (yes p) = one_leaf (a_leaf _ (inr p)) refl
      go (no n) (no m) = let c = a_composite (type_kind image t) (omega arith) (omega arith) in composites c c

-- ---- two references

-- what `same_shape` says: two names of one nullability, or two lists of one nullability, whose children it says the like of
pub data ShapeSays (image : List ℕ) (l r : ℕ) : Type 0 where
  of_names : reference_kind image l ≤ 1 → reference_kind image l ≡ reference_kind image r
      → NamedSays image (reference_child image l) (reference_child image r) → ShapeSays image l r
  of_lists : 2 ≤ reference_kind image l → reference_kind image l ≤ 3 → reference_kind image l ≡ reference_kind image r → reference_child image l < l
      → same_shape image (reference_child image l) (reference_child image r) ≡ true → ShapeSays image l r

module _ (image : List ℕ) where
  pub shape_says : (l r : ℕ) → same_shape image l r ≡ true → ShapeSays image l r
  shape_says l r e = go (are_names (reference_kind image l) (reference_kind image r)) refl (sym (shape_step image l r) ∙ e)
    where
      items : Bool
      items = same_shape image (reference_child image l) (reference_child image r)

      go : (names : Bool) → are_names (reference_kind image l) (reference_kind image r) ≡ names
          → cond names (same_named image (reference_child image l) (reference_child image r))
          (are_lists (reference_kind image l) (reference_kind image r) && ltb (reference_child image l) l && items) ≡ true → ShapeSays image l r
      go true h e = let k = names_kinds _ _ h in of_names k.0 k.1 (named_says image _ _ e)
      go false h e =
          let parts = all_three (are_lists (reference_kind image l) (reference_kind image r)) (ltb (reference_child image l) l) items e in
          let k = lists_kinds _ _ parts.0 in
          of_lists k.0 k.1 k.2 (ltb-true _ _ parts.1) parts.2

  pub says_shape : (l r : ℕ) → ShapeSays image l r → same_shape image l r ≡ true
  says_shape l r (of_names h e s) = rw (shape_step image l r, kinds_names _ _ h e) (says_named image _ _ s)
  says_shape l r (of_lists low high e less s) =
      rw (shape_step image l r, no_names _ (reference_kind image r) low, kinds_lists _ _ low high e, lt-ltb _ _ less) s

  -- in any image; the laws of the children are those of earlier rows
  trans_step : (l m r : ℕ) → ((a b c : ℕ) → a < l → same_shape image a b ≡ true → same_shape image b c ≡ true → same_shape image a c ≡ true)
      → ShapeSays image l m → ShapeSays image m r → ShapeSays image l r
  trans_step l m r deeper (of_names a p s) (of_names b q t) = of_names a (p ∙ q) (named_trans image _ _ _ s t)
  trans_step l m r deeper (of_names a p s) (of_lists low high q less t) = absurd (omega arith)
  trans_step l m r deeper (of_lists low high p less s) (of_names b q t) = absurd (omega arith)
  trans_step l m r deeper (of_lists low high p less s) (of_lists low' high' q less' t) = of_lists low high (p ∙ q) less (deeper _ _ _ less s t)

  trans_below : (n l m r : ℕ) → l < n → same_shape image l m ≡ true → same_shape image m r ≡ true → same_shape image l r ≡ true
  trans_below zero l m r h e f = absurd (omega arith)
  trans_below (suc n) l m r h e f =
      says_shape l r (trans_step l m r (λ a b c less. trans_below n a b c (omega arith)) (shape_says l m e) (shape_says m r f))

  pub shape_trans : (l m r : ℕ) → same_shape image l m ≡ true → same_shape image m r ≡ true → same_shape image l r ≡ true
  shape_trans l m r = trans_below (suc l) l m r (omega arith)

  module _ (good : Good image) where
    refl_step : (r : ℕ) → OutputReference image r → ((c : ℕ) → c < r → OutputReference image c → same_shape image c c ≡ true) → ShapeSays image r r
    refl_step r o deeper = go (dec_le 2 (reference_kind image r))
      where
        g : GoodReference image r
        g = good.reference r o.row

        child : ℕ
        child = reference_child image r

        go : Dec (2 ≤ reference_kind image r) → ShapeSays image r r
        go (yes listed) =
            let less = g.listed listed in
            of_lists listed g.kind refl less
            (deeper child less
            (record { row = omega (arith, o.row); output = λ e. o.output (ap (type_kind image) (listed_core image r listed less) ∙ e) }))
        go (no named) =
            let known = g.named (omega arith) in
            of_names (omega arith) refl
            (named_refl image child (good.type_kinds child known) (λ e. o.output (ap (type_kind image) (named_core image r (omega arith)) ∙ e)))

    refl_below : (n r : ℕ) → r < n → OutputReference image r → same_shape image r r ≡ true
    refl_below zero r h o = absurd (omega arith)
    refl_below (suc n) r h o = says_shape r r (refl_step r o (λ c less. refl_below n c (omega arith)))

    pub shape_refl : (r : ℕ) → OutputReference image r → same_shape image r r ≡ true
    shape_refl r = refl_below (suc r) r (omega arith)

    sym_step : (l r : ℕ) → r < count_at image references
        → ((a b : ℕ) → a < l → b < count_at image references → same_shape image a b ≡ true → same_shape image b a ≡ true)
        → ShapeSays image l r → ShapeSays image r l
    sym_step l r known deeper (of_names a p s) = of_names (omega arith) (sym p) (named_sym image _ _ s)
    sym_step l r known deeper (of_lists low high p less s) =
        let back : reference_child image r < r = (good.reference r known).listed (omega arith) in
        of_lists (omega arith) (omega arith) (sym p) back (deeper _ _ less (omega arith) s)

    sym_below : (n l r : ℕ) → l < n → r < count_at image references → same_shape image l r ≡ true → same_shape image r l ≡ true
    sym_below zero l r h known e = absurd (omega arith)
    sym_below (suc n) l r h known e = says_shape r l (sym_step l r known (λ a b less. sym_below n a b (omega arith)) (shape_says l r e))

    pub shape_sym : (l r : ℕ) → r < count_at image references → same_shape image l r ≡ true → same_shape image r l ≡ true
    shape_sym l r = sym_below (suc l) l r (omega arith)
