-- On the references of an image without fault, what the code decides by rows is what the specification's algorithms say of the types
-- that the rows stand for. Assumes nothing.
use Prim.Native.Nat.{ℕ, zero, suc, ◌<◌, ◌≤◌}
use mathlib.Core.Path.{◌≡◌, refl, sym, ap, ◌∙◌}
use mathlib.Core.Logic.{◌⊎◌, inl, inr}
use mathlib.Core.Bool.{Bool, true, false, cond, not, ◌&&◌, ◌||◌, and-false}
use mathlib.Core.List.{List}
use native.Mathlib.Omega.{arith}
use lib.Dec.{eqb, ltb}
use borrow.Author.Tests.{le-leb, lt-leb, lt-ltb, le-ltb, leb-true}
use Rattle.lists.proofs.Parts.{le_or_lt}
use Rattle.tables.specs.Layout.{references, arguments, variables}
use Rattle.tables.specs.Image.{count_at}
use Rattle.tables.specs.Columns.{type_kind, reference_kind, reference_child, is_list_reference, is_composite, innermost, argument_type, argument_default, variable_type, variable_default}
use Rattle.tables.specs.Good.{Good}
use Rattle.tables.specs.TypeOf.{Ty, named, list_of, non_null, StandsFor, a_name, a_non_null_name, a_list, a_non_null_list}
use Rattle.tables.proofs.Innermost.{named_core, listed_core}
use Rattle.tables.proofs.ColumnLaws.{a_composite, below_composites, above_composites}
use Rattle.variable.specs.Types.{is_non_null_type, nullable_of, is_input_type, are_types_compatible, is_variable_usage_allowed, is_non_null, kind_at}
use Rattle.variable.specs.Definitions.{alike, agrees_at, compatible_in, compatible, has_default, usage_allowed, is_output}
use Rattle.variable.proofs.TypeLaws.{compatible_steps}

-- ---- types without their outer non-null

unfoldable wrapped : Bool → Ty → Ty
wrapped true t = non_null t
wrapped false t = t

-- a name or a list
unfoldable bare : (isList : Bool) (name : ℕ) (items : Ty) → Ty
bare isList name items = cond isList (list_of items) (named name)

wrapped_compatible : (a b c d : Bool) (m n : ℕ) (x y : Ty)
    → are_types_compatible (wrapped a (bare c m x)) (wrapped b (bare d n y)) ≡ ((not b || a) && are_types_compatible (bare c m x) (bare d n y))
unfolding wrapped bare are_types_compatible
wrapped_compatible true true true true m n x y = refl
wrapped_compatible true true true false m n x y = refl
wrapped_compatible true true false true m n x y = refl
wrapped_compatible true true false false m n x y = refl
wrapped_compatible true false true true m n x y = refl
wrapped_compatible true false true false m n x y = refl
wrapped_compatible true false false true m n x y = refl
wrapped_compatible true false false false m n x y = refl
wrapped_compatible false true true true m n x y = refl
wrapped_compatible false true true false m n x y = refl
wrapped_compatible false true false true m n x y = refl
wrapped_compatible false true false false m n x y = refl
wrapped_compatible false false true true m n x y = refl
wrapped_compatible false false true false m n x y = refl
wrapped_compatible false false false true m n x y = refl
wrapped_compatible false false false false m n x y = refl

-- the place's outer non-null dropped
dropped_compatible : (a b c d : Bool) (m n : ℕ) (x y : Ty)
    → are_types_compatible (wrapped a (bare c m x)) (nullable_of (wrapped b (bare d n y))) ≡ are_types_compatible (bare c m x) (bare d n y)
unfolding wrapped bare nullable_of are_types_compatible
dropped_compatible true true true true m n x y = refl
dropped_compatible true true true false m n x y = refl
dropped_compatible true true false true m n x y = refl
dropped_compatible true true false false m n x y = refl
dropped_compatible true false true true m n x y = refl
dropped_compatible true false true false m n x y = refl
dropped_compatible true false false true m n x y = refl
dropped_compatible true false false false m n x y = refl
dropped_compatible false true true true m n x y = refl
dropped_compatible false true true false m n x y = refl
dropped_compatible false true false true m n x y = refl
dropped_compatible false true false false m n x y = refl
dropped_compatible false false true true m n x y = refl
dropped_compatible false false true false m n x y = refl
dropped_compatible false false false true m n x y = refl
dropped_compatible false false false false m n x y = refl

wrapped_non_null : (a c : Bool) (m : ℕ) (x : Ty) → is_non_null_type (wrapped a (bare c m x)) ≡ a
unfolding wrapped bare is_non_null_type
wrapped_non_null true true m x = refl
wrapped_non_null true false m x = refl
wrapped_non_null false true m x = refl
wrapped_non_null false false m x = refl

-- the place's type, as the code looks at it
abbrev place_type : Bool → Ty → Ty
place_type dropped t = cond dropped (nullable_of t) t

-- a type is an input type, or composite
composite_means : (k : ℕ) → k ≤ 5 → is_composite k ≡ not (eqb k 0 || eqb k 4 || eqb k 5)
composite_means zero h = below_composites 0 (omega arith)
composite_means (suc zero) h = a_composite 1 (omega arith) (omega arith)
composite_means (suc (suc zero)) h = a_composite 2 (omega arith) (omega arith)
composite_means (suc (suc (suc zero))) h = a_composite 3 (omega arith) (omega arith)
composite_means (suc (suc (suc (suc zero)))) h = above_composites 4 (omega arith)
composite_means (suc (suc (suc (suc (suc zero))))) h = above_composites 5 (omega arith)
composite_means (suc (suc (suc (suc (suc (suc k)))))) h = absurd (omega arith)

not_list : (k : ℕ) → ltb k 2 ≡ not (is_list_reference k)
not_list k = pick (le_or_lt 2 k)
  where
    pick : (2 ≤ k) ⊎ (k < 2) → ltb k 2 ≡ not (is_list_reference k)
    pick (inl h) = rw (le-ltb _ _ h, le-leb _ _ h)
    pick (inr h) = rw (lt-ltb _ _ h, lt-leb _ _ h)

-- both lists, one a list, none
by_lists : (c d dropped : Bool) (a b : Bool) (m k : ℕ) (x y : Ty) (items : Bool) → (c ≡ true → d ≡ true → items ≡ are_types_compatible x y)
    → (cond c d (not d) && (dropped || not b || a) && cond c items (eqb m k)) ≡ are_types_compatible (wrapped a (bare c m x)) (place_type dropped (wrapped b (bare d k y)))
unfolding bare are_types_compatible
by_lists true true true a b m k x y items e = e refl refl ∙ sym (dropped_compatible a b true true m k x y)
by_lists true true false a b m k x y items e = ap (λ (z : Bool). (not b || a) && z) (e refl refl) ∙ sym (wrapped_compatible a b true true m k x y)
by_lists true false true a b m k x y items e = sym (dropped_compatible a b true false m k x y)
by_lists true false false a b m k x y items e = sym (and-false (not b || a)) ∙ sym (wrapped_compatible a b true false m k x y)
by_lists false true true a b m k x y items e = sym (dropped_compatible a b false true m k x y)
by_lists false true false a b m k x y items e = sym (and-false (not b || a)) ∙ sym (wrapped_compatible a b false true m k x y)
by_lists false false true a b m k x y items e = sym (dropped_compatible a b false false m k x y)
by_lists false false false a b m k x y items e = sym (wrapped_compatible a b false false m k x y)

-- the type that a reference stands for is its outer non-null, and a name or a list of what the child stands for
record Parts (image : List ℕ) (r : ℕ) (t : Ty) : Type 0 where
  items : Ty
  is : t ≡ wrapped (is_non_null (reference_kind image r)) (bare (is_list_reference (reference_kind image r)) (reference_child image r) items)
  deeper : 2 ≤ reference_kind image r → StandsFor image (reference_child image r) items

module _ (image : List ℕ) where
  parts : {r : ℕ} {t : Ty} → StandsFor image r t → Parts image r t
  unfolding wrapped bare is_non_null
  parts (a_name {child} k c) = record { items = named child; is = rw (k, c); deeper = λ many. absurd (omega arith) }
  parts (a_non_null_name {child} k c) = record { items = named child; is = rw (k, c); deeper = λ many. absurd (omega arith) }
  parts (a_list {t} k c s) = record { items = t; is = rw k; deeper = λ many. rw c s }
  parts (a_non_null_list {t} k c s) = record { items = t; is = rw k; deeper = λ many. rw c s }

  module _ (good : Good image) where
    -- ---- AreTypesCompatible

    module _ (v l : ℕ) (hv : v < count_at image references) (hl : l < count_at image references) {s t : Ty} (p : Parts image v s) (q : Parts image l t) where
      by_kinds : (dropped : Bool)
          → (reference_child image v < v → reference_child image l < count_at image references
          → StandsFor image (reference_child image v) p.items → StandsFor image (reference_child image l) q.items
          → compatible image (reference_child image v) (reference_child image l) false ≡ are_types_compatible p.items q.items)
          → compatible image v l dropped ≡ are_types_compatible s (place_type dropped t)
      unfolding compatible compatible_in agrees_at alike
      by_kinds dropped deeper =
          rw (p.is, q.is, not_list (reference_kind image l))
          (by_lists (is_list_reference (reference_kind image v)) (is_list_reference (reference_kind image l)) dropped (is_non_null (reference_kind image v)) (is_non_null (reference_kind image l))
          (reference_child image v) (reference_child image l) p.items q.items _ below)
        where
          below : is_list_reference (reference_kind image v) ≡ true → is_list_reference (reference_kind image l) ≡ true
              → (ltb (reference_child image v) v && compatible_in image v (reference_child image v) (reference_child image l) false) ≡ are_types_compatible p.items q.items
          below c d =
              let less : reference_child image v < v = (good.reference v hv).listed (leb-true _ _ c) in
              let across : reference_child image l < l = (good.reference l hl).listed (leb-true _ _ d) in
              rw (lt-ltb _ _ less)
              (compatible_steps image v (suc (reference_child image v)) (reference_child image v) (reference_child image l) false less (omega arith)
              ∙ deeper less (omega arith) (p.deeper (leb-true _ _ c)) (q.deeper (leb-true _ _ d)))

    compatible_up_to : (n v l : ℕ) (dropped : Bool) → v < n → v < count_at image references → l < count_at image references → {s t : Ty}
        → StandsFor image v s → StandsFor image l t → compatible image v l dropped ≡ are_types_compatible s (place_type dropped t)
    compatible_up_to zero v l dropped hn hv hl a b = absurd (omega arith)
    compatible_up_to (suc n) v l dropped hn hv hl a b =
        by_kinds v l hv hl (parts a) (parts b) dropped
        (λ less c x y. compatible_up_to n (reference_child image v) (reference_child image l) false (omega arith) (omega arith) c x y)

    compatible_means : (v l : ℕ) (dropped : Bool) → v < count_at image references → l < count_at image references → {s t : Ty}
        → StandsFor image v s → StandsFor image l t → compatible image v l dropped ≡ are_types_compatible s (place_type dropped t)
    compatible_means v l dropped hv hl a b = compatible_up_to (suc v) v l dropped (omega arith) hv hl a b

    -- ---- IsVariableUsageAllowed

    non_null_means : {r : ℕ} {t : Ty} → StandsFor image r t → is_non_null_type t ≡ is_non_null (reference_kind image r)
    non_null_means {r} a =
        let p = parts a in
        rw p.is (wrapped_non_null (is_non_null (reference_kind image r)) (is_list_reference (reference_kind image r)) _ _)

    default_means : (d : ℕ) → d ≤ 1 → not (eqb d 0) ≡ eqb d 1
    default_means zero h = refl
    default_means (suc zero) h = refl
    default_means (suc (suc d)) h = absurd (omega arith)

    -- the code's definition is the specification's, on a variable row and an argument row
    pub usage_means : (v a : ℕ) → v < count_at image variables → a < count_at image arguments → {s t : Ty}
        → StandsFor image (variable_type image v) s → StandsFor image (argument_type image a) t
        → usage_allowed image v a ≡ is_variable_usage_allowed s t (eqb (variable_default image v) 1) (eqb (argument_default image a) 1)
    unfolding usage_allowed is_variable_usage_allowed
    usage_means v a hv ha {s} {t} x y =
        let own = good.variable v hv in
        let place = good.argument a ha in
        rw (non_null_means x, non_null_means y, ← default_means (variable_default image v) own.default, ← default_means (argument_default image a) place.default)
        (go (is_non_null (reference_kind image (argument_type image a)) && not (is_non_null (reference_kind image (variable_type image v)))) own.reference place.reference)
      where
        go : (dropped : Bool) → variable_type image v < count_at image references → argument_type image a < count_at image references
            → (cond dropped (has_default image v a) true && compatible image (variable_type image v) (argument_type image a) dropped)
            ≡ cond dropped (has_default image v a && are_types_compatible s (nullable_of t)) (are_types_compatible s t)
        go true p q = ap (λ (b : Bool). has_default image v a && b) (compatible_means _ _ true p q x y)
        go false p q = compatible_means _ _ false p q x y

    -- ---- IsInputType

    input_means : {r : ℕ} {t : Ty} → r < count_at image references → StandsFor image r t → is_input_type (kind_at image) t ≡ is_input_type (kind_at image) (named (innermost image r))
    unfolding is_input_type
    input_means {r} h (a_name k c) = rw (named_core image r (omega arith), c)
    input_means {r} h (a_non_null_name k c) = rw (named_core image r (omega arith), c)
    input_means {r} h (a_list k c s) =
        let less = (good.reference r h).listed (omega arith) in
        rw (listed_core image r (omega arith) less, c) (input_means (omega arith) s)
    input_means {r} h (a_non_null_list k c s) =
        let less = (good.reference r h).listed (omega arith) in
        rw (listed_core image r (omega arith) less, c) (input_means (omega arith) s)

    -- kind 10's test fails exactly on input types
    pub output_means : (v : ℕ) → v < count_at image variables → {t : Ty} → StandsFor image (variable_type image v) t → is_output image v ≡ not (is_input_type (kind_at image) t)
    unfolding is_input_type
    output_means v h s =
        let reference = (good.variable v h).reference in
        let core = (good.reference (variable_type image v) reference).core in
        rw (input_means reference s) (composite_means (type_kind image (innermost image (variable_type image v))) (good.type_kinds _ core))
