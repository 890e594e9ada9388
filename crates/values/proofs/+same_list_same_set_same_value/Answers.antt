-- The answers for the cycle of calls {same_list, same_set, same_value}. Assumes nothing.
use borrow.Author.Count.{below_none, below_more}
use mathlib.Core.Path.{◌≡◌, sym, ap, ap₂, ◌∙◌}
use Prim.Native.Nat.{ℕ}
use native.Mathlib.Omega.{arith}
use mathlib.Core.List.{List}
use mathlib.Core.Bool.{Bool}
use Rattle.std.proofs.Common.{rules}
use Rattle.tables.specs.declared.Range.{Range}
use Rattle.tables.specs.Image.{row_in}
use Rattle.tables.specs.Keys.{key_of}
use Rattle.tables.specs.Columns.{list, object}
use Rattle.values.specs.Same.{place_of, same_value}
use Rattle.values.proofs.SameCases.{list_unlike, list_differs, list_same, set_differs, set_left, unmatched_key, unmatched_value, match_found}
use Rattle.values.proofs.SameCases.{key_missing, key_there, value_none, value_unlike, value_lists, value_objects, value_atoms}
use Rattle.values.proofs.+same_list_same_set_same_value.Goals as goal
use Rattle.values.proofs.+same_list_same_set_same_value.Goals.{same_value-in_default-via-in-Some+in_default, same_value-in_default-via-in_default}

-- what a turn's call says of two members
member : (image : List ℕ) (level : ℕ) (left right : Range) (i : ℕ) {l r : ℕ} {b : Bool} → b ≡ same_value image level l r → l ≡ row_in left i → r ≡ row_in right i
    → b ≡ same_value image level (row_in left i) (row_in right i)
member image level left right i e here there = e ∙ ap₂ (λ (x y : ℕ). same_value image level x y) here there

-- what it says of a row and its match
matching : (image : List ℕ) (table level : ℕ) (left right : Range) (i : ℕ) {l r p : ℕ} {b : Bool} → b ≡ same_value image level l r → l ≡ row_in left i → r ≡ row_in right p
    → p ≡ place_of (key_of image table) right (key_of image table (row_in left i))
    → b ≡ same_value image level (row_in left i) (row_in right (place_of (key_of image table) right (key_of image table (row_in left i))))
matching image table level left right i e here there place = e ∙ ap₂ (λ (x y : ℕ). same_value image level x y) here (there ∙ ap (row_in right) place)

pub same_list-returns-then-left-right : goal.same_list-returns-then-left-right
same_list-returns-then-left-right t c = sym (list_unlike _ _ _ c.if-left-right.true)

pub same_list-loop-i-init : goal.same_list-loop-i-init
same_list-loop-i-init t c = below_none _

pub same_list-loop-i-preserved : goal.same_list-loop-i-preserved
same_list-loop-i-preserved t c =
    let here = member c.args.image.now c.args.level c.args.left c.args.right c.loop-i.i c.same_value.ensures c.row.ensures c.row-in-loop-i.ensures in
    below_more _ c.loop-i.i c.loop-i.invariant (sym here ∙ c.if-not-same_value.false)

pub same_list-returns-then-not-same_value : goal.same_list-returns-then-not-same_value
same_list-returns-then-not-same_value t c =
    let here = member c.args.image.now c.args.level c.args.left c.args.right c.loop-i.i c.same_value.ensures c.row.ensures c.row-in-loop-i.ensures in
    sym (list_differs _ _ _ c.loop-i.i c.loop-i-test.true (sym here ∙ c.if-not-same_value.true))

pub same_list-returns : goal.same_list-returns
same_list-returns t c = sym (list_same _ _ _ c.if-left-right.false (λ k l. c.loop-i.invariant k (omega arith)))

pub same_set-loop-i-init : goal.same_set-loop-i-init
same_set-loop-i-init t c = below_none _

pub same_set-returns-in_default : goal.same_set-returns-in_default
same_set-returns-in_default t c =
    let missing = key_missing (key_of c.args.image.now c.args.table) c.args.right _ c.row-row.ensures c.key_of.ensures c.in_default.ensures in
    sym (set_differs _ _ _ _ c.loop-i.i c.loop-i-test.true (unmatched_key _ _ _ _ missing))

pub same_set-loop-i-preserved : goal.same_set-loop-i-preserved
same_set-loop-i-preserved t c =
    let there = key_there (key_of c.args.image.now c.args.table) c.args.right _ c.row-row.ensures c.key_of.ensures c.in-Some.ensures in
    let pair = matching c.args.image.now c.args.table c.args.level c.args.left c.args.right c.loop-i.i c.same_value.ensures c.row-row.ensures c.row.ensures there.0 in
    let matched = match_found _ _ _ _ there.1 (sym pair ∙ c.if-not-same_value.false) in
    below_more _ c.loop-i.i c.loop-i.invariant matched

pub same_set-returns-then-not-same_value : goal.same_set-returns-then-not-same_value
same_set-returns-then-not-same_value t c =
    let there = key_there (key_of c.args.image.now c.args.table) c.args.right _ c.row-row.ensures c.key_of.ensures c.in-Some.ensures in
    let pair = matching c.args.image.now c.args.table c.args.level c.args.left c.args.right c.loop-i.i c.same_value.ensures c.row-row.ensures c.row.ensures there.0 in
    sym (set_differs _ _ _ _ c.loop-i.i c.loop-i-test.true (unmatched_value _ _ _ _ (sym pair ∙ c.if-not-same_value.true)))

pub same_set-returns : goal.same_set-returns
same_set-returns t c = c.are_keys_within.ensures ∙ sym (set_left _ _ _ _ (λ k l. c.loop-i.invariant k (omega arith)))

pub same_value-returns-then-level-eq0 : goal.same_value-returns-then-level-eq0
same_value-returns-then-level-eq0 t c = sym (value_none _ _ _ _ c.if-level-eq0.true)

pub same_value-returns-then-kind-value_kind : goal.same_value-returns-then-kind-value_kind
same_value-returns-then-kind-value_kind t c =
    value_unlike _ _ _ _ c.if-level-eq0.false c.value_kind-kind.ensures c.value_kind.ensures c.if-kind-value_kind.true

pub same_value-returns-in-Some-List : goal.same_value-returns-in-Some-List
same_value-returns-in-Some-List t c =
    value_lists _ _ _ _ c.if-level-eq0.false c.value_kind-kind.ensures (c.if-kind-value_kind.false ∙ c.value_kind.ensures) (rw c.in-Some-List.field-0-is at c.in-Some-List.ensures)
    c.value_members-ours.ensures c.value_members-theirs.ensures c.same_list.ensures

pub same_value-returns-in-Some-Object : goal.same_value-returns-in-Some-Object
same_value-returns-in-Some-Object t c =
    value_objects _ _ _ _ c.if-level-eq0.false c.value_kind-kind.ensures (c.if-kind-value_kind.false ∙ c.value_kind.ensures) (rw c.in-Some-Object.field-0-is at c.in-Some-Object.ensures)
    c.value_members-ours-in-Some-Object.ensures c.value_members-theirs-in-Some-Object.ensures c.same_set.ensures

pub same_value-returns-in_default : goal.same_value-returns-in_default
same_value-returns-in_default t c =
    let no-list : c.value_kind-kind.result ≡ list → ⊥ = λ e. search rules in
    let no-object : c.value_kind-kind.result ≡ object → ⊥ = λ e. search rules in
    value_atoms _ _ _ _ c.if-level-eq0.false c.value_kind-kind.ensures (c.if-kind-value_kind.false ∙ c.value_kind.ensures) no-list no-object
    c.value_atom.ensures c.value_atom-in_default.ensures
