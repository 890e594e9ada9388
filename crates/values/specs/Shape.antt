-- When two output types have one shape (wrappers and nullability must match; leaves need one
-- type; any two composites agree). It is what GraphQL's SameResponseShape asks of the types of two fields.
-- Assumes nothing.
use Rattle.std.specs.Prelude.{ℕ, zero, suc, Bool, false, cond, ◌&&◌, ◌||◌, List, eqb, leb, ltb}
use Rattle.tables.specs.Columns.{type_kind, reference_kind, reference_child, is_composite}

-- type kinds 0 and 4
abbrev pub scalar : ℕ
scalar = 0

abbrev pub enumeration : ℕ
enumeration = 4

unfoldable pub is_leaf : ℕ → Bool
is_leaf kind = eqb kind scalar || eqb kind enumeration

-- reference kinds: two names (0, 1) or two lists (2, 3) of one nullability
unfoldable pub are_names : ℕ → ℕ → Bool
are_names left right = leb left 1 && eqb left right

unfoldable pub are_lists : ℕ → ℕ → Bool
are_lists left right = leb 2 left && leb left 3 && eqb left right

module _ (image : List ℕ) where
  -- leaves need one type; any two composites agree
  unfoldable pub same_named : ℕ → ℕ → Bool
  same_named left right =
      cond (is_leaf (type_kind image left))
      (is_leaf (type_kind image right) && eqb left right)
      (is_composite (type_kind image left) && is_composite (type_kind image right))

  -- in so many steps; a list whose child is no earlier reference has no shape
  unfoldable pub same_shape_in : (steps left right : ℕ) → Bool
  same_shape_in zero left right = false
  same_shape_in (suc steps) left right =
      let items = same_shape_in steps (reference_child image left) (reference_child image right) in
      cond (are_names (reference_kind image left) (reference_kind image right))
      (same_named (reference_child image left) (reference_child image right))
      (are_lists (reference_kind image left) (reference_kind image right) && ltb (reference_child image left) left && items)

  -- children are earlier, so one step more than the left row's number suffices
  unfoldable pub same_shape : ℕ → ℕ → Bool
  same_shape left right = same_shape_in (suc left) left right
