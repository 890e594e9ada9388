-- The specification's algorithms on types, October 2021 (IsInputType of 5.8.2, and those of 5.8.5), step by step with the steps' text
-- beside, shortened. Which type a reference stands for is said in tables. Assumes nothing.
use Rattle.std.specs.Prelude.{ℕ, Bool, true, false, cond, not, ◌&&◌, ◌||◌, List, eqb}
use Rattle.tables.specs.Columns.{type_kind}
use Rattle.tables.specs.TypeOf.{Ty, named, list_of, non_null}

unfoldable pub is_non_null_type : Ty → Bool
is_non_null_type (named t) = false
is_non_null_type (list_of t) = false
is_non_null_type (non_null t) = true

-- the unwrapped nullable type of a type
unfoldable pub nullable_of : Ty → Ty
nullable_of (named t) = named t
nullable_of (list_of t) = list_of t
nullable_of (non_null t) = t

-- ---- 5.8.2 IsInputType(type), the kind of a named type being given

module _ (kind_of : ℕ → ℕ) where
  unfoldable pub is_input_type : Ty → Bool
  -- If type is a List type or Non-Null type: return IsInputType of the unwrapped type.
  is_input_type (list_of t) = is_input_type t
  is_input_type (non_null t) = is_input_type t
  -- If type is a Scalar, Enum, or Input Object type: return true. Return false.
  is_input_type (named t) = eqb (kind_of t) 0 || eqb (kind_of t) 4 || eqb (kind_of t) 5

-- ---- 5.8.5 AreTypesCompatible(variable_type, locationType)

unfoldable pub are_types_compatible : (variable_type locationType : Ty) → Bool
-- 1. If locationType is a non-null type: if variable_type is NOT a non-null type, return false;
--    return AreTypesCompatible of the two unwrapped nullable types.
are_types_compatible (named v) (non_null l) = false
are_types_compatible (list_of v) (non_null l) = false
are_types_compatible (non_null v) (non_null l) = are_types_compatible v l
-- 2. Otherwise, if variable_type is a non-null type: return AreTypesCompatible(nullableVariableType, locationType).
are_types_compatible (non_null v) (named l) = are_types_compatible v (named l)
are_types_compatible (non_null v) (list_of l) = are_types_compatible v (list_of l)
-- 3. Otherwise, if locationType is a list type: if variable_type is NOT a list type, return false;
--    return AreTypesCompatible(itemVariableType, itemLocationType).
are_types_compatible (named v) (list_of l) = false
are_types_compatible (list_of v) (list_of l) = are_types_compatible v l
-- 4. Otherwise, if variable_type is a list type, return false.
are_types_compatible (list_of v) (named l) = false
-- 5. Return true if variable_type and locationType are identical, otherwise false.
are_types_compatible (named v) (named l) = eqb v l

-- ---- 5.8.5 IsVariableUsageAllowed(variableDefinition, variableUsage)

-- A default that is null counts as a default.
unfoldable pub is_variable_usage_allowed : (variable_type locationType : Ty) (hasVariableDefaultValue hasLocationDefaultValue : Bool) → Bool
is_variable_usage_allowed variable_type locationType hasVariableDefaultValue hasLocationDefaultValue =
    -- 3. If locationType is a non-null type AND variable_type is NOT a non-null type:
    cond (is_non_null_type locationType && not (is_non_null_type variable_type))
    --    if hasNonNullVariableDefaultValue is NOT true AND hasLocationDefaultValue is NOT true, return false;
    --    return AreTypesCompatible(variable_type, nullableLocationType).
    ((hasVariableDefaultValue || hasLocationDefaultValue) && are_types_compatible variable_type (nullable_of locationType))
    -- 4. Return AreTypesCompatible(variable_type, locationType).
    (are_types_compatible variable_type locationType)

-- ---- what is read of a reference and of a type row

-- reference kinds: 0 named, 1 non-null named, 2 list, 3 non-null list
unfoldable pub is_non_null : ℕ → Bool
is_non_null kind = eqb kind 1 || eqb kind 3

-- the kind of a type row, for `is_input_type`
abbrev pub kind_at : List ℕ → ℕ → ℕ
kind_at image t = type_kind image t
