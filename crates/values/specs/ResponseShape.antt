-- What GraphQL's SameResponseShape asks of the types of two fields (October 2021, 5.3.2), over the types that their references stand
-- for. Assumes nothing.
use Rattle.std.specs.Prelude.{ℕ, ◌≤◌, ◌≡◌, ◌⊎◌}
use Rattle.tables.specs.TypeOf.{Ty, named, list_of, non_null}
use Rattle.values.specs.Shape.{scalar, enumeration}
pub use Rattle.tables.specs.TypeOf.{StandsFor}

-- the type of a field
abbrev pub OutputType : Type 0
OutputType = Ty

-- scalar or enum; object, interface or union
abbrev pub Leaf : ℕ → Type 0
Leaf kind = (kind ≡ scalar) ⊎ (kind ≡ enumeration)

pub record Composite (kind : ℕ) : Type 0 where
  pub from_object : 1 ≤ kind
  pub to_union : kind ≤ 3

-- Step by step, with the steps' text shortened beside.
pub data SameTypes (kind_of : ℕ → ℕ) : Ty → Ty → Type 0 where
  -- 3. If typeA or typeB is Non-Null: if either is nullable, return false; go on with their nullable types.
  non_nulls : {s t : Ty} → SameTypes kind_of s t → SameTypes kind_of (non_null s) (non_null t)
  -- 4. If typeA or typeB is List: if either is not List, return false; repeat with their item types.
  items : {s t : Ty} → SameTypes kind_of s t → SameTypes kind_of (list_of s) (list_of t)
  -- 5. If typeA or typeB is Scalar or Enum: return true if they are the same type, otherwise false.
  leaves : {s t : ℕ} → Leaf (kind_of s) → s ≡ t → SameTypes kind_of (named s) (named t)
  -- 6. If typeA or typeB is not a composite type, return false.
  composites : {s t : ℕ} → Composite (kind_of s) → Composite (kind_of t) → SameTypes kind_of (named s) (named t)
