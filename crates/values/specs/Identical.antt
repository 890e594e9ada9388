-- What GraphQL's Field Selection Merging calls identical sets of arguments (October 2021, 5.3.2): unordered, by name; values compared
-- as written, a variable by its name, object fields unordered. No levels are counted.
-- Assumes nothing.
use Rattle.std.specs.Prelude.{ℕ, ◌<◌, ◌≡◌, List}
use Rattle.tables.specs.declared.Range.{Range}
use Rattle.tables.specs.Image.{row_in}
use Rattle.tables.specs.Columns.{list, object, argument_name, value_kind, value_key, value_atom, value_members}

-- each row of the one has its partner, of the same key, among the rows of the other
pub record Paired (key : ℕ → ℕ) (one other : Range) (partner : ℕ → ℕ) : Type 0 where
  pub there : (k : ℕ) → k < one.count → partner k < other.count
  pub one_key : (k : ℕ) → k < one.count → key (row_in other (partner k)) ≡ key (row_in one k)

pub data Identical (image : List ℕ) : ℕ → ℕ → Type 0 where
  -- null, booleans, numbers, strings, enums, variables
  atoms : {l r : ℕ} → value_kind image l ≡ value_kind image r → (value_kind image l ≡ list → ⊥) → (value_kind image l ≡ object → ⊥)
      → value_atom image l ≡ value_atom image r → Identical image l r
  lists : {l r : ℕ} → value_kind image l ≡ list → value_kind image r ≡ list → (value_members image l).count ≡ (value_members image r).count
      → ((k : ℕ) → k < (value_members image l).count → Identical image (row_in (value_members image l) k) (row_in (value_members image r) k))
      → Identical image l r
  objects : {l r : ℕ} → value_kind image l ≡ object → value_kind image r ≡ object → (to back : ℕ → ℕ)
      → Paired (value_key image) (value_members image l) (value_members image r) to
      → Paired (value_key image) (value_members image r) (value_members image l) back
      → ((k : ℕ) → k < (value_members image l).count → Identical image (row_in (value_members image l) k) (row_in (value_members image r) (to k)))
      → Identical image l r

-- argument a has value row a
pub record IdenticalArguments (image : List ℕ) (left right : Range) : Type 0 where
  pub to : ℕ → ℕ
  pub back : ℕ → ℕ
  pub forth_paired : Paired (argument_name image) left right to
  pub back_paired : Paired (argument_name image) right left back
  pub values : (k : ℕ) → k < left.count → Identical image (row_in left k) (row_in right (to k))
