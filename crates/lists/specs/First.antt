-- The first fault of many. A fault is whatever a reply shows of it, so everything here is over its type.
-- Assumes nothing.
use Rattle.std.specs.Prelude.{ℕ, zero, suc, Bool, true, false}
use Rattle.std.proofs.Math.Option.{Option, none, some}

module _ {A : Type 0} where
  -- the test passes, or this is the fault
  unfoldable pub expect : Bool → A → Option A
  expect true fault = none
  expect false fault = some fault

  infixr 30 ◌▷◌
  -- the first of two faults
  unfoldable pub ◌▷◌ : Option A → Option A → Option A
  none ▷ next = next
  some fault ▷ next = some fault

  -- the first of the faults 0 to n - 1
  unfoldable pub first_fault : (ℕ → Option A) → ℕ → Option A
  first_fault fault zero = none
  first_fault fault (suc n) = first_fault fault n ▷ fault n
