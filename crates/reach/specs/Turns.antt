-- Something changed in turns. Assumes nothing.
use Rattle.std.specs.Prelude.{ℕ, zero, suc}

-- what a is after the turns 0 to n - 1
unfoldable pub turns : {A : Type 0} → (ℕ → A → A) → ℕ → A → A
turns turn zero a = a
turns turn (suc n) a = turn n (turns turn n a)
