-- Tests of the numbers below n: whether all pass, which is the first, how many there are, and whether their keys are distinct.
-- Assumes nothing.
use Rattle.std.specs.Prelude.{ℕ, zero, suc, ◌<◌, ◌+◌, ◌≡◌, Bool, true, cond, ◌&&◌, eqb, ltb, Option, Some, None}

-- every k below n passes
unfoldable pub every : ℕ → (ℕ → Bool) → Bool
every zero p = true
every (suc n) p = p zero && every n (λ k. p (suc k))

-- the least k below n that passes; n where none does
unfoldable pub position : ℕ → (ℕ → Bool) → ℕ
position zero p = zero
position (suc n) p = cond (p zero) zero (suc (position n (λ k. p (suc k))))

-- i, if it is below n: what a search below n answers, whose `position` is i
abbrev pub found : ℕ → ℕ → Option ℕ
found n i = cond (ltb i n) (Some i) None

-- a number to start from, and what each k below n adds to it
unfoldable pub total : ℕ → (ℕ → ℕ) → ℕ → ℕ
total start add zero = start
total start add (suc n) = total start add n + add n

-- the least k below n that has this key; n where none does
abbrev pub find : ℕ → (ℕ → ℕ) → ℕ → ℕ
find n key wanted = position n (λ k. eqb (key k) wanted)

-- no number below n has this key
unfoldable pub absent : ℕ → (ℕ → ℕ) → ℕ → Bool
absent n key wanted = eqb (find n key wanted) n

-- each k below n is the first that has its key
unfoldable pub distinct : ℕ → (ℕ → ℕ) → Bool
distinct n key = every n (λ k. eqb (find n key (key k)) k)

-- no two numbers below n have one key
abbrev pub Distinct : ℕ → (ℕ → ℕ) → Type 0
Distinct n key = (j k : ℕ) → j < n → k < n → key j ≡ key k → j ≡ k
