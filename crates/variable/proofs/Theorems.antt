-- The theorems of this crate, on an image without fault and of each of its operations: each of the kinds 10 to 13 is given exactly
-- if its rule is the first that fails, with its lowest failure. Assumes nothing.
use mathlib.Core.Path.{◌≡◌, refl, sym, ap, subst}
use mathlib.Core.Logic.{◌↔◌}
use mathlib.Core.List.{List}
use mathlib.Core.Option.{Option, none, some}
use Prim.Native.Nat.{ℕ, ◌<◌}
use native.Mathlib.Omega.{arith}
use Rattle.tables.specs.Layout.{operations}
use Rattle.tables.specs.Image.{count_at}
use Rattle.tables.specs.Good.{Good}
use Rattle.variable.specs.Verdict.{Shown, usage_fault}
use Rattle.variable.specs.Rules.{Lowest, AreUnique, Repeats, AreInputs, NoInput, AreUsed, Unused, AreAllowed, Misused, shown, Verdict, ten, eleven, twelve, thirteen, right}
use Rattle.variable.proofs.VerdictMeaning.{verdict_exactly}

kind_of : Option Shown → ℕ
kind_of none = 0
kind_of (some s) = s.kind

row_of : Option Shown → ℕ
row_of none = 0
row_of (some s) = s.a

module _ (image : List ℕ) (good : Good image) (i : ℕ) (known : i < count_at image operations) where
  -- 5.8.2 Variables Are Input Types
  pub ten_exactly : (v : ℕ) → (usage_fault image i ≡ shown image i 10 v) ↔ Lowest (NoInput image i) v
  unfolding kind_of row_of
  ten_exactly v = ((λ e. told ((verdict_exactly image good i known _).0 e)), (λ l. (verdict_exactly image good i known _).1 (ten v l refl)))
    where
      told : Verdict image i (shown image i 10 v) → Lowest (NoInput image i) v
      told (ten w l e) = subst (Lowest (NoInput image i)) (sym (ap row_of e)) l
      told (eleven w a l e) = let no : ◌≡◌ {A = ℕ} 10 11 = ap kind_of e in absurd (omega arith)
      told (twelve w a b l e) = let no : ◌≡◌ {A = ℕ} 10 12 = ap kind_of e in absurd (omega arith)
      told (thirteen w a b c l e) = let no : ◌≡◌ {A = ℕ} 10 13 = ap kind_of e in absurd (omega arith)
      told (right a b c d e) = let no : ◌≡◌ {A = ℕ} 10 0 = ap kind_of e in absurd (omega arith)

  -- 5.8.1 Variable Uniqueness
  pub eleven_exactly : (v : ℕ) → (usage_fault image i ≡ shown image i 11 v) ↔ (AreInputs image i × Lowest (Repeats image i) v)
  unfolding kind_of row_of
  eleven_exactly v = ((λ e. told ((verdict_exactly image good i known _).0 e)), (λ p. (verdict_exactly image good i known _).1 (eleven v p.0 p.1 refl)))
    where
      told : Verdict image i (shown image i 11 v) → AreInputs image i × Lowest (Repeats image i) v
      told (ten w l e) = let no : ◌≡◌ {A = ℕ} 11 10 = ap kind_of e in absurd (omega arith)
      told (eleven w a l e) = (a, subst (Lowest (Repeats image i)) (sym (ap row_of e)) l)
      told (twelve w a b l e) = let no : ◌≡◌ {A = ℕ} 11 12 = ap kind_of e in absurd (omega arith)
      told (thirteen w a b c l e) = let no : ◌≡◌ {A = ℕ} 11 13 = ap kind_of e in absurd (omega arith)
      told (right a b c d e) = let no : ◌≡◌ {A = ℕ} 11 0 = ap kind_of e in absurd (omega arith)

  -- 5.8.4 All Variables Used
  pub twelve_exactly : (v : ℕ) → (usage_fault image i ≡ shown image i 12 v) ↔ (AreInputs image i × AreUnique image i × Lowest (Unused image i) v)
  unfolding kind_of row_of
  twelve_exactly v = ((λ e. told ((verdict_exactly image good i known _).0 e)), (λ p. (verdict_exactly image good i known _).1 (twelve v p.0 p.1 p.2 refl)))
    where
      told : Verdict image i (shown image i 12 v) → AreInputs image i × AreUnique image i × Lowest (Unused image i) v
      told (ten w l e) = let no : ◌≡◌ {A = ℕ} 12 10 = ap kind_of e in absurd (omega arith)
      told (eleven w a l e) = let no : ◌≡◌ {A = ℕ} 12 11 = ap kind_of e in absurd (omega arith)
      told (twelve w a b l e) = (a, b, subst (Lowest (Unused image i)) (sym (ap row_of e)) l)
      told (thirteen w a b c l e) = let no : ◌≡◌ {A = ℕ} 12 13 = ap kind_of e in absurd (omega arith)
      told (right a b c d e) = let no : ◌≡◌ {A = ℕ} 12 0 = ap kind_of e in absurd (omega arith)

  -- 5.8.5 All Variable Usages Are Allowed
  pub thirteen_exactly : (a : ℕ) → (usage_fault image i ≡ shown image i 13 a) ↔ (AreInputs image i × AreUnique image i × AreUsed image i × Lowest (Misused image i) a)
  unfolding kind_of row_of
  thirteen_exactly a = ((λ e. told ((verdict_exactly image good i known _).0 e)), (λ p. (verdict_exactly image good i known _).1 (thirteen a p.0 p.1 p.2 p.3 refl)))
    where
      told : Verdict image i (shown image i 13 a) → AreInputs image i × AreUnique image i × AreUsed image i × Lowest (Misused image i) a
      told (ten w l e) = let no : ◌≡◌ {A = ℕ} 13 10 = ap kind_of e in absurd (omega arith)
      told (eleven w b l e) = let no : ◌≡◌ {A = ℕ} 13 11 = ap kind_of e in absurd (omega arith)
      told (twelve w b c l e) = let no : ◌≡◌ {A = ℕ} 13 12 = ap kind_of e in absurd (omega arith)
      told (thirteen w b c d l e) = (b, c, d, subst (Lowest (Misused image i)) (sym (ap row_of e)) l)
      told (right b c d f e) = let no : ◌≡◌ {A = ℕ} 13 0 = ap kind_of e in absurd (omega arith)

  -- all four hold
  pub right_exactly : (usage_fault image i ≡ none) ↔ (AreInputs image i × AreUnique image i × AreUsed image i × AreAllowed image i)
  unfolding kind_of row_of
  right_exactly = ((λ e. told ((verdict_exactly image good i known _).0 e)), (λ p. (verdict_exactly image good i known _).1 (right p.0 p.1 p.2 p.3 refl)))
    where
      told : Verdict image i none → AreInputs image i × AreUnique image i × AreUsed image i × AreAllowed image i
      told (ten w l e) = let no : ◌≡◌ {A = ℕ} 0 10 = ap kind_of e in absurd (omega arith)
      told (eleven w a l e) = let no : ◌≡◌ {A = ℕ} 0 11 = ap kind_of e in absurd (omega arith)
      told (twelve w a b l e) = let no : ◌≡◌ {A = ℕ} 0 12 = ap kind_of e in absurd (omega arith)
      told (thirteen w a b c l e) = let no : ◌≡◌ {A = ℕ} 0 13 = ap kind_of e in absurd (omega arith)
      told (right a b c d e) = (a, b, c, d)
