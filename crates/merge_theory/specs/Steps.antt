-- The steps that a walk is made of: where it stands, what it ends in, a charge, and what is done with a conflict. Assumes nothing.
use Rattle.std.specs.Prelude.{Bool, true, false, ◌&&◌, ◌||◌, List, [], ◌∷◌, ◌++◌, ℕ, ◌+◌, eqb, leb, ltb, length}
use Rattle.std.proofs.Math.Option.{Option, none, some}
use Rattle.merge_theory.specs.Document.{Cause, number_of}

-- a conflict: the operation, what two fields conflict in, the first field of the part, the other field
pub data Entry : Type 0 where
  entry : ℕ → Cause → ℕ → ℕ → Entry

pub record State : Type 0 where
  -- the lists that were met in this pass, in order
  pub known : List (List ℕ)
  -- the units charged
  pub used : ℕ
  -- the conflicts that were listed, in order: none in an ordinary check
  pub entries : List Entry

-- ---- what a walk ends in

pub data Result : Type 0 where
  -- gone through
  finished : State → Result
  -- stopped at a conflict, which is not listed
  conflict : Entry → State → Result
  -- the next charge would pass the budget
  out : State → Result
  -- the levels were more than the walk was given (never: `never_deep`)
  deep : State → Result

abbrev pub IsFinished : Result → Type 0
IsFinished (finished z) = Unit {0}
IsFinished (conflict e z) = ⊥
IsFinished (out z) = ⊥
IsFinished (deep z) = ⊥

abbrev pub IsOut : Result → Type 0
IsOut (finished z) = ⊥
IsOut (conflict e z) = ⊥
IsOut (out z) = Unit {0}
IsOut (deep z) = ⊥

-- where it ended
abbrev pub state_of : Result → State
state_of (finished z) = z
state_of (conflict e z) = z
state_of (out z) = z
state_of (deep z) = z

abbrev pub Step : Type 0
Step = State → Result

-- "The walk stops there": only where it finished does it go on
unfoldable pub after : Result → Step → Result
after (finished z) next = next z
after (conflict e z) next = conflict e z
after (out z) next = out z
after (deep z) next = deep z

-- one step, then another
infixr 20 ◌then◌
abbrev pub ◌then◌ : Step → Step → Step
(first then next) z = after (first z) next

-- ---- a charge: "one that would pass the budget isn't made"

abbrev pub charged : ℕ → State → State
charged cost z = record { known = z.known; used = z.used + cost; entries = z.entries }

unfoldable pub charge_if : Bool → ℕ → Step
charge_if true cost z = finished (charged cost z)
charge_if false cost z = out z

unfoldable pub charge : ℕ → ℕ → Step
charge budget cost z = charge_if (leb (z.used + cost) budget) cost z

-- ---- a conflict

-- what is done with a conflict
abbrev pub Found : Type 0
Found = Entry → Step

-- the check "stops [..] at its first conflict"
abbrev pub stop : Found
stop = conflict

-- the listing has "each distinct entry once", and stops where "an entry finds no room"
unfoldable pub same_entry : Entry → Entry → Bool
same_entry (entry s c a b) (entry s' c' a' b') = eqb s s' && (eqb (number_of c) (number_of c') && (eqb a a' && eqb b b'))

unfoldable pub is_listed : Entry → List Entry → Bool
is_listed e [] = false
is_listed e (f ∷ entries) = same_entry e f || is_listed e entries

abbrev pub entered : Entry → State → State
entered e z = record { known = z.known; used = z.used; entries = z.entries ++ e ∷ [] }

unfoldable pub list_if : (isOld fits : Bool) → Found
list_if true fits e z = finished z
list_if false true e z = finished (entered e z)
list_if false false e z = conflict e z

-- with room for so many entries
unfoldable pub list : ℕ → Found
list room e z = list_if (is_listed e z.entries) (ltb (length z.entries) room) e z

-- the outcome of a comparison in operation s: the conflict, or nothing
unfoldable pub tell : Found → ℕ → Option Cause → ℕ → ℕ → Step
tell found s none a b = finished
tell found s (some c) a b = found (entry s c a b)
