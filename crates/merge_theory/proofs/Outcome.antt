-- What holds of a walk's result, by how it ended, carried through the walk's steps once and for all. Assumes nothing.
use mathlib.Core.Option.{Option, none, some}
use Rattle.merge_theory.specs.Document.{Cause}
use Rattle.merge_theory.specs.Steps.{Entry, State, Result, finished, conflict, out, deep, Step, after}

-- a fact of where a walk stands
abbrev pub Fact : Type 1
Fact = State → Type 0

-- what is to hold where a walk stops
pub record Stops : Type 1 where
  pub on_conflict : Entry → Fact
  pub on_out : Fact
  pub on_deep : Fact

-- nothing is asked where a walk finishes; nothing where it stops
abbrev pub Anyhow : Fact
Anyhow z = Unit {0}

abbrev pub AnyStop : Stops
AnyStop = record { on_conflict = λ e z. Unit {0}; on_out = λ z. Unit {0}; on_deep = λ z. Unit {0} }

-- a walk may stop at any conflict, and never for want of levels
abbrev pub Shallow : Stops
Shallow = record { on_conflict = λ e z. Unit {0}; on_out = λ z. Unit {0}; on_deep = λ z. ⊥ }

-- one fact of wherever the walk stops
abbrev pub Everywhere : Fact → Stops
Everywhere F = record { on_conflict = λ e z. F z; on_out = F; on_deep = F }

-- `F` where the walk finished, and `Q` where it stopped
abbrev pub Meets : Fact → Stops → Result → Type 0
Meets F Q (finished z) = F z
Meets F Q (conflict e z) = Q.on_conflict e z
Meets F Q (out z) = Q.on_out z
Meets F Q (deep z) = Q.on_deep z

pub meets_after : (F G : Fact) (Q : Stops) (r : Result) (next : Step)
    → Meets F Q r → ((z : State) → F z → Meets G Q (next z)) → Meets G Q (after r next)
unfolding after
meets_after F G Q (finished z) next h go = go z h
meets_after F G Q (conflict e z) next h go = h
meets_after F G Q (out z) next h go = h
meets_after F G Q (deep z) next h go = h

-- a finished walk's fact may be weakened
pub meets_weaken : (F G : Fact) (Q : Stops) (r : Result) → ((z : State) → F z → G z) → Meets F Q r → Meets G Q r
meets_weaken F G Q (finished z) go h = go z h
meets_weaken F G Q (conflict e z) go h = h
meets_weaken F G Q (out z) go h = h
meets_weaken F G Q (deep z) go h = h

-- ---- a comparison's outcome

-- what is told of the cause, if there is one
abbrev pub Told : (Cause → Type 0) → Option Cause → Type 0
Told Bad none = Unit {0}
Told Bad (some c) = Bad c

-- there is none
abbrev pub Silent : Option Cause → Type 0
Silent none = Unit {0}
Silent (some c) = ⊥
