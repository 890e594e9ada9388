-- What the stages of the check give: what the walks have used, or the fault that ends it. Assumes nothing.
use Rattle.std.specs.Prelude.{ℕ, ◌≢◌, Result, Ok, Err}
use Rattle.selection.specs.declared.arena.Reply.{Reply}
use Rattle.query.specs.declared.fault.Fault.{Fault}
use Rattle.query.specs.Reply.{answer}
use Rattle.query.specs.Faults.{fault_reply}

-- as a reply: where all passes, that of operation i
abbrev pub outcome : (i : ℕ) → Result ℕ Fault → Reply
outcome i (Ok used) = answer 0 i 0 0 used
outcome i (Err fault) = fault_reply fault

-- a fault is of a kind above 0
abbrev pub Stops : Result ℕ Fault → Type 0
Stops (Ok used) = Unit {0}
Stops (Err fault) = (fault_reply fault).kind ≢ 0
