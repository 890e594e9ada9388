-- Kinds 1 to 3 as the code gives them. Assumes nothing.
use Rattle.std.specs.Prelude.{ℕ, List, leb, Result, Ok, Err}
use Rattle.std.proofs.Math.Option.{Option, none, some}
use Rattle.lists.specs.First.{expect, ◌▷◌}
use Rattle.selection.specs.declared.arena.Reply.{Reply}
use Rattle.query.specs.Needed.{most_work, scratch_needed}
use Rattle.query.specs.Reply.{answer}
use Rattle.query.specs.declared.refuse.Refusal.{Refusal}
use Rattle.query.specs.Faults.{refusal_reply}

-- the answer
abbrev pub refused_shows : Result (Unit {0}) Refusal → Option Reply
refused_shows (Ok _) = none
refused_shows (Err r) = some (refusal_reply r)

-- 2 and 3
unfoldable pub sizes_fault : List ℕ → (work long : ℕ) → Option Reply
sizes_fault image work long =
    expect (leb work most_work) (answer 2 0 work 0 0) ▷
    expect (leb (scratch_needed image work) long) (answer 3 0 (scratch_needed image work) 0 0)
