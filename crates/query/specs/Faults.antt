-- The faults of the stages as replies. Assumes nothing.
use Rattle.std.specs.Prelude.{ℕ}
use Rattle.rows.specs.declared.BadImage.{BadImage}
use Rattle.rows.specs.RowFault as rows
use Rattle.fragment.specs.declared.rules.FragmentError.{FragmentError}
use Rattle.fragment.specs.Rules as fragment
use Rattle.variable.specs.declared.rules.VariableError.{VariableError}
use Rattle.variable.specs.Verdict as variable
use Rattle.selection.specs.declared.arena.Reply.{Reply}
use Rattle.query.specs.Reply.{answer}
use Rattle.query.specs.declared.refuse.Refusal.{Refusal}
use Rattle.query.specs.declared.refuse.Refusal.TheVariants.{Header, Budget, Scratch}
use Rattle.query.specs.declared.fault.Fault.{Fault}
use Rattle.query.specs.declared.fault.Fault.TheVariants.{Refused, Image, Fragments, Variables, Walk}

-- 1 to 3
abbrev pub refusal_reply : Refusal → Reply
refusal_reply (Header bad) = answer 1 0 bad.word 0 0
refusal_reply (Budget work) = answer 2 0 work 0 0
refusal_reply (Scratch needed) = answer 3 0 needed 0 0

-- 4; and 1, where the image has no rows
abbrev pub image_reply : BadImage → Reply
image_reply bad = let r = rows.error_shows bad in answer r.kind 0 r.a r.b 0

-- 5 to 9
abbrev pub fragments_reply : FragmentError → Reply
fragments_reply error = let r = fragment.error_shows error in answer r.kind r.operation r.a 0 0

-- 10 to 13 of operation i, with what the operations before it used
abbrev pub variables_reply : VariableError → (i used : ℕ) → Reply
variables_reply error i used = let r = variable.error_shows error in answer r.kind i r.a 0 used

abbrev pub fault_reply : Fault → Reply
fault_reply (Refused refusal) = refusal_reply refusal
fault_reply (Image bad) = image_reply bad
fault_reply (Fragments error) = fragments_reply error
fault_reply (Variables error i used) = variables_reply error i used
fault_reply (Walk reply) = reply
