-- What the check replies: the order of all kinds, and what each shows. Hold it beside the table in README. Merging is put
-- to an engine, `run`: the check's is `check`, the merge walk.
use Rattle.std.specs.Prelude.{ℕ, zero, suc, List, ◌++◌, leb, length, drop, replicate}
use Rattle.std.proofs.Math.Option.{Option, none, some}
use Rattle.lists.specs.First.{expect, ◌▷◌}
use Rattle.merge_theory.specs.Document.{Document, number_of}
use Rattle.merge_theory.specs.Engine.{Engine}
use Rattle.merge_theory.specs.Steps.{entry, Result, finished, conflict, out, deep}
use Rattle.merge_theory.specs.Walk.{check}
use Rattle.tables.specs.Layout.{operations}
use Rattle.tables.specs.Image.{count_at}
use Rattle.tables.specs.Header.{Refusal, header_fault}
use Rattle.rows.specs.RowFault.{row_fault}
use Rattle.variable.specs.Verdict.{Shown, usage_fault}
use Rattle.fragment.specs.Rules as fragment
use Rattle.expand.specs.ImageDocument.{document_by}
use Rattle.selection.specs.declared.arena.Reply.{Reply}
use Rattle.values.specs.Same.{same_arguments}
use Rattle.values.specs.Shape.{same_shape}
use Rattle.query.specs.Needed.{most_work, scratch_needed}

abbrev pub answer : (kind operation a b used : ℕ) → Reply
answer kind operation a b used = record { kind = kind; operation = operation; a = a; b = b; used = used }

-- the image as the document that the merge rules speak of
abbrev pub document_of : List ℕ → Document
document_of image = document_by (same_shape image) (same_arguments image) image

-- ---- what the readers and rules show, as replies

-- 1 and 4
abbrev pub of_image : Option Refusal → Option Reply
of_image none = none
of_image (some r) = some (answer r.kind 0 r.a r.b 0)

-- 5 to 9
abbrev pub of_fragments : Option fragment.Refusal → Option Reply
of_fragments none = none
of_fragments (some r) = some (answer r.kind r.operation r.a 0 0)

-- 10 to 13, of operation i, with what the operations before it used
abbrev pub of_variables : (i used : ℕ) → Option Shown → Option Reply
of_variables i used none = none
of_variables i used (some r) = some (answer r.kind i r.a 0 used)

-- 14 to 17, of operation i; else the later operations go on from what is used by then
abbrev pub of_walk : (i : ℕ) → Result → (ℕ → Reply) → Reply
of_walk i (finished y) later = later y.used
of_walk i (conflict (entry s cause a b) y) later = answer (number_of cause) i a b y.used
of_walk i (out y) later = answer 17 i 0 0 y.used
-- never: the levels suffice. If it were, it would be a refusal
of_walk i (deep y) later = answer 17 i 0 0 y.used

abbrev pub or_else : Option Reply → Reply → Reply
or_else none later = later
or_else (some r) later = r

-- ---- the order of all kinds

module _ (image : List ℕ) (work : ℕ) where
  -- 1, 2, 3: the header, the budget, the scratch, of which so many words are lent
  unfoldable pub refused : ℕ → Option Reply
  refused long =
      of_image (header_fault image) ▷
      expect (leb work most_work) (answer 2 0 work 0 0) ▷
      expect (leb (scratch_needed image work) long) (answer 3 0 (scratch_needed image work) 0 0)

-- 4, then 5 to 9
unfoldable pub faulty : List ℕ → Option Reply
faulty image = of_image (row_fault image) ▷ of_fragments (fragment.fragments_fault image)

module _ (run : Engine) (image : List ℕ) (work : ℕ) where
  -- 10 to 17 of operation i, then the operations after it, `left` of them in all
  unfoldable pub operations_from : (left i used : ℕ) → Reply
  operations_from zero i used = answer 0 0 0 0 used
  operations_from (suc left) i used =
      let walked = of_walk i (run (document_of image) work used i) (operations_from left (suc i)) in
      or_else (of_variables i used (usage_fault image i)) walked

  -- 10 to 17 of all operations
  abbrev pub walked_reply : Reply
  walked_reply = operations_from (count_at image operations) 0 0

  -- the whole, with so many words of scratch
  unfoldable pub reply_by : ℕ → Reply
  reply_by long =
      let walked = walked_reply in
      let judged = or_else (faulty image) walked in
      or_else (refused image work long) judged

-- the reply of the check
abbrev pub reply : List ℕ → (work long : ℕ) → Reply
reply image work long = reply_by check image work long

-- ---- the scratch after it: as before on 1 to 3; else its needed words 0, and those beyond as before

module _ (image : List ℕ) (work : ℕ) where
  abbrev pub cleared_unless : Option Reply → List ℕ → List ℕ
  cleared_unless none s = replicate (scratch_needed image work) 0 ++ drop (scratch_needed image work) s
  cleared_unless (some r) s = s

  unfoldable pub scratch_after : List ℕ → List ℕ
  scratch_after s = cleared_unless (refused image work (length s)) s
