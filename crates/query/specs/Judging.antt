-- The stages of the check, from within: what each takes for granted, and what it says.
use Rattle.std.specs.Prelude.{ℕ, ◌≤◌, ◌≡◌, List, ◌++◌, length, drop, replicate}
use Rattle.std.proofs.Math.Option.{none}
use Rattle.merge_theory.specs.Walk.{check}
use Rattle.tables.specs.Header.{header_fault}
use Rattle.tables.specs.Good.{Good}
use Rattle.fragment.specs.Rules as fragment
use Rattle.selection.specs.declared.arena.Reply.{Reply}
use Rattle.query.specs.Needed.{most_work, scratch_needed}
use Rattle.query.specs.Reply.{of_fragments, or_else, faulty, walked_reply}

module _ (image : List ℕ) (work : ℕ) where
  -- kinds 1 to 3 have no cause
  pub record Room (long : ℕ) : Type 0 where
    pub header : header_fault image ≡ none
    pub limit : work ≤ most_work
    pub room : scratch_needed image work ≤ long

  -- nor has 4
  pub record Fits (long : ℕ) : Type 0 where
    pub good : Good image
    pub limit : work ≤ most_work
    pub room : scratch_needed image work ≤ long

  -- 5 to 17
  pub record JudgesDocument (s s' : List ℕ) (r : Reply) : Type 0 where
    pub long : length s' ≡ length s
    pub says : r ≡ or_else (of_fragments (fragment.fragments_fault image)) (walked_reply check image work)

  -- 4 to 17
  pub record JudgesImage (s s' : List ℕ) (r : Reply) : Type 0 where
    pub long : length s' ≡ length s
    pub says : r ≡ or_else (faulty image) (walked_reply check image work)

  -- and the needed words end as 0
  pub record JudgesAll (s s' : List ℕ) (r : Reply) : Type 0 where
    pub says : r ≡ or_else (faulty image) (walked_reply check image work)
    pub clear : s' ≡ replicate (scratch_needed image work) 0 ++ drop (scratch_needed image work) s
