-- Kinds 10 to 17 of one operation, as the code gives them.
use Rattle.std.specs.Prelude.{ℕ, ◌+◌, ◌≤◌, ◌≡◌, List, length, drop}
use Rattle.std.proofs.Math.Option.{none}
use Rattle.merge_theory.specs.Engine.{Engine}
use Rattle.merge_theory.specs.Walk.{check}
use Rattle.tables.specs.Layout.{selections}
use Rattle.tables.specs.Image.{count_at}
use Rattle.tables.specs.Good.{Good}
use Rattle.variable.specs.Uses.{uses_words}
use Rattle.variable.specs.Verdict.{usage_fault}
use Rattle.fragment.specs.Rules as fragment
use Rattle.selection.specs.declared.arena.Reply.{Reply}
use Rattle.selection.specs.Regions.{arena_of}
use Rattle.selection.specs.Classes.{Prepared}
use Rattle.selection.specs.Refining.{reply_of}
use Rattle.query.specs.Needed.{most_work}
use Rattle.query.specs.Reply.{document_of, of_variables, or_else, walked_reply}

-- an operation's own answer by an engine: kind 0 where it passes, with what is used by then
unfoldable pub operation_reply : Engine → List ℕ → (work i used : ℕ) → Reply
operation_reply run image work i used =
    let walked = reply_of i (run (document_of image) work used i) in
    or_else (of_variables i used (usage_fault image i)) walked

module _ (image : List ℕ) (work : ℕ) where
  -- the words that are lent: first those of the rules on variables, behind them those of the walk
  pub record Ready (s : List ℕ) : Type 0 where
    pub good : Good image
    pub fragments : fragment.fragments_fault image ≡ none
    pub limit : work ≤ most_work
    pub room : uses_words image + ((arena_of image work).store + work + 1 + count_at image selections) ≤ length s

  -- where parents and classes stand in front of the walk's words
  pub record Lent (s : List ℕ) : Type 0 where
    pub ready : Ready s
    pub prepared : Prepared image (drop (uses_words image) s)

  -- one operation is checked, and the next may be lent the same words
  pub record Checked (s s' : List ℕ) (i used : ℕ) (r : Reply) : Type 0 where
    pub long : length s' ≡ length s
    pub lent : Lent s'
    pub says : r ≡ operation_reply check image work i used

  -- all are
  pub record CheckedAll (s s' : List ℕ) (r : Reply) : Type 0 where
    pub long : length s' ≡ length s
    pub says : r ≡ walked_reply check image work
