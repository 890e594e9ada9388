-- What the theorems say of an image, beside its reply: no cause of 1 to 13 exists, the budget covers the walk, every rule holds. Hold it beside
-- the three promises of docs/STATEMENTS.md.
use Rattle.std.specs.Prelude.{ℕ, ◌<◌, ◌≡◌, List, [], ◌∷◌}
use Rattle.std.proofs.Math.Option.{none}
use Rattle.merge_theory.specs.Document.{shape}
use Rattle.merge_theory.specs.Engine.{Engine}
use Rattle.merge_theory.specs.Rule.{RuleHolds}
use Rattle.merge_theory.specs.RuleBy.{MergeBreaks, RuleHoldsBy}
use Rattle.merge_theory.specs.Steps.{IsOut}
use Rattle.merge_theory.specs.TrueConflict.{TrueConflict}
use Rattle.tables.specs.Layout.{operations, sets}
use Rattle.tables.specs.Image.{count_at}
use Rattle.tables.specs.Columns.{type_kind, field_name, field_type, field_arguments}
use Rattle.tables.specs.Good.{Good}
use Rattle.rows.specs.Meaning.{KeepsRowRules}
use Rattle.variable.specs.Verdict.{usage_fault}
use Rattle.variable.specs.Rules.{Verdict}
use Rattle.fragment.specs.Meaning.{Finds, AllSpread}
use Rattle.values.specs.ResponseShape.{OutputType, SameTypes, StandsFor}
use Rattle.values.specs.Identical.{IdenticalArguments}
use Rattle.query.specs.Reply.{document_of}
use Rattle.query.specs.Given.{Sane, Ran, Enough}

-- ---- what the third promise assumes

-- no cause of 1 to 13 exists
pub record NoCause (image : List ℕ) (work long : ℕ) : Type 0 where
  pub sane : Sane image
  pub enough : Enough image work long
  pub variables : (i : ℕ) → i < count_at image operations → usage_fault image i ≡ none

-- the budget covers the engine's way: no operation that it comes to runs out
abbrev pub Covers : Engine → List ℕ → ℕ → Type 0
Covers run image work = (i used : ℕ) → i < count_at image operations → Ran run image work i used → ¬ IsOut (run (document_of image) work used i)

-- ---- the merge rule, 5.3.2

-- of every selection set that an operation reaches, with the tests that the check makes
abbrev pub AllMerge : List ℕ → Type 0
AllMerge image = (i : ℕ) → i < count_at image operations → RuleHolds (document_of image) i

module _ (image : List ℕ) where
  -- the specification's own comparisons: no steps and no levels in them. The types that the two fields' references stand for are the same to
  -- SameResponseShape
  pub record SameFieldTypes (a b : ℕ) : Type 0 where
    pub left : OutputType
    pub right : OutputType
    pub left_stands : StandsFor image (field_type image a) left
    pub right_stands : StandsFor image (field_type image b) right
    pub same : SameTypes (type_kind image) left right

  -- "same field name"
  abbrev pub SameFieldNames : ℕ → ℕ → Type 0
  SameFieldNames a b = field_name image a ≡ field_name image b

  -- "identical sets of arguments"
  abbrev pub SameFieldArguments : ℕ → ℕ → Type 0
  SameFieldArguments a b = IdenticalArguments image (field_arguments image a) (field_arguments image b)

-- the same rule with these comparisons
abbrev pub AllMergeBy : List ℕ → Type 0
AllMergeBy image =
    (i : ℕ) → i < count_at image operations → RuleHoldsBy (document_of image) (SameFieldTypes image) (SameFieldNames image) (SameFieldArguments image) i

-- "For each selection set in the document", reached or not
abbrev pub EachSetMerges : List ℕ → Type 0
EachSetMerges image =
    (s : ℕ) → s < count_at image sets → ¬ MergeBreaks (document_of image) (SameFieldTypes image) (SameFieldNames image) (SameFieldArguments image) (s ∷ [])

-- two fields of operation i truly conflict in shape, and the operations before it keep the rule
pub record FirstInShape (image : List ℕ) (i : ℕ) : Type 0 where
  pub own : i < count_at image operations
  pub before : (j : ℕ) → j < i → RuleHolds (document_of image) j
  pub a : ℕ
  pub b : ℕ
  pub conflicts : TrueConflict (document_of image) i shape a b

-- ---- every rule holds

pub record AllRight (image : List ℕ) : Type 0 where
  -- the row rules, and what the rules past them rely on
  pub rows : KeepsRowRules image
  pub good : Good image
  -- 5 to 9 find nothing; 5.5.1.4 as it is written: each fragment is the target of a spread
  pub fragments : Finds image none
  pub spread : AllSpread image
  -- 10 to 13
  pub variables : (i : ℕ) → i < count_at image operations → Verdict image i none
  -- 5.3.2, by the tests of the check, and of each selection set by the specification's comparisons
  pub merge : AllMerge image
  pub each : EachSetMerges image
