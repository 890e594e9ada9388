-- An image as the document that the merge theory speaks of. Assumes nothing.
use Rattle.std.specs.Prelude.{ℕ, zero, suc, Bool, cond, List, [], ◌∷◌, eqb}
use Rattle.std.proofs.Math.Option.{Option, none, some}
use Rattle.merge_theory.specs.Document.{Kind, field, spread, inline, Document}
use Rattle.tables.specs.declared.Range.{Range}
use Rattle.tables.specs.Layout.{NONE}
use Rattle.tables.specs.Columns.{object_type, type_kind, set_parent, set_selections, selection_kind, response_name, field_name, field_type, field_arguments, selection_at, set_below}
use Rattle.tables.specs.Columns as columns
use Rattle.tables.specs.Numbering.{home_set}

-- so many numbers, counted up from the first
unfoldable pub up_from : (first count : ℕ) → List ℕ
up_from first zero = []
up_from first (suc count) = first ∷ up_from (suc first) count

unfoldable pub kind_from : ℕ → Kind
kind_from kind = cond (eqb kind columns.field) field (cond (eqb kind columns.spread) spread inline)

unfoldable pub link_from : ℕ → Option ℕ
link_from set = cond (eqb set NONE) none (some set)

-- more than the links from set to set: one more than kind 7's limit
abbrev pub limit_of_links : ℕ
limit_of_links = 501

-- an image's document, given how two references' shapes and two ranges of arguments compare
module _ (same_shape : ℕ → ℕ → Bool) (same_arguments : Range → Range → Bool) where
  unfoldable pub document_by : List ℕ → Document
  document_by image = record {
    rows_of = λ s. up_from (set_selections image s).first (set_selections image s).count;
    kind_of = λ r. kind_from (selection_kind image r);
    name_of = response_name image;
    link_of = λ r. link_from (set_below image (selection_at image r));
    parent_of = λ r. set_parent image (home_set image r);
    is_object = λ t. eqb (type_kind image t) object_type;
    types_agree = λ a b. same_shape (field_type image a) (field_type image b);
    same_name = λ a b. eqb (field_name image a) (field_name image b);
    same_arguments = λ a b. same_arguments (field_arguments image a) (field_arguments image b);
    limit = limit_of_links;
  }
