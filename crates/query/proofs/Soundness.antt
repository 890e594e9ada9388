-- A good image without causes of kinds 5 to 8 is a sound document, at every operation: the comparisons of fields are equivalences, and
-- the number of links from a set falls along every link and stays below the limit. Assumes nothing.
use Prim.Native.Nat.{ℕ, ◌<◌}
use mathlib.Core.Path.{◌≡◌}
use mathlib.Core.Bool.{Bool}
use mathlib.Core.List.{List}
use mathlib.Core.Option.{none}
use native.Mathlib.Omega.{arith}
use Rattle.lists.proofs.FirstLaws.{first_none, next_none}
use Rattle.merge_theory.specs.Lists.{◌∈◌}
use Rattle.merge_theory.specs.Document.{set_of, Equivalence, FieldAt, field_at, Sound}
use Rattle.merge_theory.specs.Rule.{Reached, start, onward}
use Rattle.tables.specs.Layout.{operations, sets, selections}
use Rattle.tables.specs.Image.{count_at}
use Rattle.tables.specs.Columns.{selection_at, set_selections, set_below}
use Rattle.tables.specs.Good.{Good, StandsIn}
use Rattle.tables.proofs.ColumnLaws.{stands, stands_below}
use Rattle.reach.specs.Reach as reach
use Rattle.fragment.specs.Chains.{Link}
use Rattle.fragment.specs.Heights.{links_from}
use Rattle.fragment.specs.Rules.{fragments_fault}
use Rattle.fragment.proofs.Theorems.{reached_ranked}
use Rattle.fragment.proofs.ChainLaws.{link_in}
use Rattle.values.specs.Fields.{FieldRow}
use Rattle.values.specs.Equivalence as values
use Rattle.values.proofs.FieldLaws as fields
use Rattle.values.specs.Same.{same_arguments}
use Rattle.values.specs.Shape.{same_shape}
use Rattle.expand.specs.ImageDocument.{document_by}
use Rattle.expand.proofs.DocumentLaws.{up_from_lem, link_is, field_by_kind}
use Rattle.query.specs.Reply.{document_of}

module _ {image : List ℕ} (good : Good image) where
  -- the rows of a set that is there stand in it
  stands_in_lem : {s row : ℕ} → s < count_at image sets → row ∈ (document_of image).rows_of s → StandsIn image row s
  unfolding document_by
  stands_in_lem {s} {row} known m =
      let between = up_from_lem (set_selections image s).first (set_selections image s).count m in
      stands known between.0 between.1

  row_known : {s row : ℕ} → s < count_at image sets → row ∈ (document_of image).rows_of s → row < count_at image selections
  row_known {s} known m = omega (arith, stands_below (stands_in_lem known m), (good.set s known).within.ends)

  a_link : {s row t : ℕ} → s < count_at image sets → row ∈ (document_of image).rows_of s → t ∈ set_of (document_of image) row → Link image s row t
  unfolding document_by set_of
  a_link {row = row} known m l =
      let to = link_is (set_below image (selection_at image row)) l in
      record { stands = stands_in_lem known m; leads = to.0; some = to.1 }

  module _ (i : ℕ) (own : i < count_at image operations) where
    -- what the theory reaches, the rules on fragments reach too
    pub reaches : {t : ℕ} → Reached (document_of image) i t → reach.Reaches image i t × (t < count_at image sets)
    reaches start = (reach.itself, (good.operation i own).set)
    reaches (onward {row = row} r m l) =
        let before = reaches r in
        let link = a_link before.1 m l in
        let known = link_in good link in
        (reach.onward before.0 (record { row = row; stands = link.stands; below = link.leads; known = known }), known)

    pub field_row : (row : ℕ) → FieldAt (document_of image) (Reached (document_of image) i) row → FieldRow image row
    field_row row (field_at at m is) = record {
      row = row_known (reaches at).1 m;
      kind = field_by_kind good (same_shape image) (same_arguments image) row is;
    }

    equivalence : {same : ℕ → ℕ → Bool} → values.Equivalence (FieldRow image) same → Equivalence (FieldAt (document_of image) (Reached (document_of image) i)) same
    equivalence e = record {
      reflexive = λ a. e.reflexive (field_row _ a);
      symmetric = λ a b. e.symmetric (field_row _ a) (field_row _ b);
      transitive = λ a b c. e.transitive (field_row _ a) (field_row _ b) (field_row _ c);
    }

    -- The assumptions of the merge theory hold of what an operation reaches.
    pub operation_sound : fragments_fault image ≡ none → Sound (document_of image) (Reached (document_of image) i)
    unfolding fragments_fault document_by
    operation_sound none-faulty =
        let chains = next_none _ _ (first_none _ _ none-faulty) in
        let links = first_none _ _ (first_none _ _ (next_none _ _ none-faulty)) in
        let ranked = reached_ranked good chains links i own in
        record {
          closed = λ at m l. onward at m l;
          types = equivalence (fields.types_agree_lem image good);
          names = equivalence (fields.same_names image good);
          arguments = equivalence (fields.same_arguments_lem image good);
          rank = links_from image;
          falls = λ at m l. ranked.falls (reaches at).0 (a_link (reaches at).1 m l);
          bounded = λ at. ranked.bounded (reaches at).0;
        }
