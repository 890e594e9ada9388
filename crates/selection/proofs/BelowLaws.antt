-- The sets below the fields of a part: each once, each a field's own, all of them known. Assumes what `Site` does.
use mathlib.Core.Path.{◌≡◌, sym, ◌∙◌}
use mathlib.Core.Option.{Option, none, some}
use mathlib.Core.List.{List}
use Prim.Native.Nat.{ℕ, ◌≤◌, ◌<◌}
use lib.ListN.{length}
use Rattle.merge_theory.specs.Lists.{◌∈◌, Every}
use Rattle.merge_theory.specs.Document.{set_of}
use Rattle.merge_theory.specs.Document as documents
use Rattle.merge_theory.specs.Walk.{sets_below}
use Rattle.merge_theory.proofs.ListLaws.{not_in_nil}
use Rattle.merge_theory.proofs.Levels.{from_sets_below, below_at}
use Rattle.tables.specs.Layout.{NONE, sets}
use Rattle.tables.specs.Image.{count_at}
use Rattle.tables.specs.Columns.{field, selection_kind, selection_target}
use Rattle.tables.specs.Good.{GoodOwned}
use Rattle.tables.proofs.ColumnLaws.{field_owns}
use Rattle.values.specs.Same.{same_arguments}
use Rattle.values.specs.Shape.{same_shape}
use Rattle.selection.specs.declared.arena.Arena.{Arena}
use Rattle.selection.specs.declared.arena.Walk as states
use Rattle.expand.specs.Expanding.{Once, once_none, once_more, StartSet, of_field}
use Rattle.selection.specs.Refining.{document, Hand, Site, Rows}
use Rattle.expand.proofs.OnceLaws.{once_flat_map, once_filter, once_below}
use Rattle.expand.proofs.DocumentLaws.{field_set}
use Rattle.selection.proofs.QueueingLaws.{field_kind_of}

module _ {image : List ℕ} {arena : Arena} {work op : ℕ} {s : List ℕ} {z : states.Walk} (site : Site image arena work op s z) {rows : List ℕ} (listed : Rows image arena work op rows) where
  kind_of_lem : (f : ℕ) → f ∈ rows → selection_kind image f ≡ field
  kind_of_lem f m = field_kind_of image (listed.fields f m)

  -- the set of a field is its target
  own_target : (f t : ℕ) → f ∈ rows → t ∈ set_of (document image) f → (selection_target image f ≡ t) × (selection_target image f ≡ NONE → ⊥)
  own_target f t m n =
      let is = field_set site.good (same_shape image) (same_arguments image) f (kind_of_lem f m) n in
      (is.0, λ e. is.1 (sym is.0 ∙ e))

  owned : (f t : ℕ) → f ∈ rows → t ∈ set_of (document image) f → GoodOwned image f
  owned f t m n = ((site.good.selection f (listed.inside f m)).field_row (kind_of_lem f m)).owned (own_target f t m n).1

  pub below_start : Every (StartSet image) (sets_below (document image) rows)
  below_start t m =
      let (f, i, j) = from_sets_below (document image) rows m in
      let is = (own_target f t i j).0 in
      of_field f (listed.inside f i) (kind_of_lem f i) is (rw is at (owned f t i j).known)

  known_sets : Every (λ t. t < count_at image sets) (sets_below (document image) rows)
  known_sets t m =
      let (f, i, j) = from_sets_below (document image) rows m in
      rw (own_target f t i j).0 at (owned f t i j).known

  pub below_hand : Every (Hand image arena work op) (sets_below (document image) rows)
  below_hand = below_at (document image) site.sound listed.fields

  one_set : (f : ℕ) → Once (set_of (document image) f)
  unfolding set_of
  one_set f = go ((document image).link_of f)
    where
      go : (o : Option ℕ) → Once (documents.listed o)
      go none = once_none
      go (some t) = once_more not_in_nil once_none

  pub below_once : Once (sets_below (document image) rows)
  unfolding sets_below
  below_once = once_filter _ _ (once_flat_map (set_of (document image)) rows listed.once (λ f m. one_set f) apart)
    where
      apart : (f g t : ℕ) → f ∈ rows → g ∈ rows → t ∈ set_of (document image) f → t ∈ set_of (document image) g → f ≡ g
      apart f g t i j m n =
          let a = own_target f t i m in
          let b = own_target g t j n in
          let p = owned f t i m in
          let q = owned g t j n in
          site.good.one_owner f g (field_owns image f (kind_of_lem f i) a.1) (field_owns image g (kind_of_lem g j) b.1) (sym p.number ∙ a.0 ∙ sym b.0 ∙ q.number)

  pub below_few : length (sets_below (document image) rows) ≤ count_at image sets
  below_few = once_below (count_at image sets) (sets_below (document image) rows) below_once known_sets
