-- Parents and classes, written one after the other, are what the walk takes for granted. Assumes nothing.
use mathlib.Core.Path.{◌≡◌, refl, ap, ◌∙◌}
use mathlib.Core.Bool.{Bool, true, false, ◌&&◌}
use mathlib.Core.List.{List}
use Prim.Native.Nat.{ℕ, ◌+◌, ◌*◌, ◌≤◌, ◌<◌}
use native.Mathlib.Omega.{arith}
use borrow.Author.Tests.{eqb-true, eqb-false}
use lib.Dec.{eqb}
use lib.ListN.{length, get_or}
use Rattle.tables.specs.Layout.{types, selections}
use Rattle.tables.specs.Image.{count_at}
use Rattle.tables.specs.Columns.{object_type, type_kind, response_name, set_parent}
use Rattle.tables.specs.Numbering.{home_set}
use Rattle.tables.specs.Good.{Good}
use Rattle.selection.specs.Regions.{rows_at_most}
use Rattle.selection.specs.Parents.{Parents}
use Rattle.selection.specs.Classing.{parent_class, Classes}
use Rattle.selection.specs.Classes.{same_parent, Prepared, Prepares}
use Rattle.selection.proofs.RegionLaws.{rows_all}
use Rattle.selection.proofs.ClassLaws.{name_below, same_names, pair_below, same_pairs, object_classes, other_classes}

-- of two types, one class says that fields of them are in one segment
one_segment : (image : List ℕ) (many p q : ℕ) → p < many → q < many → eqb (parent_class image many q) (parent_class image many p) ≡ same_parent image q p
unfolding same_parent
one_segment image many p q l m = go (eqb (type_kind image p) object_type) refl
  where
    go : (b : Bool) → eqb (type_kind image p) object_type ≡ b → eqb (parent_class image many q) (parent_class image many p) ≡ same_parent image q p
    go true e = rw e (object_classes image many p q l (eqb-true _ _ e))
    go false e = rw e (other_classes image many p q (eqb-false _ _ e) m)

module _ {image s s₁ s' : List ℕ} (parents : Parents image s s₁) (classes : Classes image (rows_at_most image selections) (rows_at_most image types) s₁ s') where
  module _ (good : Good image) (room : 6 * count_at image selections ≤ length s) where
    all_rows : rows_at_most image selections ≡ count_at image selections
    all_rows = rows_all good selections (omega arith)

    now : Classes image (count_at image selections) (count_at image types) s₁ s'
    now = rw (all_rows, rows_all good types (omega arith)) at classes

    fits : 6 * count_at image selections ≤ length s₁
    fits = omega (arith, parents.long)

    parent_is : (r : ℕ) → r < count_at image selections → get_or s₁ r 0 ≡ set_parent image (home_set image r)
    parent_is r h = (parents.written good (omega arith)).words r h

    parent_below : (r : ℕ) → r < count_at image selections → get_or s₁ r 0 < count_at image types
    parent_below r h = rw (parent_is r h) (good.set (home_set image r) (good.selection r h).home.known).parent

    stays : (r : ℕ) → r < count_at image selections → get_or s' r 0 ≡ get_or s₁ r 0
    stays r h = now.frame.below r (omega arith)

    twice : (r : ℕ) → count_at image selections + count_at image selections + r ≡ 2 * count_at image selections + r
    twice r = omega arith

    both_written : Prepared image s'
    both_written = record {
      parents = λ r h. stays r h ∙ parent_is r h;
      classes = record {
        names_below = λ r h. name_below now fits r h;
        names = λ q r h l. same_names now fits q r h l;
        pairs_below = λ r h. rw (twice r) (pair_below now fits r h);
        pairs = λ q r h l.
            rw (twice q, twice r, stays q h, stays r l)
            (same_pairs now fits q r h l ∙ ap (λ b. eqb (response_name image q) (response_name image r) && b) (one_segment image (count_at image types) (get_or s₁ r 0) (get_or s₁ q 0) (parent_below r l) (parent_below q h)));
      };
    }

  pub prepares : Prepares image s s'
  prepares = record { long = classes.frame.long ∙ parents.long; prepared = both_written }
