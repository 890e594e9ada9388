-- The laws of the parents' loops: one word more, one set more. Assumes what each law names.
use mathlib.Core.Path.{◌≡◌, refl, ap, ◌∙◌, subst}
use mathlib.Core.Logic.{⊎_elim}
use mathlib.Core.List.{List}
use Prim.Native.Nat.{ℕ, ◌+◌, ◌≤◌, ◌<◌}
use native.Mathlib.Numerals.{add-one}
use native.Mathlib.Omega.{arith}
use lib.ListN.{length, set, length-set}
use lib.Seq.{get_or-set_same, get_or-set_other}
use Rattle.lists.proofs.Parts.{le_or_lt, outside_none, outside_wider, outside_trans, set_outside}
use Rattle.tables.specs.declared.Range.{Range}
use Rattle.tables.specs.Layout.{NONE, sets, selections}
use Rattle.tables.specs.Image.{count_at, row_in}
use Rattle.tables.specs.declared.columns.Set.{Set}
use Rattle.tables.specs.Columns.{set_parent, set_selections, set_at}
use Rattle.tables.specs.Numbering.{set_start}
use Rattle.tables.specs.Good.{Good}
use Rattle.tables.proofs.Ranges.{row_in_lem}
use Rattle.tables.proofs.Counts.{few_rows}
use Rattle.tables.proofs.ColumnLaws.{stands, set_start_none, set_start_next}
use Rattle.selection.specs.Parents.{Filled, ParentsBelow}

pub filled_none : (first v : ℕ) (s : List ℕ) → Filled first 0 v s s
filled_none first v s = record { long = refl; frame = λ _. outside_none first 0 s; words = λ _ _ k more less. absurd (omega arith) }

pub filled_more : (rows : Range) (i v : ℕ) {at : ℕ} {s s' s'' : List ℕ} → Filled rows.first i v s s' → at ≡ row_in rows i → s'' ≡ set s' at v
    → Filled rows.first (i + 1) v s s''
filled_more rows i v {at} {s} {s'} f e put = rw put record {
  long = length-set s' at v ∙ f.long;
  frame = λ h.
      let here : at ≡ rows.first + i = e ∙ row_in_lem rows i (omega arith) in
      outside_trans (outside_wider (f.frame (omega arith)) rows.first (i + 1) (omega arith) (omega arith))
      (outside_wider (set_outside s' at v) rows.first (i + 1) (omega arith) (omega arith));
  words = λ h room k more less.
      let here : at ≡ rows.first + i = e ∙ row_in_lem rows i (omega arith) in
      let long = f.long in
      ⊎_elim (λ past. let same : k ≡ at = omega arith in rw same (get_or-set_same s' at v 0 (omega arith)))
      (λ before. get_or-set_other s' at k v 0 (omega arith) ∙ f.words (omega arith) (omega arith) k more before)
      (le_or_lt (rows.first + i) k);
}

module _ (image : List ℕ) (good : Good image) where
  pub parents_none : (s : List ℕ) → ParentsBelow image (set_start image 0) s s
  parents_none s = rw (set_start_none image) (record { words = λ r h. absurd (omega arith); frame = outside_none 0 0 s })

  next_start : (i : ℕ) → set_start image (i + 1) ≡ (set_selections image i).first + (set_selections image i).count
  next_start i = ap (set_start image) (add-one i) ∙ set_start_next image i

  pub parents_more : (i : ℕ) {s s' s'' : List ℕ} → i < count_at image sets → count_at image selections ≤ length s
      → ParentsBelow image (set_start image i) s s' → Filled (set_selections image i).first (set_selections image i).count (set_parent image i) s' s''
      → ParentsBelow image (set_start image (i + 1)) s s''
  parents_more i {s} {s'} {s''} h room p f =
      let first = (set_selections image i).first in
      let n = (set_selections image i).count in
      let within : first + n ≤ count_at image selections = (good.set i h).within.ends in
      let small : first + n ≤ NONE = omega (arith, few_rows image good.few selections (omega arith)) in
      let starts : first ≡ set_start image i = (good.set i h).starts in
      let long = p.frame.long in
      let frame = f.frame small in
      rw (next_start i) record {
        words = λ r less.
            ⊎_elim (λ from.
            f.words small (omega arith) r from less ∙ ap (set_parent image) (good.one_home r i (stands h from less)))
            (λ before. frame.below r before ∙ p.words r (omega arith))
            (le_or_lt first r);
        frame = outside_trans (outside_wider p.frame 0 (first + n) (omega arith) (omega arith)) (outside_wider frame 0 (first + n) (omega arith) (omega arith));
      }

  -- a turn of the loop, as the code reads the set
  pub parents_turn : (i : ℕ) {row : Set} {n : ℕ} {s s' s'' : List ℕ} → row ≡ set_at image i → n ≡ count_at image sets → i < n
      → count_at image selections ≤ length s → ParentsBelow image (set_start image i) s s'
      → Filled row.selections.first row.selections.count row.parent s' s'' → ParentsBelow image (set_start image (i + 1)) s s''
  parents_turn i {s' = s'} {s'' = s''} read all less room p f =
      parents_more i (omega arith) room p
      (subst (λ (row : Set). Filled row.selections.first row.selections.count row.parent s' s'') read f)

  pub parents_all : {i n : ℕ} {s s' : List ℕ} → n ≡ count_at image sets → i ≡ n → ParentsBelow image (set_start image i) s s'
      → ParentsBelow image (count_at image selections) s s'
  parents_all {s = s} {s' = s'} all end p =
      subst (λ (n : ℕ). ParentsBelow image n s s') (ap (set_start image) (end ∙ all) ∙ good.all_stand) p
