-- The test of a selection, against what specs/Meaning says of its row: innermost types by the relation are those by steps, and the set
-- that a selection owns is greater than any that it stands in. Assumes nothing.
use Prim.Native.Nat.{ℕ, zero, suc, ◌+◌, ◌<◌, ◌≤◌}
use mathlib.Core.Path.{◌≡◌, refl, sym, ap, ◌∙◌}
use mathlib.Core.Logic.{◌↔◌, ◌⊎◌, inl, inr}
use mathlib.Core.Bool.{Bool, true, false, cond, not, ◌&&◌, ◌||◌, false≢true}
use mathlib.Core.List.{List}
use native.Mathlib.Decide.{dec_le, ℕ_discrete}
use native.Mathlib.Omega.{arith}
use borrow.Author.Tests.{leb-true, ltb-true, eqb-true, le-leb, eq-eqb, ne_eqb}
use lib.Dec.{eqb, leb, ltb}
use Rattle.lists.proofs.Tests.{both, first_of, second_of, all_three, all_four, other_of}
use Rattle.lists.specs.Every.{Distinct, distinct}
use Rattle.lists.proofs.EveryLaws.{position_passes, distinct_holds, distinct_intro, distinct_same}
use Rattle.tables.specs.declared.columns.Selection.{Selection}
use Rattle.tables.specs.Layout.{NONE, references, operations, fragments, sets, arguments}
use Rattle.tables.specs.Image.{count_at, row_in, lies_within, is_row}
use Rattle.tables.specs.Columns.{field, spread, inline, input_object, is_composite, innermost, type_kind, reference_kind, reference_child, set_parent, set_selections}
use Rattle.tables.specs.Columns.{selection_kind, field_type, field_arguments, selection_target, selection_at, argument_name}
use Rattle.tables.specs.Keys.{key_of, key_in}
use Rattle.tables.specs.Numbering.{most_arguments, set_end, stands_in, owns_set, next_set, home_set}
use Rattle.tables.specs.Good.{StandsIn, GoodReference}
use Rattle.tables.proofs.Innermost.{named_core, listed_core}
use Rattle.tables.proofs.ColumnLaws.{below_composites, above_composites, a_composite, owners}
use Rattle.tables.proofs.Ranges.{row_in_lem}
use Rattle.tables.proofs.Tidy.{good_header}
use Rattle.tables.proofs.Counts.{few_rows}
use Rattle.rows.specs.Selections.{has_no_field_words, good_arguments, core_kind, good_field_type, good_field, good_spread, good_by_itself}
use Rattle.rows.specs.Selections.{agrees_with_parent, good_owned, selection_rule, least_owned, good_selection}
use Rattle.rows.specs.RowFault.{GoodBelow}
use Rattle.rows.specs.Meaning.{LastBefore, Innermost, of_name, of_list, OwnsSet, an_inline, a_field, KeepsOwned, KeepsField, NoFieldWords, KeepsSelection}
use Rattle.rows.proofs.PlainPromise.{kind_of_type, reference_row}
use Rattle.rows.proofs.Running.{running}
use Rattle.rows.proofs.HomeLaws.{set_first, least_in_set}
use Rattle.rows.proofs.SelectionLaws.{arguments_there, composite_core, simple_core, type_right, fragment_there, as_field, as_spread, as_inline}
use Rattle.rows.proofs.SelectionLaws.{field_set, inline_set, good_owning_none, good_owning}

-- ---- what the rule of a row says, by its kind

module _ (image : List ℕ) (row : Selection) where
  by_kind : good_by_itself image row ≡ true → cond (eqb row.kind field) (good_field image row) (cond (eqb row.kind spread) (good_spread image row) (cond (eqb row.kind inline) (has_no_field_words row) false)) ≡ true
  unfolding good_by_itself
  by_kind e = second_of (lies_within row.directives (count_at image arguments)) _ e

  directives_in : good_by_itself image row ≡ true → row.directives.first + row.directives.count ≤ count_at image arguments
  unfolding good_by_itself
  directives_in e = leb-true _ _ (first_of (lies_within row.directives (count_at image arguments)) _ e)

  field_rule : good_by_itself image row ≡ true → row.kind ≡ field → good_field image row ≡ true
  field_rule e k = rw (eq-eqb _ _ k) at (by_kind e)

  spread_rule : good_by_itself image row ≡ true → row.kind ≡ spread → good_spread image row ≡ true
  spread_rule e k = rw (ne_eqb row.kind field (λ h. omega arith), eq-eqb _ _ k) at (by_kind e)

  inline_rule : good_by_itself image row ≡ true → row.kind ≡ inline → has_no_field_words row ≡ true
  inline_rule e k =
      rw (ne_eqb row.kind field (λ h. omega arith), ne_eqb row.kind spread (λ h. omega arith), eq-eqb _ _ k) at (by_kind e)

  known_kind : good_by_itself image row ≡ true → row.kind ≤ inline
  known_kind e =
      elim (dec_le row.kind inline) [
        | yes h ↦ h
        | no h ↦
            absurd (false≢true (rw (ne_eqb row.kind field (λ k. omega arith), ne_eqb row.kind spread (λ k. omega arith), ne_eqb row.kind inline (λ k. omega arith)) at (by_kind e)))
      ]

  -- words 1 to 5 of a row that is no field
  no_field_words : good_by_itself image row ≡ true → (row.kind ≡ field → ⊥) → has_no_field_words row ≡ true
  unfolding good_spread
  no_field_words e other =
      elim (ℕ_discrete row.kind spread) [
        | yes k ↦ second_of (is_row image fragments row.target) (has_no_field_words row) (spread_rule e k)
        | no k ↦ inline_rule e (last row.kind (known_kind e) other k)
      ]
    where
      last : (k : ℕ) → k ≤ 2 → (k ≡ 0 → ⊥) → (k ≡ 1 → ⊥) → k ≡ 2
      last k few h0 h1 = omega arith

  spread_to : good_by_itself image row ≡ true → row.kind ≡ spread → row.target < count_at image fragments
  unfolding good_spread
  spread_to e k = ltb-true _ _ (first_of (is_row image fragments row.target) (has_no_field_words row) (spread_rule e k))

  type_rule : good_field image row ≡ true → (row.reference < count_at image references) × (type_kind image (innermost image row.reference) ≡ input_object → ⊥)
      × ((is_composite (core_kind image row) || eqb row.target NONE) ≡ true)
  unfolding good_field good_field_type
  type_rule e =
      let parts = all_three (is_row image references row.reference) (not (eqb (core_kind image row) input_object)) (is_composite (core_kind image row) || eqb row.target NONE)
      (first_of (good_field_type image row) (good_arguments image row.arguments) e) in
      (ltb-true _ _ parts.0, λ h. false≢true (rw (eq-eqb (core_kind image row) input_object h) at parts.1), parts.2)

  argument_rule : good_field image row ≡ true → (row.arguments.count ≤ most_arguments) × (row.arguments.first + row.arguments.count ≤ count_at image arguments)
      × Distinct row.arguments.count (key_in image arguments row.arguments)
  unfolding good_field good_arguments
  argument_rule e =
      let parts = all_three (leb row.arguments.count most_arguments) (lies_within row.arguments (count_at image arguments))
      (distinct row.arguments.count (key_in image arguments row.arguments))
      (second_of (good_field_type image row) (good_arguments image row.arguments) e) in
      (leb-true _ _ parts.0, leb-true _ _ parts.1, distinct_holds _ _ parts.2)

  -- ---- who owns a set

  field_owns : row.kind ≡ field → (row.target ≡ NONE → ⊥) → owns_set row ≡ true
  unfolding owns_set
  field_owns k some = rw (k, ne_eqb _ _ some)

  inline_owns : row.kind ≡ inline → owns_set row ≡ true
  unfolding owns_set
  inline_owns k = rw k

  owned_parent : agrees_with_parent image row ≡ true → row.kind ≡ field → set_parent image row.target ≡ innermost image row.reference
  unfolding agrees_with_parent
  owned_parent e k = eqb-true _ _ (rw k at e)

-- ---- who owns a set, and its number

pub owner_means : (image : List ℕ) (r : ℕ) → (owns_set (selection_at image r) ≡ true) ↔ OwnsSet image r
owner_means image r = (λ e. says (owners image r e), holds)
  where
    says : (selection_kind image r ≡ inline) ⊎ ((selection_kind image r ≡ field) × (selection_target image r ≡ NONE → ⊥)) → OwnsSet image r
    says (inl k) = an_inline k
    says (inr (k, some)) = a_field k some

    holds : OwnsSet image r → owns_set (selection_at image r) ≡ true
    holds (an_inline k) = inline_owns image (selection_at image r) k
    holds (a_field k some) = field_owns image (selection_at image r) k some

module _ (image : List ℕ) (r : ℕ) (e : good_selection image r ≡ true) (owns : owns_set (selection_at image r) ≡ true) where
  owned_rule : good_owned image (selection_at image r) (next_set image r) (least_owned image r) ≡ true
  unfolding good_selection selection_rule
  owned_rule = rw owns at (second_of (good_by_itself image (selection_at image r)) _ e)

  owned_parts : (eqb (selection_target image r) (next_set image r) ≡ true) × (is_row image sets (selection_target image r) ≡ true)
      × (leb (least_owned image r) (selection_target image r) ≡ true) × (agrees_with_parent image (selection_at image r) ≡ true)
  unfolding good_owned
  owned_parts =
      all_four (eqb (selection_target image r) (next_set image r)) (is_row image sets (selection_target image r))
      (leb (least_owned image r) (selection_target image r)) (agrees_with_parent image (selection_at image r)) owned_rule

  pub owned_number : selection_target image r ≡ next_set image r
  owned_number = eqb-true _ _ owned_parts.0

-- the next number, by the last owner before
module _ (image : List ℕ) (r : ℕ) (lower : (q : ℕ) → q < r → good_selection image q ≡ true) where
  number_before : (q : ℕ) → LastBefore (OwnsSet image) q r → next_set image q + 1 ≡ suc (selection_target image q)
  number_before q l = omega (arith, owned_number image q (lower q l.earlier) ((owner_means image q).1 l.one))

  number_exactly : (selection_target image r ≡ next_set image r)
      ↔ ((((q : ℕ) → q < r → OwnsSet image q → ⊥) → selection_target image r ≡ count_at image operations + count_at image fragments)
      × ((q : ℕ) → LastBefore (OwnsSet image) q r → selection_target image r ≡ suc (selection_target image q)))
  unfolding next_set
  number_exactly =
      let sum = running (count_at image operations + count_at image fragments) (λ k. owns_set (selection_at image k)) (λ k. 1)
      (OwnsSet image) (owner_means image) r (selection_target image r) in
      (λ e. ((sum.0 e).0, λ q l. (sum.0 e).1 q l ∙ number_before q l), λ f. sum.1 (f.0, λ q l. f.1 q l ∙ sym (number_before q l)))

module _ (image : List ℕ) (below : GoodBelow image 5) where
  -- ---- the innermost type

  reference_of : (r : ℕ) → r < count_at image references → GoodReference image r
  reference_of = reference_row image 5 below (omega arith)

  pub core_is : {r core : ℕ} → r < count_at image references → Innermost image r core → innermost image r ≡ core
  core_is {r} h (of_name few child) = named_core image r (omega arith) ∙ child
  core_is {r} h (of_list many child deeper) =
      let less = (reference_of r h).listed many in
      listed_core image r many less ∙ ap (innermost image) child ∙ core_is (omega arith) deeper

  core_in : (n r : ℕ) → r < n → r < count_at image references → Innermost image r (innermost image r)
  core_in zero r less h = absurd (omega arith)
  core_in (suc n) r less h =
      elim (dec_le 2 (reference_kind image r)) [
        | yes many ↦
            let earlier = (reference_of r h).listed many in
            rw (listed_core image r many earlier) (of_list many refl (core_in n (reference_child image r) (omega arith) (omega arith)))
        | no few ↦ of_name {r = r} (omega arith) (sym (named_core image r (omega arith)))
      ]

  pub has_core : (r : ℕ) → r < count_at image references → Innermost image r (innermost image r)
  has_core r = core_in (suc r) r (omega arith)

  core_kind_lem : (r : ℕ) → r < count_at image references → type_kind image (innermost image r) ≤ 5
  core_kind_lem r h = kind_of_type image 5 below (omega arith) (innermost image r) (reference_of r h).core

  -- ---- the rule

  module _ (r : ℕ) (lower : (q : ℕ) → q < r → good_selection image q ≡ true) where
    abbrev row : Selection
    row = selection_at image r

    -- the rows of the arguments' range, by plain sums
    pub name_at_lem : (k : ℕ) → (field_arguments image r).first + (field_arguments image r).count ≤ count_at image arguments → k < (field_arguments image r).count
        → argument_name image (row_in (field_arguments image r) k) ≡ argument_name image ((field_arguments image r).first + k)
    name_at_lem k within less =
        ap (λ (m : ℕ). argument_name image m)
        (row_in_lem (field_arguments image r) k (omega (arith, few_rows image (good_header image below.header).few arguments (omega arith))))

    module _ (e : good_selection image r ≡ true) where
      itself : good_by_itself image row ≡ true
      unfolding good_selection selection_rule
      itself = first_of (good_by_itself image row) _ e

      owned_says : OwnsSet image r → KeepsOwned image r
      owned_says o =
          let owns = (owner_means image r).1 o in
          let parts = owned_parts image r e owns in
          let number = (number_exactly image r lower).0 (owned_number image r e owns) in
          record {
            first_number = number.0;
            next_number = number.1;
            known = ltb-true _ _ parts.1;
            greater = λ s st.
                let least = least_in_set image below s r st.known (omega (arith, set_first image below s st.known, st.from)) st.below in
                omega (arith, leb-true (least_owned image r) (selection_target image r) parts.2);
          }

      leaf_says : (is_composite (core_kind image row) || eqb (selection_target image r) NONE) ≡ true
          → (core_kind image row ≡ 0) ⊎ (core_kind image row ≡ 4) → selection_target image r ≡ NONE
      leaf_says given (inl scalar) = eqb-true _ _ (other_of (below_composites _ (omega arith)) given)
      leaf_says given (inr enum) = eqb-true _ _ (other_of (above_composites _ (omega arith)) given)

      field_says : selection_kind image r ≡ field → KeepsField image r
      unfolding key_of
      field_says k =
          let is_field = field_rule image row itself k in
          let type = type_rule image row is_field in
          let few = argument_rule image row is_field in
          record {
            reference = type.0;
            core = innermost image (field_type image r);
            innermost = has_core (field_type image r) type.0;
            output = type.1;
            leaf = leaf_says type.2;
            parent = λ some. owned_parent image row (owned_parts image r e (field_owns image row k some)).3 k;
            few_arguments = few.0;
            arguments_within = record { ends = few.1 };
            distinct_names = distinct_same _ _ _ (λ j less. name_at_lem j few.1 less) few.2;
          }

      words_say : has_no_field_words row ≡ true → NoFieldWords image r
      unfolding has_no_field_words
      words_say h =
          let rest = all_three (eqb row.response 0 && eqb row.name 0 && eqb row.reference 0) (eqb row.arguments.first 0) (eqb row.arguments.count 0) h in
          let front = all_three (eqb row.response 0) (eqb row.name 0) (eqb row.reference 0) rest.0 in
          record {
            response = eqb-true _ _ front.0;
            name = eqb-true _ _ front.1;
            reference = eqb-true _ _ front.2;
            first = eqb-true _ _ rest.1;
            count = eqb-true _ _ rest.2;
          }

      selection_says : KeepsSelection image r
      selection_says = record {
        kind = known_kind image row itself;
        directives_within = record { ends = directives_in image row itself };
        field_row = field_says;
        spread_target = spread_to image row itself;
        owned = owned_says;
        no_words = λ k. words_say (no_field_words image row itself k);
      }

    -- ---- and back

    stands_home : home_set image r < count_at image sets → StandsIn image r (home_set image r)
    unfolding home_set
    stands_home less =
        let found = position_passes (count_at image sets) (stands_in image r) less in
        let from = leb (set_selections image (home_set image r)).first r in
        let to = ltb r (set_end image (home_set image r)) in
        record { known = less; from = leb-true _ _ (first_of from to found); below = ltb-true _ _ (second_of from to found) }

    least_holds : KeepsOwned image r → least_owned image r ≤ selection_target image r
    unfolding least_owned
    least_holds o = go (ltb (home_set image r) (count_at image sets)) refl
      where
        go : (b : Bool) → ltb (home_set image r) (count_at image sets) ≡ b → cond b (suc (home_set image r)) 0 ≤ selection_target image r
        go true is = o.greater (home_set image r) (stands_home (ltb-true _ _ is))
        go false is-not = omega arith

    -- a field that owns a set is composite: it is neither a leaf nor an input object
    pub field_composite : (f : KeepsField image r) → (selection_target image r ≡ NONE → ⊥) → is_composite (type_kind image f.core) ≡ true
    field_composite f some =
        let few : type_kind image f.core ≤ 5 = rw (core_is f.reference f.innermost) at (core_kind_lem (field_type image r) f.reference) in
        elim (dec_le 1 (type_kind image f.core)) [
          | yes low ↦ elim (dec_le (type_kind image f.core) 3) [
            | yes high ↦ a_composite _ low (omega arith)
            | no more ↦ absurd (some (f.leaf (inr (omega (arith, f.output)))))
          ]
          | no none ↦ absurd (some (f.leaf (inl (omega arith))))
        ]

    module _ (keeps : KeepsSelection image r) where
      field_type_holds : KeepsField image r → good_field_type image row ≡ true
      field_type_holds f = go (is_composite (type_kind image f.core)) refl
        where
          kind : type_kind image f.core ≡ core_kind image row
          kind = ap (type_kind image) (sym (core_is f.reference f.innermost))

          go : (b : Bool) → is_composite (type_kind image f.core) ≡ b → good_field_type image row ≡ true
          go true composite = sym (composite_core image row f.reference kind f.output composite)
          go false simple =
              sym (simple_core image row f.reference kind f.output simple)
              ∙ elim (ℕ_discrete (selection_target image r) NONE) [ yes none ↦ eq-eqb _ _ none | no some ↦ absurd (false≢true (sym simple ∙ field_composite f some)) ]

      field_holds : KeepsField image r → good_field image row ≡ true
      unfolding key_of
      field_holds f =
          sym (type_right image row (field_type_holds f))
          ∙ sym (arguments_there image row.arguments f.few_arguments (le-leb _ _ f.arguments_within.ends))
          ∙ distinct_intro _ _ (distinct_same _ _ _ (λ j less. sym (name_at_lem j f.arguments_within.ends less)) f.distinct_names)

      words_hold : NoFieldWords image r → has_no_field_words row ≡ true
      unfolding has_no_field_words
      words_hold w =
          both (both (both (both (eq-eqb _ _ w.response) (eq-eqb _ _ w.name)) (eq-eqb _ _ w.reference)) (eq-eqb _ _ w.first)) (eq-eqb _ _ w.count)

      inside : lies_within row.directives (count_at image arguments) ≡ true
      inside = le-leb _ _ keeps.directives_within.ends

      itself_holds : good_by_itself image row ≡ true
      itself_holds =
          elim (ℕ_discrete (selection_kind image r) field) [
            | yes k ↦ sym (as_field image row inside k) ∙ field_holds (keeps.field_row k)
            | no other ↦
                let words = words_hold (keeps.no_words other) in
                elim (ℕ_discrete (selection_kind image r) spread) [
                  | yes k ↦ sym (as_spread image row inside k) ∙ sym (fragment_there image row (keeps.spread_target k)) ∙ words
                  | no k ↦ sym (as_inline image row inside (last (selection_kind image r) keeps.kind other k)) ∙ words
                ]
          ]
        where
          last : (k : ℕ) → k ≤ 2 → (k ≡ 0 → ⊥) → (k ≡ 1 → ⊥) → k ≡ 2
          last k few h0 h1 = omega arith

      parent_holds : OwnsSet image r → selection_kind image r ≡ field → set_parent image (selection_target image r) ≡ innermost image (field_type image r)
      parent_holds (an_inline other) k = absurd (omega arith)
      parent_holds (a_field _ some) k = let f = keeps.field_row k in f.parent some ∙ sym (core_is f.reference f.innermost)

      owned_holds : OwnsSet image r → good_owned image row (next_set image r) (least_owned image r) ≡ true
      owned_holds owns =
          let o : KeepsOwned image r = keeps.owned owns in
          let number = (number_exactly image r lower).1 (o.first_number, o.next_number) in
          elim (ℕ_discrete (selection_kind image r) field) [
            | yes k ↦ sym (field_set image row (next_set image r) (least_owned image r) number o.known (least_holds o) k refl refl) ∙ eq-eqb _ _ (parent_holds owns k)
            | no k ↦ sym (inline_set image row (next_set image r) (least_owned image r) number o.known (least_holds o) k)
          ]

      selection_holds : good_selection image r ≡ true
      unfolding good_selection
      selection_holds = go (owns_set row) refl
        where
          go : (b : Bool) → owns_set row ≡ b → selection_rule image row (next_set image r) (least_owned image r) ≡ true
          go true owns = sym (good_owning image row _ _ itself_holds owns) ∙ owned_holds ((owner_means image r).0 owns)
          go false owning_none = sym (good_owning_none image row _ _ itself_holds owning_none)

    pub selection_exactly : (good_selection image r ≡ true) ↔ KeepsSelection image r
    selection_exactly = (selection_says, selection_holds)
