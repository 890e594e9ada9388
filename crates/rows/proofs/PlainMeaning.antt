-- The tests of the tables whose rows are judged one by one, against what specs/Meaning says of their rows. Assumes nothing.
use Prim.Native.Nat.{ℕ, zero, suc, ◌<◌, ◌≤◌}
use mathlib.Core.Path.{◌≡◌, refl, sym, ap, ◌∙◌}
use mathlib.Core.Logic.{◌↔◌}
use mathlib.Core.Bool.{Bool, true}
use mathlib.Core.List.{List}
use mathlib.Core.Option.{none}
use native.Mathlib.Nat.{le_refl}
use native.Mathlib.Decide.{le_ind, dec_le}
use native.Mathlib.Omega.{arith}
use borrow.Author.Tests.{leb-true, ltb-true, eqb-true, le-leb, lt-leb, lt-ltb, eq-eqb}
use lib.Dec.{eqb, leb}
use Rattle.lists.proofs.Tests.{both, first_of, second_of, all_three}
use Rattle.tables.specs.Layout.{types, references, sets, selections, arguments, values, variables}
use Rattle.tables.specs.Image.{count_at, lies_within, is_row}
use Rattle.tables.specs.Columns.{type_name, type_kind, reference_kind, is_composite, fragment_set, operation_variables, operation_directives}
use Rattle.tables.specs.Columns.{fragment_directives, set_parent, set_selections, argument_type, argument_default, variable_type, variable_default}
use Rattle.tables.specs.Header.{header_fault}
use Rattle.tables.specs.Numbering.{set_end, set_start}
use Rattle.tables.proofs.Tidy.{good_header}
use Rattle.tables.proofs.Counts.{few_rows}
use Rattle.tables.proofs.ColumnLaws.{a_composite}
use Rattle.rows.specs.Rows.{ascends, good_type, good_child, good_reference, good_operation, good_fragment, good_parent, good_set, good_argument, good_variable}
use Rattle.rows.specs.Meaning.{KeepsType, KeepsReference, KeepsOperation, KeepsFragment, KeepsSet, KeepsArgument, KeepsVariable}

module _ (image : List ℕ) where
  -- ---- types

  next_ascends : (r : ℕ) → good_type image (suc r) ≡ true → type_name image r < type_name image (suc r)
  unfolding good_type ascends
  next_ascends r e = ltb-true _ _ (second_of (leb (type_kind image (suc r)) 5) (ascends image (suc r)) e)

  names_ascend : (q r : ℕ) → q < r → ((k : ℕ) → k ≤ r → good_type image k ≡ true) → type_name image q < type_name image r
  names_ascend q r less =
      le_ind (λ (k : ℕ). ((j : ℕ) → j ≤ k → good_type image j ≡ true) → type_name image q < type_name image k) (λ good. next_ascends q (good _ (le_refl _)))
      (λ k _ ih good. omega (arith, ih (λ j h. good j (omega arith)), next_ascends k (good _ (le_refl _)))) r less

  pub type_exactly : (r : ℕ) → ((q : ℕ) → q < r → good_type image q ≡ true) → (good_type image r ≡ true) ↔ KeepsType image r
  unfolding good_type ascends
  type_exactly r lower = (says, holds r)
    where
      says : good_type image r ≡ true → KeepsType image r
      says e = record {
        kind = leb-true _ _ (first_of (leb (type_kind image r) 5) (ascends image r) e);
        ascends = λ q less. names_ascend q r less (λ k few. elim (dec_le r k) [ yes h ↦ rw (same k few h) e | no h ↦ lower k (omega arith) ]);
      }
        where
          same : (k : ℕ) → k ≤ r → r ≤ k → k ≡ r
          same k few h = omega arith

      holds : (r : ℕ) → KeepsType image r → good_type image r ≡ true
      holds zero k = both (le-leb _ _ k.kind) refl
      holds (suc r) k = both (le-leb _ _ k.kind) (lt-ltb _ _ (k.ascends r (le_refl _)))

  -- ---- type references

  pub reference_exactly : (r : ℕ) → (good_reference image r ≡ true) ↔ KeepsReference image r
  unfolding good_reference good_child
  reference_exactly r = (says, holds)
    where
      child : good_reference image r ≡ true → good_child image r ≡ true
      child e = second_of (leb (reference_kind image r) 3) (good_child image r) e

      says : good_reference image r ≡ true → KeepsReference image r
      says e = record {
        kind = leb-true _ _ (first_of (leb (reference_kind image r) 3) (good_child image r) e);
        named = λ h. let few : reference_kind image r < 2 = omega arith in ltb-true _ _ (rw (lt-leb _ _ few) at (child e));
        listed = λ h. ltb-true _ _ (rw (le-leb _ _ h) at (child e));
      }

      holds : KeepsReference image r → good_reference image r ≡ true
      holds k =
          both (le-leb _ _ k.kind)
          (elim (dec_le 2 (reference_kind image r)) [
            | yes h ↦ rw (le-leb _ _ h) (lt-ltb _ _ (k.listed h))
            | no h ↦ let few : reference_kind image r < 2 = omega arith in rw (lt-leb _ _ few) (lt-ltb _ _ (k.named (omega arith)))
          ])

  -- ---- operations and fragments

  pub operation_exactly : (i : ℕ) → (good_operation image i ≡ true) ↔ KeepsOperation image i
  unfolding good_operation
  operation_exactly i = (says, λ k. both (both (le-leb _ _ k.variables_within.ends) (le-leb _ _ k.directives_within.ends)) (lt-ltb _ _ k.set))
    where
      says : good_operation image i ≡ true → KeepsOperation image i
      says e =
          let variables-in = lies_within (operation_variables image i) (count_at image variables) in
          let all = all_three variables-in (lies_within (operation_directives image i) (count_at image arguments)) (is_row image sets i) e in
          record {
            variables_within = record { ends = leb-true _ _ all.0 };
            directives_within = record { ends = leb-true _ _ all.1 };
            set = ltb-true _ _ all.2;
          }

  -- a set's number is far below NONE
  pub fragment_exactly : header_fault image ≡ none → (j : ℕ) → (good_fragment image j ≡ true) ↔ KeepsFragment image j
  unfolding good_fragment fragment_set
  fragment_exactly header j = (says, holds)
    where
      few : count_at image sets ≤ 4096
      few = few_rows image (good_header image header).few sets (omega arith)

      says : good_fragment image j ≡ true → KeepsFragment image j
      says e =
          let within = lies_within (fragment_directives image j) (count_at image arguments) in
          let there : fragment_set image j < count_at image sets = ltb-true _ _ (second_of within (is_row image sets (fragment_set image j)) e) in
          record { directives_within = record { ends = leb-true _ _ (first_of within (is_row image sets (fragment_set image j)) e) }; set = omega (arith, few) }

      holds : KeepsFragment image j → good_fragment image j ≡ true
      holds k = let there : fragment_set image j < count_at image sets = omega (arith, few, k.set) in both (le-leb _ _ k.directives_within.ends) (lt-ltb _ _ there)

  -- ---- sets

  composite_says : (kind : ℕ) → is_composite kind ≡ true → (1 ≤ kind) × (kind ≤ 3)
  unfolding is_composite
  composite_says kind e = (leb-true _ _ (first_of (leb 1 kind) (leb kind 3) e), leb-true _ _ (second_of (leb 1 kind) (leb kind 3) e))

  pub set_starts : (s : ℕ) → KeepsSet image s → (set_selections image s).first ≡ set_start image s
  unfolding set_start set_end
  set_starts zero k = k.begins refl
  set_starts (suc s) k = k.follows s refl

  pub set_exactly : (s : ℕ) → (good_set image s ≡ true) ↔ KeepsSet image s
  unfolding good_set good_parent set_start set_end
  set_exactly s = (says, holds)
    where
      known : Bool
      known = is_row image types (set_parent image s)

      composite : Bool
      composite = is_composite (type_kind image (set_parent image s))

      says : good_set image s ≡ true → KeepsSet image s
      says e =
          let rows = set_selections image s in
          let all = all_three (good_parent image s) (eqb rows.first (set_start image s)) (lies_within rows (count_at image selections)) e in
          let kind = composite_says _ (second_of known composite all.0) in
          let first : (set_selections image s).first ≡ set_start image s = eqb-true _ _ all.1 in
          record {
            parent = ltb-true _ _ (first_of known composite all.0);
            from_object = kind.0;
            to_union = kind.1;
            begins = λ h. first ∙ ap (set_start image) h;
            follows = λ q h. first ∙ ap (set_start image) (sym h);
            within = record { ends = leb-true _ _ all.2 };
          }

      holds : KeepsSet image s → good_set image s ≡ true
      holds k =
          let parent = both (lt-ltb _ _ k.parent) (a_composite _ k.from_object (omega (arith, k.to_union))) in
          both (both parent (eq-eqb _ _ (set_starts s k))) (le-leb _ _ k.within.ends)

  -- ---- arguments and variables

  pub argument_exactly : (a : ℕ) → (good_argument image a ≡ true) ↔ KeepsArgument image a
  unfolding good_argument
  argument_exactly a = (says, λ k. both (both (lt-ltb _ _ k.reference) (le-leb _ _ k.default)) (lt-ltb _ _ k.value))
    where
      says : good_argument image a ≡ true → KeepsArgument image a
      says e =
          let all = all_three (is_row image references (argument_type image a)) (leb (argument_default image a) 1) (is_row image values a) e in
          record { reference = ltb-true _ _ all.0; default = leb-true _ _ all.1; value = ltb-true _ _ all.2 }

  pub variable_exactly : (v : ℕ) → (good_variable image v ≡ true) ↔ KeepsVariable image v
  unfolding good_variable
  variable_exactly v = (says, λ k. both (lt-ltb _ _ k.reference) (le-leb _ _ k.default))
    where
      says : good_variable image v ≡ true → KeepsVariable image v
      says e =
          let known = is_row image references (variable_type image v) in
          let few = leb (variable_default image v) 1 in
          record { reference = ltb-true _ _ (first_of known few e); default = leb-true _ _ (second_of known few e) }
