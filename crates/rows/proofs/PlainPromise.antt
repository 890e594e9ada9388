-- What a fault-free image promises of every row: its rule holds. And for the tables whose rows are judged one by one, what that
-- comes to. Assumes nothing.
use Prim.Native.Nat.{ℕ, zero, suc, ◌<◌, ◌≤◌}
use mathlib.Core.Path.{◌≡◌}
use mathlib.Core.Bool.{true}
use mathlib.Core.List.{List}
use mathlib.Core.Option.{none}
use native.Mathlib.Nat.{lt_of_lt_of_le}
use native.Mathlib.Decide.{dec_le}
use native.Mathlib.Omega.{arith}
use borrow.Author.Tests.{leb-true}
use Rattle.lists.proofs.FirstLaws.{first_none, next_none, passed, each_none}
use Rattle.lists.proofs.EveryLaws.{good_before}
use Rattle.tables.specs.Layout.{types, references, operations, fragments, sets, selections, arguments, values, variables}
use Rattle.tables.specs.Image.{count_at}
use Rattle.tables.specs.Columns.{type_name, type_kind, reference_kind, reference_child, innermost, fragment_set}
use Rattle.tables.specs.Header.{header_fault}
use Rattle.rows.specs.Meaning.{KeepsType, KeepsReference, KeepsArgument}
use Rattle.tables.specs.Numbering.{set_start, next_set, next_value}
use Rattle.rows.specs.RowFault.{row_rule, first_bad, broken_row, left_over, unclaimed_fault, row_fault, image_fault, GoodBelow}
use Rattle.tables.specs.Good as good
use Rattle.tables.proofs.Tidy.{good_header}
use Rattle.tables.proofs.Counts.{few_rows}
use Rattle.tables.proofs.Innermost.{named_core, listed_core}
use Rattle.tables.proofs.ColumnLaws.{a_composite}
use Rattle.rows.proofs.PlainMeaning.{type_exactly, reference_exactly, operation_exactly, fragment_exactly, set_starts, set_exactly, argument_exactly, variable_exactly}

module _ (image : List ℕ) where
  -- no row of a table broken: each is good
  pub rows_good : (t : ℕ) → broken_row image t ≡ none → (r : ℕ) → r < count_at image t → row_rule image t r ≡ true
  unfolding broken_row first_bad
  rows_good t e r h = good_before (row_rule image t) (count_at image t) r (lt_of_lt_of_le h (leb-true _ _ (passed _ _ e)))

  module _ (fault-free : image_fault image ≡ none) where
    pub good_header_of : header_fault image ≡ none
    unfolding image_fault
    good_header_of = first_none _ _ fault-free

    none_in_rows : row_fault image ≡ none
    unfolding image_fault
    none_in_rows = next_none _ _ fault-free

    pub every_row : (t r : ℕ) → t < 9 → r < count_at image t → row_rule image t r ≡ true
    unfolding row_fault
    every_row t r ht h = rows_good t (each_none (broken_row image) 9 (first_none _ _ none_in_rows) t ht) r h

    pub no_set_left : count_at image sets ≤ next_set image (count_at image selections)
    unfolding row_fault unclaimed_fault left_over
    no_set_left = leb-true _ _ (passed _ _ (first_none _ _ (next_none _ _ none_in_rows)))

    pub no_selection_left : count_at image selections ≤ set_start image (count_at image sets)
    unfolding row_fault unclaimed_fault left_over
    no_selection_left = leb-true _ _ (passed _ _ (first_none _ _ (next_none _ _ (next_none _ _ none_in_rows))))

    pub no_value_left : count_at image values ≤ next_value image (count_at image values)
    unfolding row_fault unclaimed_fault left_over
    no_value_left = leb-true _ _ (passed _ _ (next_none _ _ (next_none _ _ (next_none _ _ none_in_rows))))

-- ---- what the rules of the plain tables say

module _ (image : List ℕ) (n : ℕ) (below : GoodBelow image n) where
  rule : (t r : ℕ) → t < n → r < count_at image t → row_rule image t r ≡ true
  rule t r ht h = below.rows t ht r h

  type_keeps : 0 < n → (r : ℕ) → r < count_at image types → KeepsType image r
  unfolding row_rule
  type_keeps some r h = (type_exactly image r (λ q less. rule types q some (omega arith))).0 (rule types r some h)

  pub kind_of_type : 0 < n → (r : ℕ) → r < count_at image types → type_kind image r ≤ 5
  kind_of_type some r h = (type_keeps some r h).kind

  pub ascending : 0 < n → (q r : ℕ) → q < r → r < count_at image types → type_name image q < type_name image r
  ascending some q r less h = (type_keeps some r h).ascends q less

  module _ (some : 1 < n) where
    reference_keeps : (r : ℕ) → r < count_at image references → KeepsReference image r
    unfolding row_rule
    reference_keeps r h = (reference_exactly image r).0 (rule references r some h)

    -- the core of a reference is a type: by the steps down to it
    core_in : (steps r : ℕ) → r < steps → r < count_at image references → innermost image r < count_at image types
    core_in zero r less h = absurd (omega arith)
    core_in (suc steps) r less h =
        elim (dec_le 2 (reference_kind image r)) [
          | yes listed ↦
              let earlier = (reference_keeps r h).listed listed in
              rw (listed_core image r listed earlier) (core_in steps (reference_child image r) (omega arith) (omega arith))
          | no named ↦ rw (named_core image r (omega arith)) ((reference_keeps r h).named (omega arith))
        ]

    pub reference_row : (r : ℕ) → r < count_at image references → good.GoodReference image r
    reference_row r h =
        let keeps = reference_keeps r h in
        record { kind = keeps.kind; named = λ less. keeps.named (omega arith); listed = keeps.listed; core = core_in (suc r) r (omega arith) h }

  module _ (some : 3 < n) where
    pub operation_row : (i : ℕ) → i < count_at image operations → good.GoodOperation image i
    unfolding row_rule
    operation_row i h =
        let keeps = (operation_exactly image i).0 (rule operations i (omega arith) h) in
        record { variables_within = keeps.variables_within; directives_within = keeps.directives_within; set = keeps.set }

    pub fragment_row : (j : ℕ) → j < count_at image fragments → good.GoodFragment image j
    unfolding row_rule fragment_set
    fragment_row j h =
        let keeps = (fragment_exactly image below.header j).0 (rule fragments j some h) in
        let few = few_rows image (good_header image below.header).few sets (omega arith) in
        record { directives_within = keeps.directives_within; set_number = omega (arith, keeps.set); set = omega (arith, keeps.set) }

  module _ (some : 4 < n) where
    pub set_row : (s : ℕ) → s < count_at image sets → good.GoodSet image s
    unfolding row_rule
    set_row s h =
        let keeps = (set_exactly image s).0 (rule sets s some h) in
        record {
          parent = keeps.parent;
          composite = a_composite _ keeps.from_object (omega (arith, keeps.to_union));
          starts = set_starts image s keeps;
          within = keeps.within;
        }

  module _ (some : 6 < n) where
    pub argument_keeps : (a : ℕ) → a < count_at image arguments → KeepsArgument image a
    unfolding row_rule
    argument_keeps a h = (argument_exactly image a).0 (rule arguments a some h)

  module _ (some : 8 < n) where
    pub variable_row : (v : ℕ) → v < count_at image variables → good.GoodVariable image v
    unfolding row_rule
    variable_row v h =
        let keeps = (variable_exactly image v).0 (rule variables v some h) in
        record { reference = keeps.reference; default = keeps.default }
