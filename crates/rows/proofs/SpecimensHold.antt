-- The specimens hold: one table, one statement, by computation. Assumes nothing.
use Prim.Native.Nat.{ℕ}
use mathlib.Core.Path.{◌≡◌, refl}
use mathlib.Core.Bool.{Bool, true, ◌&&◌}
use mathlib.Core.List.{List, [], ◌∷◌}
use mathlib.Core.Option.{Option, none, some}
use lib.Dec.{eqb}
use Rattle.tables.specs.Header.{Refusal}
use Rattle.tables.specs.Lookup.{set_place, start_at, words_at}
use Rattle.tables.proofs.Computing as tables
use Rattle.rows.specs.Rows.{ascends, good_type, good_child, good_reference, good_operation, good_fragment, good_parent, good_set, good_argument, good_variable}
use Rattle.rows.specs.Selections.{has_no_field_words, good_arguments, good_field_type, good_field, good_spread, good_by_itself, agrees_with_parent, good_owned, selection_rule, least_owned, good_selection}
use Rattle.rows.specs.Values.{good_atom, good_list_keys, good_object_keys, good_keys, good_claim, good_own_key, value_rule, good_value}
use Rattle.rows.specs.RowFault.{row_rule, first_bad, broken_row, left_over, unclaimed_fault, row_fault, image_fault}
use Rattle.rows.specs.Specimens.{Specimen, specimens}

-- to compute a fault, name this on an `unfolding` line: it opens all that it computes with
unfoldable pub computes : Unit {0}
unfolding
    tables.computes
    ascends good_type good_child good_reference good_operation good_fragment good_parent good_set good_argument good_variable
    has_no_field_words good_arguments good_field_type good_field good_spread good_by_itself agrees_with_parent good_owned selection_rule
    least_owned good_selection
    good_atom good_list_keys good_object_keys good_keys good_claim good_own_key value_rule good_value
    row_rule first_bad broken_row left_over unclaimed_fault row_fault image_fault
computes = tt

-- a fault shows these numbers, and no fault shows zeros
abbrev pub shows : Option Refusal → ℕ → ℕ → ℕ → Bool
shows none kind a b = eqb kind 0 && eqb a 0 && eqb b 0
shows (some fault) kind a b = eqb fault.kind kind && eqb fault.a a && eqb fault.b b

unfoldable pub holds : Specimen → Bool
holds s =
    let place = set_place s.image s.set in
    shows (image_fault s.image) s.kind s.a s.b
    && eqb (start_at s.image place) s.start && eqb (words_at place) s.words

unfoldable pub all : List Specimen → Bool
all [] = true
all (s ∷ rest) = holds s && all rest

pub specimens_hold : all specimens ≡ true
unfolding computes holds all
specimens_hold = refl
