-- Specimens of kinds 10 to 13: what the definitions answer on small documents, computed, together as one table and one statement.
-- Each image has type 0 a scalar Int, type 1 the object Query, and one operation. Assumes nothing.
use mathlib.Core.Path.{◌≡◌, refl}
use mathlib.Core.List.{List, [], ◌∷◌, map}
use mathlib.Core.Option.{Option, none, some}
use Prim.Native.Nat.{ℕ}
use Rattle.lists.specs.First.{expect, ◌▷◌}
use Rattle.lists.specs.Every.{position}
use Rattle.tables.specs.Layout.{tables_of, row_width}
use Rattle.tables.specs.Image.{word_at, cell_at, row_in}
use Rattle.tables.specs.Columns.{is_composite, innermost_in, innermost, fragment_set, set_below}
use Rattle.reach.specs.Turns.{turns}
use Rattle.reach.specs.Reach.{queue_set, mark_set, enter_set, walk_selection, walk_set, walk_queue, none_met, start_sets, reached_from}
use Rattle.variable.specs.Types.{is_non_null}
use Rattle.variable.specs.Definitions.{first_output, first_repeated, alike, agrees_at, compatible_in, compatible, usage_allowed}
use Rattle.variable.specs.Uses.{furthest, reach_range, reach_selection, reach_set, reach_queue, none_used, reach_arguments, mark_variable, use_value, pass_row, mark_variables, uses_of, first_unused, argument_allowed, allowed_below, first_misused}
use Rattle.variable.specs.Verdict.{Shown, uses_fault, defined_fault, usage_fault}

pub record Specimen : Type 0 where
  pub image : List ℕ
  pub expected : Option Shown

abbrev pub specimen : List ℕ → Option Shown → Specimen
specimen image expected = record { image = image; expected = expected }

abbrev pub wrong : (kind a : ℕ) → Option Shown
wrong kind a = some (record { kind = kind; a = a })

-- `query($v: Query) {f(x: $v)}`
abbrev pub output_type : List ℕ
output_type =
    1 ∷ 62 ∷ 2 ∷ 20 ∷ 6 ∷ 24 ∷ 1 ∷ 36 ∷ 0 ∷ 40 ∷ 1 ∷ 40 ∷ 1 ∷ 43 ∷ 1 ∷ 52 ∷ 1 ∷ 55 ∷ 1 ∷ 59 ∷
    10 ∷ 0 ∷ 11 ∷ 1 ∷
    0 ∷ 0 ∷ 1 ∷ 0 ∷ 0 ∷ 1 ∷ 2 ∷ 0 ∷ 2 ∷ 1 ∷ 3 ∷ 1 ∷
    0 ∷ 1 ∷ 0 ∷ 0 ∷
    1 ∷ 0 ∷ 1 ∷
    0 ∷ 20 ∷ 20 ∷ 0 ∷ 0 ∷ 1 ∷ 4294967295 ∷ 0 ∷ 0 ∷
    21 ∷ 0 ∷ 0 ∷
    6 ∷ 4294967295 ∷ 30 ∷ 0 ∷
    30 ∷ 2 ∷ 0 ∷ []

-- `query($v: Int, $v: Int) {f(x: $v)}`
abbrev pub repeated : List ℕ
repeated =
    1 ∷ 65 ∷ 2 ∷ 20 ∷ 6 ∷ 24 ∷ 1 ∷ 36 ∷ 0 ∷ 40 ∷ 1 ∷ 40 ∷ 1 ∷ 43 ∷ 1 ∷ 52 ∷ 1 ∷ 55 ∷ 2 ∷ 59 ∷
    10 ∷ 0 ∷ 11 ∷ 1 ∷
    0 ∷ 0 ∷ 1 ∷ 0 ∷ 0 ∷ 1 ∷ 2 ∷ 0 ∷ 2 ∷ 1 ∷ 3 ∷ 1 ∷
    0 ∷ 2 ∷ 0 ∷ 0 ∷
    1 ∷ 0 ∷ 1 ∷
    0 ∷ 20 ∷ 20 ∷ 0 ∷ 0 ∷ 1 ∷ 4294967295 ∷ 0 ∷ 0 ∷
    21 ∷ 0 ∷ 0 ∷
    6 ∷ 4294967295 ∷ 30 ∷ 0 ∷
    30 ∷ 0 ∷ 0 ∷ 30 ∷ 0 ∷ 0 ∷ []

-- `query($v: Int) {f}`
abbrev pub unused : List ℕ
unused =
    1 ∷ 55 ∷ 2 ∷ 20 ∷ 6 ∷ 24 ∷ 1 ∷ 36 ∷ 0 ∷ 40 ∷ 1 ∷ 40 ∷ 1 ∷ 43 ∷ 0 ∷ 52 ∷ 0 ∷ 52 ∷ 1 ∷ 52 ∷
    10 ∷ 0 ∷ 11 ∷ 1 ∷
    0 ∷ 0 ∷ 1 ∷ 0 ∷ 0 ∷ 1 ∷ 2 ∷ 0 ∷ 2 ∷ 1 ∷ 3 ∷ 1 ∷
    0 ∷ 1 ∷ 0 ∷ 0 ∷
    1 ∷ 0 ∷ 1 ∷
    0 ∷ 20 ∷ 20 ∷ 0 ∷ 0 ∷ 0 ∷ 4294967295 ∷ 0 ∷ 0 ∷
    30 ∷ 0 ∷ 0 ∷ []

-- `query($v: Int) @d(x: $v) {f}`
abbrev pub operation_directive : List ℕ
operation_directive =
    1 ∷ 62 ∷ 2 ∷ 20 ∷ 6 ∷ 24 ∷ 1 ∷ 36 ∷ 0 ∷ 40 ∷ 1 ∷ 40 ∷ 1 ∷ 43 ∷ 1 ∷ 52 ∷ 1 ∷ 55 ∷ 1 ∷ 59 ∷
    10 ∷ 0 ∷ 11 ∷ 1 ∷
    0 ∷ 0 ∷ 1 ∷ 0 ∷ 0 ∷ 1 ∷ 2 ∷ 0 ∷ 2 ∷ 1 ∷ 3 ∷ 1 ∷
    0 ∷ 1 ∷ 0 ∷ 1 ∷
    1 ∷ 0 ∷ 1 ∷
    0 ∷ 20 ∷ 20 ∷ 0 ∷ 0 ∷ 0 ∷ 4294967295 ∷ 0 ∷ 0 ∷
    21 ∷ 0 ∷ 0 ∷
    6 ∷ 4294967295 ∷ 30 ∷ 0 ∷
    30 ∷ 0 ∷ 0 ∷ []

-- `query($v: Int) {...F}`, `fragment F @d(x: $v) {f}`
abbrev pub definition_directive : List ℕ
definition_directive =
    1 ∷ 76 ∷ 2 ∷ 20 ∷ 6 ∷ 24 ∷ 1 ∷ 36 ∷ 1 ∷ 40 ∷ 2 ∷ 42 ∷ 2 ∷ 48 ∷ 1 ∷ 66 ∷ 1 ∷ 69 ∷ 1 ∷ 73 ∷
    10 ∷ 0 ∷ 11 ∷ 1 ∷
    0 ∷ 0 ∷ 1 ∷ 0 ∷ 0 ∷ 1 ∷ 2 ∷ 0 ∷ 2 ∷ 1 ∷ 3 ∷ 1 ∷
    0 ∷ 1 ∷ 0 ∷ 0 ∷
    0 ∷ 1 ∷
    1 ∷ 0 ∷ 1 ∷ 1 ∷ 1 ∷ 1 ∷
    1 ∷ 0 ∷ 0 ∷ 0 ∷ 0 ∷ 0 ∷ 0 ∷ 0 ∷ 0 ∷ 0 ∷ 20 ∷ 20 ∷ 0 ∷ 0 ∷ 0 ∷ 4294967295 ∷ 0 ∷ 0 ∷
    21 ∷ 0 ∷ 0 ∷
    6 ∷ 4294967295 ∷ 30 ∷ 0 ∷
    30 ∷ 0 ∷ 0 ∷ []

-- `query($v: Int, $w: Int) {...F}`, `fragment F {f(x: $v)}`
abbrev pub through_fragment : List ℕ
through_fragment =
    1 ∷ 79 ∷ 2 ∷ 20 ∷ 6 ∷ 24 ∷ 1 ∷ 36 ∷ 1 ∷ 40 ∷ 2 ∷ 42 ∷ 2 ∷ 48 ∷ 1 ∷ 66 ∷ 1 ∷ 69 ∷ 2 ∷ 73 ∷
    10 ∷ 0 ∷ 11 ∷ 1 ∷
    0 ∷ 0 ∷ 1 ∷ 0 ∷ 0 ∷ 1 ∷ 2 ∷ 0 ∷ 2 ∷ 1 ∷ 3 ∷ 1 ∷
    0 ∷ 2 ∷ 0 ∷ 0 ∷
    0 ∷ 0 ∷
    1 ∷ 0 ∷ 1 ∷ 1 ∷ 1 ∷ 1 ∷
    1 ∷ 0 ∷ 0 ∷ 0 ∷ 0 ∷ 0 ∷ 0 ∷ 0 ∷ 0 ∷ 0 ∷ 20 ∷ 20 ∷ 0 ∷ 0 ∷ 1 ∷ 4294967295 ∷ 0 ∷ 0 ∷
    21 ∷ 0 ∷ 0 ∷
    6 ∷ 4294967295 ∷ 30 ∷ 0 ∷
    30 ∷ 0 ∷ 0 ∷ 31 ∷ 0 ∷ 0 ∷ []

-- `query($v: Int) {f(x: {k: [$v]})}`, the place being Int!: what is nested is used, and passed over by 13
abbrev pub nested : List ℕ
nested =
    1 ∷ 70 ∷ 2 ∷ 20 ∷ 6 ∷ 24 ∷ 1 ∷ 36 ∷ 0 ∷ 40 ∷ 1 ∷ 40 ∷ 1 ∷ 43 ∷ 1 ∷ 52 ∷ 3 ∷ 55 ∷ 1 ∷ 67 ∷
    10 ∷ 0 ∷ 11 ∷ 1 ∷
    0 ∷ 0 ∷ 1 ∷ 0 ∷ 0 ∷ 1 ∷ 2 ∷ 0 ∷ 2 ∷ 1 ∷ 3 ∷ 1 ∷
    0 ∷ 1 ∷ 0 ∷ 0 ∷
    1 ∷ 0 ∷ 1 ∷
    0 ∷ 20 ∷ 20 ∷ 0 ∷ 0 ∷ 1 ∷ 4294967295 ∷ 0 ∷ 0 ∷
    21 ∷ 1 ∷ 0 ∷
    8 ∷ 4294967295 ∷ 1 ∷ 1 ∷ 7 ∷ 40 ∷ 2 ∷ 1 ∷ 6 ∷ 4294967295 ∷ 30 ∷ 0 ∷
    30 ∷ 0 ∷ 0 ∷ []

-- `query($v: Int) {f(x: $v)}`, the place being Int!
abbrev pub nullable : List ℕ
nullable =
    1 ∷ 62 ∷ 2 ∷ 20 ∷ 6 ∷ 24 ∷ 1 ∷ 36 ∷ 0 ∷ 40 ∷ 1 ∷ 40 ∷ 1 ∷ 43 ∷ 1 ∷ 52 ∷ 1 ∷ 55 ∷ 1 ∷ 59 ∷
    10 ∷ 0 ∷ 11 ∷ 1 ∷
    0 ∷ 0 ∷ 1 ∷ 0 ∷ 0 ∷ 1 ∷ 2 ∷ 0 ∷ 2 ∷ 1 ∷ 3 ∷ 1 ∷
    0 ∷ 1 ∷ 0 ∷ 0 ∷
    1 ∷ 0 ∷ 1 ∷
    0 ∷ 20 ∷ 20 ∷ 0 ∷ 0 ∷ 1 ∷ 4294967295 ∷ 0 ∷ 0 ∷
    21 ∷ 1 ∷ 0 ∷
    6 ∷ 4294967295 ∷ 30 ∷ 0 ∷
    30 ∷ 0 ∷ 0 ∷ []

-- the same, the variable having a default
abbrev pub own_default : List ℕ
own_default =
    1 ∷ 62 ∷ 2 ∷ 20 ∷ 6 ∷ 24 ∷ 1 ∷ 36 ∷ 0 ∷ 40 ∷ 1 ∷ 40 ∷ 1 ∷ 43 ∷ 1 ∷ 52 ∷ 1 ∷ 55 ∷ 1 ∷ 59 ∷
    10 ∷ 0 ∷ 11 ∷ 1 ∷
    0 ∷ 0 ∷ 1 ∷ 0 ∷ 0 ∷ 1 ∷ 2 ∷ 0 ∷ 2 ∷ 1 ∷ 3 ∷ 1 ∷
    0 ∷ 1 ∷ 0 ∷ 0 ∷
    1 ∷ 0 ∷ 1 ∷
    0 ∷ 20 ∷ 20 ∷ 0 ∷ 0 ∷ 1 ∷ 4294967295 ∷ 0 ∷ 0 ∷
    21 ∷ 1 ∷ 0 ∷
    6 ∷ 4294967295 ∷ 30 ∷ 0 ∷
    30 ∷ 0 ∷ 1 ∷ []

-- the same, the place having one
abbrev pub place_default : List ℕ
place_default =
    1 ∷ 62 ∷ 2 ∷ 20 ∷ 6 ∷ 24 ∷ 1 ∷ 36 ∷ 0 ∷ 40 ∷ 1 ∷ 40 ∷ 1 ∷ 43 ∷ 1 ∷ 52 ∷ 1 ∷ 55 ∷ 1 ∷ 59 ∷
    10 ∷ 0 ∷ 11 ∷ 1 ∷
    0 ∷ 0 ∷ 1 ∷ 0 ∷ 0 ∷ 1 ∷ 2 ∷ 0 ∷ 2 ∷ 1 ∷ 3 ∷ 1 ∷
    0 ∷ 1 ∷ 0 ∷ 0 ∷
    1 ∷ 0 ∷ 1 ∷
    0 ∷ 20 ∷ 20 ∷ 0 ∷ 0 ∷ 1 ∷ 4294967295 ∷ 0 ∷ 0 ∷
    21 ∷ 1 ∷ 1 ∷
    6 ∷ 4294967295 ∷ 30 ∷ 0 ∷
    30 ∷ 0 ∷ 0 ∷ []

-- `query($v: [Int] = ..) {f(x: $v)}`, the place being [Int!]!
abbrev pub items : List ℕ
items =
    1 ∷ 62 ∷ 2 ∷ 20 ∷ 6 ∷ 24 ∷ 1 ∷ 36 ∷ 0 ∷ 40 ∷ 1 ∷ 40 ∷ 1 ∷ 43 ∷ 1 ∷ 52 ∷ 1 ∷ 55 ∷ 1 ∷ 59 ∷
    10 ∷ 0 ∷ 11 ∷ 1 ∷
    0 ∷ 0 ∷ 1 ∷ 0 ∷ 0 ∷ 1 ∷ 2 ∷ 0 ∷ 2 ∷ 1 ∷ 3 ∷ 1 ∷
    0 ∷ 1 ∷ 0 ∷ 0 ∷
    1 ∷ 0 ∷ 1 ∷
    0 ∷ 20 ∷ 20 ∷ 0 ∷ 0 ∷ 1 ∷ 4294967295 ∷ 0 ∷ 0 ∷
    21 ∷ 5 ∷ 0 ∷
    6 ∷ 4294967295 ∷ 30 ∷ 0 ∷
    30 ∷ 3 ∷ 1 ∷ []

-- `query($v: [Int!]) {f(x: $v)}`, the place being [Int]
abbrev pub looser : List ℕ
looser =
    1 ∷ 62 ∷ 2 ∷ 20 ∷ 6 ∷ 24 ∷ 1 ∷ 36 ∷ 0 ∷ 40 ∷ 1 ∷ 40 ∷ 1 ∷ 43 ∷ 1 ∷ 52 ∷ 1 ∷ 55 ∷ 1 ∷ 59 ∷
    10 ∷ 0 ∷ 11 ∷ 1 ∷
    0 ∷ 0 ∷ 1 ∷ 0 ∷ 0 ∷ 1 ∷ 2 ∷ 0 ∷ 2 ∷ 1 ∷ 3 ∷ 1 ∷
    0 ∷ 1 ∷ 0 ∷ 0 ∷
    1 ∷ 0 ∷ 1 ∷
    0 ∷ 20 ∷ 20 ∷ 0 ∷ 0 ∷ 1 ∷ 4294967295 ∷ 0 ∷ 0 ∷
    21 ∷ 3 ∷ 0 ∷
    6 ∷ 4294967295 ∷ 30 ∷ 0 ∷
    30 ∷ 4 ∷ 0 ∷ []

-- `query($v: Int) {f(x: $v, y: $w)}`, y being Int!: what is not defined is passed over
abbrev pub undefined : List ℕ
undefined =
    1 ∷ 69 ∷ 2 ∷ 20 ∷ 6 ∷ 24 ∷ 1 ∷ 36 ∷ 0 ∷ 40 ∷ 1 ∷ 40 ∷ 1 ∷ 43 ∷ 2 ∷ 52 ∷ 2 ∷ 58 ∷ 1 ∷ 66 ∷
    10 ∷ 0 ∷ 11 ∷ 1 ∷
    0 ∷ 0 ∷ 1 ∷ 0 ∷ 0 ∷ 1 ∷ 2 ∷ 0 ∷ 2 ∷ 1 ∷ 3 ∷ 1 ∷
    0 ∷ 1 ∷ 0 ∷ 0 ∷
    1 ∷ 0 ∷ 1 ∷
    0 ∷ 20 ∷ 20 ∷ 0 ∷ 0 ∷ 2 ∷ 4294967295 ∷ 0 ∷ 0 ∷
    21 ∷ 0 ∷ 0 ∷ 22 ∷ 1 ∷ 0 ∷
    6 ∷ 4294967295 ∷ 30 ∷ 0 ∷ 6 ∷ 4294967295 ∷ 31 ∷ 0 ∷
    30 ∷ 0 ∷ 0 ∷ []

abbrev pub table : List Specimen
table =
    specimen output_type (wrong 10 0) ∷
    specimen repeated (wrong 11 1) ∷
    specimen unused (wrong 12 0) ∷
    specimen operation_directive none ∷
    specimen definition_directive none ∷
    specimen through_fragment (wrong 12 1) ∷
    specimen nested none ∷
    specimen nullable (wrong 13 0) ∷
    specimen own_default none ∷
    specimen place_default none ∷
    specimen items (wrong 13 0) ∷
    specimen looser none ∷
    specimen undefined none ∷ []

-- the operation's variables, of every specimen
pub specimens : map (λ (s : Specimen). usage_fault s.image 0) table ≡ map (λ (s : Specimen). s.expected) table
unfolding expect ◌▷◌ position tables_of row_width word_at cell_at row_in is_composite innermost_in innermost fragment_set set_below turns queue_set mark_set enter_set walk_selection walk_set walk_queue none_met start_sets reached_from is_non_null first_output first_repeated alike agrees_at compatible_in compatible usage_allowed furthest reach_range reach_selection reach_set reach_queue none_used reach_arguments mark_variable use_value pass_row mark_variables uses_of first_unused argument_allowed allowed_below first_misused uses_fault defined_fault
specimens = refl
