-- The merge walk as a function: two passes over groups, known lists, charges; and the listing, which is the same walk
-- with another hand on conflicts. Assumes nothing.
use Rattle.std.specs.Prelude.{Bool, true, false, List, [], ◌∷◌, ◌++◌, ℕ, zero, suc, ◌+◌, length}
use Rattle.std.proofs.Math.Option.{Option, none, some}
use Rattle.merge_theory.specs.Lists.{flat_map, filter, distinct, is_in, same_list, is_known}
use Rattle.merge_theory.specs.Document.{Document, Cause, shape, name, arguments, set_of}
use Rattle.merge_theory.specs.Expand.{entering, marking, queued, marked, visits, fields_of, expand}
use Rattle.merge_theory.specs.Groups.{fields_with, keys_of, groups, concretes, abstracts, subgroups_by, subgroups}
use Rattle.merge_theory.specs.Steps.{State, Result, finished, deep, Step, after, ◌then◌, charge_if, charge, Found, stop, same_entry, is_listed, list_if, list, tell}

-- ---- the two passes

-- how a pass splits a list of fields into parts, and what it finds between the first field of a part and another
pub record Pass : Type 0 where
  pub parts : List ℕ → List (List ℕ)
  pub clash : ℕ → ℕ → Option Cause

-- the cause, if the test fails
unfoldable pub unless : Bool → Cause → Option Cause → Option Cause
unless true c next = next
unless false c next = some c

module _ (D : Document) where
  -- "Shape pass, per group"
  abbrev pub shape_pass : Pass
  shape_pass = record { parts = groups D; clash = λ a b. unless (D.types_agree a b) shape none }

  -- "Parent pass: within a name group", per subgroup: "name, then arguments"
  abbrev pub parent_pass : Pass
  parent_pass = record {
    parts = λ fields. flat_map (subgroups D) (groups D fields);
    clash = λ a b. unless (D.same_name a b) name (unless (D.same_arguments a b) arguments none);
  }

-- ---- a part: "the first field against each other in order, then the group's non-empty sets merged and walked"

-- in operation s
module _ (found : Found) (s : ℕ) where
  unfoldable pub against : (ℕ → ℕ → Option Cause) → ℕ → List ℕ → Step
  against clash a [] = finished
  against clash a (b ∷ others) = tell found s (clash a b) a b then against clash a others

  unfoldable pub compare_first : (ℕ → ℕ → Option Cause) → List ℕ → Step
  compare_first clash [] = finished
  compare_first clash (a ∷ others) = against clash a others

-- a part's sets, if there are any, by the walk of the level below
unfoldable pub descend : (List ℕ → Step) → List ℕ → Step
descend below [] = finished
descend below (t ∷ sets) = below (t ∷ sets)

abbrev pub has_rows : List ℕ → Bool
has_rows [] = false
has_rows (r ∷ rows) = true

module _ (D : Document) where
  -- the non-empty sets of a part's fields
  unfoldable pub sets_below : List ℕ → List ℕ
  sets_below part = filter (λ t. has_rows (D.rows_of t)) (flat_map (set_of D) part)

-- ---- a list that is met

-- "Each set met costs 1 unit, and its list length if no equal list of rows was met earlier in this pass of this operation"
unfoldable pub cost_of : Bool → List ℕ → ℕ
cost_of true fields = 1
cost_of false fields = 1 + length fields

-- note a list of rows as met
abbrev pub noted : List ℕ → State → State
noted fields z = record { known = z.known ++ fields ∷ []; used = z.used; entries = z.entries }

unfoldable pub note : List ℕ → Step
note fields z = finished (noted fields z)

-- "an equal one is not walked again"
unfoldable pub enter : List ℕ → Step → Bool → Step
enter fields walked true = finished
enter fields walked false = note fields then walked

-- "Both are one charge, made before any comparison"
unfoldable pub meet : ℕ → List ℕ → Step → Bool → Step
meet budget fields walked isOld = charge budget (cost_of isOld fields) then enter fields walked isOld

-- ---- the walk

module _ (D : Document) (P : Pass) (found : Found) (s : ℕ) where
  -- part by part, each with all that is below it "before the next"
  unfoldable pub walk_parts : (List ℕ → Step) → List (List ℕ) → Step
  walk_parts below [] = finished
  walk_parts below (part ∷ parts) = compare_first found s P.clash part then descend below (sets_below D part) then walk_parts below parts

  -- merged sets, with levels to go
  unfoldable pub walk : ℕ → ℕ → List ℕ → Step
  walk budget zero sets z = deep z
  walk budget (suc levels) sets z =
      meet budget (expand D sets) (walk_parts (walk budget levels) (P.parts (expand D sets))) (is_known (expand D sets) z.known) z

-- nothing is known yet
abbrev pub fresh : State → State
fresh z = record { known = []; used = z.used; entries = z.entries }

abbrev pub begin : ℕ → State
begin used = record { known = []; used = used; entries = [] }

module _ (D : Document) (found : Found) (budget : ℕ) where
  -- a pass over an operation with set s: it has known lists of its own
  unfoldable pub pass : Pass → ℕ → Step
  pass P s z = walk D P found s budget (suc D.limit) (s ∷ []) (fresh z)

  -- the shape pass, then the parent pass
  unfoldable pub passes : ℕ → Step
  passes s = pass (shape_pass D) s then pass (parent_pass D) s

module _ (D : Document) where
  -- The check of an operation with set s, where so many units have been used
  unfoldable pub check : ℕ → ℕ → ℕ → Result
  check budget used s = passes D stop budget s (begin used)

  -- operations in order, over one budget
  unfoldable pub in_order : Found → ℕ → List ℕ → Step
  in_order found budget [] = finished
  in_order found budget (s ∷ operations) = passes D found budget s then in_order found budget operations

  -- The listing of operations, with room for so many entries
  abbrev pub listing : ℕ → ℕ → List ℕ → Step
  listing room = in_order (list room)

  -- Their checks, up to the first that does not finish
  abbrev pub checks : ℕ → List ℕ → Step
  checks = in_order stop

-- to compute a check, name this on an `unfolding` line: it opens all that a check computes with
unfoldable pub computes : Unit {0}
unfolding
    flat_map filter distinct is_in same_list is_known
    set_of entering marking queued marked visits fields_of expand
    fields_with keys_of groups concretes abstracts subgroups_by subgroups
    after charge_if charge same_entry is_listed list_if list tell
    unless against compare_first descend sets_below cost_of note enter meet walk_parts walk pass passes check in_order
computes = tt
