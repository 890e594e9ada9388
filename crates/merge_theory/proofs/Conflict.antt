-- T1: the pair that a check names is the first field of a part that is met and the first other that clashes with it. Such a pair, and
-- every pair that a listing has an entry of, is a true conflict; and a true conflict breaks the rule. Assumes nothing.
use mathlib.Core.Path.{◌≡◌, refl, subst}
use mathlib.Core.Logic.{inl, inr, ⊎_map, ⊎_elim}
use mathlib.Core.Option.{Option, none, some}
use mathlib.Core.List.{List, [], ◌∷◌}
use Prim.Native.Nat.{ℕ, suc}
use Rattle.merge_theory.specs.Lists.{◌∈◌, there}
use Rattle.merge_theory.specs.Document.{Document, Cause, shape, name, arguments}
use Rattle.merge_theory.specs.Expand.{FieldIn, expand}
use Rattle.merge_theory.specs.Steps.{Entry, entry, State, after, ◌then◌, stop, tell}
use Rattle.merge_theory.specs.Walk.{Pass, against, compare_first, fresh, pass, passes, check, begin, shape_pass, parent_pass}
use Rattle.merge_theory.specs.Named.{Met, top, below, Compared, compared, ComparedInCheck, FirstClash, now, later, Named, named, NamedInCheck}
use Rattle.merge_theory.specs.Rule.{SameResponse, ShapeFails, types_disagree, subshapes_fail, MergeFails, shapes_fail, names_differ, arguments_differ, subfields_fail}
use Rattle.merge_theory.specs.TrueConflict.{SameLevel, Chains, first_level, next_level, TrueConflict}
use Rattle.merge_theory.proofs.ListLaws.{head_in}
use Rattle.merge_theory.proofs.ExpandLaws.{expand_sound}
use Rattle.merge_theory.proofs.Levels.{from_below, merged_left, merged_right}
use Rattle.merge_theory.proofs.Outcome.{Fact, Anyhow, Meets, Told}
use Rattle.merge_theory.proofs.Passes.{PassLaws, shape_laws, parent_laws}
use Rattle.merge_theory.proofs.Carried.{carried_walk}
use Rattle.merge_theory.proofs.Stopping.{Stopping, StopsSo, stops_then, stops_carries}

-- ---- what the check names

-- the check of s names conflicts of s
pub data NamedEntry (D : Document) (s : ℕ) : Entry → Type 0 where
  named_entry : {c : Cause} {a b : ℕ} → NamedInCheck D s c a b → NamedEntry D s (entry s c a b)

abbrev pub NamesOnly : Document → ℕ → Entry → Fact
NamesOnly D s e z = NamedEntry D s e

module _ (At : Entry → Fact) (s : ℕ) (clash : ℕ → ℕ → Option Cause) (a : ℕ) where
  -- it stops at the first field that clashes
  stops_against : (others : List ℕ) → ((c : Cause) (b : ℕ) → FirstClash clash a c b others → (z : State) → At (entry s c a b) z)
      → StopsSo At (against stop s clash a others)
  unfolding against tell after
  stops_against [] h = λ z. tt
  stops_against (b ∷ others) h = λ z. by_outcome (clash a b) (λ c e. h c b (now e)) (λ e. stops_against others (λ c d f. h c d (later e f))) z
    where
      by_outcome : (o : Option Cause) → ((c : Cause) → o ≡ some c → (z : State) → At (entry s c a b) z)
          → (o ≡ none → StopsSo At (against stop s clash a others)) → StopsSo At (tell stop s o a b then against stop s clash a others)
      by_outcome none names go = go refl
      by_outcome (some c) names go = λ z. names c refl z

-- a pass stops at pairs that it may name
pub pass_stops : (At : Entry → Fact) (D : Document) (P : Pass) (s budget : ℕ)
    → ((c : Cause) (a b : ℕ) → Named D P s c a b → (z : State) → At (entry s c a b) z) → StopsSo At (pass D stop budget P s)
unfolding pass compare_first
pass_stops At D P s budget may z =
    carried_walk D P s _ _ _ (stops_carries At D P s budget stop by_part) (suc D.limit) (s ∷ []) top (fresh z)
  where
    by_part : (sets part : List ℕ) → Met D P s sets → part ∈ P.parts (expand D sets) → StopsSo At (compare_first stop s P.clash part)
    by_part sets [] met m = λ z. tt
    by_part sets (a ∷ others) met m = stops_against At s P.clash a others (λ c b f. may c a b (named met m f))

pub check_names : (D : Document) (budget used s : ℕ) → Meets Anyhow (Stopping (NamesOnly D s)) (check D budget used s)
unfolding check passes
check_names D budget used s =
    stops_then (NamesOnly D s) (pass D stop budget (shape_pass D) s) (pass D stop budget (parent_pass D) s)
    (pass_stops (NamesOnly D s) D (shape_pass D) s budget (λ c a b h z. named_entry (inl h)))
    (pass_stops (NamesOnly D s) D (parent_pass D) s budget (λ c a b h z. named_entry (inr h))) (begin used)

-- ---- what is compared and clashes is a true conflict

clash_in : {clash : ℕ → ℕ → Option Cause} {a b : ℕ} {c : Cause} {others : List ℕ} → FirstClash clash a c b others
    → (b ∈ others) × (clash a b ≡ some c)
clash_in (now e) = (head_in, e)
clash_in (later e f) = let (m, g) = clash_in f in (there m, g)

module _ (D : Document) (P : Pass) (Near : ℕ → ℕ → Type 0) (L : PassLaws D P Near) (s : ℕ) where
  part_field : (sets part : List ℕ) {a : ℕ} → part ∈ P.parts (expand D sets) → a ∈ part → FieldIn D sets a
  part_field sets part {a} m i = expand_sound D sets (L.part_in (expand D sets) part a m i)

  -- chains lead to every two near fields of sets that are met
  met_chains : {sets : List ℕ} {a b : ℕ} → Met D P s sets → FieldIn D sets a → FieldIn D sets b → Near a b → Chains D Near s a b
  met_chains top i j near = first_level i j near
  met_chains (below {sets = sets} {part = part} met m) i j near =
      let (c, k, h) = from_below D i in
      let (d, l, g) = from_below D j in
      let near' : Near c d = L.part_near (expand D sets) part c d m k l in
      next_level (met_chains met (part_field sets part m k) (part_field sets part m l) near') h g near

  pub compared_true : (c : Cause) (a b : ℕ) → Compared D P s c a b → TrueConflict D s c a b
  compared_true c a b (compared {sets = sets} {others = others} met m k e) =
      let near : Near a b = L.part_near (expand D sets) (a ∷ others) a b m head_in (there k) in
      let chains : Chains D Near s a b = met_chains met (part_field sets _ m head_in) (part_field sets _ m (there k)) near in
      subst (Told (λ d. TrueConflict D s d a b)) e (L.told s a b chains)

-- what is named was compared
named_compared : {D : Document} {P : Pass} {s a b : ℕ} {c : Cause} → Named D P s c a b → Compared D P s c a b
named_compared (named met m f) = let (k, e) = clash_in f in compared met m k e

pub either_true : (D : Document) (s : ℕ) (c : Cause) (a b : ℕ) → ComparedInCheck D s c a b → TrueConflict D s c a b
either_true D s c a b =
    ⊎_elim (compared_true D (shape_pass D) (SameResponse D) (shape_laws D) s c a b)
    (compared_true D (parent_pass D) (SameLevel D) (parent_laws D) s c a b)

pub either_compared : {D : Document} {s a b : ℕ} {c : Cause} → NamedInCheck D s c a b → ComparedInCheck D s c a b
either_compared = ⊎_map named_compared named_compared

-- ---- a true conflict breaks the rule

module _ (D : Document) where
  -- a pair at the end of two chains whose shape fails breaks the rule at the top
  shape_up : {s a b : ℕ} → Chains D (SameResponse D) s a b → ShapeFails D a b → MergeFails D (s ∷ [])
  shape_up (first_level i j near) bad = shapes_fail i j near bad
  shape_up (next_level {c = c} {d = d} chains i j near) bad =
      shape_up chains (subshapes_fail (merged_left D c d i) (merged_right D c d j) near bad)

  -- so does a pair that breaks the rule of whatever sets have both
  parent_up : {s a b : ℕ} → Chains D (SameLevel D) s a b
      → ((sets : List ℕ) → FieldIn D sets a → FieldIn D sets b → SameLevel D a b → MergeFails D sets) → MergeFails D (s ∷ [])
  parent_up {s = s} (first_level i j near) bad = bad (s ∷ []) i j near
  parent_up (next_level {c = c} {d = d} chains i j near) bad =
      parent_up chains
      (λ sets k l level. subfields_fail k l level.0 level.1 (bad _ (merged_left D c d i) (merged_right D c d j) near))

  pub true_fails : (s : ℕ) (c : Cause) (a b : ℕ) → TrueConflict D s c a b → MergeFails D (s ∷ [])
  true_fails s shape a b h = shape_up h.0 (types_disagree h.1)
  true_fails s name a b h = parent_up h.0 (λ sets i j level. names_differ i j level.0 level.1 h.1)
  true_fails s arguments a b h = parent_up h.0 (λ sets i j level. arguments_differ i j level.0 level.1 h.1)
