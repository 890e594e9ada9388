-- The theorems, whole and in one place: what is proved of the merge walk. Each says in its type what it assumes of the document.
use mathlib.Core.Path.{◌≡◌, refl, ap, subst}
use mathlib.Core.Logic.{◌↔◌, ◌⊎◌, ⊎_map, ⊎_elim}
use mathlib.Core.List.{List, [], ◌∷◌}
use Prim.Native.Nat.{ℕ, suc, ◌+◌, ◌≤◌}
use native.Mathlib.Omega.{arith}
use lib.ListN.{length}
use Rattle.merge_theory.specs.Lists.{◌∈◌, Every, flat_map}
use Rattle.merge_theory.specs.Document.{Document, Cause, shape, Equivalence, FieldAt, Sound}
use Rattle.merge_theory.specs.Expand.{FieldIn, QueueWalk, visits, fields_of, expand}
use Rattle.merge_theory.specs.Steps.{Entry, entry, State, Result, finished, conflict, out, deep, IsFinished, IsOut, state_of, Found, stop, list}
use Rattle.merge_theory.specs.Walk.{Pass, begin, pass, passes, check, listing}
use Rattle.merge_theory.specs.Named.{NamedInCheck}
use Rattle.merge_theory.specs.Rule.{MergeFails, Reached, start, onward, RuleHolds, RuleHolds≢}
use Rattle.merge_theory.specs.TrueConflict.{TrueConflict}
use Rattle.merge_theory.specs.Links.{links}
use Rattle.merge_theory.specs.Units.{WithinBudget, weight, cost_of_all}
use Rattle.merge_theory.proofs.ListLaws.{not_in_nil}
use Rattle.merge_theory.proofs.ExpandLaws.{expand_sound, expand_complete, all_low}
use Rattle.merge_theory.proofs.QueueLaws.{visits_queue, visited_once}
use Rattle.merge_theory.proofs.Outcome.{Anyhow, AnyStop, Shallow, Meets}
use Rattle.merge_theory.proofs.Stopping.{Stopping}
use Rattle.merge_theory.proofs.Conflict.{NamedEntry, named_entry, NamesOnly, check_names, either_true, either_compared, true_fails}
use Rattle.merge_theory.proofs.Complete.{check_clean, reached_up}
use Rattle.merge_theory.proofs.KindLaws.{shape_or_other, other_cause}
use Rattle.merge_theory.proofs.Found.{Modest, stop_modest, list_modest}
use Rattle.merge_theory.proofs.Units.{Paid, InBudget, pass_paid, passes_within, all_within, within}
use Rattle.merge_theory.proofs.Entries.{ComparedIn, compared_in, Distinct, ends_compared, ends_distinct, ends_fitting}
use Rattle.merge_theory.proofs.Sizes.{Size, Larger, Prolongs, Stopped, bears_passes, bears_listing, same_budget, enough_budget}
use Rattle.merge_theory.proofs.NoRoom.{no_room_passes}
pub use Rattle.merge_theory.proofs.ListingLaws.{nothing_listed, first_listed, all_listed, listing_never_deep}
use Rattle.merge_theory.proofs.Charges.{pass_charges}
use Rattle.merge_theory.proofs.Distinct.{distinct_rule}
use Rattle.merge_theory.proofs.LinkLaws.{links_fall, links_reached}

-- ---- expanding

module _ (D : Document) {At : ℕ → Type 0} (S : Sound D At) (sets : List ℕ) (all : Every At sets) where
  -- The queue lists exactly the fields of the merged sets.
  pub expand_exact : (f : ℕ) → f ∈ expand D sets ↔ FieldIn D sets f
  expand_exact f = (expand_sound D sets, expand_complete D S sets all)

  -- The queue, set by set, is worked off.
  pub queue_ends : (visited : List ℕ) × QueueWalk D [] sets visited
  queue_ends = (visits D D.limit [] sets, visits_queue D S D.limit [] sets (all_low D S all))

  -- Whoever works it off and lists the fields of each set as it leaves has `expand`.
  pub expand_queue : (visited : List ℕ) → QueueWalk D [] sets visited → flat_map (fields_of D) visited ≡ expand D sets
  unfolding expand
  expand_queue visited w = ap (flat_map (fields_of D)) (visited_once D S sets visited all w)

-- ---- T1: conflicts

-- A check of s that stops at a conflict stops at one of s.
pub conflict_own : (D : Document) (budget used s : ℕ) (e : Entry) (z : State) → check D budget used s ≡ conflict e z → NamedEntry D s e
conflict_own D budget used s e z stopped = subst (Meets Anyhow (Stopping (NamesOnly D s))) stopped (check_names D budget used s)

module _ (D : Document) (budget used s : ℕ) (c : Cause) (a b : ℕ) (z : State) (stopped : check D budget used s ≡ conflict (entry s c a b) z) where
  -- The pair that the check names is the first field of a group or subgroup that is met, and the first other that clashes with it.
  pub conflict_first : NamedInCheck D s c a b
  conflict_first = of_entry (conflict_own D budget used s (entry s c a b) z stopped)
    where
      Names : Entry → Type 0
      Names (entry t d i j) = NamedInCheck D s d i j

      of_entry : {e : Entry} → NamedEntry D s e → Names e
      of_entry (named_entry h) = h

  -- T1. A conflict that the check names is a true conflict.
  pub conflict_true : TrueConflict D s c a b
  conflict_true = either_true D s c a b (either_compared conflict_first)

  -- So the pairwise rule fails, already for the operation's own set.
  pub conflict_breaks : MergeFails D (s ∷ [])
  conflict_breaks = true_fails D s c a b conflict_true

-- ---- T2: no conflict

module _ (D : Document) {At : ℕ → Type 0} (S : Sound D At) (budget used s : ℕ) (at : At s) where
  -- T2. If the check finishes, the pairwise rule holds for every set that the operation reaches.
  pub finished_holds : (z : State) → check D budget used s ≡ finished z → RuleHolds D s
  finished_holds z e t r bad =
      (subst (Meets (λ z. ¬ MergeFails D (s ∷ [])) Shallow) e (check_clean D S budget used s at)) (reached_up D r bad)

  -- The levels suffice: a check finishes, names a conflict or runs out.
  pub never_deep : (z : State) → ¬ (check D budget used s ≡ deep z)
  never_deep z e = subst (Meets (λ z. ¬ MergeFails D (s ∷ [])) Shallow) e (check_clean D S budget used s at)

-- ---- b: the listing

-- The check is the listing of its operation with no room.
pub no_room_check : (D : Document) (budget used s : ℕ) → check D budget used s ≡ passes D (list 0) budget s (begin used)
unfolding check
no_room_check D budget used s = no_room_passes D budget s (begin used) refl

module _ (D : Document) (room budget used : ℕ) (operations : List ℕ) where
  abbrev found : List Entry
  found = (state_of (listing D room budget operations (begin used))).entries

  -- B1. Every entry is a true conflict, of an operation that was listed.
  pub entries_true : (s : ℕ) (c : Cause) (a b : ℕ) → entry s c a b ∈ found → (s ∈ operations) × TrueConflict D s c a b
  entries_true s c a b m = of_entry (ends_compared D room budget operations (begin used) (λ e n. absurd (not_in_nil n)) (entry s c a b) m)
    where
      of_entry : ComparedIn D operations (entry s c a b) → (s ∈ operations) × TrueConflict D s c a b
      of_entry (compared_in m h) = (m, either_true D s c a b h)

  -- B4. The entries are distinct, and not more than there is room for.
  pub entries_distinct : Distinct found
  entries_distinct = ends_distinct D room budget operations (begin used) tt

  pub entries_fit : length found ≤ room
  entries_fit = ends_fitting D room budget operations (begin used) (omega arith)

  -- The units charged never pass the budget, however the listing ends.
  pub listing_within : used ≤ budget → WithinBudget budget (listing D room budget operations (begin used))
  listing_within le = within budget (listing D room budget operations (begin used)) (all_within D (list room) (list_modest room) budget operations (begin used) le)

-- B6. With more room and a larger budget a listing is the same, or goes on where it stopped.
pub listing_prolongs : (D : Document) (operations : List ℕ) (n m : Size) → Larger n m → (used : ℕ)
    → Prolongs n m (listing D n.room n.budget operations (begin used)) (listing D m.room m.budget operations (begin used))
listing_prolongs D operations n m le used = (bears_listing D operations).grows n m le (begin used)

-- There is a room and a budget with which it is gone through.
pub listing_some : (D : Document) (operations : List ℕ) (used : ℕ) → (n : Size) × ¬ Stopped (listing D n.room n.budget operations (begin used))
listing_some D operations used = (bears_listing D operations).enough (begin used)

-- ---- T3: the budget

-- T3. A check that does not run out gives the same result, units included, with any larger budget.
pub larger_budget : (D : Document) (less more used s : ℕ) → less ≤ more → ¬ IsOut (check D less used s)
    → check D more used s ≡ check D less used s
unfolding check
larger_budget D less more used s le h =
    same_budget (λ found budget. passes D found budget s) (bears_passes D s) less more (begin used) le
    (no_room_check D less used s) (no_room_check D more used s) h

-- There is a budget that suffices.
pub some_budget : (D : Document) (used s : ℕ) → (budget : ℕ) × ¬ IsOut (check D budget used s)
unfolding check
some_budget D used s =
    enough_budget (λ found budget. passes D found budget s) (bears_passes D s) (begin used) (λ budget. no_room_check D budget used s)

-- The units charged never pass the budget, however the check ends.
pub within_budget : (D : Document) (budget used s : ℕ) → used ≤ budget → WithinBudget budget (check D budget used s)
unfolding check
within_budget D budget used s le = within budget (passes D stop budget s (begin used)) (passes_within D stop stop_modest budget s (begin used) le)

module _ (D : Document) (P : Pass) (found : Found) (modest : Modest found) (budget s : ℕ) (z y : State) (e : pass D found budget P s z ≡ finished y) where
  -- What a pass that finishes charges is what its known lists cost, each once, and 1 for the operation's own set.
  pub charge_exact : y.used ≡ z.used + 1 + cost_of_all D P y.known
  charge_exact = subst (Meets (λ y. y.used ≡ z.used + 1 + cost_of_all D P y.known) AnyStop) e (pass_charges D P found modest s budget z)

  -- What a pass charges pays for the words of its known lists.
  pub known_paid : z.used ≤ budget → weight y.known + z.used ≤ y.used
  known_paid le = (subst (Meets (Paid budget z.used) (InBudget budget z.used)) e (pass_paid D P found modest budget s z le)).0

-- ---- what a check decides

module _ (D : Document) {At : ℕ → Type 0} (S : Sound D At) (budget used s : ℕ) (at : At s) where
  -- A check that does not run out finishes exactly if the pairwise rule holds for every set that the operation reaches.
  pub decides : ¬ IsOut (check D budget used s) → IsFinished (check D budget used s) ↔ RuleHolds D s
  decides = go (check D budget used s) refl
    where
      breaks : {f : Entry} {z : State} → check D budget used s ≡ conflict f z → NamedEntry D s f → MergeFails D (s ∷ [])
      breaks {z = z} e (named_entry {c = c} {a = a} {b = b} h) = conflict_breaks D budget used s c a b z e

      go : (r : Result) → check D budget used s ≡ r → ¬ IsOut r → IsFinished r ↔ RuleHolds D s
      go (finished z) e h = (λ t. finished_holds D S budget used s at z e, λ rule. tt)
      go (conflict f z) e h = (λ t. absurd t, λ rule. rule s start (breaks e (conflict_own D budget used s f z e)))
      go (out z) e h = absurd (h tt)
      go (deep z) e h = absurd (never_deep D S budget used s at z e)

  -- It finishes exactly if no two fields truly conflict.
  pub decides_true : ¬ IsOut (check D budget used s)
      → IsFinished (check D budget used s) ↔ ((c : Cause) (a b : ℕ) → ¬ TrueConflict D s c a b)
  decides_true = go (check D budget used s) refl
    where
      conflicts : ((c : Cause) (a b : ℕ) → ¬ TrueConflict D s c a b) → {f : Entry} → NamedEntry D s f → ⊥
      conflicts none (named_entry {c = c} {a = a} {b = b} h) = none c a b (either_true D s c a b (either_compared h))

      go : (r : Result) → check D budget used s ≡ r → ¬ IsOut r → IsFinished r ↔ ((c : Cause) (a b : ℕ) → ¬ TrueConflict D s c a b)
      go (finished z) e h = (λ t c a b bad. finished_holds D S budget used s at z e s start (true_fails D s c a b bad), λ none. tt)
      go (conflict f z) e h = (λ t. absurd t, λ none. conflicts none (conflict_own D budget used s f z e))
      go (out z) e h = absurd (h tt)
      go (deep z) e h = absurd (never_deep D S budget used s at z e)

  -- 15 and 16 are never named where two fields truly conflict in shape.
  pub shape_before : (c : Cause) (a b : ℕ) (z : State) → check D budget used s ≡ conflict (entry s c a b) z
      → (c ≡ shape) ⊎ ((a' b' : ℕ) → ¬ TrueConflict D s shape a' b')
  shape_before c a b z e = ⊎_map (λ h. h) (other_cause D S budget used s at (entry s c a b) z e) (shape_or_other c)

  -- A check that does not run out stops at a conflict in shape exactly if there is one.
  pub shape_exactly : ¬ IsOut (check D budget used s)
      → ((a : ℕ) × (b : ℕ) × (z : State) × (check D budget used s ≡ conflict (entry s shape a b) z)) ↔ ((a : ℕ) × (b : ℕ) × TrueConflict D s shape a b)
  shape_exactly covered = (
    λ (a, b, z, e). (a, b, conflict_true D budget used s shape a b z e),
    λ (a, b, bad). go (check D budget used s) refl covered a b bad,
  )
    where
      InShape : Type 0
      InShape = (a : ℕ) × (b : ℕ) × (z : State) × (check D budget used s ≡ conflict (entry s shape a b) z)

      by_entry : {f : Entry} {z : State} → check D budget used s ≡ conflict f z → NamedEntry D s f → (a b : ℕ) → TrueConflict D s shape a b → InShape
      by_entry {z = z} e (named_entry {c = c} {a = a} {b = b} h) a' b' bad =
          ⊎_elim (λ is. (a, b, z, subst (λ x. check D budget used s ≡ conflict (entry s x a b) z) is e)) (λ none. absurd (none a' b' bad)) (shape_before c a b z e)

      go : (r : Result) → check D budget used s ≡ r → ¬ IsOut r → (a b : ℕ) → TrueConflict D s shape a b → InShape
      go (finished z) e h a b bad = absurd (finished_holds D S budget used s at z e s start (true_fails D s shape a b bad))
      go (conflict f z) e h a b bad = by_entry e (conflict_own D budget used s f z e) a b bad
      go (out z) e h a b bad = absurd (h tt)
      go (deep z) e h a b bad = absurd (never_deep D S budget used s at z e)

  -- The same for the rule over two different fields at a time.
  pub decides_distinct : ¬ IsOut (check D budget used s) → IsFinished (check D budget used s) ↔ RuleHolds≢ D s
  decides_distinct h = (λ t. (distinct_rule D S at).0 ((decides h).0 t), λ rule. (decides h).1 ((distinct_rule D S at).1 rule))

-- The specification's rule and the chains of fields say the same: the rule holds exactly if no two fields truly conflict.
pub rule_by_chains : (D : Document) {At : ℕ → Type 0} (S : Sound D At) (s : ℕ) → At s
    → RuleHolds D s ↔ ((c : Cause) (a b : ℕ) → ¬ TrueConflict D s c a b)
rule_by_chains D S s at =
    let (budget, h) = some_budget D 0 s in (
      λ rule. (decides_true D S budget 0 s at h).0 ((decides D S budget 0 s at h).1 rule),
      λ none. (decides D S budget 0 s at h).0 ((decides_true D S budget 0 s at h).1 none),
    )

-- ---- what is assumed, of an operation of an image

-- Where the links from an operation's set stay below the limit, the sets that it reaches are sound, if the three comparisons are
-- equivalences on their fields. Of all other sets nothing is asked.
pub reached_sets_sound : (D : Document) (n s : ℕ) → D.limit ≡ suc n → links D (suc n) s ≤ n
    → Equivalence (FieldAt D (Reached D s)) D.types_agree
    → Equivalence (FieldAt D (Reached D s)) D.same_name
    → Equivalence (FieldAt D (Reached D s)) D.same_arguments
    → Sound D (Reached D s)
reached_sets_sound D n s e le types names arguments = record {
  closed = λ r i j. onward r i j;
  types = types;
  names = names;
  arguments = arguments;
  rank = links D (suc n);
  falls = λ {s = t} r i j. links_fall D n t (links_reached D n le r) i j;
  bounded = λ {s = t} r. let h : links D (suc n) t ≤ n = links_reached D n le r in omega arith;
}
