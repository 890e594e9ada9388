-- What the theorems assume can be had: a document that passes, and one that fails whose comparison is no equivalence outside its table, as
-- an image's is not. Assumes nothing.
use mathlib.Core.Path.{◌≡◌, refl}
use mathlib.Core.Bool.{◌&&◌}
use Prim.Native.Nat.{ℕ, zero, suc, ◌≤◌, ◌<◌}
use native.Mathlib.Omega.{arith}
use lib.Dec.{T, ltb, lt→ltb}
use Rattle.merge_theory.specs.Lists.{◌∈◌, here, there, flat_map}
use Rattle.merge_theory.specs.Document.{Document, name, set_of, Equivalence, FieldAt, field_at, Sound}
use Rattle.merge_theory.specs.Walk.{computes}
use Rattle.merge_theory.specs.Rule.{Reached, start, RuleHolds}
use Rattle.merge_theory.specs.TrueConflict.{TrueConflict}
use Rattle.merge_theory.specs.Links.{most, linked, links}
use Rattle.merge_theory.specs.Specimens.{row_at, document, shared_fragment, inner_pair}
use Rattle.merge_theory.proofs.ListLaws.{not_in_nil, and_of, and_cases}
use Rattle.merge_theory.proofs.Equivalences.{narrow, keyed}
use Rattle.merge_theory.proofs.Theorems.{conflict_true, decides, reached_sets_sound}

-- ---- {a{...F} b{...F}}, F {c}: the check finishes, so the rule holds

shared_sound : Sound (document shared_fragment) (Reached (document shared_fragment) 0)
unfolding links most linked flat_map set_of
shared_sound = reached_sets_sound (document shared_fragment) 7 0 refl few
    (keyed _ (λ r. (row_at shared_fragment.rows r).type))
    (keyed _ (λ r. (row_at shared_fragment.rows r).own))
    (keyed _ (λ r. (row_at shared_fragment.rows r).args))
  where
    few : links (document shared_fragment) 8 0 ≤ 7
    few = let e : links (document shared_fragment) 8 0 ≡ 2 = refl in omega arith

shared_merges : RuleHolds (document shared_fragment) 0
unfolding computes
shared_merges = (decides (document shared_fragment) shared_sound 12 0 0 start (λ t. t)).0 tt

-- ---- {a{x:p} a{x:q}}, and no row outside the table agrees with itself: the check names a conflict, so the rule fails

abbrev guarded : Document
guarded = record {
  rows_of = (document inner_pair).rows_of;
  kind_of = (document inner_pair).kind_of;
  name_of = (document inner_pair).name_of;
  link_of = (document inner_pair).link_of;
  parent_of = (document inner_pair).parent_of;
  is_object = (document inner_pair).is_object;
  types_agree = λ a b. ltb a 4 && (ltb b 4 && (document inner_pair).types_agree a b);
  same_name = (document inner_pair).same_name;
  same_arguments = (document inner_pair).same_arguments;
  limit = (document inner_pair).limit;
}

abbrev InTable : ℕ → Type 0
InTable r = r < 4

guarded_types : Equivalence InTable guarded.types_agree
guarded_types = record {
  reflexive = λ {a} i. build a a i i (all.reflexive {a = a} i);
  symmetric = λ {a} {b} i j t. build b a j i (all.symmetric {a = a} {b = b} i j (inner a b t));
  transitive = λ {a} {b} {c} i j k t u. build a c i k (all.transitive {a = a} {b = b} {c = c} i j k (inner a b t) (inner b c u));
}
  where
    all : Equivalence InTable (document inner_pair).types_agree
    all = keyed InTable (λ r. (row_at inner_pair.rows r).type)

    build : (a b : ℕ) → a < 4 → b < 4 → T ((document inner_pair).types_agree a b) → T (guarded.types_agree a b)
    build a b i j t = and_of (ltb a 4) _ (lt→ltb a 4 i) (and_of (ltb b 4) _ (lt→ltb b 4 j) t)

    inner : (a b : ℕ) → T (guarded.types_agree a b) → T ((document inner_pair).types_agree a b)
    inner a b t = (and_cases (ltb b 4) _ (and_cases (ltb a 4) _ t).1).1

rows_in_table : (s : ℕ) {r : ℕ} → r ∈ guarded.rows_of s → InTable r
rows_in_table zero (here e) = omega arith
rows_in_table zero (there (here e)) = omega arith
rows_in_table zero (there (there m)) = absurd (not_in_nil m)
rows_in_table (suc zero) (here e) = omega arith
rows_in_table (suc zero) (there m) = absurd (not_in_nil m)
rows_in_table (suc (suc zero)) (here e) = omega arith
rows_in_table (suc (suc zero)) (there m) = absurd (not_in_nil m)
rows_in_table (suc (suc (suc s))) m = absurd (not_in_nil m)

abbrev InReach : ℕ → Type 0
InReach = FieldAt guarded (Reached guarded 0)

in_table : (r : ℕ) → InReach r → InTable r
in_table r (field_at {s = s} at i is) = rows_in_table s i

guarded_sound : Sound guarded (Reached guarded 0)
unfolding links most linked flat_map set_of
guarded_sound = reached_sets_sound guarded 7 0 refl few
    (narrow InTable InReach guarded.types_agree in_table guarded_types)
    (keyed InReach (λ r. (row_at inner_pair.rows r).own))
    (keyed InReach (λ r. (row_at inner_pair.rows r).args))
  where
    few : links guarded 8 0 ≤ 7
    few = let e : links guarded 8 0 ≡ 1 = refl in omega arith

guarded_breaks : ¬ RuleHolds guarded 0
unfolding computes
guarded_breaks rule = (decides guarded guarded_sound 100 0 0 start (λ t. t)).1 rule

-- and the pair that is named is a true conflict
guarded_conflicts : TrueConflict guarded 0 name 2 3
unfolding computes
guarded_conflicts = conflict_true guarded 100 0 0 name 2 3 _ refl
