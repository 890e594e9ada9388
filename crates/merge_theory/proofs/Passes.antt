-- What the theorems ask of a pass, and that both passes have it. `Sound` is assumed only where it is named.
use mathlib.Core.Bool.{Bool, true, false, not}
use mathlib.Core.Option.{Option, none}
use mathlib.Core.List.{List}
use Prim.Native.Nat.{ℕ}
use lib.Dec.{T}
use Rattle.merge_theory.specs.Lists.{◌∈◌}
use Rattle.merge_theory.specs.Document.{Document, Cause, shape, name, arguments, Sound, FieldAt}
use Rattle.merge_theory.specs.Groups.{groups, subgroups}
use Rattle.merge_theory.specs.Walk.{Pass, unless, shape_pass, parent_pass}
use Rattle.merge_theory.specs.Rule.{SameResponse}
use Rattle.merge_theory.specs.TrueConflict.{SameLevel, Chains, TrueConflict}
use Rattle.merge_theory.proofs.ListLaws.{in_flat_map, from_flat_map}
use Rattle.merge_theory.proofs.GroupLaws.{Together, group_in, group_near, group_covers, subgroup_in, subgroup_near, subgroup_covers}
use Rattle.merge_theory.proofs.Outcome.{Told, Silent}

-- `Near` fields stand together in a part, and only they; a clash at the end of two chains is a true conflict
pub record PassLaws (D : Document) (P : Pass) (Near : ℕ → ℕ → Type 0) : Type 0 where
  pub part_in : (fields part : List ℕ) (a : ℕ) → part ∈ P.parts fields → a ∈ part → a ∈ fields
  pub part_near : (fields part : List ℕ) (a b : ℕ) → part ∈ P.parts fields → a ∈ part → b ∈ part → Near a b
  pub part_covers : (fields : List ℕ) (a b : ℕ) → a ∈ fields → b ∈ fields → Near a b → Together (P.parts fields) a b
  pub told : (s a b : ℕ) → Chains D Near s a b → Told (λ c. TrueConflict D s c a b) (P.clash a b)

-- not to clash is an equivalence on the fields at hand
pub record Settles (On : ℕ → Type 0) (P : Pass) : Type 0 where
  pub silent_refl : {a : ℕ} → On a → Silent (P.clash a a)
  pub silent_sym : {a b : ℕ} → On a → On b → Silent (P.clash a b) → Silent (P.clash b a)
  pub silent_trans : {a b c : ℕ} → On a → On b → On c → Silent (P.clash a b) → Silent (P.clash b c) → Silent (P.clash a c)

-- ---- what a clash tells

from_silent : (b : Bool) (c : Cause) (next : Option Cause) → Silent (unless b c next) → T b × Silent next
unfolding unless
from_silent true c next s = (tt, s)
from_silent false c next s = absurd s

silent_unless : (b : Bool) (c : Cause) (next : Option Cause) → T b → Silent next → Silent (unless b c next)
unfolding unless
silent_unless true c next t s = s
silent_unless false c next t s = elim t [ ]

told_unless : (Bad : Cause → Type 0) (b : Bool) (c : Cause) (next : Option Cause) → (T (not b) → Bad c) → Told Bad next
    → Told Bad (unless b c next)
unfolding unless
told_unless Bad true c next bad t = t
told_unless Bad false c next bad t = bad tt

-- ---- two fields that do not clash

module _ (D : Document) where
  pub silent_types : (a b : ℕ) → Silent ((shape_pass D).clash a b) → T (D.types_agree a b)
  silent_types a b s = (from_silent (D.types_agree a b) shape none s).0

  types_silent : (a b : ℕ) → T (D.types_agree a b) → Silent ((shape_pass D).clash a b)
  types_silent a b t = silent_unless (D.types_agree a b) shape none t tt

  pub silent_same : (a b : ℕ) → Silent ((parent_pass D).clash a b) → T (D.same_name a b) × T (D.same_arguments a b)
  silent_same a b s =
      let (n, r) = from_silent (D.same_name a b) name (unless (D.same_arguments a b) arguments none) s in
      (n, (from_silent (D.same_arguments a b) arguments none r).0)

  same_silent : (a b : ℕ) → T (D.same_name a b) → T (D.same_arguments a b) → Silent ((parent_pass D).clash a b)
  same_silent a b n r =
      silent_unless (D.same_name a b) name (unless (D.same_arguments a b) arguments none) n
      (silent_unless (D.same_arguments a b) arguments none r tt)

-- ---- the two passes have the laws

module _ (D : Document) where
  pub shape_laws : PassLaws D (shape_pass D) (SameResponse D)
  shape_laws = record {
    part_in = group_in D;
    part_near = group_near D;
    part_covers = group_covers D;
    told = λ s a b chains. told_unless (λ c. TrueConflict D s c a b) (D.types_agree a b) shape none (λ t. (chains, t)) tt;
  }

  -- a part of the parent pass is a subgroup of a group
  parent_in : (fields part : List ℕ) (a : ℕ) → part ∈ (parent_pass D).parts fields → a ∈ part → a ∈ fields
  parent_in fields part a m i =
      let (group, g, s) = from_flat_map (subgroups D) (groups D fields) m in
      group_in D fields group a g (subgroup_in D group part a s i)

  parent_near : (fields part : List ℕ) (a b : ℕ) → part ∈ (parent_pass D).parts fields → a ∈ part → b ∈ part → SameLevel D a b
  parent_near fields part a b m i j =
      let (group, g, s) = from_flat_map (subgroups D) (groups D fields) m in (
        group_near D fields group a b g (subgroup_in D group part a s i) (subgroup_in D group part b s j),
        subgroup_near D group part a b s i j,
      )

  parent_covers : (fields : List ℕ) (a b : ℕ) → a ∈ fields → b ∈ fields → SameLevel D a b → Together ((parent_pass D).parts fields) a b
  parent_covers fields a b i j near =
      let (group, g, k, l) = group_covers D fields a b i j near.0 in
      let (sub, s, m, n) = subgroup_covers D group a b k l near.1 in
      (sub, in_flat_map (subgroups D) g s, m, n)

  pub parent_laws : PassLaws D (parent_pass D) (SameLevel D)
  parent_laws = record {
    part_in = parent_in;
    part_near = parent_near;
    part_covers = parent_covers;
    told = λ s a b chains.
        told_unless (λ c. TrueConflict D s c a b) (D.same_name a b) name (unless (D.same_arguments a b) arguments none) (λ t. (chains, t))
        (told_unless (λ c. TrueConflict D s c a b) (D.same_arguments a b) arguments none (λ t. (chains, t)) tt);
  }

module _ (D : Document) {At : ℕ → Type 0} (S : Sound D At) where
  pub shape_settles : Settles (FieldAt D At) (shape_pass D)
  shape_settles = record {
    silent_refl = λ {a} i. types_silent D a a (S.types.reflexive i);
    silent_sym = λ {a} {b} i j s. types_silent D b a (S.types.symmetric i j (silent_types D a b s));
    silent_trans = λ {a} {b} {c} i j k s t. types_silent D a c (S.types.transitive i j k (silent_types D a b s) (silent_types D b c t));
  }

  pub parent_settles : Settles (FieldAt D At) (parent_pass D)
  parent_settles = record {
    silent_refl = λ {a} i. same_silent D a a (S.names.reflexive i) (S.arguments.reflexive i);
    silent_sym = λ {a} {b} i j s.
        let (n, r) = silent_same D a b s in
        same_silent D b a (S.names.symmetric i j n) (S.arguments.symmetric i j r);
    silent_trans = λ {a} {b} {c} i j k s t.
        let (n, r) = silent_same D a b s in
        let (n', r') = silent_same D b c t in
        same_silent D a c (S.names.transitive i j k n n') (S.arguments.transitive i j k r r');
  }
