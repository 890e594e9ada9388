-- The laws of `same_value` in an image without fault: on values of which so many levels are left it is reflexive and symmetric,
-- levels beyond those change nothing, and transitive it is in any image.
-- Assumes nothing.
use Prim.Native.Nat.{ℕ, zero, suc, ◌+◌, ◌<◌, ◌≤◌}
use mathlib.Core.Path.{◌≡◌, refl, sym, ◌∙◌}
use mathlib.Core.Bool.{Bool, true, false≢true}
use mathlib.Core.List.{List}
use native.Mathlib.Nat.{not-suc-le-zero, le_of_suc-le-suc}
use native.Mathlib.Decide.{ℕ_discrete}
use native.Mathlib.Omega.{arith}
use borrow.Author.Tests.{eq-eqb, eqb-true}
use Rattle.tables.specs.declared.Range.{Range}
use Rattle.tables.specs.Layout.{values}
use Rattle.tables.specs.Image.{count_at, row_in}
use Rattle.tables.specs.Columns.{list, object, value_kind, value_atom, value_members}
use Rattle.tables.specs.Keys.{key_of}
use Rattle.tables.specs.Numbering.{level, deepest_level}
use Rattle.tables.specs.Good.{Good, GoodMembers}
use Rattle.tables.proofs.Ranges.{row_in_lem}
use Rattle.values.specs.Same.{same_by, same_value}
use Rattle.tables.proofs.Counts.{few_rows}
use Rattle.tables.proofs.ColumnLaws.{member_key}
use Rattle.values.proofs.SameCases.{by_unlike, by_lists, by_objects, by_atoms}
use Rattle.values.proofs.ListLaws.{list_refl, list_sym, list_trans, list_cong}
use Rattle.values.proofs.SetLaws.{DistinctIn, set_refl, set_sym, set_trans, set_cong}

-- a value's kind, as sameness tells kinds apart
pub data Form (kind : ℕ) : Type 0 where
  a_list : kind ≡ list → Form kind
  an_object : kind ≡ object → Form kind
  an_atom : (kind ≡ list → ⊥) → (kind ≡ object → ⊥) → Form kind

pub form : (kind : ℕ) → Form kind
form kind = go (ℕ_discrete kind list) (ℕ_discrete kind object)
  where
    go : Dec (kind ≡ list) → Dec (kind ≡ object) → Form kind
    go (yes p) d = a_list p
    go (no n) (yes p) = an_object p
    go (no n) (no m) = an_atom n m

-- ---- one level: the laws of values from those of their members

-- the members of a list or an object are as `Member` says, and those of an object have distinct keys
record Composed (image : List ℕ) (Member : ℕ → Type 0) (v : ℕ) : Type 0 where
  members : list ≤ value_kind image v → (k : ℕ) → k < (value_members image v).count → Member (row_in (value_members image v) k)
  distinct : value_kind image v ≡ object → DistinctIn (key_of image values) (value_members image v)

module _ (image : List ℕ) where
  abbrev kind : ℕ → ℕ
  kind = value_kind image

  abbrev inner : ℕ → Range
  inner = value_members image

  module _ (same : ℕ → ℕ → Bool) where
    pub like_kinds : (l r : ℕ) → same_by image same l r ≡ true → kind l ≡ kind r
    like_kinds l r e = go (ℕ_discrete (kind l) (kind r))
      where
        go : Dec (kind l ≡ kind r) → kind l ≡ kind r
        go (yes p) = p
        go (no n) = absurd (false≢true (sym (by_unlike image same l r n) ∙ e))

    by_refl : (Member : ℕ → Type 0) (v : ℕ) → Composed image Member v → ((m : ℕ) → Member m → same m m ≡ true) → same_by image same v v ≡ true
    by_refl Member v c alike = go (form (kind v))
      where
        go : Form (kind v) → same_by image same v v ≡ true
        go (a_list p) = by_lists image same v v refl p ∙ list_refl same (inner v) (λ k l. alike _ (c.members (omega arith) k l))
        go (an_object p) =
            by_objects image same v v refl p ∙ set_refl (key_of image values) same (inner v) (c.distinct p) (λ k l. alike _ (c.members (omega arith) k l))
        go (an_atom n m) = by_atoms image same v v refl n m ∙ eq-eqb (value_atom image v) (value_atom image v) refl

    by_sym : (Member : ℕ → Type 0) (l r : ℕ) → Composed image Member l → Composed image Member r
        → ((a b : ℕ) → Member a → Member b → same a b ≡ true → same b a ≡ true)
        → same_by image same l r ≡ true → same_by image same r l ≡ true
    by_sym Member l r c d back e = go (like_kinds l r e) (form (kind l))
      where
        both_members : kind l ≡ kind r → list ≤ kind l → (j k : ℕ) → j < (inner l).count → k < (inner r).count
            → same (row_in (inner l) j) (row_in (inner r) k) ≡ true → same (row_in (inner r) k) (row_in (inner l) j) ≡ true
        both_members like holder j k lj lk = back _ _ (c.members holder j lj) (d.members (omega arith) k lk)

        go : kind l ≡ kind r → Form (kind l) → same_by image same r l ≡ true
        go like (a_list p) =
            by_lists image same r l (sym like) (sym like ∙ p)
            ∙ list_sym same (inner l) (inner r) (both_members like (omega arith)) (sym (by_lists image same l r like p) ∙ e)
        go like (an_object p) =
            by_objects image same r l (sym like) (sym like ∙ p)
            ∙ set_sym (key_of image values) same (inner l) (inner r) (d.distinct (sym like ∙ p)) (both_members like (omega arith))
            (sym (by_objects image same l r like p) ∙ e)
        go like (an_atom n m) =
            by_atoms image same r l (sym like) (λ p. n (like ∙ p)) (λ p. m (like ∙ p))
            ∙ eq-eqb (value_atom image r) (value_atom image l)
            (sym (eqb-true (value_atom image l) (value_atom image r) (sym (by_atoms image same l r like n m) ∙ e)))

    by_trans : (l m r : ℕ) → ((a b c : ℕ) → same a b ≡ true → same b c ≡ true → same a c ≡ true)
        → same_by image same l m ≡ true → same_by image same m r ≡ true → same_by image same l r ≡ true
    by_trans l m r through e f = go (like_kinds l m e) (like_kinds m r f) (form (kind l))
      where
        go : kind l ≡ kind m → kind m ≡ kind r → Form (kind l) → same_by image same l r ≡ true
        go like on (a_list p) =
            by_lists image same l r (like ∙ on) p
            ∙ list_trans same (inner l) (inner m) (inner r) through (sym (by_lists image same l m like p) ∙ e)
            (sym (by_lists image same m r on (sym like ∙ p)) ∙ f)
        go like on (an_object p) =
            by_objects image same l r (like ∙ on) p
            ∙ set_trans (key_of image values) same (inner l) (inner m) (inner r) through (sym (by_objects image same l m like p) ∙ e)
            (sym (by_objects image same m r on (sym like ∙ p)) ∙ f)
        go like on (an_atom n o) =
            by_atoms image same l r (like ∙ on) n o
            ∙ eq-eqb (value_atom image l) (value_atom image r)
            (eqb-true (value_atom image l) (value_atom image m) (sym (by_atoms image same l m like n o) ∙ e)
            ∙ eqb-true (value_atom image m) (value_atom image r)
            (sym (by_atoms image same m r on (λ p. n (like ∙ p)) (λ p. o (like ∙ p))) ∙ f))

  by_cong : (same other : ℕ → ℕ → Bool) (Member : ℕ → Type 0) (l r : ℕ) → Composed image Member l
      → ((m row : ℕ) → Member m → same m row ≡ other m row) → same_by image same l r ≡ same_by image other l r
  by_cong same other Member l r c agree = go (ℕ_discrete (kind l) (kind r)) (form (kind l))
    where
      agreeing : list ≤ kind l → (k : ℕ) → k < (inner l).count → (row : ℕ) → same (row_in (inner l) k) row ≡ other (row_in (inner l) k) row
      agreeing holder k lk row = agree _ row (c.members holder k lk)

      go : Dec (kind l ≡ kind r) → Form (kind l) → same_by image same l r ≡ same_by image other l r
      go (no n) s = by_unlike image same l r n ∙ sym (by_unlike image other l r n)
      go (yes like) (a_list p) =
          by_lists image same l r like p ∙ list_cong same other (inner l) (inner r) (agreeing (omega arith)) ∙ sym (by_lists image other l r like p)
      go (yes like) (an_object p) =
          by_objects image same l r like p
          ∙ set_cong (key_of image values) same other (inner l) (inner r) (agreeing (omega arith))
          ∙ sym (by_objects image other l r like p)
      go (yes like) (an_atom n m) = by_atoms image same l r like n m ∙ sym (by_atoms image other l r like n m)

-- in any image
pub value_trans : (image : List ℕ) (n l m r : ℕ) → same_value image n l m ≡ true → same_value image n m r ≡ true → same_value image n l r ≡ true
unfolding same_value
value_trans image zero l m r e f = e
value_trans image (suc n) l m r e f = by_trans image (same_value image n) l m r (value_trans image n) e f

-- ---- every level, in an image without fault

-- a row of the values from whose level on n levels reach past the deepest
pub record Fits (image : List ℕ) (n v : ℕ) : Type 0 where
  pub row : v < count_at image values
  pub deep : deepest_level < level image v + n

module _ (image : List ℕ) (good : Good image) where
  pub members_fit : (n v : ℕ) → Fits image (suc n) v → list ≤ value_kind image v → (k : ℕ) → k < (value_members image v).count → Fits image n (row_in (value_members image v) k)
  members_fit n v f holder k l =
      let g : GoodMembers image v = (good.value v f.row).members holder in
      let inside = g.within.ends in
      let at : row_in (value_members image v) k ≡ (value_members image v).first + k = row_in_lem (value_members image v) k (omega (arith, few_rows image good.few values (omega arith))) in
      let deeper = g.levels k l in
      rw at (record { row = omega arith; deep = omega (arith, f.deep) })

  pub member_keys_distinct : (v : ℕ) → v < count_at image values → value_kind image v ≡ object → DistinctIn (key_of image values) (value_members image v)
  member_keys_distinct v row p j k lj lk e =
      ((good.value v row).object_row p).distinct_keys j k lj lk (sym (member_key image _) ∙ e ∙ member_key image _)

  composed : (n v : ℕ) → Fits image (suc n) v → Composed image (Fits image n) v
  composed n v f = record {
    members = members_fit n v f;
    distinct = member_keys_distinct v f.row;
  }

  pub no_level : {P : Type 0} (v : ℕ) → Fits image 0 v → P
  no_level v f = absurd (omega (arith, f.deep, (good.value v f.row).shallow))

  pub value_refl : (n v : ℕ) → Fits image n v → same_value image n v v ≡ true
  unfolding same_value
  value_refl zero v f = no_level v f
  value_refl (suc n) v f = by_refl image (same_value image n) (Fits image n) v (composed n v f) (value_refl n)

  pub value_sym : (n l r : ℕ) → Fits image n l → Fits image n r → same_value image n l r ≡ true → same_value image n r l ≡ true
  unfolding same_value
  value_sym zero l r f g e = e
  value_sym (suc n) l r f g e = by_sym image (same_value image n) (Fits image n) l r (composed n l f) (composed n r g) (value_sym n) e

  -- levels beyond those of the left value change nothing
  pub value_levels : (n more l r : ℕ) → n ≤ more → Fits image n l → same_value image n l r ≡ same_value image more l r
  unfolding same_value
  value_levels zero more l r h f = no_level l f
  value_levels (suc n) zero l r h f = absurd (not-suc-le-zero h)
  value_levels (suc n) (suc more) l r h f =
      by_cong image (same_value image n) (same_value image more) (Fits image n) l r (composed n l f)
      (λ m row g. value_levels n more m row (le_of_suc-le-suc h) g)
