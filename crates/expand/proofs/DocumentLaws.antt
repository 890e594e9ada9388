-- A good image's rows as the document has them: what each kind of row leads to, the rows of a set, and whose a set is.
-- Assumes `Good`.
use mathlib.Core.Path.{◌≡◌, refl, sym, ap, ◌∙◌}
use mathlib.Core.Option.{none, some}
use mathlib.Core.Bool.{Bool, true, false, cond}
use mathlib.Core.List.{List, [], ◌∷◌, ◌++◌}
use Prim.Native.Nat.{ℕ, zero, suc, ◌+◌, ◌≤◌, ◌<◌}
use native.Mathlib.Decide.{dec_le}
use native.Mathlib.Omega.{arith}
use borrow.Author.Tests.{ne_eqb, eqb-true, eqb-false}
use lib.Dec.{T, eqb}
use Rattle.merge_theory.specs.Lists.{◌∈◌, here, there}
use Rattle.merge_theory.specs.Document.{Document, is_field, set_of, listed}
use Rattle.merge_theory.specs.Document as kinds
use Rattle.merge_theory.proofs.ListLaws.{not_in_nil}
use Rattle.tables.specs.declared.Range.{Range}
use Rattle.tables.specs.Layout.{NONE, operations, fragments, sets, selections}
use Rattle.tables.specs.Image.{count_at}
use Rattle.tables.specs.Columns.{field, spread, inline, selection_kind, selection_target, selection_at, set_selections, fragment_set}
use Rattle.tables.specs.Numbering.{owns_set}
use Rattle.tables.specs.Good.{Good, GoodOwned, GoodSelection, StandsIn}
use Rattle.tables.proofs.Counts.{few_rows}
use Rattle.tables.proofs.ColumnLaws.{below_spread, below_own, inline_owns, field_owns, stands}
use Rattle.expand.specs.ImageDocument.{up_from, kind_from, link_from, document_by}
use Rattle.expand.specs.Expanding.{Once, once_none, once_more}

-- ---- numbers counted up

pub up_from_lem : (first n : ℕ) {r : ℕ} → r ∈ up_from first n → (first ≤ r) × (r < first + n)
unfolding up_from
up_from_lem first zero m = absurd (not_in_nil m)
up_from_lem first (suc n) (here e) = (omega arith, omega arith)
up_from_lem first (suc n) (there m) = let h = up_from_lem (suc first) n m in (omega arith, omega arith)

first_out : (first n : ℕ) → first ∈ up_from (suc first) n → ⊥
first_out first n m = let h : (suc first ≤ first) × (first < suc first + n) = up_from_lem (suc first) n m in omega arith

pub up_once : (first n : ℕ) → Once (up_from first n)
unfolding up_from
up_once first zero = once_none
up_once first (suc n) = once_more (first_out first n) (up_once (suc first) n)

pub up_snoc : (first n : ℕ) → up_from first (suc n) ≡ up_from first n ++ ((first + n) ∷ [])
unfolding up_from
up_snoc first zero = let same : first ≡ first + 0 = omega arith in ap (λ (k : ℕ). k ∷ []) same
up_snoc first (suc n) =
    let same : suc first + n ≡ first + suc n = omega arith in
    ap (λ (l : List ℕ). first ∷ l) (up_snoc (suc first) n ∙ ap (λ (k : ℕ). up_from (suc first) n ++ (k ∷ [])) same)

-- ---- whose a set is

module _ {image : List ℕ} (good : Good image) where
  -- a set that two selections own has one owner
  pub one_owned : {q r : ℕ} → owns_set (selection_at image q) ≡ true → owns_set (selection_at image r) ≡ true → GoodOwned image q → GoodOwned image r
      → selection_target image q ≡ selection_target image r → q ≡ r
  one_owned {q} {r} p o a b e = good.one_owner q r p o (sym a.number ∙ e ∙ b.number)

  pub one_inline : {q r : ℕ} → selection_kind image q ≡ inline → selection_kind image r ≡ inline → GoodOwned image q → GoodOwned image r
      → selection_target image q ≡ selection_target image r → q ≡ r
  one_inline {q} {r} p o a b e = one_owned (inline_owns image q p) (inline_owns image r o) a b e

  known_some : {u : ℕ} → u < count_at image sets → u ≡ NONE → ⊥
  known_some h e = omega (arith, few_rows image good.few sets (omega arith))

  pub field_owned : {r u : ℕ} → r < count_at image selections → selection_kind image r ≡ field → selection_target image r ≡ u → u < count_at image sets
      → GoodOwned image r
  field_owned {r} h e t less = ((good.selection r h).field_row e).owned (λ e. known_some less (sym t ∙ e))

  pub field_apart : {q r : ℕ} → selection_kind image q ≡ field → GoodOwned image q → selection_kind image r ≡ inline → GoodOwned image r
      → selection_target image q ≡ selection_target image r → ⊥
  field_apart {q} {r} p a o b e =
      let same = one_owned (field_owns image q p (known_some a.known)) (inline_owns image r o) a b e in
      let both : field ≡ inline = sym p ∙ ap (selection_kind image) same ∙ o in
      omega arith

  pub fragment_set_is : {j : ℕ} → j < count_at image fragments → fragment_set image j ≡ count_at image operations + j
  fragment_set_is {j} h = (good.fragment j h).set_number

  pub fragment_set_known : {j : ℕ} → j < count_at image fragments → count_at image operations + j < count_at image sets
  fragment_set_known {j} h = omega (arith, (good.fragment j h).set, (good.fragment j h).set_number)

-- ---- rows by kind

-- a link to a set is no link to NONE
pub link_is : (v : ℕ) {u : ℕ} → u ∈ listed (link_from v) → (v ≡ u) × (u ≡ NONE → ⊥)
unfolding link_from
link_is v {u} m = by_none (eqb v NONE) refl m
  where
    only_one : (eqb v NONE ≡ false) → u ∈ (v ∷ []) → (v ≡ u) × (u ≡ NONE → ⊥)
    only_one is_set (here e) = (sym e, λ q. eqb-false v NONE is_set (sym e ∙ q))
    only_one is_set (there n) = absurd (not_in_nil n)

    by_none : (b : Bool) → eqb v NONE ≡ b → u ∈ listed (cond b none (some v)) → (v ≡ u) × (u ≡ NONE → ⊥)
    by_none true e n = absurd (not_in_nil n)
    by_none false e n = only_one e n

module _ {image : List ℕ} (good : Good image) (same_shape : ℕ → ℕ → Bool) (same_arguments : Range → Range → Bool) (r : ℕ) where
  abbrev D : Document
  D = document_by same_shape same_arguments image

  pub field_kind : selection_kind image r ≡ field → D.kind_of r ≡ kinds.field
  unfolding document_by kind_from
  field_kind e = rw e

  pub spread_kind : selection_kind image r ≡ spread → D.kind_of r ≡ kinds.spread
  unfolding document_by kind_from
  spread_kind e = rw e

  pub inline_kind : selection_kind image r ≡ inline → D.kind_of r ≡ kinds.inline
  unfolding document_by kind_from
  inline_kind e = rw e

  first_holds : (b c : Bool) → T (is_field (cond b kinds.field (cond c kinds.spread kinds.inline))) → b ≡ true
  first_holds true c h = refl
  first_holds false true h = absurd h
  first_holds false false h = absurd h

  pub field_by_kind : T (is_field (D.kind_of r)) → selection_kind image r ≡ field
  unfolding document_by kind_from
  field_by_kind h = eqb-true (selection_kind image r) field (first_holds (eqb (selection_kind image r) field) (eqb (selection_kind image r) spread) h)

  -- a field's own set is its target
  pub field_set : selection_kind image r ≡ field → {u : ℕ} → u ∈ set_of D r → (selection_target image r ≡ u) × (u ≡ NONE → ⊥)
  unfolding set_of document_by
  field_set e {u} m = link_is (selection_target image r) (rw (below_own image r (λ s. omega arith)) at m)

  link_some : (u : ℕ) → u < count_at image sets → listed (link_from u) ≡ u ∷ []
  unfolding link_from
  link_some u h = rw (ne_eqb u NONE (known_some good h))

  pub spread_set : selection_kind image r ≡ spread → selection_target image r < count_at image fragments
      → set_of D r ≡ (count_at image operations + selection_target image r) ∷ []
  unfolding set_of document_by
  spread_set e h = rw (below_spread image r e, fragment_set_is good h) (link_some _ (fragment_set_known good h))

  pub inline_set : selection_kind image r ≡ inline → GoodOwned image r → set_of D r ≡ selection_target image r ∷ []
  unfolding set_of document_by
  inline_set e own = rw (below_own image r (λ s. omega arith)) (link_some _ own.known)

-- a row of a good image is of one of three kinds
pub data RowKind (image : List ℕ) (r : ℕ) : Type 0 where
  a_field : selection_kind image r ≡ field → RowKind image r
  a_spread : selection_kind image r ≡ spread → selection_target image r < count_at image fragments → RowKind image r
  an_inline : selection_kind image r ≡ inline → GoodOwned image r → RowKind image r

pub row_kind : {image : List ℕ} → Good image → (r : ℕ) → r < count_at image selections → RowKind image r
row_kind {image} good r h =
    elim (dec_le (selection_kind image r) 0) [
      | yes zero-kind ↦ a_field (omega arith)
      | no more ↦ elim (dec_le (selection_kind image r) 1) [
        | yes one ↦ let e : selection_kind image r ≡ spread = omega arith in a_spread e (row.spread_target e)
        | no most ↦ let e : selection_kind image r ≡ inline = omega (arith, row.kind) in an_inline e (row.inline_owned e)
      ]
    ]
  where
    row : GoodSelection image r
    row = good.selection r h

-- the rows of a set stand in it
pub rows_stand : {image : List ℕ} → Good image → (same_shape : ℕ → ℕ → Bool) (same_arguments : Range → Range → Bool) (u : ℕ) {r : ℕ} → u < count_at image sets
    → r ∈ (document_by same_shape same_arguments image).rows_of u → StandsIn image r u
unfolding document_by
rows_stand {image} good same_shape same_arguments u h m =
    let in-range = up_from_lem (set_selections image u).first (set_selections image u).count m in
    stands h in-range.0 in-range.1
