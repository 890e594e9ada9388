-- The merge rule of an image with the specification's own comparisons, and of each selection set of the document. Assumes nothing.
use Prim.Native.Nat.{ℕ, zero, suc, ◌+◌, ◌<◌, ◌≤◌}
use mathlib.Core.Path.{◌≡◌, refl, sym, subst}
use mathlib.Core.Logic.{◌↔◌}
use mathlib.Core.Bool.{Bool, true, false, cond}
use mathlib.Core.List.{List}
use mathlib.Core.Option.{none, some}
use native.Mathlib.Omega.{arith}
use native.Mathlib.Decide.{dec_le}
use borrow.Author.Tests.{eq-eqb, eqb-true, ne_eqb}
use lib.Dec.{T, eqb}
use Rattle.lists.proofs.FirstLaws.{next_none}
use Rattle.merge_theory.specs.Lists.{◌∈◌, here, there}
use Rattle.merge_theory.specs.Document.{FieldAt, set_of, listed}
use Rattle.merge_theory.specs.Rule.{Reached, start, onward, RuleHolds}
use Rattle.merge_theory.specs.RuleBy.{RuleHoldsBy}
use Rattle.merge_theory.proofs.RuleMeaning.{Means, rule_means}
use Rattle.tables.specs.Layout.{NONE, operations, sets}
use Rattle.tables.specs.Image.{count_at}
use Rattle.tables.specs.Columns.{field_type, field_arguments, selection_at, set_below}
use Rattle.tables.specs.Good.{Good}
use Rattle.tables.proofs.ColumnLaws.{stands_below}
use Rattle.reach.proofs.ReachMeaning.{few_sets}
use Rattle.reach.specs.Reach as reach
use Rattle.fragment.specs.Rules as fragment
use Rattle.fragment.specs.Meaning.{AllReached, AllSpread}
use Rattle.fragment.proofs.Whole.{all_reached, all_spread, every_set}
use Rattle.values.proofs.ShapeMeaning.{a_type, shape_decides}
use Rattle.values.proofs.SameMeaning.{arguments_decide}
use Rattle.values.proofs.FieldLaws.{field_reference, field_range}
use Rattle.expand.specs.ImageDocument.{up_from, link_from, document_by}
use Rattle.query.specs.Reply.{document_of}
use Rattle.query.specs.Given.{Sane}
use Rattle.query.specs.Right.{AllMerge, SameFieldTypes, SameFieldNames, SameFieldArguments, AllMergeBy, EachSetMerges}
use Rattle.query.proofs.Cases.{sane_good}
use Rattle.query.proofs.Soundness.{reaches, field_row, operation_sound}

truth : (b : Bool) → T b ↔ (b ≡ true)
truth true = (λ t. refl, λ e. tt)
truth false = (λ t. absurd t, λ e. subst T (sym e) tt)

-- ---- the tests decide the specification's comparisons

module _ (image : List ℕ) (sane : Sane image) (i : ℕ) (own : i < count_at image operations) where
  good : Good image
  good = sane_good sane

  abbrev At : ℕ → Type 0
  At = FieldAt (document_of image) (Reached (document_of image) i)

  types_mean : Means At (document_of image).types_agree (SameFieldTypes image)
  unfolding document_by
  types_mean a b x y =
      let f = field_reference image good a (field_row good i own a x) in
      let g = field_reference image good b (field_row good i own b y) in (
        λ t.
            let (s, p) = a_type image good (field_type image a) f.row in
            let (u, q) = a_type image good (field_type image b) g.row in
            record { left = s; right = u; left_stands = p; right_stands = q; same = (shape_decides image good f.row p q).0 ((truth _).0 t) },
        λ h. (truth _).1 ((shape_decides image good f.row h.left_stands h.right_stands).1 h.same),
      )

  names_mean : Means At (document_of image).same_name (SameFieldNames image)
  unfolding document_by
  names_mean a b x y = (λ t. eqb-true _ _ ((truth _).0 t), λ e. (truth _).1 (eq-eqb _ _ e))

  arguments_mean : Means At (document_of image).same_arguments (SameFieldArguments image)
  unfolding document_by
  arguments_mean a b x y =
      let d = arguments_decide image good (field_arguments image a) (field_arguments image b) (field_range image good a (field_row good i own a x)) (field_range image good b (field_row good i own b y)) in
      (λ t. d.0 ((truth _).0 t), λ h. (truth _).1 (d.1 h))

  pub one_merges : RuleHolds (document_of image) i ↔ RuleHoldsBy (document_of image) (SameFieldTypes image) (SameFieldNames image) (SameFieldArguments image) i
  one_merges = rule_means (document_of image) (operation_sound good i own sane.fragments) (SameFieldTypes image) (SameFieldNames image) (SameFieldArguments image) types_mean names_mean arguments_mean start

pub all_merge_means : (image : List ℕ) → Sane image → AllMerge image ↔ AllMergeBy image
all_merge_means image sane = (λ h i own. (one_merges image sane i own).0 (h i own), λ h i own. (one_merges image sane i own).1 (h i own))

-- ---- 5.3.2's own quantifier: each selection set of the document

in_up : (first n r : ℕ) → first ≤ r → r < first + n → r ∈ up_from first n
unfolding up_from
in_up first zero r low high = absurd (omega arith)
in_up first (suc n) r low high =
    elim (dec_le r first) [
      | yes le ↦ let e : r ≡ first = omega arith in here e
      | no more ↦ there (in_up (suc first) n r (omega arith) (omega arith))
    ]

module _ {image : List ℕ} (good : Good image) (few : count_at image sets ≤ NONE) where
  pub reached_back : {i t : ℕ} → reach.Reaches image i t → Reached (document_of image) i t
  unfolding document_by set_of link_from
  reached_back reach.itself = start
  reached_back (reach.onward {t = t} {u = u} q l) =
      onward (reached_back q) (in_up _ _ _ l.stands.from (stands_below l.stands)) (to_set (set_below image (selection_at image l.row)) l.below)
    where
      to_set : (v : ℕ) → v ≡ u → u ∈ listed (cond (eqb v NONE) none (some v))
      to_set v e = rw (ne_eqb v NONE (λ q. omega (arith, l.known))) (here (sym e))

-- without kinds 1 and 4 to 9 the sets that operations reach are all sets
module _ {image : List ℕ} (sane : Sane image) where
  pub sane_reached : AllReached image
  unfolding fragment.fragments_fault
  sane_reached = all_reached (sane_good sane) (next_none _ _ (next_none _ _ sane.fragments))

  pub sane_spread : AllSpread image
  unfolding fragment.fragments_fault
  sane_spread = all_spread (sane_good sane) (next_none _ _ (next_none _ _ sane.fragments))

  pub each_reached : (s : ℕ) → s < count_at image sets → (i : ℕ) × (i < count_at image operations) × Reached (document_of image) i s
  each_reached s known =
      let r = every_set (sane_good sane) sane_reached s known in
      (r.start, omega (arith, r.starts.below), reached_back (sane_good sane) (omega (arith, few_sets image (sane_good sane))) r.reaches)

  pub each_set : AllMergeBy image ↔ EachSetMerges image
  each_set = (
    λ merge s known. let (i, own, r) = each_reached s known in merge i own s r,
    λ each i own t r. each t (reaches (sane_good sane) i own r).1,
  )
