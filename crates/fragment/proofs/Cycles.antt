-- A fragment reaches itself exactly if a set that its own set reaches spreads it; and never where links lead to its place only down.
-- Assumes nothing.
use Prim.Native.Nat.{ℕ, ◌+◌, ◌<◌, ◌≤◌}
use mathlib.Core.Path.{◌≡◌, refl, ap, subst, ◌∙◌}
use mathlib.Core.Logic.{◌⊎◌, inl, inr}
use mathlib.Core.Bool.{Bool, true, false}
use mathlib.Core.List.{List}
use native.Mathlib.Nat.{le_refl}
use native.Mathlib.Omega.{arith}
use borrow.Author.Tests.{eq-eqb, eqb-true}
use Rattle.tables.specs.Layout.{fragments, sets}
use Rattle.tables.specs.Image.{count_at}
use Rattle.tables.specs.Columns.{fragment_set}
use Rattle.tables.specs.Good.{Good}
use Rattle.reach.specs.Reach.{Leads, Reaches, itself, onward, SpreadFrom}
use Rattle.reach.proofs.ReachMeaning.{marked_spread, spread_marked}
use Rattle.fragment.specs.Chains.{Link}
use Rattle.fragment.specs.Rise.{RisesTo}
use Rattle.fragment.specs.Rules.{is_spread_from, own_set, reaches_itself}
use Rattle.tables.proofs.ColumnLaws.{below_spread}
use Rattle.fragment.proofs.Links.{known_some, fragment_set_in}

module _ {image : List ℕ} (good : Good image) where
  -- what leads to a set is a link
  pub lead_link : {s t : ℕ} (l : Leads image s t) → Link image s l.row t
  lead_link l = record { stands = l.stands; leads = l.below; some = known_some good l.known }

  module _ (f : ℕ) (known : f < count_at image fragments) where
    own_within : fragment_set image f + 1 ≤ count_at image sets
    own_within = omega (arith, fragment_set_in good f known)

    pub itself_spread : reaches_itself image f ≡ true → SpreadFrom image (own_set image f) f
    unfolding reaches_itself is_spread_from
    itself_spread e = marked_spread image good (own_set image f) own_within f known (eqb-true _ _ e)

    pub spread_itself : SpreadFrom image (own_set image f) f → reaches_itself image f ≡ true
    unfolding reaches_itself is_spread_from
    spread_itself r = eq-eqb _ _ (spread_marked image good (own_set image f) own_within f known r)

    -- a fragment whose place no link leads to but down does not reach itself
    module _ (place : ℕ → ℕ) (rise : ℕ) (rises : RisesTo image place rise) (above : rise < place (fragment_set image f)) where
      reach_below : {t : ℕ} → Reaches image (fragment_set image f) t → place t ≤ place (fragment_set image f)
      reach_below itself = le_refl _
      reach_below (onward {t = t} {u = u} q l) = go (rises t _ u (lead_link l)) (reach_below q)
        where
          go : (place u < place t) ⊎ (place u ≤ rise) → place t ≤ place (fragment_set image f) → place u ≤ place (fragment_set image f)
          go (inl down) ih = omega arith
          go (inr low) ih = omega arith

      never_back : SpreadFrom image (own_set image f) f → ⊥
      never_back r =
          let sp = r.spreads in
          let l : Link image r.via sp.row (fragment_set image f) = record { stands = sp.stands; leads = below_spread image sp.row sp.kind ∙ ap (fragment_set image) sp.target; some = known_some good (fragment_set_in good f known) } in
          let start : r.reached.start ≡ fragment_set image f = omega (arith, r.reached.starts.from, r.reached.starts.below) in
          go (rises _ _ _ l) (reach_below (subst (λ (x : ℕ). Reaches image x r.via) start r.reached.reaches))
        where
          go : {v : ℕ} → (place (fragment_set image f) < place v) ⊎ (place (fragment_set image f) ≤ rise) → place v ≤ place (fragment_set image f) → ⊥
          go (inl down) ih = omega arith
          go (inr low) ih = omega arith

      pub above_rise : reaches_itself image f ≡ false
      above_rise = go (reaches_itself image f) refl
        where
          go : (b : Bool) → reaches_itself image f ≡ b → reaches_itself image f ≡ false
          go true e = absurd (never_back (itself_spread e))
          go false e = e
