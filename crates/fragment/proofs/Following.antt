-- Following spreads is reaching: a fragment follows another exactly if a set that its own set reaches spreads that one.
-- Assumes nothing.
use Prim.Native.Nat.{ℕ, ◌<◌}
use mathlib.Core.Path.{◌≡◌, refl, sym, subst, ◌∙◌}
use mathlib.Core.List.{List}
use native.Mathlib.Decide.{ℕ_discrete}
use native.Mathlib.Omega.{arith}
use native.Mathlib.Nat.{le_refl}
use Rattle.tables.specs.Layout.{fragments, sets}
use Rattle.tables.specs.Image.{count_at}
use Rattle.tables.specs.Columns.{spread, selection_kind, selection_target, fragment_set}
use Rattle.tables.specs.Good.{Good, StandsIn}
use Rattle.reach.specs.Reach.{Reaches, itself, onward, SpreadsIn, SpreadFrom}
use Rattle.reach.proofs.ReachMeaning.{reaches_trans, stands_row, spread_leads}
use Rattle.fragment.specs.Rules.{own_set}
use Rattle.fragment.specs.Meaning.{Inside, at_top, deeper, Follows, one, more}
use Rattle.tables.proofs.ColumnLaws.{below_spread, below_own}

pub inside_reaches : {image : List ℕ} {s t : ℕ} → Inside image s t → Reaches image s t
inside_reaches at_top = itself
inside_reaches {image} (deeper {r = r} i st ne e known) = onward (inside_reaches i) (record { row = r; stands = st; below = below_own image r ne ∙ e; known = known })

-- where a set that a fragment's set reaches lies: inside the fragment, or inside one that it follows
pub data Lies (image : List ℕ) (f t : ℕ) : Type 0 where
  in_own : Inside image (fragment_set image f) t → Lies image f t
  in_other : {g : ℕ} → Follows image f g → Inside image (fragment_set image g) t → Lies image f t

module _ {image : List ℕ} (good : Good image) where
  -- a spread is of a fragment that is there
  pub spread_known : {s g : ℕ} → SpreadsIn image s g → g < count_at image fragments
  spread_known {s} sp = rw (← sp.target) ((good.selection sp.row (stands_row image good sp.row s sp.stands)).spread_target sp.kind)

  spreads_on : {f s g : ℕ} → Lies image f s → SpreadsIn image s g → Follows image f g
  spreads_on (in_own i) sp = one (record { via = _; inside = i; spreads = sp })
  spreads_on (in_other w i) sp = more w (record { via = _; inside = i; spreads = sp })

  inside_on : {f t r u : ℕ} → Lies image f t → StandsIn image r t → (selection_kind image r ≡ spread → ⊥) → selection_target image r ≡ u → u < count_at image sets → Lies image f u
  inside_on (in_own i) st ne e known = in_own (deeper i st ne e known)
  inside_on (in_other w i) st ne e known = in_other w (deeper i st ne e known)

  pub lies : {f t : ℕ} → Reaches image (fragment_set image f) t → Lies image f t
  lies itself = in_own at_top
  lies {f} (onward {t = t} {u = u} q l) =
      elim (ℕ_discrete (selection_kind image l.row) spread) [
        | yes e ↦
            let g = selection_target image l.row in
            let here : fragment_set image g ≡ u = sym (below_spread image l.row e) ∙ l.below in
            let sp : SpreadsIn image t g = record { row = l.row; stands = l.stands; kind = e; target = refl } in
            subst (Lies image f) here (in_other (spreads_on (lies q) sp) at_top)
        | no ne ↦ inside_on (lies q) l.stands ne (sym (below_own image l.row ne) ∙ l.below) l.known
      ]

  pub follows_from : {f g : ℕ} → SpreadFrom image (own_set image f) g → Follows image f g
  follows_from {f} r =
      let start : r.reached.start ≡ fragment_set image f = omega (arith, r.reached.starts.from, r.reached.starts.below) in
      spreads_on (lies (subst (λ (x : ℕ). Reaches image x r.via) start r.reached.reaches)) r.spreads

  own_from : (f : ℕ) {g s : ℕ} → Reaches image (fragment_set image f) s → SpreadsIn image s g → SpreadFrom image (own_set image f) g
  own_from f {s = s} q sp = record {
    via = s;
    reached = record { start = fragment_set image f; starts = record { from = le_refl _; below = omega arith }; reaches = q };
    spreads = sp;
  }

  -- a fragment that is followed has its set reached
  pub follows_reaches : {f g : ℕ} → Follows image f g → (s : ℕ) × Reaches image (fragment_set image f) s × SpreadsIn image s g
  follows_reaches (one w) = (w.via, inside_reaches w.inside, w.spreads)
  follows_reaches (more {g = g} q w) =
      let (s, r, sp) = follows_reaches q in
      let there = onward r (spread_leads image good s g sp (spread_known sp)) in
      (w.via, reaches_trans there (inside_reaches w.inside), w.spreads)

  pub from_follows : {f g : ℕ} → Follows image f g → SpreadFrom image (own_set image f) g
  from_follows {f} w = let (s, r, sp) = follows_reaches w in own_from f r sp
