-- 5.5.1.4 by spread and by reach: without cycles one verdict. Assumes nothing.
use Prim.Native.Nat.{ℕ, zero, suc, ◌<◌, zero-le}
use mathlib.Core.Path.{◌≡◌, refl, ap, subst}
use mathlib.Core.Logic.{◌⊎◌, inl, inr}
use mathlib.Core.List.{List, [], ◌∷◌}
use native.Mathlib.Omega.{arith}
use lib.ListN.{length, get_or}
use Rattle.tables.specs.Layout.{fragments}
use Rattle.tables.specs.Image.{count_at}
use Rattle.tables.specs.Good.{Good}
use Rattle.reach.specs.Reach.{onward, SpreadsIn}
use Rattle.reach.proofs.ReachMeaning.{reaches_trans, spread_leads}
use Rattle.fragment.specs.Meaning.{Spreads, Follows, one, more, NoCycles, AllSpread, Reached, AllReached}
use Rattle.fragment.proofs.Following.{inside_reaches}
use Rattle.fragment.proofs.Owners.{Owner, of_operation, of_fragment, owner}
use Rattle.fragment.proofs.Pigeons.{pigeons}

-- fs stand above f: the first spreads f, each next the one before
data Above (image : List ℕ) : List ℕ → ℕ → Type 0 where
  none_above : {f : ℕ} → Above image [] f
  one_above : {fs : List ℕ} {f g : ℕ} → Above image fs g → Spreads image g f → g < count_at image fragments → Above image (g ∷ fs) f

-- those further up follow down to those below
above_follows : {image fs : List ℕ} {f : ℕ} → Above image fs f → (j k : ℕ) → j < k → k < suc (length fs) → Follows image (get_or (f ∷ fs) k 0) (get_or (f ∷ fs) j 0)
above_follows none_above j k less inside = absurd (omega arith)
above_follows (one_above a sp l) j zero less inside = absurd (omega arith)
above_follows (one_above a sp l) zero (suc zero) less inside = one sp
above_follows (one_above a sp l) zero (suc (suc k)) less inside = more (above_follows a zero (suc k) (omega arith) (omega arith)) sp
above_follows (one_above a sp l) (suc j) (suc k) less inside = above_follows a j k (omega arith) (omega arith)

above_known : {image fs : List ℕ} {f : ℕ} → f < count_at image fragments → Above image fs f → (i : ℕ) → i < suc (length fs) → get_or (f ∷ fs) i 0 < count_at image fragments
above_known known a zero l = known
above_known known none_above (suc i) l = absurd (omega arith)
above_known known (one_above a sp k) (suc i) l = above_known k a i (omega arith)

module _ {image : List ℕ} (good : Good image) where
  -- a spread inside a reached fragment is reached
  from_reached : {f g : ℕ} → g < count_at image fragments → Reached image g → Spreads image g f → Reached image f
  from_reached {g = g} known r sp =
      let there = onward r.reached.reaches (spread_leads image good r.via g r.spreads known) in
      record {
        via = sp.via;
        reached = record { start = r.reached.start; starts = r.reached.starts; reaches = reaches_trans there (inside_reaches sp.inside) };
        spreads = sp.spreads;
      }

  module _ (all : AllSpread image) where
    -- reached, or one more stands above
    up : (f : ℕ) → f < count_at image fragments → Reached image f ⊎ ((g : ℕ) × (g < count_at image fragments) × Spreads image g f)
    up f known =
        let s = all f known in
        go (owner good s.set s.spreads.stands.known) s.spreads
      where
        go : {s : ℕ} → Owner image s → SpreadsIn image s f → Reached image f ⊎ ((g : ℕ) × (g < count_at image fragments) × Spreads image g f)
        go {s} (of_operation {i = i} l inside) sp =
            inl (record { via = s; reached = record { start = i; starts = record { from = zero-le; below = omega arith }; reaches = inside_reaches inside }; spreads = sp })
        go {s} (of_fragment {f = g} l inside) sp = inr (g, l, record { via = s; inside = inside; spreads = sp })

    climb : (n f : ℕ) → f < count_at image fragments → Reached image f ⊎ ((fs : List ℕ) × (length fs ≡ n) × Above image fs f)
    climb zero f known = inr ([], refl, none_above)
    climb (suc n) f known = go (up f known) (λ g l. climb n g l)
      where
        on : {g : ℕ} → g < count_at image fragments → Spreads image g f → Reached image g ⊎ ((fs : List ℕ) × (length fs ≡ n) × Above image fs g) → Reached image f ⊎ ((fs : List ℕ) × (length fs ≡ suc n) × Above image fs f)
        on l sp (inl r) = inl (from_reached l r sp)
        on {g} l sp (inr (fs, e, a)) = inr (g ∷ fs, ap suc e, one_above a sp l)

        go : Reached image f ⊎ ((g : ℕ) × (g < count_at image fragments) × Spreads image g f)
            → ((g : ℕ) → g < count_at image fragments → Reached image g ⊎ ((fs : List ℕ) × (length fs ≡ n) × Above image fs g))
            → Reached image f ⊎ ((fs : List ℕ) × (length fs ≡ suc n) × Above image fs f)
        go (inl r) further = inl r
        go (inr (g, l, sp)) further = on l sp (further g l)

    -- without cycles, what is spread everywhere is reached everywhere
    pub spread_reached : NoCycles image → AllReached image
    spread_reached no_cycles f known = go (climb (count_at image fragments) f known)
      where
        go : Reached image f ⊎ ((fs : List ℕ) × (length fs ≡ count_at image fragments) × Above image fs f) → Reached image f
        go (inl r) = r
        go (inr (fs, e, a)) =
            let key : ℕ → ℕ = λ i. get_or (f ∷ fs) i 0 in
            let t = pigeons (count_at image fragments) (suc (length fs)) key (omega arith) (above_known known a) in
            let w = above_follows a t.lower t.upper t.apart t.inside in
            absurd (no_cycles _ (above_known known a t.upper t.inside) (subst (λ (x : ℕ). Follows image (get_or (f ∷ fs) t.upper 0) x) t.same w))

  pub reached_spread : AllReached image → AllSpread image
  reached_spread all f known = let r = all f known in record { set = r.via; spreads = r.spreads }
