-- Kinds 5 to 9 both ways, 5.5.1.4 as it is written, and that every set of the document is reached where kind 9 is absent. Assumes nothing.
use Prim.Native.Nat.{ℕ, ◌+◌, ◌<◌, ◌≤◌, zero-le}
use mathlib.Core.Path.{◌≡◌, refl, sym, ap, subst}
use mathlib.Core.Logic.{◌↔◌}
use mathlib.Core.Bool.{Bool, true, false, not, false≢true}
use mathlib.Core.List.{List}
use mathlib.Core.Option.{Option, none, some}
use native.Mathlib.Omega.{arith}
use native.Mathlib.Decide.{dec_le}
use borrow.Author.Tests.{eqb-true}
use Rattle.tables.specs.Layout.{operations, sets}
use Rattle.tables.specs.Image.{count_at}
use Rattle.tables.specs.Good.{Good}
use Rattle.reach.specs.Reach.{onward, ReachedFrom}
use Rattle.reach.proofs.ReachMeaning.{reaches_trans, marked_spread, spread_leads}
use Rattle.fragment.specs.Rules.{Refusal, refusal, operation_sets, is_spread_from, is_unused, unused_fault, fragments_fault}
use Rattle.fragment.specs.Meaning.{Lowest, Absent, Finds, cycle, chain, links, nesting, unused, nothing, AllReached, AllSpread}
use Rattle.fragment.proofs.RuleLaws.{none_failed}
use Rattle.fragment.proofs.Following.{inside_reaches}
use Rattle.fragment.proofs.Owners.{Owner, of_operation, of_fragment, owner}
use Rattle.fragment.proofs.Verdict.{reached_spread}
use Rattle.fragment.proofs.Theorems.{fragments_decided}

module _ {image : List ℕ} (good : Good image) where
  within : 0 + count_at image operations ≤ count_at image sets
  within = omega (arith, good.own_sets)

  flip : (b : Bool) → not b ≡ false → b ≡ true
  flip true e = refl
  flip false e = absurd (false≢true (sym e))

  -- no kind 9: every fragment is reached, and so is spread
  pub all_reached : unused_fault image ≡ none → AllReached image
  unfolding unused_fault is_unused is_spread_from
  all_reached e f known = marked_spread image good (operation_sets image) within f known (eqb-true _ _ (flip _ (none_failed _ _ _ e f known)))

  pub all_spread : unused_fault image ≡ none → AllSpread image
  all_spread e = reached_spread good (all_reached e)

  -- then every selection set of the document is one that an operation reaches
  pub every_set : AllReached image → (s : ℕ) → s < count_at image sets → ReachedFrom image (operation_sets image) s
  every_set all s known = go (owner good s known)
    where
      go : Owner image s → ReachedFrom image (operation_sets image) s
      go (of_operation {i = i} l inside) = record { start = i; starts = record { from = zero-le; below = omega arith }; reaches = inside_reaches inside }
      go (of_fragment {f = f} l inside) =
          let r = all f l in
          let there = onward r.reached.reaches (spread_leads image good r.via f r.spreads l) in
          record { start = r.reached.start; starts = r.reached.starts; reaches = reaches_trans there (inside_reaches inside) }

-- ---- the finding is one

lowest_one : {n p q : ℕ} {Fails : ℕ → Type 0} → Lowest n Fails p → Lowest n Fails q → p ≡ q
lowest_one {p = p} {q = q} v w =
    elim (dec_le p q) [
      | yes le ↦ elim (dec_le q p) [
        | yes ge ↦ omega arith
        | no less ↦ absurd (w.none_below p (omega arith) v.fails)
      ]
      | no more ↦ absurd (v.none_below q (omega arith) w.fails)
    ]

excluded : {n p : ℕ} {Fails : ℕ → Type 0} {A : Type 0} → Absent n Fails → Lowest n Fails p → A
excluded absent w = absurd (absent _ w.known w.fails)

pub finds_one : (image : List ℕ) {o o' : Option Refusal} → Finds image o → Finds image o' → o ≡ o'
finds_one image (cycle {f = p} v) (cycle {f = q} w) = ap (λ (f : ℕ). some (refusal 5 0 f)) (lowest_one v w)
finds_one image (cycle {f = p} v) (chain {f = q} b w) = excluded b v
finds_one image (cycle {f = p} v) (links {i = q} b w) = excluded b.no_cycles v
finds_one image (cycle {f = p} v) (nesting {i = q} b d w) = excluded b.no_cycles v
finds_one image (cycle {f = p} v) (unused {f = q} b w) = excluded b.flat.no_cycles v
finds_one image (cycle {f = p} v) (nothing b d) = excluded b.flat.no_cycles v
finds_one image (chain {f = p} a v) (cycle {f = q} w) = excluded a w
finds_one image (chain {f = p} a v) (chain {f = q} b w) = ap (λ (f : ℕ). some (refusal 6 0 f)) (lowest_one v w)
finds_one image (chain {f = p} a v) (links {i = q} b w) = excluded b.no_chains v
finds_one image (chain {f = p} a v) (nesting {i = q} b d w) = excluded b.no_chains v
finds_one image (chain {f = p} a v) (unused {f = q} b w) = excluded b.flat.no_chains v
finds_one image (chain {f = p} a v) (nothing b d) = excluded b.flat.no_chains v
finds_one image (links {i = p} a v) (cycle {f = q} w) = excluded a.no_cycles w
finds_one image (links {i = p} a v) (chain {f = q} b w) = excluded a.no_chains w
finds_one image (links {i = p} a v) (links {i = q} b w) = ap (λ (f : ℕ). some (refusal 7 f 0)) (lowest_one v w)
finds_one image (links {i = p} a v) (nesting {i = q} b d w) = excluded d v
finds_one image (links {i = p} a v) (unused {f = q} b w) = excluded b.few_links v
finds_one image (links {i = p} a v) (nothing b d) = excluded b.few_links v
finds_one image (nesting {i = p} a c v) (cycle {f = q} w) = excluded a.no_cycles w
finds_one image (nesting {i = p} a c v) (chain {f = q} b w) = excluded a.no_chains w
finds_one image (nesting {i = p} a c v) (links {i = q} b w) = excluded c w
finds_one image (nesting {i = p} a c v) (nesting {i = q} b d w) = ap (λ (f : ℕ). some (refusal 8 f 0)) (lowest_one v w)
finds_one image (nesting {i = p} a c v) (unused {f = q} b w) = excluded b.low_nesting v
finds_one image (nesting {i = p} a c v) (nothing b d) = excluded b.low_nesting v
finds_one image (unused {f = p} a v) (cycle {f = q} w) = excluded a.flat.no_cycles w
finds_one image (unused {f = p} a v) (chain {f = q} b w) = excluded a.flat.no_chains w
finds_one image (unused {f = p} a v) (links {i = q} b w) = excluded a.few_links w
finds_one image (unused {f = p} a v) (nesting {i = q} b d w) = excluded a.low_nesting w
finds_one image (unused {f = p} a v) (unused {f = q} b w) = ap (λ (f : ℕ). some (refusal 9 0 f)) (lowest_one v w)
finds_one image (unused {f = p} a v) (nothing b d) = excluded d v
finds_one image (nothing a c) (cycle {f = q} w) = excluded a.flat.no_cycles w
finds_one image (nothing a c) (chain {f = q} b w) = excluded a.flat.no_chains w
finds_one image (nothing a c) (links {i = q} b w) = excluded a.few_links w
finds_one image (nothing a c) (nesting {i = q} b d w) = excluded a.low_nesting w
finds_one image (nothing a c) (unused {f = q} b w) = excluded c w
finds_one image (nothing a c) (nothing b d) = refl

pub fragments_exactly : {image : List ℕ} → Good image → (o : Option Refusal) → (fragments_fault image ≡ o) ↔ Finds image o
fragments_exactly {image} good o =
    ((λ e. subst (Finds image) e (fragments_decided good)), λ f. finds_one image (fragments_decided good) f)
