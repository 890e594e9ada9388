-- Laws of chains in a good image: how many links they have at most, and their beginnings. Assumes nothing.
use Prim.Native.Nat.{ℕ, zero, suc, ◌+◌, ◌*◌, ◌<◌, ◌≤◌}
use mathlib.Core.Path.{◌≡◌, refl, sym, ◌∙◌}
use mathlib.Core.Bool.{Bool, true, false}
use mathlib.Core.List.{List, [], ◌∷◌}
use native.Mathlib.Nat.{add-mul, one-mul}
use native.Mathlib.Omega.{arith}
use lib.ListN.{length}
use Rattle.tables.specs.Layout.{sets}
use Rattle.tables.specs.Image.{count_at}
use Rattle.tables.specs.Good.{Good}
use Rattle.fragment.specs.Chains.{one_if, weigh, is_spread, is_link, Link, Chain, end, last, link}
use Rattle.fragment.proofs.Links.{LeadsOn, nowhere, to_own, to_fragment, leads, fragment_set_in}

-- from set s starts a chain in which just n selections count
pub record Exactly (image : List ℕ) (counts : ℕ → Bool) (n s : ℕ) : Type 0 where
  pub rows : List ℕ
  pub chain : Chain image s rows
  pub weighs : weigh counts rows ≡ n

module _ {image : List ℕ} (counts : ℕ → Bool) where
  -- a beginning of a chain counts as many as one likes
  pub beginning : {s : ℕ} {rows : List ℕ} (n : ℕ) → Chain image s rows → n ≤ weigh counts rows → Exactly image counts n s
  unfolding weigh
  beginning zero c h = record { rows = []; chain = end; weighs = refl }
  beginning (suc n) end h = absurd (omega arith)
  beginning (suc n) (last {s = s} {r = r} st) h = go (counts r) refl h
    where
      go : (b : Bool) → counts r ≡ b → suc n ≤ one_if b + 0 → Exactly image counts (suc n) s
      go true e h = record { rows = r ∷ []; chain = last st; weighs = rw e (omega arith) }
      go false e h = absurd (omega arith)
  beginning (suc n) (link {s = s} {r = r} {t = t} {rows = rows} l c) h = go (counts r) refl h (beginning n c) (beginning (suc n) c)
    where
      more : {m : ℕ} → Exactly image counts m t → one_if (counts r) + m ≡ suc n → Exactly image counts (suc n) s
      more x e = record { rows = r ∷ x.rows; chain = link l x.chain; weighs = rw x.weighs e }

      go : (b : Bool) → counts r ≡ b → suc n ≤ one_if b + weigh counts rows
          → (n ≤ weigh counts rows → Exactly image counts n t) → (suc n ≤ weigh counts rows → Exactly image counts (suc n) t) → Exactly image counts (suc n) s
      go true e h less same = more (less (omega arith)) (rw e (omega arith))
      go false e h less same = more (same (omega arith)) (rw e (omega arith))

pub weigh_links : (rows : List ℕ) → weigh is_link rows ≡ length rows
unfolding weigh
weigh_links [] = refl
weigh_links (r ∷ rows) = let h = weigh_links rows in omega arith

module _ {image : List ℕ} (good : Good image) where
  -- the set that a link leads to is there
  pub link_in : {s r t : ℕ} → Link image s r t → t < count_at image sets
  link_in {s} {r} {t} l = go (leads good l.stands)
    where
      go : LeadsOn image s r → t < count_at image sets
      go (nowhere e ns) = absurd (l.some (sym l.leads ∙ e))
      go (to_own ns later known) = rw (← l.leads) known
      go (to_fragment sp known e) = rw (← l.leads, e) (fragment_set_in good _ known)

  one_more : (a w n : ℕ) → a ≡ 1 → (a + w) * n ≡ n + w * n
  one_more a w n e = rw (e, add-mul, one-mul)

  none_more : (a w n : ℕ) → a ≡ 0 → (a + w) * n ≡ w * n
  none_more a w n e = let z : a + w ≡ w = omega arith in rw z

  -- between two spreads a chain goes to later and later sets
  pub links_few : {s : ℕ} {rows : List ℕ} → s < count_at image sets → Chain image s rows → length rows + s ≤ count_at image sets + weigh (is_spread image) rows * count_at image sets
  unfolding weigh
  links_few h end = omega arith
  links_few h (last {r = r} st) = omega arith
  links_few {s} h (link {r = r} {t = t} {rows = rows} l c) = go (leads good l.stands) (links_few (link_in l) c)
    where
      w : ℕ
      w = weigh (is_spread image) rows

      go : LeadsOn image s r → length rows + t ≤ count_at image sets + w * count_at image sets
          → suc (length rows) + s ≤ count_at image sets + (one_if (is_spread image r) + w) * count_at image sets
      go (nowhere e ns) ih = absurd (l.some (sym l.leads ∙ e))
      go (to_own ns later known) ih =
          let m = none_more (one_if (is_spread image r)) w (count_at image sets) (rw ns) in
          let later' : s < t = rw (← l.leads) later in
          omega arith
      go (to_fragment sp known e) ih =
          let m = one_more (one_if (is_spread image r)) w (count_at image sets) (rw sp) in
          omega arith
