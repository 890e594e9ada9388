-- `descend` meets its contract. The loop's invariant: the search comes to the place. Assumes nothing.
use native.Mathlib.Omega.{arith}
use mathlib.Core.Path.{◌≡◌}
use mathlib.Core.Logic.{◌⊎◌, inl, inr}
use mathlib.Core.List.{List}
use Prim.Native.Nat.{ℕ, ◌<◌, ◌≤◌}
use lib.ListN.{get_or}
use Rattle.index.specs.declared.Index.{Index}
use Rattle.index.specs.Indexed.{link_place, link_at}
use Rattle.index.proofs.SearchLaws.{comes_first, comes_on}
use Rattle.index.proofs.Index.descend.Goals as goal

-- the link does not lead on
no_further : (s : List ℕ) (index : Index) (p bits : ℕ) {link : ℕ} → link ≡ link_place index p bits → (get_or s link 0 ≤ p) ⊎ ((p < get_or s link 0) × (index.count ≤ get_or s link 0))
    → (link_at s index p bits ≤ p) ⊎ (index.count ≤ link_at s index p bits)
no_further s index p bits at (inl back) = inl (rw at at back)
no_further s index p bits at (inr (leads, outside)) = inr (rw at at outside)

pub loop-place-init : goal.loop-place-init
loop-place-init c = comes_first _ _ _ c.requires.1

pub link_place-link-requires : goal.link_place-link-requires
link_place-link-requires c = (omega arith, c.loop-place.invariant.inside)

pub returns-then-below-place : goal.returns-then-below-place
returns-then-below-place c = record {
  place = _;
  bits = _;
  comes = c.loop-place.invariant;
  other = c.loop-place-test.true;
  stands = c.link_place-link.ensures.0;
  ends = no_further _ _ _ _ c.link_place-link.ensures.0 c.then-below-place.either;
}

pub loop-place-preserved : goal.loop-place-preserved
loop-place-preserved c =
    let at = c.link_place-link.ensures.0 in
    rw at (comes_on c.loop-place.invariant c.loop-place-test.true (rw at at c.if-below-place.false) (rw at at c.if-self-below.false))

pub returns : goal.returns
returns c = record { bits = _; comes = c.loop-place.invariant; has = c.loop-place-test.false }
