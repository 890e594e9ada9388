-- `is_known` meets its contract. The loop's invariant: the lists that are still to be looked at decide.
use mathlib.Core.Path.{◌≡◌, refl, sym, ap, ◌∙◌}
use mathlib.Core.Bool.{Bool, true, false}
use mathlib.Core.List.{List}
use native.Mathlib.Omega.{arith}
use Prim.Native.Nat.{ℕ, ◌+◌, ◌-◌, suc}
use lib.ListN.{length, get_or}
use Rattle.lists.specs.Part.{Stores}
use Rattle.merge_theory.specs.Lists.{is_known}
use Rattle.known.specs.declared.Registry.{Registry}
use Rattle.lists.specs.declared.Span.{Span}
use Rattle.known.specs.KnownLists.{key_of, Trail, Finds, is_list_at}
use Rattle.known.proofs.KnownLaws.{key_most, slot_is, trail_below, hit, miss, nowhere}
use Rattle.known.proofs.Registry.is_known.Invariants.{Left}
use Rattle.known.proofs.Registry.is_known.Goals as goal

-- the list that stands there is not it: the search goes on with those before
goes_on : (s : List ℕ) (registry : Registry) (slot next place rows n before : ℕ) → next ≡ suc place → is_list_at s (registry.store + place) rows n ≡ false → before ≡ get_or s (registry.chain + place) 0
    → Left s registry slot rows n next → Left s registry slot rows n before
goes_on s registry slot next place rows n before at other is so_far known ls l stored list key =
    let left = so_far known ls l stored list key in
    let more = miss list left.2 at other in
    (place, more.0, rw is more.1, left.3 ∙ more.2)

-- what is left decides, and an answer of it is the answer
searched : (registry : Registry) (s : List ℕ) (slot : ℕ) (x : Span) (r : Bool) {rows n next : ℕ} → n ≡ x.end - x.start → rows ≡ registry.store + x.start → Left s registry slot rows n next
    → ((l : List ℕ) (end : ℕ) (rest : List (List ℕ)) → Stores s rows n l → Trail registry s (key_of registry.keys l) end next rest → is_known l rest ≡ r) → Finds registry s slot x r
searched registry s slot x r {rows} {n} long at so_far answer = record {
  answer = λ key known ls l stored list.
      let here : Stores s rows n l = rw (long, at) list.rows in
      let left = so_far known ls l stored here (key ∙ slot_is registry list) in
      sym (left.3 ∙ answer l left.0 left.1 here left.2);
}

chained : (s : List ℕ) (chain place at : ℕ) → at ≡ chain + place → get_or s at 0 ≡ get_or s (chain + place) 0
chained s chain place at e = ap (λ k. get_or s k 0) e

pub loop-place-init : goal.loop-place-init
loop-place-init c = (omega arith, λ known ls l stored list key. (known, ls, rw (c.get-next.ensures, key) (stored.trails (key_of _ l) (key_most _ l 0 (length l))), refl))

pub is_list_at-requires : goal.is_list_at-requires
is_list_at-requires c = (omega (arith, c.in_region.ensures, c.loop-place.invariant.0), omega arith)

pub returns-then-is_list_at : goal.returns-then-is_list_at
returns-then-is_list_at c = searched _ _ _ _ true c.len-n.ensures c.in_region-rows.ensures c.loop-place.invariant.1 (λ l end rest list trail. hit list trail (omega arith) (rw c.in_region.ensures at (sym c.is_list_at.ensures ∙ c.if-is_list_at.true)))

pub returns-then-next-before : goal.returns-then-next-before
returns-then-next-before c =
    searched _ _ _ _ false c.len-n.ensures c.in_region-rows.ensures c.loop-place.invariant.1
    (λ l end rest list trail.
    let more = miss list {place = c.in-Some.place} trail (omega arith) (rw c.in_region.ensures at (sym c.is_list_at.ensures ∙ c.if-is_list_at.false)) in
    absurd (omega (arith, trail_below more.1, (c.get-before.ensures ∙ chained c.args.s.now _ c.in-Some.place _ c.in_region-in-Some.ensures))))

pub loop-place-preserved : goal.loop-place-preserved
loop-place-preserved c = (omega (arith, c.loop-place.invariant.0), goes_on _ _ _ c.loop-place.next _ _ _ _ (omega arith) (rw c.in_region.ensures at (sym c.is_list_at.ensures ∙ c.if-is_list_at.false)) (c.get-before.ensures ∙ chained c.args.s.now _ c.in-Some.place _ c.in_region-in-Some.ensures) c.loop-place.invariant.1)

pub returns : goal.returns
returns c = searched _ _ _ _ false c.len-n.ensures c.in_region-rows.ensures c.loop-place.invariant.1 (λ l end rest list trail. nowhere _ l trail (omega arith))
