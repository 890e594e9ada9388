-- `link` meets its contract. Assumes nothing.
use native.Mathlib.Omega.{arith}
use mathlib.Core.Path.{◌≡◌}
use mathlib.Core.Logic.{⊎_elim}
use mathlib.Core.List.{List}
use Prim.Native.Nat.{ℕ, ◌+◌, ◌≤◌, ◌<◌}
use lib.ListN.{length, set}
use Rattle.index.specs.declared.Index.{Index}
use Rattle.index.specs.Indexed.{key_at, first_place, link_at, words_of, Arrives, Ends, Linked, Links}
use Rattle.index.proofs.SearchLaws.{link_inside}
use Rattle.index.proofs.IndexLaws.{place_linked, new_first, place_known, known_first}
use Rattle.index.proofs.Index.link.Goals as goal

module _ (s : List ℕ) (index : Index) (n : ℕ) (l : Linked s index n) (first : 0 < n) (below : n < index.count) where
  known : {place : ℕ} → Arrives s index (key_at s index n) place → Links s index n s × (place ≡ first_place s index (key_at s index n))
  known a =
      let early = (a.comes.linked n first l).0 in
      (place_known l below early a.has, known_first l below early a.comes.searching a.has)

  module _ {link : ℕ} (e : Ends s index (key_at s index n) link) where
    ends : link_at s index e.place e.bits ≤ e.place
    ends = let low = l.low e.place e.bits e.comes.inside in ⊎_elim (λ back. back) (λ past. absurd (omega arith)) e.ends

    free : Links s index n (set s link n) × (n ≡ first_place s index (key_at s index n))
    free =
        let here = e.comes.linked n first l in
        rw e.stands (
          place_linked s index n e.place e.bits l below here.0 e.other ends here.1 e.comes.searching,
          new_first s index n e.place e.bits l below here.0 e.other ends here.1 e.comes.searching,
        )

inside : {s : List ℕ} {index : Index} {key link : ℕ} → index.at + words_of index ≤ length s → Ends s index key link → link < length s
inside {index = index} h e = omega (arith, e.stands, link_inside index e.place e.bits e.comes.inside)

pub bounds-s-link : goal.bounds-s-link
bounds-s-link c = inside c.requires.0.inside c.in-Err.ensures

pub offset_bounds-s-link : goal.offset_bounds-s-link
offset_bounds-s-link c = omega (arith, inside c.requires.0.inside c.in-Err.ensures)

pub returns-in-Ok : goal.returns-in-Ok
returns-in-Ok c = known _ _ _ c.requires.0 c.requires.1 c.requires.2 c.in-Ok.ensures

pub returns-in-Err : goal.returns-in-Err
returns-in-Err c = free _ _ _ c.requires.0 c.requires.1 c.requires.2 c.in-Err.ensures
