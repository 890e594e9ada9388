-- `link_all` meets its contract. The loop's invariant: the places passed are linked, and their first places told. Assumes nothing.
use native.Mathlib.Omega.{arith}
use mathlib.Core.Path.{refl}
use Rattle.index.proofs.IndexLaws.{first_linked, cleared_frame}
use Rattle.index.proofs.FirstsLaws.{told_first, linked_first, told_more, linked_told, all_told}
use Rattle.index.proofs.Index.link_all.Goals as goal

pub loop-next-init : goal.loop-next-init
loop-next-init c =
    let p = c.requires in
    let put = c.put.ensures in
    let first = first_linked _ _ p.0 c.clear.ensures (omega arith) in
    (omega arith, linked_first _ _ p.2 p.1 first put, told_first _ _ p.2 p.1 first put)

pub link-first-requires : goal.link-first-requires
link-first-requires c = (c.loop-next.invariant.1, omega arith, omega arith)

pub loop-next-preserved : goal.loop-next-preserved
loop-next-preserved c =
    let l = c.loop-next in
    let p = c.requires in
    let link = c.link-first.ensures in
    let put = c.put-in-loop-next.ensures in
    (omega arith, linked_told _ _ p.2 p.1 (omega arith) l.invariant.2 link.0 link.1 refl put, told_more _ _ p.2 p.1 (omega arith) l.invariant.2 link.0 link.1 refl put)

pub returns : goal.returns
returns c =
    let l = c.loop-next in
    let p = c.requires in
    let first = cleared_frame _ _ p.0 c.clear.ensures in
    all_told _ _ p.2 p.1 first c.put.ensures l.invariant.1 (omega arith) l.invariant.2

pub shape_of-s : goal.shape_of-s
shape_of-s c = (returns c).long
