-- `walk::Run::meet_part` meets its contract: a law for each way out. Assumes nothing.
use Rattle.std.proofs.lemmas.Result.{err_from_is_err_and}
use Rattle.selection.proofs.PartMeets.{part_stops, part_flat, part_meets, begun_queued}
use Rattle.selection.proofs.walk.Run.meet_part.Goals as goal

pub returns-in_err-compare_part : goal.returns-in_err-compare_part
returns-in_err-compare_part c =
    let p = err_from_is_err_and c.from_residual.result c.from_residual.ensures.1 in
    let compared = c.in_err-compare_part.ensures in
    rw (p.1, p.2) (record { meets = part_stops c.requires compared.compares compared.stops; ends = compared.stops })

pub returns-then-queued-eq0 : goal.returns-then-queued-eq0
returns-then-queued-eq0 c = record {
  meets = part_flat c.requires c.in_ok-compare_part.ensures.compares c.requires.going c.begin_expansion.ensures.0 c.begin_expansion.ensures.1 c.queue_part-queued.ensures c.if-queued-eq0.true;
  ends = c.requires.going;
}

pub meet_sets-requires : goal.meet_sets-requires
meet_sets-requires c = (c.requires, begun_queued c.begin_expansion.ensures.0 c.queue_part-queued.ensures)

pub returns : goal.returns
returns c = record {
  meets = part_meets c.requires c.in_ok-compare_part.ensures.compares c.requires.going c.begin_expansion.ensures.0 c.begin_expansion.ensures.1 c.queue_part-queued.ensures c.if-queued-eq0.false c.meet_sets.ensures.meets;
  ends = c.meet_sets.ensures.ends;
}
