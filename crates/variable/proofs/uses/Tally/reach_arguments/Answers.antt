-- `uses::Tally::reach_arguments` meets its contract. Assumes nothing.
use native.Mathlib.Omega.{arith}
use Rattle.variable.proofs.UseLaws.{arguments_reached}
use Rattle.variable.proofs.TallyLaws.{same_on, does_of}
use Rattle.variable.proofs.uses.Tally.reach_arguments.Goals as goal

pub returns : goal.returns
returns c =
    let own = c.reach_range.ensures in
    let queued = c.reach_queued.ensures in
    record {
      same = record { image = (same_on own.same queued.same).image; words = (same_on own.same queued.same).words; variables = (same_on own.same queued.same).variables };
      does = arguments_reached _ c.walk_selections_with_deduped_fragments-queued.ensures c.ends_at.ensures.0 (omega arith) c.clear.ensures c.operation_directives.ensures own.does (does_of own.same queued);
    }
