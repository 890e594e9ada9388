-- All specimens of kinds 5 and 9 in one statement, by computation. Assumes nothing.
use mathlib.Core.Path.{◌≡◌, refl}
use mathlib.Core.List.{map}
use Rattle.tables.specs.Columns.{set_below}
use Rattle.tables.proofs.Computing as tables
use Rattle.reach.specs.Turns.{turns}
use Rattle.reach.specs.Reach.{queue_set, mark_set, enter_set, walk_selection, walk_set, walk_queue, none_met, start_sets, reached_from}
use Rattle.fragment.specs.Chains.{is_spread, is_nesting}
use Rattle.fragment.specs.Heights.{through, highest, height_in, spreads_from, links_from, nested_from}
use Rattle.fragment.specs.Rules.{lowest, is_spread_from, reaches_itself, starts_long_chain, has_many_links, nests_deep, is_unused, cycle_fault, chain_fault, links_fault, nesting_fault, unused_fault, fragments_fault}
use Rattle.fragment.specs.Specimens.{Specimen, specimens}

-- to compute kinds 5 to 9, name this on an `unfolding` line: it opens all that they compute with
unfoldable pub computes : Unit {0}
unfolding
    tables.computes set_below turns queue_set mark_set enter_set walk_selection walk_set walk_queue none_met start_sets reached_from
    is_spread is_nesting through highest height_in spreads_from links_from nested_from
    lowest is_spread_from reaches_itself starts_long_chain has_many_links nests_deep is_unused
    cycle_fault chain_fault links_fault nesting_fault unused_fault fragments_fault
computes = tt

pub specimens_shown : map (λ (x : Specimen). fragments_fault x.image) specimens ≡ map (λ (x : Specimen). x.shown) specimens
unfolding computes
specimens_shown = refl
