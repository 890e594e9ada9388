-- The loop of `rules::validate_risen`. Its invariant: none of those passed fails. Assumes nothing.
use Rattle.std.proofs.Common.{◌≡◌, ℕ, ◌≤◌, ◌<◌, false, length}
use Rattle.tables.specs.Good.{Good}
use Rattle.fragment.specs.Rise.{place_at, RisesTo}
use Rattle.fragment.specs.Rules.{reaches_itself, fragments_words}
use Rattle.fragment.specs.Walks.{HeightsKept}
use Rattle.fragment.proofs.rules.validate_risen.Given as goal

abbrev pub invariant-loop-fragment : goal.invariant-loop-fragment
invariant-loop-fragment l = HeightsKept l.image l.initial.s l.s × (Good l.image → fragments_words l.image ≤ length l.initial.s → RisesTo l.image (place_at l.image l.initial.s) l.rise → (k : ℕ) → k < l.fragment → reaches_itself l.image k ≡ false)
