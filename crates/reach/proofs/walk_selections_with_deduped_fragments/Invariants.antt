-- The loop of `reach::walk_selections_with_deduped_fragments`. Its invariant: the sets passed are walked, and
-- what is left of the walk leads to the whole walk's end. Assumes nothing.
use mathlib.Core.Path.{◌≡◌}
use Prim.Native.Nat.{◌-◌}
use Rattle.reach.proofs.WalkLaws.{Going}
use Rattle.tables.specs.Layout.{sets}
use Rattle.tables.specs.Image.{count_at}
use Rattle.reach.proofs.walk_selections_with_deduped_fragments.Given as goal

abbrev pub invariant-loop-walked : goal.invariant-loop-walked
invariant-loop-walked l = record {
  image : l.list.image.now ≡ l.image;
  words : l.list.words.ghost_name ≡ l.initial.list.words.ghost_name;
  going : Going l.image l.initial.list.words.now l.initial.list.queued l.list.words.now l.list.queued l.walked;
}

abbrev pub decreases-loop-walked : goal.decreases-loop-walked
decreases-loop-walked l = count_at l.image sets - l.walked
