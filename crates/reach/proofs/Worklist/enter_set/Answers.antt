-- `reach::Worklist::enter_set` meets its contract. Assumes nothing.
use native.Mathlib.Omega.{arith}
use mathlib.Core.Path.{◌≡◌, refl, ap, ◌∙◌}
use mathlib.Core.List.{List}
use Prim.Native.Nat.{ℕ, ◌+◌}
use denote.Enum.Declared.{tag_of}
use lib.ListN.{set}
use Rattle.reach.specs.contracts.Mark.{the_type}
use Rattle.reach.specs.declared.Mark.{Mark}
use Rattle.reach.specs.declared.Mark.TheVariants.{Begun, Led}
use Rattle.reach.specs.Marks.{word_of}
use Rattle.reach.proofs.WalkLaws.{enter_none, enter_first, enter_again}
use Rattle.reach.proofs.WorklistLaws.{same_itself}
use Rattle.reach.proofs.Worklist.enter_set.Goals as goal

cast_is : (mark : Mark) → tag_of the_type mark + 1 ≡ word_of mark
cast_is Begun = refl
cast_is Led = refl

marked : (s : List ℕ) (t : ℕ) (mark : Mark) → set s t (tag_of the_type mark + 1) ≡ set s t (word_of mark)
marked s t mark = ap (set s t) (cast_is mark)

pub returns-then-before-eq0 : goal.returns-then-before-eq0
returns-then-before-eq0 c = record {
  same = record { image = c.queue_set.ensures.same.image; words = c.queue_set.ensures.same.words };
  walks = enter_first _ _ _ (omega arith) c.mark_of-before.ensures (c.put.ensures ∙ marked _ _ c.args.mark) c.if-before-eq0.true c.queue_set.ensures.walks;
}

pub returns-else-before-eq0 : goal.returns-else-before-eq0
returns-else-before-eq0 c = record {
  same = record { image = refl; words = refl };
  walks = enter_again _ _ _ (omega arith) c.mark_of-before.ensures (c.put.ensures ∙ marked _ _ c.args.mark) c.if-before-eq0.false;
}

pub returns-else-set-count : goal.returns-else-set-count
returns-else-set-count c = record { same = same_itself _; walks = enter_none _ _ _ (omega arith) }
