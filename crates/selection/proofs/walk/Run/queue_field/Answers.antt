-- `walk::Run::queue_field` meets its contract. Assumes nothing.
use Prim.Native.Nat.{ℕ}
use mathlib.Core.Bool.{Bool, true, false, cond}
use mathlib.Core.Path.{◌≡◌, refl}
use mathlib.Core.List.{List}
use Rattle.std.specs.Prelude.{Some, None}
use Rattle.tables.specs.Columns.{selection_target}
use Rattle.expand.specs.declared.Expansion.{Expansion}
use Rattle.expand.specs.Expanding.{queue_next, queue_words}
use Rattle.selection.specs.Comparing.{has_set, filled_set, field_next, field_words}
use Rattle.selection.specs.declared.arena.Arena.{Arena}
use Rattle.selection.specs.Regions.{area_of}
use Rattle.selection.proofs.walk.Run.queue_field.Goals as goal

module _ (image : List ℕ) (row : ℕ) where
  some_set : {set : ℕ} → Some set ≡ filled_set image row → (has_set image row ≡ true) × (selection_target image row ≡ set)
  some_set {set} e = go (has_set image row) refl e
    where
      go : (b : Bool) → has_set image row ≡ b → Some set ≡ cond b (Some (selection_target image row)) None → (has_set image row ≡ true) × (selection_target image row ≡ set)
      go true is e = (is, cc)
      go false is e = cc

  no_set : None ≡ filled_set image row → has_set image row ≡ false
  no_set e = go (has_set image row) refl e
    where
      go : (b : Bool) → has_set image row ≡ b → None ≡ cond b (Some (selection_target image row)) None → has_set image row ≡ false
      go true is e = cc
      go false is e = is

  module _ (s : List ℕ) (arena : Arena) (x : Expansion) where
    queued : {set : ℕ} → Some set ≡ filled_set image row → {s' : List ℕ} {x' : Expansion} → x' ≡ queue_next (area_of arena) x → s' ≡ queue_words (area_of arena) x s set
        → (x' ≡ field_next image arena x row) × (s' ≡ field_words image arena x s row)
    unfolding field_next field_words
    queued e next words = let some = some_set e in (rw some.0 next, rw (some.0, some.1) words)

    not_queued : None ≡ filled_set image row → (x ≡ field_next image arena x row) × (s ≡ field_words image arena x s row)
    unfolding field_next field_words
    not_queued e = (rw (no_set e), rw (no_set e))

pub returns-in-Some : goal.returns-in-Some
returns-in-Some c = queued _ _ _ _ _ c.in-Some.ensures (rw c.area.ensures at c.queue_set.ensures.0) (rw c.area.ensures at c.queue_set.ensures.1)

pub returns-in-None : goal.returns-in-None
returns-in-None c = not_queued _ _ _ _ _ c.in-None.ensures
