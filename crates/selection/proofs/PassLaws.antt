-- A pass over the parts of a list: what has been walked, and what is left. Assumes nothing.
use mathlib.Core.Path.{◌≡◌, refl, ◌∙◌}
use mathlib.Core.List.{List, [], ◌∷◌}
use Prim.Native.Nat.{ℕ}
use Rattle.merge_theory.specs.Steps.{State, finished, Step, after, ◌then◌, stop}
use Rattle.merge_theory.specs.Walk.{Pass, compare_first, sets_below, walk_parts, walk}
use Rattle.merge_theory.proofs.Loops.{after_assoc, after_ext}
use Rattle.selection.specs.declared.arena.Arena.{Arena}
use Rattle.selection.specs.declared.arena.Walk as states
use Rattle.selection.specs.Refining.{document, Site, Refines, lower, one_part}
use Rattle.selection.proofs.RefineLaws.{after_finished, then_go, then_stop, by, idle}

module _ (image : List ℕ) (arena : Arena) (work op : ℕ) (P : Pass) (levels : ℕ) where
  -- the parts of a list that are left, with the walk of the level below
  abbrev pub walk_rest : List (List ℕ) → Step
  walk_rest rest = walk_parts (document image) P stop op (walk (document image) P stop op work levels) rest

  pub record Progress (all : List (List ℕ)) (s₀ s : List ℕ) (z₀ z : states.Walk) (rest : List (List ℕ)) : Type 0 where
    pub front : Step
    pub refines : Refines image arena work op front s₀ s z₀ z
    pub splits : (y : State) → walk_rest all y ≡ after (front y) (walk_rest rest)

  -- one part more
  parts_cons : (rows : List ℕ) (rest : List (List ℕ)) (y : State)
      → walk_rest (rows ∷ rest) y ≡ after (one_part image arena work op P levels rows y) (walk_rest rest)
  unfolding walk_parts
  parts_cons rows rest y =
      after_assoc (compare_first stop op P.clash rows y) (lower image arena work op P levels (sets_below (document image) rows)) (walk_rest rest)

module _ {image : List ℕ} {arena : Arena} {work op : ℕ} {P : Pass} {levels : ℕ} {all : List (List ℕ)} {s₀ s : List ℕ} {z₀ z : states.Walk} where
  split_more : (rows : List ℕ) (rest : List (List ℕ)) (g : Progress image arena work op P levels all s₀ s z₀ z (rows ∷ rest)) (y : State)
      → walk_rest image arena work op P levels all y ≡ after (after (g.front y) (one_part image arena work op P levels rows)) (walk_rest image arena work op P levels rest)
  split_more rows rest g y =
      g.splits y
      ∙ after_ext (g.front y) (walk_rest image arena work op P levels (rows ∷ rest)) (one_part image arena work op P levels rows then walk_rest image arena work op P levels rest) (parts_cons image arena work op P levels rows rest)
      ∙ after_assoc (g.front y) (one_part image arena work op P levels rows) (walk_rest image arena work op P levels rest)

  pub progress_turn : (rows : List ℕ) (rest : List (List ℕ)) {s' : List ℕ} {z' : states.Walk} → Progress image arena work op P levels all s₀ s z₀ z (rows ∷ rest) → z.reply.kind ≡ 0
      → Refines image arena work op (one_part image arena work op P levels rows) s s' z z' → Progress image arena work op P levels all s₀ s' z₀ z' rest
  progress_turn rows rest g go r = record {
    front = g.front then one_part image arena work op P levels rows;
    refines = then_go g.refines go r;
    splits = split_more rows rest g;
  }

  -- the pass stops
  pub progress_stop : (rest : List (List ℕ)) → Progress image arena work op P levels all s₀ s z₀ z rest → (z.reply.kind ≡ 0 → ⊥)
      → Refines image arena work op (walk_rest image arena work op P levels all) s₀ s z₀ z
  progress_stop rest g stop = by (walk_rest image arena work op P levels all) (λ y h. g.splits y) (then_stop (walk_rest image arena work op P levels rest) g.refines stop)

  -- nothing is left
  pub progress_end : Progress image arena work op P levels all s₀ s z₀ z [] → Refines image arena work op (walk_rest image arena work op P levels all) s₀ s z₀ z
  unfolding walk_parts
  progress_end g = by (walk_rest image arena work op P levels all) (λ y h. g.splits y ∙ after_finished (g.front y)) g.refines

pub progress_first : {image : List ℕ} {arena : Arena} {work op : ℕ} (P : Pass) (levels : ℕ) (all : List (List ℕ)) {s : List ℕ} {z : states.Walk} → Site image arena work op s z
    → Progress image arena work op P levels all s s z z all
unfolding after
progress_first P levels all site = record { front = finished; refines = idle site; splits = λ y. refl }
