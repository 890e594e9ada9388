-- The laws of the names that can be searched: what a loop has written of them, that they stay there, and what a search finds.
-- Assumes nothing.
use mathlib.Core.Path.{◌≡◌, ap, ◌∙◌}
use mathlib.Core.Logic.{inr}
use mathlib.Core.Bool.{true, false}
use mathlib.Core.List.{List}
use Prim.Native.Nat.{ℕ, ◌+◌, ◌≤◌, ◌<◌, min}
use native.Mathlib.Omega.{arith}
use lib.Dec.{eqb}
use lib.ListN.{length, get_or}
use Rattle.lists.specs.Every.{position, found}
use Rattle.lists.specs.Part.{Outside}
use Rattle.lists.proofs.EveryLaws.{some_found, none_found, found_here, position_passes, before_position}
use Rattle.index.specs.declared.Index.{Index}
use Rattle.index.specs.Indexed.{first_place, Indexed}
use Rattle.index.proofs.IndexLaws.{indexed_kept}
use Rattle.tables.specs.declared.Range.{Range}
use Rattle.tables.specs.Layout.{variables}
use Rattle.tables.specs.Image.{count_at}
use Rattle.std.specs.Prelude.{Option, Some, None}
use Rattle.variable.specs.Definitions.{name_in, find_name}
use Rattle.variable.specs.Uses.{names_at, uses_words}
use Rattle.variable.specs.Names.{name_index, HoldNames, Named}

module _ (image : List ℕ) (defined : Range) where
  abbrev named : ℕ
  named = min defined.count (count_at image variables)

  -- ---- the names are written one by one

  -- i of them are
  pub record Writing (s₀ s : List ℕ) (i : ℕ) : Type 0 where
    pub names : uses_words image ≤ length s₀ → HoldNames image defined s i
    pub frame : Outside (names_at image) named s₀ s

  -- ---- they stay as words before them change

  pub named_kept : {n : ℕ} {s t : List ℕ} (at : ℕ) → Outside at n s t → at + n ≤ names_at image → Named image defined s → Named image defined t
  named_kept {n} {s} {t} at frame apart h =
      record {
        names = λ k l. frame.above (names_at image + k) (omega arith) ∙ h.names k l;
        indexed = indexed_kept (name_index image defined) frame (inr apart) h.indexed;
      }

  -- ---- what a search finds

  module _ {s : List ℕ} {index : Index} (name : ℕ) (e : index ≡ name_index image defined) (h : Named image defined s) where
    place : ℕ
    place = position named (λ k. eqb (get_or s (names_at image + k) 0) name)

    as_many : index.count ≡ named
    as_many = ap (λ (x : Index). x.count) e

    first : {r : Option ℕ} → (Indexed s index → r ≡ found index.count (first_place s index name)) → r ≡ found named place
    unfolding first_place place
    first finds = (rw e at finds) h.indexed

    -- no earlier one has the name
    none_before : (k : ℕ) → k < place → k < named → eqb (name_in image defined k) name ≡ false
    unfolding place
    none_before k l less = rw (← h.names k less) (before_position named (λ k. eqb (get_or s (names_at image + k) 0) name) k l)

    pub found_first : {k : ℕ} → (Indexed s index → Some k ≡ found index.count (first_place s index name)) → Some k ≡ found defined.count (find_name image defined name)
    unfolding place
    found_first {k} finds =
        let (here, less) = some_found (first finds) in
        let passes = position_passes named (λ j. eqb (get_or s (names_at image + j) 0) name) less in
        let own : k < named = omega arith in
        let has : eqb (name_in image defined k) name ≡ true = rw (← h.names k own, ← here) passes in
        found_here defined.count (λ j. eqb (name_in image defined j) name) k (omega arith) (λ j l. none_before j (omega arith) (omega arith)) has

    -- none of those that can be searched has it
    pub none_named : (Indexed s index → None ≡ found index.count (first_place s index name)) → (k : ℕ) → k < index.count → eqb (name_in image defined k) name ≡ false
    none_named finds k l = let past = none_found (first finds) in none_before k (omega (arith, as_many)) (omega (arith, as_many))
