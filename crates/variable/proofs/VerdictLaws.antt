-- The verdict on an operation's variables: a law for each way out of the code. Assumes nothing.
use mathlib.Core.Path.{◌≡◌, refl, sym, ap, ◌∙◌}
use mathlib.Core.Bool.{Bool, true, false, cond, not}
use mathlib.Core.List.{List}
use mathlib.Core.Option.{Option, none, some}
use Prim.Native.Nat.{ℕ, suc, ◌≤◌, ◌<◌, max}
use native.Mathlib.Omega.{arith}
use lib.Dec.{eqb, ltb}
use lib.ListN.{length, get_or}
use borrow.Author.Tests.{le-leb, lt-leb, le-ltb}
use Rattle.lists.specs.First.{expect, ◌▷◌}
use Rattle.lists.proofs.Parts.{outside_none, outside_trans, outside_wider}
use Rattle.tables.specs.declared.Range.{Range}
use Rattle.tables.specs.Layout.{arguments}
use Rattle.tables.specs.Image.{count_at, row_in}
use Rattle.tables.specs.Columns.{variable, operation_variables, value_kind, value_atom}
use Rattle.reach.specs.Reach.{walk_words}
use Rattle.variable.specs.Definitions.{find_name, first_output, first_repeated}
use Rattle.variable.specs.Uses.{furthest, uses_of, mark_variables, first_unused, argument_allowed, allowed_below, first_misused, end_in, mark_in, uses_words, Keeps, Steps, Reached}
use Rattle.variable.specs.Verdict.{Shown, Usage, usage_shows, uses_fault, defined_fault, Judged}
use Rattle.variable.specs.Names.{Named, Names, Searches}
use Rattle.lists.specs.Every.{found}
use Rattle.std.specs.declared.option.Option.TheVariants.{Some, None}
use Rattle.lists.proofs.EveryLaws.{found_nowhere, some_found, none_found}
use Rattle.variable.proofs.NameLaws.{named_kept}
use Rattle.variable.proofs.UseLaws.{end_kept, mark_kept}

-- how far ranges go, one row further
pub end_next : (ends : ℕ → ℕ) (n : ℕ) {end own next : ℕ} → end ≡ furthest ends n → own ≡ ends n → next ≡ max end own → next ≡ furthest ends (suc n)
unfolding furthest
end_next ends n e o m = m ∙ rw (e, o)

pub end_begins : (ends : ℕ → ℕ) → 0 ≡ furthest ends 0
unfolding furthest
end_begins ends = refl

module _ (image : List ℕ) where
  -- ---- an argument

  module _ (defined : Range) (a end : ℕ) where
    pub asked_of : {b v : Bool} (ends : ℕ → ℕ) → b ≡ allowed_below image defined a end → end ≡ furthest ends (suc a) → b ≡ v → allowed_below image defined a (furthest ends (suc a)) ≡ v
    asked_of ends e next v = ap (allowed_below image defined a) (sym next) ∙ sym e ∙ v

  -- ---- 12 and 13

  module _ (defined : Range) (end mark : ℕ → ℕ) where
    pub unused_found : {k row : ℕ} → Some k ≡ found defined.count (first_unused image defined mark) → row ≡ row_in defined k → some (record { kind = 12; a = row }) ≡ uses_fault image defined end mark
    unfolding uses_fault expect ◌▷◌
    unused_found {k} e row_is = let at = some_found e in rw (lt-leb _ _ at.1, at.0, row_is)

    module _ (used : None ≡ found defined.count (first_unused image defined mark)) where
      pub misused_found : {a : ℕ} → Some a ≡ found (count_at image arguments) (first_misused image defined end) → some (record { kind = 13; a = a }) ≡ uses_fault image defined end mark
      unfolding uses_fault expect ◌▷◌
      misused_found {a} e = let at = some_found e in rw (le-leb _ _ (none_found used), lt-leb _ _ at.1, at.0)

      pub uses_right : None ≡ found (count_at image arguments) (first_misused image defined end) → none ≡ uses_fault image defined end mark
      unfolding uses_fault expect ◌▷◌
      uses_right allowed = rw (le-leb defined.count (first_unused image defined mark) (none_found used), le-leb _ _ (none_found allowed))

    -- without variables there is nothing to find
    no_uses : defined.count ≡ 0 → none ≡ uses_fault image defined end mark
    unfolding first_misused allowed_below argument_allowed
    no_uses empty = uses_right (sym (rw (le-ltb (first_unused image defined mark) defined.count (omega arith)))) (found_nowhere (count_at image arguments) (λ a. not (allowed_below image defined a (furthest end (suc a)))) passed)
      where
        pass : (b : Bool) → cond b true true ≡ true
        pass true = refl
        pass false = refl

        fine : (a : ℕ) → argument_allowed image defined a ≡ true
        fine a = rw (le-ltb (find_name image defined (value_atom image a)) defined.count (omega arith)) (pass (eqb (value_kind image a) variable))

        passed : (a : ℕ) → a < count_at image arguments → not (allowed_below image defined a (furthest end (suc a))) ≡ false
        passed a l = rw (fine a, pass (ltb a (furthest end (suc a))))

  -- ---- 10 to 13

  module _ (i : ℕ) (defined : Range) where
    abbrev ends_of : ℕ → ℕ
    ends_of r = get_or (uses_of image defined i).ends r 0

    abbrev marks_of : ℕ → ℕ
    marks_of k = get_or (uses_of image defined i).marks k 0

    pub no_variables : defined.count ≡ 0 → none ≡ defined_fault image defined i
    unfolding defined_fault expect ◌▷◌
    no_variables empty =
        rw (le-leb defined.count (first_output image defined) (omega arith), le-leb defined.count (first_repeated image defined) (omega arith)) (no_uses defined ends_of marks_of empty)

    pub output_found : {k row : ℕ} → Some k ≡ found defined.count (first_output image defined) → row ≡ row_in defined k → some (record { kind = 10; a = row }) ≡ defined_fault image defined i
    unfolding defined_fault expect ◌▷◌
    output_found {k} e row_is = let at = some_found e in rw (lt-leb _ _ at.1, at.0, row_is)

    module _ (fine : None ≡ found defined.count (first_output image defined)) where
      pub repeated_found : {k row : ℕ} → Some k ≡ found defined.count (first_repeated image defined) → row ≡ row_in defined k → some (record { kind = 11; a = row }) ≡ defined_fault image defined i
      unfolding defined_fault expect ◌▷◌
      repeated_found {k} e row_is = let at = some_found e in rw (le-leb _ _ (none_found fine), lt-leb _ _ at.1, at.0, row_is)

      uses_shown : {o : Option Shown} → None ≡ found defined.count (first_repeated image defined) → o ≡ uses_fault image defined ends_of marks_of → o ≡ defined_fault image defined i
      unfolding defined_fault expect ◌▷◌
      uses_shown distinct e = rw (le-leb defined.count (first_output image defined) (none_found fine), le-leb _ _ (none_found distinct)) e

      -- what the words say of the uses is what the operation uses
      words_shown : {s : List ℕ} {o : Option Shown} → Keeps image s (uses_of image defined i) → o ≡ uses_fault image defined (end_in image s) (mark_in image s) → o ≡ uses_fault image defined ends_of marks_of
      words_shown {s} {o} k e =
          let ends : end_in image s ≡ ends_of = λ x r. end_kept image k r x in
          let marks : mark_in image s ≡ marks_of = λ x j. mark_kept image k j x in
          rw (← ends, ← marks) e

      -- the names can be searched, arguments are reached, variables marked, and then 12 and 13 are asked
      pub uses_judged : {s s₁ s₂ : List ℕ} {o : Option Shown} → Named image defined s → (Named image defined s → None ≡ found defined.count (first_repeated image defined))
          → Reached image i s s₁ → Searches image defined s₁ s₂ (Steps image (mark_variables image defined) s₁ s₂)
          → (Named image defined s₂ → o ≡ uses_fault image defined (end_in image s₂) (mark_in image s₂)) → uses_words image ≤ length s → o ≡ defined_fault image defined i
      unfolding uses_of
      uses_judged names distinct reached marked e room =
          let names₁ = named_kept image defined 0 reached.frame (omega arith) names in
          let names₂ = named_kept image defined (walk_words image) marked.frame (omega arith) names₁ in
          uses_shown (distinct names) (words_shown ((marked.says names₁).keeps _ (reached.keeps room)) (e names₂))

  -- ---- the whole answer

  module _ (i : ℕ) (s : List ℕ) {defined : Range} (read : defined ≡ operation_variables image i) (answer : Usage) where
    -- without a look at the words
    pub judged_early : usage_shows answer ≡ defined_fault image defined i → Judged image i s s answer
    judged_early e = record { shows = λ room. e ∙ ap (λ (d : Range). defined_fault image d i) read; frame = outside_none 0 (uses_words image) s }

    -- with a look at the names alone
    pub judged_named : {s₁ : List ℕ} → Names image defined s s₁ → (Named image defined s₁ → usage_shows answer ≡ defined_fault image defined i) → Judged image i s s₁ answer
    judged_named names e =
        record {
          shows = λ room. e (names.named room) ∙ ap (λ (d : Range). defined_fault image d i) read;
          frame = outside_wider names.frame 0 (uses_words image) (omega arith) (omega arith);
        }

    pub judged_late : {s₁ s₂ s₃ : List ℕ} → Names image defined s s₁ → Reached image i s₁ s₂ → Searches image defined s₂ s₃ (Steps image (mark_variables image defined) s₂ s₃)
        → (Named image defined s₁ → uses_words image ≤ length s₁ → usage_shows answer ≡ defined_fault image defined i) → Judged image i s s₃ answer
    judged_late {s₁} names reached marked e =
        let long : length s₁ ≡ length s = names.frame.long in
        record {
          shows = λ room. e (names.named room) (omega arith) ∙ ap (λ (d : Range). defined_fault image d i) read;
          frame =
              outside_trans (outside_wider names.frame 0 (uses_words image) (omega arith) (omega arith))
              (outside_trans (outside_wider reached.frame 0 (uses_words image) (omega arith) (omega arith)) (outside_wider marked.frame 0 (uses_words image) (omega arith) (omega arith)));
        }
