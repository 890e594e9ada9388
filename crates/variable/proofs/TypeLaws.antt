-- The laws of kinds 10 and 11 and of allowed usage: a law for each way out of the code, and so many steps suffice. Assumes nothing.
use Prim.Native.Nat.{ℕ, zero, suc, ◌<◌, ◌≤◌}
use mathlib.Core.Path.{◌≡◌, refl, sym, ap, ◌∙◌}
use mathlib.Core.Bool.{Bool, true, false, cond, not, ◌&&◌}
use mathlib.Core.List.{List}
use native.Mathlib.Omega.{arith}
use Rattle.std.proofs.lemmas.Bool.Decides.{leb_tells}
use lib.Dec.{eqb, leb, ltb}
use borrow.Author.Tests.{lt-ltb, le-ltb, ltb-true}
use Rattle.tables.specs.Columns.{reference_kind, reference_child, reference_word, is_list_reference, argument_type, variable_type}
use Rattle.variable.specs.Types.{is_non_null}
use Rattle.tables.specs.declared.columns.ReferenceKind.{ReferenceKind}
use Rattle.variable.specs.Definitions.{ReadsAs, alike, agrees_at, compatible_in, compatible, has_default, usage_allowed}

-- ---- the kinds of references

-- those that words are read as agree as the words do
agree_read : (v l : ℕ) {a b : ReferenceKind} (dropped : Bool) → ReadsAs v a → ReadsAs l b → agrees_at (reference_word a) (reference_word b) dropped ≡ agrees_at v l dropped
unfolding agrees_at alike
agree_read v l {a} {b} dropped own place = rw (own.list, place.list, own.non_null, place.non_null, named (reference_word b), place.list, named l) refl
  where
    named : (kind : ℕ) → ltb kind 2 ≡ not (leb 2 kind)
    named kind = grind (arith, leb_tells)

-- ---- AreTypesCompatible

module _ (image : List ℕ) where
  -- any number of steps above the variable's row gives the same answer
  pub compatible_steps : (n m v l : ℕ) (dropped : Bool) → v < n → v < m → compatible_in image n v l dropped ≡ compatible_in image m v l dropped
  unfolding compatible_in
  compatible_steps zero m v l d hn hm = absurd (omega arith)
  compatible_steps (suc n) zero v l d hn hm = absurd (omega arith)
  compatible_steps (suc n) (suc m) v l d hn hm =
      ap (λ (b : Bool). agrees_at (reference_kind image v) (reference_kind image l) d && cond (is_list_reference (reference_kind image v)) b (eqb (reference_child image v) (reference_child image l)))
      (go (ltb (reference_child image v) v) refl (compatible_steps n m (reference_child image v) (reference_child image l) false))
    where
      go : (earlier : Bool) → ltb (reference_child image v) v ≡ earlier
          → (reference_child image v < n → reference_child image v < m → compatible_in image n (reference_child image v) (reference_child image l) false ≡ compatible_in image m (reference_child image v) (reference_child image l) false)
          → (earlier && compatible_in image n (reference_child image v) (reference_child image l) false) ≡ (earlier && compatible_in image m (reference_child image v) (reference_child image l) false)
      go false e deeper = refl
      go true e deeper = let less : reference_child image v < v = ltb-true _ _ e in deeper (omega arith) (omega arith)

  module _ (v l : ℕ) (dropped : Bool) where
    pub kinds_disagree : agrees_at (reference_kind image v) (reference_kind image l) dropped ≡ false → compatible image v l dropped ≡ false
    unfolding compatible compatible_in
    kinds_disagree e = rw e

    module _ (agrees : agrees_at (reference_kind image v) (reference_kind image l) dropped ≡ true) where
      pub names_compared : is_list_reference (reference_kind image v) ≡ false → compatible image v l dropped ≡ eqb (reference_child image v) (reference_child image l)
      unfolding compatible compatible_in
      names_compared h = rw (agrees, h)

      pub items_compared : is_list_reference (reference_kind image v) ≡ true → reference_child image v < v → compatible image v l dropped ≡ compatible image (reference_child image v) (reference_child image l) false
      unfolding compatible compatible_in
      items_compared h less =
          let below : compatible_in image v (reference_child image v) (reference_child image l) false ≡ compatible image (reference_child image v) (reference_child image l) false = compatible_steps v (suc (reference_child image v)) (reference_child image v) (reference_child image l) false less (omega arith) in
          rw (agrees, h, lt-ltb _ _ less) below

      pub no_items : is_list_reference (reference_kind image v) ≡ true → v ≤ reference_child image v → compatible image v l dropped ≡ false
      unfolding compatible compatible_in
      no_items h more = rw (agrees, h, le-ltb _ _ more)

  -- the loop, at rows v and l, which are as compatible as those it began with
  module _ (goal : Bool) (v l : ℕ) (dropped : Bool) (same : compatible image v l dropped ≡ goal)
      {a b : ReferenceKind} {agree : Bool} (p : ReadsAs (reference_kind image v) a) (q : ReadsAs (reference_kind image l) b) (e : agree ≡ agrees_at (reference_word a) (reference_word b) dropped) where
    agree_is : agree ≡ agrees_at (reference_kind image v) (reference_kind image l) dropped
    agree_is = e ∙ agree_read (reference_kind image v) (reference_kind image l) dropped p q

    pub stops_unlike : agree ≡ false → false ≡ goal
    stops_unlike f = sym (kinds_disagree v l dropped (sym agree_is ∙ f)) ∙ same

    module _ {below across : ℕ} {own : ReferenceKind} {lists : Bool} (f : agree ≡ true) (read : below ≡ reference_child image v) (read' : across ≡ reference_child image l)
        (own-read : ReadsAs (reference_kind image v) own) (lists-is : lists ≡ is_list_reference (reference_word own)) where
      agrees : agrees_at (reference_kind image v) (reference_kind image l) dropped ≡ true
      agrees = sym agree_is ∙ f

      list_is : {b : Bool} → lists ≡ b → is_list_reference (reference_kind image v) ≡ b
      list_is h = sym own-read.list ∙ sym lists-is ∙ h

      pub stops_name : lists ≡ false → eqb below across ≡ goal
      stops_name h = rw (read, read') (sym (names_compared v l dropped agrees (list_is h)) ∙ same)

      pub stops_broken : lists ≡ true → v ≤ below → false ≡ goal
      stops_broken h more = sym (no_items v l dropped agrees (list_is h) (omega arith)) ∙ same

      pub goes_down : lists ≡ true → below < v → compatible image below across false ≡ goal
      goes_down h less = rw (read, read') (sym (items_compared v l dropped agrees (list_is h) (omega arith)) ∙ same)

-- ---- IsVariableUsageAllowed

module _ (image : List ℕ) (v a : ℕ) {ours theirs : ℕ} {own place : ReferenceKind} {dropped free : Bool}
    (ours-is : ours ≡ variable_type image v) (theirs-is : theirs ≡ argument_type image a)
    (own-read : ReadsAs (reference_kind image ours) own) (place-read : ReadsAs (reference_kind image theirs) place) (dropped-is : dropped ≡ (is_non_null (reference_word place) && not (is_non_null (reference_word own))))
    (free-is : free ≡ cond dropped (has_default image v a) true) where
  dropped_read : dropped ≡ (is_non_null (reference_kind image (argument_type image a)) && not (is_non_null (reference_kind image (variable_type image v))))
  dropped_read = dropped-is ∙ rw (own-read.non_null, place-read.non_null, ours-is, theirs-is)

  pub usage_free : {b : Bool} → free ≡ true → b ≡ compatible image ours theirs dropped → b ≡ usage_allowed image v a
  unfolding usage_allowed
  usage_free f e = rw (← dropped_read, ← free-is, f, ← ours-is, ← theirs-is) e

  pub usage_refused : free ≡ false → free ≡ usage_allowed image v a
  unfolding usage_allowed
  usage_refused f = rw (← dropped_read, ← free-is, f)
