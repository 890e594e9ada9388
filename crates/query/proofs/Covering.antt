-- A budget that covers the way of an engine that decides may be raised, and there is one.
use Prim.Native.Nat.{ℕ, zero, suc, ◌+◌, ◌<◌, ◌≤◌}
use mathlib.Core.Path.{◌≡◌, refl, sym, ap, subst, ◌∙◌}
use mathlib.Core.List.{List}
use native.Mathlib.Nat.{le_refl}
use native.Mathlib.Decide.{ℕ_discrete}
use native.Mathlib.Omega.{arith}
use Rattle.merge_theory.specs.Steps.{Result, finished, IsOut, state_of}
use Rattle.merge_theory.specs.Engine.{Engine, Decides}
use Rattle.tables.specs.Layout.{operations}
use Rattle.tables.specs.Image.{count_at}
use Rattle.query.specs.Reply.{document_of}
use Rattle.query.specs.Given.{Ran, ran_none, ran_more}
use Rattle.query.specs.Right.{Covers}

-- operations that ran with a budget run with a larger one, and use the same
pub ran_more_budget : (run : Engine) (E : Decides run) (image : List ℕ) (less more : ℕ) → less ≤ more → (i used : ℕ) → Ran run image less i used → Ran run image more i used
ran_more_budget run E image less more le zero used ran_none = ran_none
ran_more_budget run E image less more le (suc i) used (ran_more {used = before} {y = y} ran v e) =
    ran_more (ran_more_budget run E image less more le i before ran) v (E.larger (document_of image) less more before i le (not_out e) ∙ e)
  where
    not_out : {r : Result} → r ≡ finished y → IsOut r → ⊥
    not_out e = rw e (λ h. h)

module _ (run : Engine) (E : Decides run) (image : List ℕ) where
  -- the first n operations do not run out
  abbrev CoversTo : (n work : ℕ) → Type 0
  CoversTo n work = (i used : ℕ) → i < n → Ran run image work i used → ¬ IsOut (run (document_of image) work used i)

  module _ (n less more : ℕ) (le : less ≤ more) (covers : CoversTo n less) where
    -- what ran with a larger budget ran with it too
    ran_back : (i used : ℕ) → i ≤ n → Ran run image more i used → Ran run image less i used
    ran_back zero used few ran_none = ran_none
    ran_back (suc i) used few (ran_more {used = before} {y = y} ran v e) =
        let back = ran_back i before (omega arith) ran in
        ran_more back v (sym (E.larger (document_of image) less more before i le (covers i before (omega arith) back)) ∙ e)

    raised : CoversTo n more
    raised i used own ran spent =
        let back = ran_back i used (omega arith) ran in
        let h = covers i used own back in
        h (subst IsOut (E.larger (document_of image) less more used i le h) spent)

  pub raised_covers : (less more : ℕ) → less ≤ more → Covers run image less → Covers run image more
  raised_covers less more le covers = raised (count_at image operations) less more le covers

  -- what the operations before i have used, if all of them ran
  used_before : (work i : ℕ) → ℕ
  used_before work zero = 0
  used_before work (suc i) = (state_of (run (document_of image) work (used_before work i) i)).used

  used_so : (work i used : ℕ) → Ran run image work i used → used ≡ used_before work i
  unfolding used_before
  used_so work zero used ran_none = refl
  used_so work (suc i) used (ran_more {used = before} {y = y} ran v e) =
      let same = used_so work i before ran in
      sym (ap (λ (r : Result). (state_of r).used) (subst (λ (u : ℕ). run (document_of image) work u i ≡ finished y) same e))

  -- one operation more, with what its own walk takes
  one_more : (n less : ℕ) → CoversTo n less → (work : ℕ) × CoversTo (suc n) work
  one_more n less covers = (less + more, covers_more)
    where
      more : ℕ
      more = (E.enough (document_of image) (used_before less n) n).0

      last : {used : ℕ} → Ran run image (less + more) n used → ¬ IsOut (run (document_of image) (less + more) used n)
      last {used} ran spent =
          let so = used_so less n used (ran_back n less (less + more) (omega arith) covers n used (le_refl _) ran) in
          let h = (E.enough (document_of image) (used_before less n) n).1 in
          h (subst IsOut (E.larger (document_of image) more (less + more) (used_before less n) n (omega arith) h)
          (subst (λ (u : ℕ). IsOut (run (document_of image) (less + more) u n)) so spent))

      covers_more : CoversTo (suc n) (less + more)
      covers_more i used own ran spent =
          elim (ℕ_discrete i n) [
            | yes same ↦
                last (subst (λ (k : ℕ). Ran run image (less + more) k used) same ran)
                (subst (λ (k : ℕ). IsOut (run (document_of image) (less + more) used k)) same spent)
            | no other ↦ raised n less (less + more) (omega arith) covers i used (omega arith) ran spent
          ]

  some_to : (n : ℕ) → (work : ℕ) × CoversTo n work
  some_to zero = (0, λ i used own ran spent. absurd (omega arith))
  some_to (suc n) = let (less, covers) = some_to n in one_more n less covers

  pub some_covers : (work : ℕ) × Covers run image work
  some_covers = some_to (count_at image operations)
