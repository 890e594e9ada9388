-- A check that stops at a conflict in names or arguments has gone through the shape pass: no two fields conflict in shape. Assumes `Sound`.
use mathlib.Core.Path.{◌≡◌, refl, subst}
use mathlib.Core.Logic.{◌⊎◌, inl, inr}
use mathlib.Core.Bool.{Bool, true, false}
use mathlib.Core.Option.{none}
use mathlib.Core.List.{List, [], ◌∷◌}
use Prim.Native.Nat.{ℕ}
use Rattle.merge_theory.specs.Document.{Document, Cause, shape, name, arguments, Sound}
use Rattle.merge_theory.specs.Named.{FirstClash, now, later, Named, named}
use Rattle.merge_theory.specs.Rule.{SameResponse, ShapeFails, types_disagree, subshapes_fail}
use Rattle.merge_theory.specs.Steps.{Entry, entry, State, Result, finished, conflict, out, deep, stop}
use Rattle.merge_theory.specs.TrueConflict.{Chains, first_level, next_level, TrueConflict}
use Rattle.merge_theory.specs.Walk.{unless, shape_pass, parent_pass, begin, pass, passes, check}
use Rattle.merge_theory.proofs.ListLaws.{only}
use Rattle.merge_theory.proofs.Levels.{merged_left, merged_right}
use Rattle.merge_theory.proofs.Outcome.{Fact, Anyhow, Told, Shallow, Meets, meets_after}
use Rattle.merge_theory.proofs.Passes.{shape_laws, shape_settles}
use Rattle.merge_theory.proofs.Stopping.{Stopping}
use Rattle.merge_theory.proofs.Conflict.{pass_stops}
use Rattle.merge_theory.proofs.Gone.{pass_done}
use Rattle.merge_theory.proofs.Complete.{FailsIn, fails_in, shape_pair, quiet_holds, NoTrace, stop_leaves}

abbrev pub IsShape : Cause → Type 0
IsShape shape = Unit {0}
IsShape name = ⊥
IsShape arguments = ⊥

pub shape_or_other : (c : Cause) → (c ≡ shape) ⊎ ¬ IsShape c
shape_or_other shape = inl refl
shape_or_other name = inr (λ h. h)
shape_or_other arguments = inr (λ h. h)

-- the conflict is one in shape
abbrev pub InShape : Entry → Type 0
InShape (entry s c a b) = IsShape c

-- ---- the shape pass names no other cause

only_shape : (b : Bool) → Told IsShape (unless b shape none)
unfolding unless
only_shape true = tt
only_shape false = tt

module _ (D : Document) where
  shape_clash : {a b : ℕ} {c : Cause} {others : List ℕ} → FirstClash (shape_pass D).clash a c b others → IsShape c
  shape_clash {a} {b} (now e) = subst (Told IsShape) e (only_shape (D.types_agree a b))
  shape_clash (later e f) = shape_clash f

  named_shape : {s a b : ℕ} {c : Cause} → Named D (shape_pass D) s c a b → IsShape c
  named_shape (named met m f) = shape_clash f

  -- ---- where it is gone through, no two fields conflict in shape

  module _ {At : ℕ → Type 0} (S : Sound D At) (budget used s : ℕ) (at : At s) where
    -- chains that end in a shape conflict fail at the top
    shape_top : {a b : ℕ} → Chains D (SameResponse D) s a b → ShapeFails D a b → FailsIn D (shape_pass D) (SameResponse D) (s ∷ [])
    shape_top (first_level i j near) bad = fails_in i j near (shape_pair D S bad)
    shape_top (next_level {c = c} {d = d} chains i j near) bad =
        shape_top chains (subshapes_fail (merged_left D c d i) (merged_right D c d j) near bad)

    abbrev pub NoShape : Type 0
    NoShape = (a b : ℕ) → ¬ TrueConflict D s shape a b

    abbrev Tells : Entry → Fact
    Tells e z = ¬ InShape e → NoShape

    -- both facts of one result
    both : (F : Fact) (r : Result) → Meets F Shallow r → Meets Anyhow (Stopping (λ e z. InShape e)) r → Meets F (Stopping Tells) r
    both F (finished z) f n = f
    both F (conflict e z) f n = λ other. absurd (other n)
    both F (out z) f n = tt
    both F (deep z) f n = tt

    anyhow : NoShape → (r : Result) → Meets Anyhow (Stopping Tells) r
    anyhow none-shape (finished z) = tt
    anyhow none-shape (conflict e z) = λ other. none-shape
    anyhow none-shape (out z) = tt
    anyhow none-shape (deep z) = tt

    check_tells : Meets Anyhow (Stopping Tells) (check D budget used s)
    unfolding check passes
    check_tells =
        meets_after _ Anyhow (Stopping Tells) (pass D stop budget (shape_pass D) s (begin used)) (pass D stop budget (parent_pass D) s)
        (both _ (pass D stop budget (shape_pass D) s (begin used))
        (pass_done D S (shape_pass D) (SameResponse D) (shape_laws D) stop (NoTrace D S) (stop_leaves D S) s budget at (begin used))
        (pass_stops (λ e z. InShape e) D (shape_pass D) s budget (λ c a b h z. named_shape h) (begin used)))
        (λ z done. anyhow (λ a b bad.
        quiet_holds D S (shape_pass D) (SameResponse D) (shape_laws D) (shape_settles D S) (s ∷ []) (only At at) done.0
        (shape_top bad.0 (types_disagree bad.1))) (pass D stop budget (parent_pass D) s z))

    pub other_cause : (e : Entry) (z : State) → check D budget used s ≡ conflict e z → ¬ InShape e → NoShape
    other_cause e z stopped = subst (Meets Anyhow (Stopping Tells)) stopped check_tells
