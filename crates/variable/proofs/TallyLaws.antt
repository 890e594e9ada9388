-- What becomes of an operation's tally, step by step. Assumes nothing.
use mathlib.Core.Path.{refl, subst, ◌∙◌}
use mathlib.Core.List.{List}
use Prim.Native.Nat.{ℕ}
use Rattle.tables.specs.declared.Range.{Range}
use Rattle.variable.specs.declared.uses.Tally.{Tally}
use Rattle.variable.specs.Tallies.{Same, Does}

pub same_itself : (t : Tally) → Same t t
same_itself t = record { image = refl; words = refl; variables = refl }

pub same_on : {t t' t'' : Tally} → Same t t' → Same t' t'' → Same t t''
same_on p q = record { image = q.image ∙ p.image; words = q.words ∙ p.words; variables = q.variables ∙ p.variables }

-- of an image and variables that are the same
pub does_of : {Q : List ℕ → Range → (s s' : List ℕ) → Type 0} {t t' t'' : Tally} → Same t t' → Does Q t' t'' → Q t.image.now t.variables t'.words.now t''.words.now
does_of {Q} {t} {t'} {t''} p q =
    subst (λ (image : List ℕ). Q image t.variables t'.words.now t''.words.now) p.image
    (subst (λ (variables : Range). Q t'.image.now variables t'.words.now t''.words.now) p.variables q.does)

pub does_then : {P Q R : List ℕ → Range → (s s' : List ℕ) → Type 0} {t t' t'' : Tally} → Does P t t' → Does Q t' t''
    → (P t.image.now t.variables t.words.now t'.words.now → Q t.image.now t.variables t'.words.now t''.words.now → R t.image.now t.variables t.words.now t''.words.now) → Does R t t''
does_then p q join = record { same = same_on p.same q.same; does = join p.does (does_of p.same q) }
