-- Comparisons that are equivalences, as `Sound` asks for them. Assumes nothing.
use mathlib.Core.Path.{◌≡◌, sym, ◌∙◌, subst}
use mathlib.Core.Bool.{Bool}
use Prim.Native.Nat.{ℕ}
use lib.Dec.{T, eqb, eqb→eq, eqb_refl}
use Rattle.merge_theory.specs.Document.{Equivalence}

-- an equivalence on more rows is one on fewer: show it of the rows of a table, use it of the fields at hand
pub narrow : (More Fewer : ℕ → Type 0) (same : ℕ → ℕ → Bool) → ((a : ℕ) → Fewer a → More a) → Equivalence More same → Equivalence Fewer same
narrow More Fewer same in-more E = record {
  reflexive = λ {a} i. E.reflexive (in-more a i);
  symmetric = λ {a} {b} i j. E.symmetric (in-more a i) (in-more b j);
  transitive = λ {a} {b} {c} i j k. E.transitive (in-more a i) (in-more b j) (in-more c k);
}

-- to have one key is an equivalence
pub keyed : (On : ℕ → Type 0) (key : ℕ → ℕ) → Equivalence On (λ a b. eqb (key a) (key b))
keyed On key = record {
  reflexive = λ {a} i. eqb_refl (key a);
  symmetric = λ {a} {b} i j t. of_eq b a (sym (eqb→eq (key a) (key b) t));
  transitive = λ {a} {b} {c} i j k t u. of_eq a c (eqb→eq (key a) (key b) t ∙ eqb→eq (key b) (key c) u);
}
  where
    of_eq : (a b : ℕ) → key a ≡ key b → T (eqb (key a) (key b))
    of_eq a b e = subst (λ x. T (eqb (key a) x)) e (eqb_refl (key a))
