-- A comparison that is an equivalence on the rows, or ranges, at hand. Assumes nothing.
use Rattle.std.specs.Prelude.{Bool, T}

pub record Equivalence {A : Type 0} (On : A → Type 0) (same : A → A → Bool) : Type 0 where
  pub reflexive : {a : A} → On a → T (same a a)
  pub symmetric : {a b : A} → On a → On b → T (same a b) → T (same b a)
  pub transitive : {a b c : A} → On a → On b → On c → T (same a b) → T (same b c) → T (same a c)
