-- Where the count of links stays below its bound, it is exact and falls along every link: the rank that `Sound` asks for. Assumes nothing.
use mathlib.Core.Path.{◌≡◌, refl, ap, ap₂}
use mathlib.Core.List.{List, [], ◌∷◌}
use Prim.Native.Nat.{ℕ, zero, suc, ◌≤◌, ◌<◌, max}
use native.Mathlib.Nat.{not-suc-le-zero}
use native.Mathlib.Omega.{arith}
use Rattle.merge_theory.specs.Lists.{◌∈◌, here, there}
use Rattle.merge_theory.specs.Document.{Document, set_of}
use Rattle.merge_theory.specs.Rule.{Reached, start, onward}
use Rattle.merge_theory.specs.Links.{most, linked, links}
use Rattle.merge_theory.proofs.ListLaws.{head_in, in_flat_map}

pub most_member : (f : ℕ → ℕ) {x : ℕ} (xs : List ℕ) → x ∈ xs → f x < most f xs
unfolding most
most_member f {x} (y ∷ xs) (here e) = let h : f x ≡ f y = ap f e in omega arith
most_member f {x} (y ∷ xs) (there m) = let h : f x < most f xs = most_member f xs m in omega arith
most_member f {x = x} [] x'' = elim x'' [ ]

pub most_bound : (f : ℕ → ℕ) (n : ℕ) (xs : List ℕ) → ((x : ℕ) → x ∈ xs → f x < n) → most f xs ≤ n
unfolding most
most_bound f n [] h = omega arith
most_bound f n (x ∷ xs) h =
    let h₁ : f x < n = h x head_in in
    let h₂ : most f xs ≤ n = most_bound f n xs (λ y m. h y (there m)) in
    omega arith

most_same : (f g : ℕ → ℕ) (xs : List ℕ) → ((x : ℕ) → x ∈ xs → f x ≡ g x) → most f xs ≡ most g xs
unfolding most
most_same f g [] h = refl
most_same f g (x ∷ xs) h = ap₂ (λ a b. max (suc a) b) (h x head_in) (most_same f g xs (λ y m. h y (there m)))

module _ (D : Document) where
  -- a count that did not reach its bound is exact
  links_stable : (n s : ℕ) → links D n s < n → links D (suc n) s ≡ links D n s
  unfolding links
  links_stable zero s h = absurd (not-suc-le-zero h)
  links_stable (suc n) s h = most_same (links D (suc n)) (links D n) (linked D s) (λ t m. links_stable n t (lower t m))
    where
      lower : (t : ℕ) → t ∈ linked D s → links D n t < n
      lower t m = let g : links D n t < most (links D n) (linked D s) = most_member (links D n) (linked D s) m in omega arith

  pub links_fall : (n s : ℕ) {row t : ℕ} → links D (suc n) s ≤ n → row ∈ D.rows_of s → t ∈ set_of D row
      → links D (suc n) t < links D (suc n) s
  unfolding links linked
  links_fall n s {row} {t} le i j =
      let g : links D n t < most (links D n) (linked D s) = most_member (links D n) (linked D s) (in_flat_map (set_of D) i j) in
      let e : links D (suc n) t ≡ links D n t = links_stable n t (omega arith) in
      omega arith

  pub links_reached : (n : ℕ) {s t : ℕ} → links D (suc n) s ≤ n → Reached D s t → links D (suc n) t ≤ n
  links_reached n le start = le
  links_reached n {t = u} le (onward {t = t} r i j) =
      let h : links D (suc n) t ≤ n = links_reached n le r in
      let g : links D (suc n) u < links D (suc n) t = links_fall n t h i j in
      omega arith
