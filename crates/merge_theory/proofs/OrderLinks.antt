-- Request m, before merging: what an operation or a fragment reaches, and how many links its chains have, do not depend on order and
-- numbering. Nothing is assumed of the document, as these are checked before it is known to be sound.
use mathlib.Core.Path.{◌≡◌, ap, subst}
use mathlib.Core.Logic.{◌↔◌}
use mathlib.Core.List.{List, [], ◌∷◌}
use Prim.Native.Nat.{ℕ, zero, suc, ◌≤◌, ◌<◌}
use native.Mathlib.Omega.{arith}
use Rattle.merge_theory.specs.Document.{Document, set_of, FieldAt, field_at}
use Rattle.merge_theory.specs.Links.{linked, most, links}
use Rattle.merge_theory.specs.Lists.{◌∈◌, there}
use Rattle.merge_theory.specs.Rule.{Reached, start, onward}
use Rattle.merge_theory.specs.Reordered.{Reordered}
use Rattle.merge_theory.proofs.Order.{Embeds, forth, back, was, was_link}
use Rattle.merge_theory.proofs.LinkLaws.{most_member}
use Rattle.merge_theory.proofs.ListLaws.{head_in, in_flat_map, from_flat_map}

-- a list whose members have their like, no less in value, in another
most_le : (f g like : ℕ → ℕ) (xs ys : List ℕ) → ((x : ℕ) → x ∈ xs → (like x ∈ ys) × (f x ≤ g (like x))) → most f xs ≤ most g ys
unfolding most
most_le f g like [] ys h = omega arith
most_le f g like (x ∷ xs) ys h =
    let (m, le) = h x head_in in
    let h₁ : g (like x) < most g ys = most_member g ys m in
    let h₂ : most f xs ≤ most g ys = most_le f g like xs ys (λ y n. h y (there n)) in
    omega arith

module _ (D D' : Document) {At : ℕ → Type 0} (closed : (s r t : ℕ) → At s → r ∈ D.rows_of s → t ∈ set_of D r → At t) (E : Embeds D D' At) where
  pub reached_like : {s t : ℕ} → At s → Reached D s t → At t × Reached D' (E.set s) (E.set t)
  reached_like at start = (at, start)
  reached_like at (onward {t = t} {row = r} {u = u} q i j) =
      let (at', q') = reached_like at q in
      (closed t r u at' i j, onward q' (E.stands at' i) (E.leads at' i j))

  links_like : (n s : ℕ) → At s → links D n s ≤ links D' n (E.set s)
  unfolding links linked
  links_like zero s at = omega arith
  links_like (suc n) s at = most_le (links D n) (links D' n) E.set (linked D s) (linked D' (E.set s)) (λ t m. like t m (links_like n t))
    where
      like : (t : ℕ) → t ∈ linked D s → (At t → links D n t ≤ links D' n (E.set t)) → (E.set t ∈ linked D' (E.set s)) × (links D n t ≤ links D' n (E.set t))
      like t m le =
          let (r, i, j) = from_flat_map (set_of D) (D.rows_of s) m in
          (in_flat_map (set_of D') (E.stands at i) (E.leads at i j), le (closed s r t at i j))

module _ (D D' : Document) {At At' : ℕ → Type 0} (R : Reordered D D' At At') where
  -- D''s sets at hand lead to no others either
  pub closed_back : (s r t : ℕ) → At' s → r ∈ D'.rows_of s → t ∈ set_of D' r → At' t
  closed_back s r t at i j =
      let (k, e) = was D D' R at i in
      let (l, q) = was_link D D' R at i j in
      subst At' q (R.set_at (R.closed (R.set_back_at at) k l))

  pub reordered_links : (n : ℕ) {s : ℕ} → At s → links D n s ≡ links D' n (R.set s)
  unfolding forth back
  reordered_links n {s} at =
      let h₁ : links D n s ≤ links D' n (R.set s) = links_like D D' (λ s r t at i j. R.closed at i j) (forth D D' R) n s at in
      let h₂ : links D' n (R.set s) ≤ links D n (R.set_back (R.set s)) = links_like D' D closed_back (back D D' R) n (R.set s) (R.set_at at) in
      let e : links D n (R.set_back (R.set s)) ≡ links D n s = ap (links D n) (R.set_round at) in
      omega arith

  pub reordered_reach : {s t : ℕ} → At s → At t → Reached D s t ↔ Reached D' (R.set s) (R.set t)
  unfolding forth back
  reordered_reach {s} {t} at at' = (
    λ q. (reached_like D D' (λ s r t at i j. R.closed at i j) (forth D D' R) at q).1,
    λ q. subst (λ x. Reached D x t) (R.set_round at) (subst (λ x. Reached D (R.set_back (R.set s)) x) (R.set_round at')
        (reached_like D' D closed_back (back D D' R) (R.set_at at) q).1),
  )

-- of what a set reaches alone
module _ (D D' : Document) {At At' : ℕ → Type 0} (R : Reordered D D' At At') {s : ℕ} (at : At s) where
  pub still : {t : ℕ} → Reached D s t → At t
  unfolding forth
  still q = (reached_like D D' (λ s r t at i j. R.closed at i j) (forth D D' R) at q).0

  pub still_back : {t : ℕ} → Reached D' (R.set s) t → At' t
  unfolding back
  still_back q = (reached_like D' D (closed_back D D' R) (back D D' R) (R.set_at at) q).0

  pub of_reach : {r : ℕ} → FieldAt D (Reached D s) r → FieldAt D At r
  of_reach (field_at q i is) = field_at (still q) i is

  unfoldable pub narrowed : Reordered D D' (Reached D s) (Reached D' (R.set s))
  unfolding forth back
  narrowed = record {
    row = R.row;
    row_back = R.row_back;
    set = R.set;
    set_back = R.set_back;
    closed = λ q i j. onward q i j;
    set_at = λ q. (reached_like D D' (λ s r t at i j. R.closed at i j) (forth D D' R) at q).1;
    set_back_at = λ {s = t} q. subst (λ x. Reached D x (R.set_back t)) (R.set_round at) (reached_like D' D (closed_back D D' R) (back D D' R) (R.set_at at) q).1;
    set_round = λ q. R.set_round (still q);
    set_back_round = λ q. R.set_back_round (still_back q);
    stands = λ q i. R.stands (still q) i;
    stood = λ q i. R.stood (still q) i;
    links = λ q i. R.links (still q) i;
    kinds = λ q i. R.kinds (still q) i;
    responses = λ f. R.responses (of_reach f);
    parents = λ f. R.parents (of_reach f);
    objects = λ f. R.objects (of_reach f);
    types = λ f g. R.types (of_reach f) (of_reach g);
    names = λ f g. R.names (of_reach f) (of_reach g);
    arguments = λ f g. R.arguments (of_reach f) (of_reach g);
  }
