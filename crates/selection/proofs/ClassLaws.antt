-- The laws of classes of selections: rows that are alike have one first row; words written one by one; keys that tell pairs apart.
-- Assumes nothing.
use mathlib.Core.Path.{◌≡◌, refl, sym, ap, ◌∙◌, subst}
use mathlib.Core.Logic.{inl, inr, ⊎_elim}
use mathlib.Core.Bool.{Bool, true, false, not, ◌&&◌, false≢true}
use mathlib.Core.List.{List}
use Prim.Native.Nat.{ℕ, ◌+◌, ◌*◌, ◌≤◌, ◌<◌, min}
use native.Mathlib.Nat.{add-mul, mul-le-mul_right}
use native.Mathlib.Decide.{ℕ_discrete}
use native.Mathlib.Omega.{arith}
use lib.Dec.{eqb, ltb}
use lib.ListN.{length, get_or, set}
use lib.Seq.{get_or-set_same, get_or-set_other}
use borrow.Author.Tests.{eq-eqb, ne_eqb, eqb-true, lt-ltb, le-ltb}
use Rattle.lists.specs.Every.{position, find}
use Rattle.lists.specs.Part.{Outside}
use Rattle.lists.proofs.EveryLaws.{position_cong, position_passes, position_below}
use Rattle.lists.proofs.Parts.{le_or_lt, outside_none, outside_wider, outside_trans, set_outside}
use Rattle.lists.proofs.Tests.{both, first_of, second_of, first_fails, second_fails}
use Rattle.tables.specs.Columns.{type_kind, response_name, object_type}
use Rattle.index.specs.Indexed.{first_place, Firsts}
use Rattle.index.proofs.FirstsLaws.{keys_agree}
use Rattle.selection.specs.Classing.{parent_class, parent_class_at, alike_name, alike_pair, Classes, index_of, key_of, pair_key, Written, Keys}

-- ---- first rows

-- of a test that is an equivalence: rows that are alike, and no others, have one first row
module _ (n : ℕ) (alike : ℕ → ℕ → Bool) (itself : (r : ℕ) → alike r r ≡ true) (carries : (r q k : ℕ) → alike r q ≡ true → alike r k ≡ alike q k)
    (meets : (r q k : ℕ) → alike r k ≡ true → alike q k ≡ true → alike r q ≡ true) where
  pub first_below : (r : ℕ) → r < n → position n (alike r) < n
  first_below r l = position_below n (alike r) r l (itself r)

  pub first_alike : (r : ℕ) → r < n → alike r (position n (alike r)) ≡ true
  first_alike r l = position_passes n (alike r) (first_below r l)

  pub same_first : (r q : ℕ) → r < n → q < n → eqb (position n (alike r)) (position n (alike q)) ≡ alike q r
  same_first r q l m = go (alike q r) refl
    where
      go : (b : Bool) → alike q r ≡ b → eqb (position n (alike r)) (position n (alike q)) ≡ b
      go true e = eq-eqb _ _ (position_cong n _ _ (λ k _. sym (carries q r k e)))
      go false e =
          ne_eqb _ _ (λ same. false≢true (sym e ∙ meets q r (position n (alike q)) (first_alike q m) (subst (λ (k : ℕ). alike r k ≡ true) same (first_alike r l))))

eqb_carries : (a b c : ℕ) → eqb b a ≡ true → eqb c a ≡ eqb c b
eqb_carries a b c e = ap (eqb c) (sym (eqb-true b a e))

eqb_meets : (a b c : ℕ) → eqb c a ≡ true → eqb c b ≡ true → eqb b a ≡ true
eqb_meets a b c d e = eq-eqb b a (sym (eqb-true c b e) ∙ eqb-true c a d)

-- by one key, and by two
module _ (n : ℕ) (key : ℕ → ℕ) where
  one_below : (r : ℕ) → r < n → find n key (key r) < n
  one_below = first_below n (λ r k. eqb (key k) (key r)) (λ r. eq-eqb (key r) (key r) refl) (λ r q k. eqb_carries (key r) (key q) (key k)) (λ r q k. eqb_meets (key r) (key q) (key k))

  one_same : (r q : ℕ) → r < n → q < n → eqb (find n key (key r)) (find n key (key q)) ≡ eqb (key r) (key q)
  one_same = same_first n (λ r k. eqb (key k) (key r)) (λ r. eq-eqb (key r) (key r) refl) (λ r q k. eqb_carries (key r) (key q) (key k)) (λ r q k. eqb_meets (key r) (key q) (key k))

module _ (n : ℕ) (key other : ℕ → ℕ) where
  abbrev two : ℕ → ℕ → Bool
  two r k = eqb (key k) (key r) && eqb (other k) (other r)

  two_itself : (r : ℕ) → two r r ≡ true
  two_itself r = both (eq-eqb (key r) (key r) refl) (eq-eqb (other r) (other r) refl)

  two_carries : (r q k : ℕ) → two r q ≡ true → two r k ≡ two q k
  two_carries r q k e =
      let a = eqb_carries (key r) (key q) (key k) (first_of (eqb (key q) (key r)) (eqb (other q) (other r)) e) in
      let b = eqb_carries (other r) (other q) (other k) (second_of (eqb (key q) (key r)) (eqb (other q) (other r)) e) in
      rw (a, b)

  two_meets : (r q k : ℕ) → two r k ≡ true → two q k ≡ true → two r q ≡ true
  two_meets r q k d e =
      both
      (eqb_meets (key r) (key q) (key k) (first_of (eqb (key k) (key r)) (eqb (other k) (other r)) d) (first_of (eqb (key k) (key q)) (eqb (other k) (other q)) e))
      (eqb_meets (other r) (other q) (other k) (second_of (eqb (key k) (key r)) (eqb (other k) (other r)) d) (second_of (eqb (key k) (key q)) (eqb (other k) (other q)) e))

  two_below : (r : ℕ) → r < n → position n (two r) < n
  two_below = first_below n two two_itself two_carries two_meets

  two_same : (r q : ℕ) → r < n → q < n → eqb (position n (two r)) (position n (two q)) ≡ two q r
  two_same = same_first n two two_itself two_carries two_meets

-- ---- what a caller takes from the classes

module _ {image : List ℕ} {n many : ℕ} {s s' : List ℕ} (classes : Classes image n many s s') (room : 6 * n ≤ length s) where
  pub name_below : (r : ℕ) → r < n → get_or s' (n + r) 0 < n
  name_below r l = rw (classes.names room r l) (one_below n (λ k. response_name image k) r l)

  pub same_names : (r q : ℕ) → r < n → q < n → eqb (get_or s' (n + r) 0) (get_or s' (n + q) 0) ≡ eqb (response_name image r) (response_name image q)
  same_names r q l m = rw (classes.names room r l, classes.names room q m) (one_same n (λ k. response_name image k) r q l m)

  pub pair_below : (r : ℕ) → r < n → get_or s' (2 * n + r) 0 < n
  pair_below r l = rw (classes.pairs room r l) (two_below n (λ k. response_name image k) (λ k. parent_class_at image many s k) r l)

  pub same_pairs : (r q : ℕ) → r < n → q < n
      → eqb (get_or s' (2 * n + r) 0) (get_or s' (2 * n + q) 0) ≡ (eqb (response_name image r) (response_name image q) && eqb (parent_class_at image many s r) (parent_class_at image many s q))
  same_pairs r q l m = rw (classes.pairs room r l, classes.pairs room q m) (two_same n (λ k. response_name image k) (λ k. parent_class_at image many s k) r q l m)

-- the classes of parents
module _ (image : List ℕ) (many parent : ℕ) where
  pub class_object : parent < many → type_kind image parent ≡ object_type → parent_class image many parent ≡ parent
  unfolding parent_class
  class_object l e = rw (lt-ltb _ _ l, eq-eqb _ _ e)

  pub class_other : (type_kind image parent ≡ object_type → ⊥) → parent_class image many parent ≡ many
  unfolding parent_class
  class_other ne = rw (second_fails (ltb parent many) (ne_eqb _ _ ne))

  pub class_past : many ≤ parent → parent_class image many parent ≡ many
  unfolding parent_class
  class_past h = rw (first_fails (eqb (type_kind image parent) object_type) (le-ltb _ _ h))

  pub class_le : parent_class image many parent ≤ many
  class_le = ⊎_elim (λ past. omega (arith, class_past past)) (λ less. go less (ℕ_discrete (type_kind image parent) object_type)) (le_or_lt many parent)
    where
      go : parent < many → Dec (type_kind image parent ≡ object_type) → parent_class image many parent ≤ many
      go less (yes e) = omega (arith, class_object less e)
      go less (no ne) = omega (arith, class_other ne)

-- by the code's ways out
module _ (image : List ℕ) (many parent : ℕ) where
  pub past_types : many ≤ parent → (many ≡ parent_class image many parent) × (many ≤ many)
  past_types h = (sym (class_past image many parent h), omega arith)

  pub object_itself : parent < many → {kind : ℕ} → kind ≡ type_kind image parent → kind ≡ object_type → (parent ≡ parent_class image many parent) × (parent ≤ many)
  object_itself l is e = (sym (class_object image many parent l (sym is ∙ e)), omega arith)

  pub no_object : {kind : ℕ} → kind ≡ type_kind image parent → (kind ≡ object_type → ⊥) → (many ≡ parent_class image many parent) × (many ≤ many)
  no_object is ne = (sym (class_other image many parent (λ e. ne (is ∙ e))), omega arith)

-- a parent that is an object has a class of its own, and all that are none share one
pub object_classes : (image : List ℕ) (many p q : ℕ) → p < many → type_kind image p ≡ object_type → eqb (parent_class image many q) (parent_class image many p) ≡ eqb q p
object_classes image many p q l e = rw (class_object image many p l e) (⊎_elim past (λ less. go less (ℕ_discrete (type_kind image q) object_type)) (le_or_lt many q))
  where
    past : many ≤ q → eqb (parent_class image many q) p ≡ eqb q p
    past h = rw (class_past image many q h) (ne_eqb many p (omega arith) ∙ sym (ne_eqb q p (omega arith)))

    go : q < many → Dec (type_kind image q ≡ object_type) → eqb (parent_class image many q) p ≡ eqb q p
    go less (yes f) = rw (class_object image many q less f)
    go less (no ne) = rw (class_other image many q ne) (ne_eqb many p (omega arith) ∙ sym (ne_eqb q p (λ same. ne (ap (λ (k : ℕ). type_kind image k) same ∙ e))))

pub other_classes : (image : List ℕ) (many p q : ℕ) → (type_kind image p ≡ object_type → ⊥) → q < many
    → eqb (parent_class image many q) (parent_class image many p) ≡ not (eqb (type_kind image q) object_type)
other_classes image many p q ne l = rw (class_other image many p ne) (go (ℕ_discrete (type_kind image q) object_type))
  where
    go : Dec (type_kind image q ≡ object_type) → eqb (parent_class image many q) many ≡ not (eqb (type_kind image q) object_type)
    go (yes f) = rw (class_object image many q l f) (ne_eqb q many (omega arith) ∙ sym (ap not (eq-eqb _ _ f)))
    go (no nf) = rw (class_other image many q nf) (eq-eqb many many refl ∙ sym (ap not (ne_eqb _ _ nf)))

-- ---- keys of pairs

-- a number and one below w make a key that tells both
key_parts : (w a b c d : ℕ) → b < w → d < w → eqb (a * w + b) (c * w + d) ≡ (eqb a c && eqb b d)
key_parts w a b c d l m = go (ℕ_discrete a c)
  where
    less : (a b c d : ℕ) → b < w → a < c → a * w + b < c * w + d
    less a b c d h lt =
        let more : (a + 1) * w ≤ c * w = mul-le-mul_right w (omega arith) in
        omega (arith, add-mul a 1 w, more)

    go : Dec (a ≡ c) → eqb (a * w + b) (c * w + d) ≡ (eqb a c && eqb b d)
    go (yes e) = rw (eq-eqb a c e) (at (ℕ_discrete b d))
      where
        at : Dec (b ≡ d) → eqb (a * w + b) (c * w + d) ≡ eqb b d
        at (yes f) = eq-eqb (a * w + b) (c * w + d) (rw (e, f)) ∙ sym (eq-eqb b d f)
        at (no nf) =
            let same : a * w ≡ c * w = ap (λ (k : ℕ). k * w) e in
            ne_eqb (a * w + b) (c * w + d) (λ g. nf (omega (arith, same, g))) ∙ sym (ne_eqb b d nf)
    go (no ne) = rw (ne_eqb a c ne) (ne_eqb (a * w + b) (c * w + d) (λ g. ⊎_elim (λ h. omega (arith, g, less a b c d l (omega arith))) (λ h. omega (arith, g, less c d a b m h)) (le_or_lt a c)))

-- the key fits its type
pub key_fits : {class : ℕ} (word n many : ℕ) → class ≡ min word n → n ≤ 16384 → many ≤ 16384 → class * (many + 1) ≤ 268451840
key_fits {class} word n many e few kinds =
    let one : class * (many + 1) ≤ 16384 * (many + 1) = mul-le-mul_right (many + 1) (omega (arith, e)) in
    omega (arith, one)

pub key_is : (image : List ℕ) (many : ℕ) (s : List ℕ) (n row : ℕ) {at class word owner parent r : ℕ} → at ≡ n + row → word ≡ get_or s at 0 → class ≡ min word n
    → owner ≡ get_or s row 0 → parent ≡ parent_class image many owner → r ≡ class * (many + 1) + parent → r ≡ pair_key image many s n row
unfolding pair_key
key_is image many s n row a w c o p e = rw (e, c, w, a, p, o)

-- ---- words written one by one

pub written_none : (f : ℕ → ℕ) (at : ℕ) (s : List ℕ) → Written f at 0 s s
written_none f at s = record { words = λ room k l. absurd (omega arith); frame = outside_none at 0 s }

pub written_more : (f : ℕ → ℕ) (at i : ℕ) {place v : ℕ} {s s' s'' : List ℕ} → Written f at i s s' → place ≡ at + i → v ≡ f i → s'' ≡ set s' place v → Written f at (i + 1) s s''
written_more f at i {place} {v} {s} {s'} w here is put = rw put record {
  words = λ room k l.
      let long = w.frame.long in
      ⊎_elim
      (λ past.
      let same : k ≡ i = omega arith in
      let there : at + k ≡ place = omega arith in
      rw (there, same) (get_or-set_same s' place v 0 (omega arith) ∙ is))
      (λ before. get_or-set_other s' place (at + k) v 0 (omega arith) ∙ w.words (omega arith) k before)
      (le_or_lt i k);
  frame = outside_trans (outside_wider w.frame at (i + 1) (omega arith) (omega arith)) (outside_wider (set_outside s' place v) at (i + 1) (omega arith) (omega arith));
}

pub written_all : (f : ℕ → ℕ) (at : ℕ) {i n : ℕ} {s s' : List ℕ} → Written f at i s s' → i ≡ n → Written f at n s s'
written_all f at {s = s} {s' = s'} w e = subst (λ (m : ℕ). Written f at m s s') e w

-- what a pair's key is made of stands before the keys
pub pair_kept : (image : List ℕ) (many n i k : ℕ) {s s' : List ℕ} {r : ℕ} → Outside (3 * n) i s s' → k < n → r ≡ pair_key image many s' n k → r ≡ pair_key image many s n k
unfolding pair_key
pair_kept image many n i k frame l e = e ∙ rw (frame.below (n + k) (omega arith), frame.below k (omega arith))

-- ---- all of it

module _ (image : List ℕ) (many : ℕ) {n : ℕ} {s s₁ s₂ s₃ s₄ : List ℕ}
    (names : Keys (λ k. response_name image k) n s s₁) (firsts : Firsts s₁ (index_of n) n s₂) (pairs : Keys (λ k. pair_key image many s₂ n k) n s₂ s₃) (seconds : Firsts s₃ (index_of n) (2 * n) s₄) where
  long₃ : length s₃ ≡ length s
  long₃ = pairs.frame.long ∙ firsts.long ∙ names.frame.long

  front : (k : ℕ) → k < n → get_or s₂ k 0 ≡ get_or s k 0
  front k l = firsts.frame k (inl l) (inl (omega arith)) ∙ names.frame.below k (omega arith)

  all_frame : Outside n (5 * n) s s₄
  all_frame = record {
    long = seconds.long ∙ long₃;
    below = λ k l. seconds.frame k (inl (omega arith)) (inl (omega arith)) ∙ pairs.frame.below k (omega arith) ∙ front k l;
    above = λ k l.
        seconds.frame k (inr (omega arith)) (inr (omega arith)) ∙ pairs.frame.above k (omega arith)
        ∙ firsts.frame k (inr (omega arith)) (inr (omega arith)) ∙ names.frame.above k (omega arith);
  }

  module _ (room : 6 * n ≤ length s) where
    name_first : (r : ℕ) → r < n → get_or s₂ (n + r) 0 ≡ find n (λ k. response_name image k) (response_name image r)
    unfolding first_place
    name_first r l =
        let long = names.frame.long in
        firsts.words (omega arith) (inl (omega arith)) (omega arith) r l ∙ keys_agree n (key_of s₁ n) (λ k. response_name image k) (names.words (omega arith)) r l

    all_names : (r : ℕ) → r < n → get_or s₄ (n + r) 0 ≡ position n (alike_name image r)
    all_names r l = seconds.frame (n + r) (inl (omega arith)) (inl (omega arith)) ∙ pairs.frame.below (n + r) (omega arith) ∙ name_first r l

    pair_first : (r : ℕ) → r < n → key_of s₃ n r ≡ find n (λ k. response_name image k) (response_name image r) * (many + 1) + parent_class image many (get_or s r 0)
    unfolding pair_key
    pair_first r l =
        let long : length s₂ ≡ length s = firsts.long ∙ names.frame.long in
        let small : find n (λ k. response_name image k) (response_name image r) < n = one_below n (λ k. response_name image k) r l in
        let least : min (find n (λ k. response_name image k) (response_name image r)) n ≡ find n (λ k. response_name image k) (response_name image r) = omega (arith, small) in
        pairs.words (omega arith) r l ∙ rw (name_first r l, least, front r l)

    all_pairs : (r : ℕ) → r < n → get_or s₄ (2 * n + r) 0 ≡ position n (alike_pair image many s r)
    unfolding first_place
    all_pairs r l =
        seconds.words (omega (arith, long₃)) (inl (omega arith)) (omega (arith, long₃)) r l
        ∙ position_cong n _ _ (λ k h.
        rw (pair_first k h, pair_first r l)
        (key_parts (many + 1) _ _ _ _ (omega (arith, class_le image many (get_or s k 0))) (omega (arith, class_le image many (get_or s r 0)))
        ∙ ap (λ (b : Bool). b && eqb (parent_class image many (get_or s k 0)) (parent_class image many (get_or s r 0))) (one_same n (λ j. response_name image j) k r h l)))

  pub classes_written : Classes image n many s s₄
  classes_written = record { frame = all_frame; names = all_names; pairs = all_pairs }
