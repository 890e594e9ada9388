-- The laws of links between the places of a list: a place more, all of them, and what a walk along them takes from them.
-- Assumes nothing.
use mathlib.Core.Path.{◌≡◌, refl, sym, ap, ◌∙◌, subst}
use mathlib.Core.Logic.{◌⊎◌, inl, inr, ⊎_elim}
use mathlib.Core.Bool.{Bool, true, false, cond, false≢true}
use mathlib.Core.List.{List}
use Prim.Native.Nat.{ℕ, ◌+◌, ◌-◌, ◌*◌, ◌≤◌, ◌<◌}
use native.Mathlib.Decide.{ℕ_discrete}
use native.Mathlib.Omega.{arith}
use lib.Dec.{eqb, leb}
use lib.ListN.{length, get_or, set, length-set}
use lib.Seq.{get_or-set_same, get_or-set_other}
use borrow.Author.Tests.{eq-eqb, ne_eqb, eqb-true, leb-true, ltb-true, le-leb, lt-leb, lt-ltb, le-ltb}
use Rattle.lists.proofs.Parts.{le_or_lt}
use Rattle.lists.proofs.EveryLaws.{before_position}
use Rattle.lists.proofs.Tests.{both, all_three, first_fails, second_fails}
use Rattle.lists.specs.declared.Span.{Span}
use Rattle.selection.specs.declared.links.Chain.{Chain}
use Rattle.selection.specs.Places.{seek}
use Rattle.selection.specs.Linking.{row_of, class_at, next_at, first_at, last_of, Linked, Linkable, Spared, Links, is_earlier, end_words, join_words, link_words}
use Rattle.selection.proofs.PlaceLaws.{Passed, seek_found, seek_none, seek_ge, seek_le, seek_passes, seek_cong}

-- ---- searches

passed : (test : ℕ → Bool) (from end place : ℕ) → from ≤ place → place ≤ end → ((q : ℕ) → from ≤ q → q < place → test q ≡ false) → Passed test from end place
passed test from end place ahead within fails = record { ahead = ahead; within = omega arith; failed = λ k h. fails (from + k) (omega arith) (omega arith) }

-- what a search passed fails
pub seek_fails : (test : ℕ → Bool) (from end q : ℕ) → from ≤ q → q < seek test from end → test q ≡ false
unfolding seek
seek_fails test from end q h less =
    let is : from + (q - from) ≡ q = omega arith in
    subst (λ (m : ℕ). test m ≡ false) is (before_position (end - from) (λ k. test (from + k)) (q - from) (omega arith))

-- ---- links as numbers: the places below `place` are linked

module _ (cls : ℕ → ℕ) (start end : ℕ) where
  -- no place between has p's class
  abbrev Alone : ℕ → ℕ → Type 0
  Alone p q = (r : ℕ) → p < r → r < q → cls r ≡ cls p → ⊥

  -- where p leads to: the end, or the next place of its class
  abbrev Leads : ℕ → ℕ → ℕ → Type 0
  Leads p place q = ((q ≡ end) × Alone p place) ⊎ ((p < q) × (q < place) × (cls q ≡ cls p) × Alone p q)

  pub record Chained (place : ℕ) (next first last : ℕ → ℕ) : Type 0 where
    pub nexts : (p : ℕ) → start ≤ p → p < place → Leads p place (next p)
    pub firsts : (p : ℕ) → start ≤ p → p < place → first p ≡ seek (λ q. eqb (cls q) (cls p)) start p
    pub lasts : (p : ℕ) → start ≤ p → p < place → (p ≤ last (cls p)) × (last (cls p) < place) × (cls (last (cls p)) ≡ cls p)

  pub chained_none : (next first last : ℕ → ℕ) → Chained start next first last
  chained_none next first last = record { nexts = λ p h less. absurd (omega arith); firsts = λ p h less. absurd (omega arith); lasts = λ p h less. absurd (omega arith) }

  -- what linking one more place leaves as it was, and what it writes whether the place joins a group or begins one
  pub record Turned (place : ℕ) (first last next' first' last' : ℕ → ℕ) : Type 0 where
    pub here : next' place ≡ end
    pub kept : (p : ℕ) → start ≤ p → p < place → first' p ≡ first p
    pub marked : last' (cls place) ≡ place
    pub others : (p : ℕ) → start ≤ p → p < place → (cls p ≡ cls place → ⊥) → last' (cls p) ≡ last (cls p)

  module _ (place : ℕ) {next first last next' first' last' : ℕ → ℕ} (low : start ≤ place) (sofar : Chained place next first last)
      (turned : Turned place first last next' first' last') where
    -- a link stays where the new place is not the next of its class
    leads_kept : (p q : ℕ) → Leads p place q → (cls place ≡ cls p → Alone p place → ⊥) → Leads p (place + 1) q
    leads_kept p q (inl h) other = inl (h.0, λ r more less same. go r more less same (ℕ_discrete r place))
      where
        go : (r : ℕ) → p < r → r < place + 1 → cls r ≡ cls p → Dec (r ≡ place) → ⊥
        go r more less same (yes e) = other (ap cls (sym e) ∙ same) h.1
        go r more less same (no ne) = h.1 r more (omega arith) same
    leads_kept p q (inr h) other = inr (h.0, omega (arith, h.1), h.2, h.3)

    leads_new : Leads place (place + 1) (next' place)
    leads_new = inl (turned.here, λ r more less same. absurd (omega arith))

    lasts_more : (p : ℕ) → start ≤ p → p < place + 1 → (p ≤ last' (cls p)) × (last' (cls p) < place + 1) × (cls (last' (cls p)) ≡ cls p)
    lasts_more p h less = go (ℕ_discrete (cls p) (cls place))
      where
        go : Dec (cls p ≡ cls place) → (p ≤ last' (cls p)) × (last' (cls p) < place + 1) × (cls (last' (cls p)) ≡ cls p)
        go (yes e) =
            let is : last' (cls p) ≡ place = ap last' e ∙ turned.marked in
            (omega (arith, is), omega (arith, is), ap cls is ∙ sym e)
        go (no ne) =
            let below : p < place = omega (arith, other) in
            let was = sofar.lasts p h below in
            let is : last' (cls p) ≡ last (cls p) = turned.others p h below ne in
            (omega (arith, is, was.0), omega (arith, is, was.1), ap cls is ∙ was.2)
          where
            other : p ≡ place → ⊥
            other e = ne (ap cls e)

    -- the last place of a class is not before any other of it
    latest : (p : ℕ) → start ≤ p → p < place → cls place ≡ cls p → p ≤ last (cls place)
    latest p h less same = subst (λ (k : ℕ). p ≤ last k) (sym same) (sofar.lasts p h less).0

    chained_more : ((p : ℕ) → start ≤ p → p < place → Leads p (place + 1) (next' p)) → first' place ≡ seek (λ q. eqb (cls q) (cls place)) start place
        → Chained (place + 1) next' first' last'
    chained_more leads begins = record {
      nexts = λ p h less. on p h less (ℕ_discrete p place);
      firsts = λ p h less. at p h less (ℕ_discrete p place);
      lasts = lasts_more;
    }
      where
        on : (p : ℕ) → start ≤ p → p < place + 1 → Dec (p ≡ place) → Leads p (place + 1) (next' p)
        on p h less (yes e) = subst (λ (m : ℕ). Leads m (place + 1) (next' m)) (sym e) leads_new
        on p h less (no ne) = leads p h (omega arith)

        at : (p : ℕ) → start ≤ p → p < place + 1 → Dec (p ≡ place) → first' p ≡ seek (λ q. eqb (cls q) (cls p)) start p
        at p h less (yes e) = subst (λ (m : ℕ). first' m ≡ seek (λ q. eqb (cls q) (cls m)) start m) (sym e) begins
        at p h less (no ne) = turned.kept p h (omega arith) ∙ sofar.firsts p h (omega arith)

    -- the place joins the group of an earlier one
    pub chained_joined : start ≤ last (cls place) → last (cls place) < place → cls (last (cls place)) ≡ cls place
        → next' (last (cls place)) ≡ place → ((p : ℕ) → start ≤ p → p < place → (p ≡ last (cls place) → ⊥) → next' p ≡ next p)
        → first' place ≡ first (last (cls place)) → Chained (place + 1) next' first' last'
    chained_joined from less same linked kept handed = chained_more (λ p h l. leads p h l (ℕ_discrete p b)) (handed ∙ sofar.firsts b from less ∙ begins)
      where
        b : ℕ
        b = last (cls place)

        leads : (p : ℕ) → start ≤ p → p < place → Dec (p ≡ b) → Leads p (place + 1) (next' p)
        leads p h l (yes e) =
            let is : next' p ≡ place = ap next' e ∙ linked in
            inr (omega (arith, is), omega (arith, is), ap cls is ∙ sym same ∙ ap cls (sym e), λ r more below alike. none r more (omega (arith, is)) alike)
          where
            none : (r : ℕ) → p < r → r < place → cls r ≡ cls p → ⊥
            none r more below alike =
                let most : r ≤ b = latest r (omega arith) below (sym (alike ∙ ap cls e ∙ same)) in
                omega (arith, most, e)
        leads p h l (no ne) = rw (kept p h l ne) (leads_kept p (next p) (sofar.nexts p h l) missed)
          where
            missed : cls place ≡ cls p → Alone p place → ⊥
            missed alike alone =
                let most : p ≤ b = latest p h l alike in
                alone b (omega (arith, most, ne)) less (same ∙ alike)

        t : ℕ → Bool
        t q = eqb (cls q) (cls place)

        begins : seek (λ q. eqb (cls q) (cls b)) start b ≡ seek t start place
        begins = rw same (go (le_or_lt b (seek t start b)))
          where
            le : seek t start b ≤ b
            le = seek_le t start b from

            before : Passed t start place (seek t start b)
            before = passed t start place (seek t start b) (seek_ge t start b) (omega (arith, le)) (λ q h l. seek_fails t start b q h l)

            go : (b ≤ seek t start b) ⊎ (seek t start b < b) → seek t start b ≡ seek t start place
            go (inl over) =
                let is : seek t start b ≡ b = omega (arith, le) in
                seek_found t start place _ before (omega (arith, le)) (eq-eqb _ _ (ap cls is ∙ same))
            go (inr found) = seek_found t start place _ before (omega (arith, le)) (seek_passes t start b found)

    -- no earlier place has its class: it begins a group
    pub chained_begun : (start ≤ last (cls place) → last (cls place) < place → cls (last (cls place)) ≡ cls place → ⊥)
        → ((p : ℕ) → start ≤ p → p < place → next' p ≡ next p) → first' place ≡ place → Chained (place + 1) next' first' last'
    chained_begun stale kept itself =
        chained_more (λ p h l. rw (kept p h l) (leads_kept p (next p) (sofar.nexts p h l) (λ alike _. none p h l alike)))
        (itself ∙ seek_none t start place place (passed t start place place low (omega arith) (λ q h l. ne_eqb _ _ (λ e. none q h l (sym e)))) (omega arith))
      where
        t : ℕ → Bool
        t q = eqb (cls q) (cls place)

        none : (p : ℕ) → start ≤ p → p < place → cls place ≡ cls p → ⊥
        none p h l alike =
            let was = sofar.lasts p h l in
            let is : last (cls p) ≡ last (cls place) = ap last (sym alike) in
            stale (omega (arith, was.0, is, h)) (omega (arith, was.1, is)) (ap cls (sym is) ∙ was.2 ∙ sym alike)

  -- all places are linked
  pub chained_next : {place : ℕ} {next first last : ℕ → ℕ} → Chained place next first last → (p : ℕ) → start ≤ p → p < end → end ≡ place
      → next p ≡ seek (λ q. eqb (cls q) (cls p)) (p + 1) end
  chained_next {place} {next} all p h less done = go (all.nexts p h (omega arith))
    where
      t : ℕ → Bool
      t q = eqb (cls q) (cls p)

      go : Leads p place (next p) → next p ≡ seek t (p + 1) end
      go (inl l) = l.0 ∙ seek_none t (p + 1) end end (passed t (p + 1) end end (omega arith) (omega arith) (λ q from below. ne_eqb _ _ (l.1 q (omega arith) (omega arith)))) (omega arith)
      go (inr l) =
          let lt : next p < end = omega (arith, l.1) in
          seek_found t (p + 1) end (next p) (passed t (p + 1) end (next p) (omega (arith, l.0)) (omega arith) (λ q from below. ne_eqb _ _ (l.3 q (omega arith) below))) lt (eq-eqb _ _ l.2)

-- ---- links as words

-- the words of a place that is the last of its class
module _ (s : List ℕ) (c : Chain) (x : Span) (place class first : ℕ) where
  abbrev at : ℕ
  at = c.links + 4 * place

  abbrev marked : List ℕ
  marked = set s (c.lasts + class) place

  abbrev led : List ℕ
  led = set marked at x.end

  pub end_long : length (end_words s c x place class first) ≡ length s
  unfolding end_words
  end_long = simp length-set

  end_other : (k : ℕ) → (k ≡ c.lasts + class → ⊥) → (k ≡ c.links + 4 * place → ⊥) → (k ≡ c.links + 4 * place + 1 → ⊥)
      → get_or (end_words s c x place class first) k 0 ≡ get_or s k 0
  unfolding end_words
  end_other k a b d = get_or-set_other led (at + 1) k first 0 d ∙ get_or-set_other marked at k x.end 0 b ∙ get_or-set_other s (c.lasts + class) k place 0 a

  module _ (room : c.links + 4 * place + 1 < length s) (apart : c.lasts + class < c.links) where
    end_next : next_at (end_words s c x place class first) c place ≡ x.end
    unfolding end_words
    end_next = get_or-set_other led (at + 1) at first 0 (omega arith) ∙ get_or-set_same marked at x.end 0 (simp length-set (omega arith))

    end_first : first_at (end_words s c x place class first) c place ≡ first
    unfolding end_words
    end_first = get_or-set_same led (at + 1) first 0 (simp length-set (omega arith))

    end_last : last_of (end_words s c x place class first) c class ≡ place
    unfolding end_words
    end_last =
        get_or-set_other led (at + 1) (c.lasts + class) first 0 (omega arith) ∙ get_or-set_other marked at (c.lasts + class) x.end 0 (omega arith)
        ∙ get_or-set_same s (c.lasts + class) place 0 (omega arith)

-- what the look at the last place of a class says
module _ (s : List ℕ) (c : Chain) (x : Span) (before place class : ℕ) where
  pub before_list : before < x.start → false ≡ is_earlier s c x before place class
  unfolding is_earlier
  before_list h = rw (lt-leb _ _ h)

  pub not_before : place ≤ before → false ≡ is_earlier s c x before place class
  unfolding is_earlier
  not_before h = sym (first_fails (eqb (class_at s c before) class) (second_fails (leb x.start before) (le-ltb before place h)))

  pub earlier_by_class : x.start ≤ before → before < place → {b : Bool} → b ≡ eqb (class_at s c before) class → b ≡ is_earlier s c x before place class
  unfolding is_earlier
  earlier_by_class h l e = rw (le-leb _ _ h, lt-ltb _ _ l) e

  earlier_holds : is_earlier s c x before place class ≡ true → (x.start ≤ before) × (before < place) × (class_at s c before ≡ class)
  unfolding is_earlier
  earlier_holds e =
      let three = all_three _ _ _ e in
      (leb-true _ _ three.0, ltb-true _ _ three.1, eqb-true _ _ three.2)

  earlier_fails : is_earlier s c x before place class ≡ false → x.start ≤ before → before < place → class_at s c before ≡ class → ⊥
  unfolding is_earlier
  earlier_fails e h l same = false≢true (sym e ∙ both (both (le-leb _ _ h) (lt-ltb _ _ l)) (eq-eqb _ _ same))

-- what the code writes, by its way out
pub ended : (s : List ℕ) (c : Chain) (x : Span) (place class first : ℕ) {at last : ℕ} {s₁ s₂ s₃ : List ℕ} → at ≡ c.links + 4 * place → last ≡ c.lasts + class
    → s₁ ≡ set s last place → s₂ ≡ set s₁ at x.end → s₃ ≡ set s₂ (at + 1) first → s₃ ≡ end_words s c x place class first
unfolding end_words
ended s c x place class first a l one two three = rw (three, two, one, a, l)

module _ (s : List ℕ) (c : Chain) (x : Span) (place : ℕ) {class before last : ℕ} (is : class ≡ class_at s c place) (there : last ≡ c.lasts + class)
    (was : before ≡ get_or s last 0) where
  pub joined_words : {look : Bool} → look ≡ is_earlier s c x before place class → look ≡ true → {at first : ℕ} {s₁ s₂ : List ℕ} → at ≡ c.links + 4 * before
      → first ≡ get_or s (at + 1) 0 → s₁ ≡ set s at place → s₂ ≡ end_words s₁ c x place class first → s₂ ≡ link_words s c x place
  unfolding link_words join_words
  joined_words look yes-it-is a f one two =
      let looked : is_earlier s c x before place class ≡ true = sym look ∙ yes-it-is in
      rw (← is, ← there, ← was, looked, two, one, f, a)

  pub begun_words : {look : Bool} → look ≡ is_earlier s c x before place class → look ≡ false → {s₁ : List ℕ} → s₁ ≡ end_words s c x place class place
      → s₁ ≡ link_words s c x place
  unfolding link_words
  begun_words look it-is-not one =
      let looked : is_earlier s c x before place class ≡ false = sym look ∙ it-is-not in
      rw (← is, ← there, ← was, looked, one)

pub link_long : (s : List ℕ) (c : Chain) (x : Span) (place : ℕ) {s' : List ℕ} → s' ≡ link_words s c x place → length s' ≡ length s
unfolding link_words join_words
link_long s c x place e = ap length e ∙ go (is_earlier s c x (last_of s c (class_at s c place)) place (class_at s c place))
  where
    k : ℕ
    k = class_at s c place

    go : (b : Bool) → length (cond b (join_words s c x (last_of s c k) place k) (end_words s c x place k place)) ≡ length s
    go true = end_long _ c x place k _ ∙ length-set s _ place
    go false = end_long s c x place k place

module _ {s₀ : List ℕ} {n : ℕ} {c : Chain} {x : Span} (ok : Linkable s₀ n c x) where
  -- the places below `place` are linked, and all other words are as they were
  pub record Under (place : ℕ) (s : List ℕ) : Type 0 where
    pub long : length s ≡ length s₀
    pub frame : (k : ℕ) → Spared c n x.start place k → get_or s k 0 ≡ get_or s₀ k 0
    pub chained : Chained (λ p. class_at s₀ c p) x.start x.end place (λ p. next_at s c p) (λ p. first_at s c p) (λ k. last_of s c k)

  class_small : (p : ℕ) → x.start ≤ p → p < x.end → class_at s₀ c p < n
  class_small p h less = ok.classes (row_of s₀ c p) (ok.rows p h less)

  -- rows and classes stand apart from links and last places
  row_spared : (place p : ℕ) → place - x.start ≤ x.end - x.start → p < x.end → Spared c n x.start place (c.store + p)
  row_spared place p within less =
      record {
        lasts = inr (omega (arith, ok.before, ok.below));
        links = λ q h l. (λ e. omega (arith, ok.below, e), λ e. omega (arith, ok.below, e));
      }

  class_spared : (place p : ℕ) → x.start ≤ p → p < x.end → Spared c n x.start place (c.classes + row_of s₀ c p)
  class_spared place p h less =
      let row : row_of s₀ c p < n = ok.rows p h less in
      record {
        lasts = inl (omega (arith, row, ok.apart));
        links = λ q m l. (λ e. omega (arith, row, ok.apart, ok.before, e), λ e. omega (arith, row, ok.apart, ok.before, e));
      }

  pub classes_same : (place : ℕ) (s : List ℕ) → ((k : ℕ) → Spared c n x.start place k → get_or s k 0 ≡ get_or s₀ k 0) → place - x.start ≤ x.end - x.start
      → (p : ℕ) → x.start ≤ p → p < x.end → class_at s c p ≡ class_at s₀ c p
  classes_same place s frame within p h less =
      ap (λ (r : ℕ). get_or s (c.classes + r) 0) (frame _ (row_spared place p within less)) ∙ frame _ (class_spared place p h less)

  pub under_none : Under x.start s₀
  under_none = record { long = refl; frame = λ k spared. refl; chained = chained_none _ _ _ _ _ _ }

  -- a place more: t is s but for one link of a place up to this one
  module _ (place : ℕ) (low : x.start ≤ place) (less : place < x.end) {s : List ℕ} (sofar : Under place s)
      (t : List ℕ) (b first : ℕ) (from : x.start ≤ b) (upto : b ≤ place) (long : length t ≡ length s)
      (other : (k : ℕ) → (k ≡ c.links + 4 * b → ⊥) → get_or t k 0 ≡ get_or s k 0) where
    abbrev class : ℕ
    class = class_at s₀ c place

    abbrev after : List ℕ
    after = end_words t c x place class first

    small : class < n
    small = class_small place low less

    room : c.links + 4 * place + 1 < length t
    room = omega (arith, ok.below, ok.inside, long, sofar.long)

    apart : c.lasts + class < c.links
    apart = omega (arith, small, ok.before)

    kept : (k : ℕ) → (k ≡ c.links + 4 * b → ⊥) → (k ≡ c.lasts + class → ⊥) → (k ≡ c.links + 4 * place → ⊥) → (k ≡ c.links + 4 * place + 1 → ⊥)
        → get_or after k 0 ≡ get_or s k 0
    kept k l a m d = end_other t c x place class first k a m d ∙ other k l

    after_long : length after ≡ length s₀
    after_long = end_long t c x place class first ∙ long ∙ sofar.long

    after_frame : (k : ℕ) → Spared c n x.start (place + 1) k → get_or after k 0 ≡ get_or s₀ k 0
    after_frame k spared =
        kept k (spared.links b from (omega arith)).0
        (λ e. ⊎_elim (λ l. omega (arith, l, e)) (λ l. omega (arith, l, e, small)) spared.lasts)
        (spared.links place low (omega arith)).0
        (spared.links place low (omega arith)).1
        ∙ sofar.frame k (record { lasts = spared.lasts; links = λ p h l. spared.links p h (omega arith) })

    after_turned : Turned (λ p. class_at s₀ c p) x.start x.end place (λ p. first_at s c p) (λ k. last_of s c k) (λ p. next_at after c p) (λ p. first_at after c p) (λ k. last_of after c k)
    after_turned = record {
      here = end_next t c x place class first room apart;
      kept = λ p h l. kept _ (omega arith) (omega (arith, apart)) (omega arith) (omega arith);
      marked = end_last t c x place class first room apart;
      others = λ p h l ne.
          let little : class_at s₀ c p < n = class_small p h (omega arith) in
          kept _ (omega (arith, little, ok.before)) (λ e. ne (omega (arith, e))) (omega (arith, little, ok.before)) (omega (arith, little, ok.before));
    }

    next_kept : (p : ℕ) → x.start ≤ p → p < place → (p ≡ b → ⊥) → next_at after c p ≡ next_at s c p
    next_kept p h l ne = kept _ (λ e. ne (omega (arith, e))) (omega (arith, apart)) (omega arith) (omega arith)

    first_here : first_at after c place ≡ first
    first_here = end_first t c x place class first room apart

  pub under_more : (place : ℕ) → x.start ≤ place → place < x.end → {s : List ℕ} → Under place s → Under (place + 1) (link_words s c x place)
  unfolding link_words join_words
  under_more place low less {s} sofar =
      let same : class_at s c place ≡ class_at s₀ c place = classes_same place s sofar.frame (omega arith) place low less in
      subst (λ (k : ℕ). Under (place + 1) (cond (is_earlier s c x (last_of s c k) place k) (join_words s c x (last_of s c k) place k) (end_words s c x place k place))) (sym same)
      (go (is_earlier s c x b place class₀) refl)
    where
      class₀ : ℕ
      class₀ = class_at s₀ c place

      b : ℕ
      b = last_of s c class₀

      classes : (p : ℕ) → x.start ≤ p → p < x.end → class_at s c p ≡ class_at s₀ c p
      classes = classes_same place s sofar.frame (omega arith)

      joined : is_earlier s c x b place class₀ ≡ true → Under (place + 1) (join_words s c x b place class₀)
      joined e =
          let look = earlier_holds s c x b place class₀ e in
          let from : x.start ≤ b = look.0 in
          let before : b < place = look.1 in
          let t = set s (c.links + 4 * b) place in
          let first = first_at s c b in
          let upto : b ≤ place = omega (arith, before) in
          let long : length t ≡ length s = length-set s (c.links + 4 * b) place in
          let other : (k : ℕ) → (k ≡ c.links + 4 * b → ⊥) → get_or t k 0 ≡ get_or s k 0 = λ k ne. get_or-set_other s (c.links + 4 * b) k place 0 ne in
          let alike : class_at s₀ c b ≡ class₀ = sym (classes b from (omega (arith, before, less))) ∙ look.2 in
          let small : class₀ < n = class_small place low less in
          let led : next_at (end_words t c x place class₀ first) c b ≡ place =
          end_other t c x place class₀ first (c.links + 4 * b) (omega (arith, small, ok.before)) (omega (arith, before)) (omega (arith, before))
          ∙ get_or-set_same s (c.links + 4 * b) place 0 (omega (arith, before, ok.below, ok.inside, sofar.long)) in
          record {
            long = after_long place low less sofar t b first from upto long other;
            frame = after_frame place low less sofar t b first from upto long other;
            chained = chained_joined (λ p. class_at s₀ c p) x.start x.end place low sofar.chained (after_turned place low less sofar t b first from upto long other)
                from before alike led (next_kept place low less sofar t b first from upto long other) (first_here place low less sofar t b first from upto long other);
          }

      begun : is_earlier s c x b place class₀ ≡ false → Under (place + 1) (end_words s c x place class₀ place)
      begun e =
          let stale : x.start ≤ b → b < place → class_at s₀ c b ≡ class₀ → ⊥ = λ h l alike. earlier_fails s c x b place class₀ e h l (classes b h (omega (arith, l, less)) ∙ alike) in
          record {
            long = after_long place low less sofar s place place low (omega arith) refl (λ k _. refl);
            frame = after_frame place low less sofar s place place low (omega arith) refl (λ k _. refl);
            chained = chained_begun (λ p. class_at s₀ c p) x.start x.end place low sofar.chained (after_turned place low less sofar s place place low (omega arith) refl (λ k _. refl))
                stale (λ p h l. next_kept place low less sofar s place place low (omega arith) refl (λ k _. refl) p h l (omega arith)) (first_here place low less sofar s place place low (omega arith) refl (λ k _. refl));
          }

      go : (answer : Bool) → is_earlier s c x b place class₀ ≡ answer → Under (place + 1) (cond answer (join_words s c x b place class₀) (end_words s c x place class₀ place))
      go true e = joined e
      go false e = begun e

  -- all places are linked
  pub under_linked : {place : ℕ} {s : List ℕ} → Under place s → x.start ≤ place → place - x.start ≤ x.end - x.start → x.end ≤ place → Linked s c x
  under_linked {place} {s} all low within done = record {
    next = λ p h less.
        let is : x.end ≡ place = omega arith in
        chained_next _ _ _ all.chained p h less is ∙ seek_cong _ _ (p + 1) x.end (λ q m l. sym (tests q p (omega arith) l h less));
    first = λ p h less. all.chained.firsts p h (omega arith) ∙ seek_cong _ _ x.start p (λ q m l. sym (tests q p m (omega arith) h less));
  }
    where
      same : (p : ℕ) → x.start ≤ p → p < x.end → class_at s c p ≡ class_at s₀ c p
      same = classes_same place s all.frame within

      tests : (q p : ℕ) → x.start ≤ q → q < x.end → x.start ≤ p → p < x.end → eqb (class_at s c q) (class_at s c p) ≡ eqb (class_at s₀ c q) (class_at s₀ c p)
      tests q p m l h less = rw (same q m l, same p h less)

  pub under_frame : {place : ℕ} {s : List ℕ} → Under place s → x.start ≤ place → place - x.start ≤ x.end - x.start → (k : ℕ) → Spared c n x.start x.end k
      → get_or s k 0 ≡ get_or s₀ k 0
  under_frame all low within k spared = all.frame k (record { lasts = spared.lasts; links = λ p h l. spared.links p h (omega arith) })

-- what the loop does: a turn, and its end
pub under_turn : {s₀ : List ℕ} {n : ℕ} {c : Chain} {x : Span} (ok : Linkable s₀ n c x) (place : ℕ) → x.start ≤ place → place < x.end → {s s' : List ℕ}
    → s' ≡ link_words s c x place → Under ok place s → Under ok (place + 1) s'
under_turn ok place low less e sofar = rw e (under_more ok place low less sofar)

pub under_all : {s₀ s : List ℕ} {c : Chain} {x : Span} {place : ℕ} → x.start ≤ place → place - x.start ≤ x.end - x.start → x.end ≤ place → length s ≡ length s₀
    → ((n : ℕ) (ok : Linkable s₀ n c x) → Under ok place s) → Links s₀ s c x
under_all low within done long all = record {
  long = long;
  linked = λ n ok. under_linked ok (all n ok) low within done;
  frame = λ n ok. under_frame ok (all n ok) low within;
}

-- ---- going along links

-- where rows, classes and links of the list are the same, it is linked as before
pub linked_frame : {s s'' : List ℕ} {c : Chain} {x : Span}
    → ((p : ℕ) → x.start ≤ p → p < x.end → row_of s'' c p ≡ row_of s c p)
    → ((p : ℕ) → x.start ≤ p → p < x.end → get_or s'' (c.classes + row_of s c p) 0 ≡ class_at s c p)
    → ((p : ℕ) → x.start ≤ p → p < x.end → (next_at s'' c p ≡ next_at s c p) × (first_at s'' c p ≡ first_at s c p))
    → Linked s c x → Linked s'' c x
linked_frame {s} {s''} {c} {x} rows classes links linked = record {
  next = λ p h less. (links p h less).0 ∙ linked.next p h less ∙ seek_cong _ _ (p + 1) x.end (λ q m l. tests q p (omega arith) l h less);
  first = λ p h less. (links p h less).1 ∙ linked.first p h less ∙ seek_cong _ _ x.start p (λ q m l. tests q p m (omega arith) h less);
}
  where
    same : (p : ℕ) → x.start ≤ p → p < x.end → class_at s'' c p ≡ class_at s c p
    same p h less = ap (λ (r : ℕ). get_or s'' (c.classes + r) 0) (rows p h less) ∙ classes p h less

    tests : (q p : ℕ) → x.start ≤ q → q < x.end → x.start ≤ p → p < x.end → eqb (class_at s c q) (class_at s c p) ≡ eqb (class_at s'' c q) (class_at s'' c p)
    tests q p m l h less = rw (same q m l, same p h less)
