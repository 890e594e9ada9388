-- One row done, by its kind, and rows in order: `Steps` for each way out of `expand_selection`, and for its loop.
-- Assumes what `Steps` does.
use mathlib.Core.Path.{◌≡◌, refl, sym, ap, ◌∙◌}
use mathlib.Core.Logic.{◌⊎◌, inl, inr, ⊎_elim}
use mathlib.Core.Bool.{Bool, true, false, cond, ◌||◌}
use mathlib.Core.List.{List, [], ◌∷◌, ◌++◌, append-nil, append_assoc}
use Prim.Native.Nat.{ℕ, ◌+◌, ◌-◌, ◌≤◌, ◌<◌}
use native.Mathlib.Numerals.{add-one}
use native.Mathlib.Omega.{arith}
use borrow.Author.Tests.{eq-eqb, ne_eqb, eqb-true, eqb-false}
use lib.Dec.{eqb}
use lib.ListN.{length, get_or, set, length-append, length-set}
use lib.Seq.{get_or-set_same, get_or-set_other}
use Rattle.lists.specs.Part.{Stores, Outside}
use Rattle.lists.proofs.Parts.{stores_length, stores_kept, pushed, set_outside}
use Rattle.merge_theory.specs.Lists.{filter, is_in}
use Rattle.merge_theory.specs.Document.{field, spread, inline, Document, is_field, set_of}
use Rattle.merge_theory.specs.Expand.{queued, marked}
use Rattle.merge_theory.proofs.ListLaws.{head_in, in_left, in_right}
use Rattle.merge_theory.proofs.QueueLaws.{queued_append, marked_append}
use Rattle.merge_theory.proofs.Loops.{filter_append}
use Rattle.tables.specs.declared.Range.{Range}
use Rattle.tables.specs.Layout.{operations, fragments, sets, selections}
use Rattle.tables.specs.Image.{count_at, row_in}
use Rattle.tables.specs.Columns as columns
use Rattle.tables.specs.Columns.{selection_kind, selection_target, fragment_set}
use Rattle.tables.specs.Good.{Good}
use Rattle.tables.proofs.Counts.{few_rows}
use Rattle.tables.proofs.Ranges.{row_in_lem}
use Rattle.expand.specs.declared.Area.{Area}
use Rattle.expand.specs.declared.Expansion.{Expansion}
use Rattle.expand.specs.ImageDocument.{up_from}
use Rattle.expand.specs.Expanding.{has_room, queue_next, queue_words, list_next, list_words, is_marked, fragment_next, fragment_words, AreaFor, MarksBelow, Framed, Fresh}
use Rattle.expand.specs.ExpandSteps.{Task, document_of, Shows, Steps}
use Rattle.expand.proofs.OnceLaws.{once_left}
use Rattle.expand.proofs.DocumentLaws.{field_kind, spread_kind, inline_kind, spread_set, inline_set, fragment_set_is, up_snoc}
use Rattle.expand.proofs.QueueRows.{true_or_false, queued_field, marked_field, queued_inline, marked_inline, queued_again, queued_new, marked_spread, queue_of, queue_fits, list_fits}
use Rattle.expand.proofs.ExpandedLaws.{queue_next_lem, queue_words_lem, listed_further}

-- ---- frames

module _ {image : List ℕ} {area : Area} where
  pub framed_none : (s : List ℕ) (n : ℕ) → Framed image area s s n n
  framed_none s n = record { long = refl; parents = λ k h. refl; links = λ k h l. refl; known = λ k h l. refl; beyond = λ k h. refl }

  -- a word of the marks or the queue
  framed_inner : {s s' : List ℕ} {at : ℕ} (n : ℕ) → area.marks ≤ at → at < area.end → area.end ≤ area.store → Outside at 1 s s' → Framed image area s s' n n
  framed_inner n above below ordered o = record {
    long = o.long;
    parents = λ k h. o.below k (omega arith);
    links = λ k h l. o.above k (omega arith);
    known = λ k h l. o.above k (omega arith);
    beyond = λ k h. o.above k (omega arith);
  }

  -- the word at the list's end
  framed_last : {s s' : List ℕ} (n : ℕ) → area.marks ≤ area.store → Outside (area.store + n) 1 s s' → Framed image area s s' n (n + 1)
  framed_last n h o = record {
    long = o.long;
    parents = λ k l. o.below k (omega arith);
    links = λ k l m. o.below k (omega arith);
    known = λ k l m. o.below k (omega arith);
    beyond = λ k l. o.above k (omega arith);
  }

  pub framed_trans : {s s' s'' : List ℕ} {a b c : ℕ} → a ≤ b → b ≤ c → Framed image area s s' a b → Framed image area s' s'' b c → Framed image area s s'' a c
  framed_trans p q f g = record {
    long = g.long ∙ f.long;
    parents = λ k h. g.parents k h ∙ f.parents k h;
    links = λ k h l. g.links k h l ∙ f.links k h l;
    known = λ k h l. g.known k h (omega arith) ∙ f.known k h l;
    beyond = λ k h. g.beyond k h ∙ f.beyond k (omega arith);
  }

-- ---- marks

module _ (image : List ℕ) (area : Area) where
  -- the marks of this number are those of the fragments seen
  abbrev pub Seen : List ℕ → ℕ → List ℕ → Type 0
  Seen s number seen = (j : ℕ) → j < count_at image fragments → eqb (get_or s (area.marks + j) 0) number ≡ is_in (count_at image operations + j) seen

  module _ (s : List ℕ) (number : ℕ) (seen : List ℕ) (j : ℕ) where
    or_either : (a b : Bool) → (a ≡ true → b ≡ true) → b ≡ (a || b)
    or_either true b h = h refl
    or_either false b h = refl

    -- a fragment seen before
    pub seen_again : Seen s number seen → is_in (count_at image operations + j) seen ≡ true → Seen s number ((count_at image operations + j) ∷ seen)
    unfolding is_in
    seen_again h before k less =
        h k less
        ∙ or_either (eqb (count_at image operations + k) (count_at image operations + j)) (is_in (count_at image operations + k) seen)
        (λ same. ap (λ (u : ℕ). is_in u seen) (eqb-true (count_at image operations + k) (count_at image operations + j) same) ∙ before)

    pub seen_new : Seen s number seen → area.marks + j < length s → Seen (set s (area.marks + j) number) number ((count_at image operations + j) ∷ seen)
    unfolding is_in
    seen_new h inside k less = ⊎_elim this other (true_or_false (eqb k j))
      where
        this : eqb k j ≡ true → eqb (get_or (set s (area.marks + j) number) (area.marks + k) 0) number
            ≡ (eqb (count_at image operations + k) (count_at image operations + j) || is_in (count_at image operations + k) seen)
        this e =
            let same = eqb-true k j e in
            rw (same, get_or-set_same s (area.marks + j) number 0 inside, eq-eqb number number refl, eq-eqb (count_at image operations + j) (count_at image operations + j) refl)

        other : eqb k j ≡ false → eqb (get_or (set s (area.marks + j) number) (area.marks + k) 0) number
            ≡ (eqb (count_at image operations + k) (count_at image operations + j) || is_in (count_at image operations + k) seen)
        other e =
            let differ = eqb-false k j e in
            let apart : count_at image operations + k ≡ count_at image operations + j → ⊥ = λ q. differ (omega arith) in
            rw (get_or-set_other s (area.marks + j) (area.marks + k) number 0 (λ q. differ (omega arith)), ne_eqb (count_at image operations + k) (count_at image operations + j) apart) (h k less)

-- ---- what a row adds, in the theory's terms

module _ (D : Document) (before : List ℕ) (r : ℕ) where
  pub record Adds (sets seen fields : List ℕ) : Type 0 where
    pub queue : queued D [] (before ++ (r ∷ [])) ≡ queued D [] before ++ sets
    pub marks : marked D [] (before ++ (r ∷ [])) ≡ seen
    pub list : filter (λ q. is_field (D.kind_of q)) (before ++ (r ∷ [])) ≡ filter (λ q. is_field (D.kind_of q)) before ++ fields

  adds : {sets seen fields : List ℕ} → queued D (marked D [] before) (r ∷ []) ≡ sets → marked D (marked D [] before) (r ∷ []) ≡ seen
      → filter (λ q. is_field (D.kind_of q)) (r ∷ []) ≡ fields → Adds sets seen fields
  adds q m f = record {
    queue = queued_append D [] before (r ∷ []) ∙ ap (λ (l : List ℕ). queued D [] before ++ l) q;
    marks = marked_append D [] before (r ∷ []) ∙ m;
    list = filter_append (λ q. is_field (D.kind_of q)) before (r ∷ []) ∙ ap (λ (l : List ℕ). filter (λ q. is_field (D.kind_of q)) before ++ l) f;
  }

  one_field : D.kind_of r ≡ field → filter (λ q. is_field (D.kind_of q)) (r ∷ []) ≡ r ∷ []
  unfolding filter
  one_field e = rw e

  no_field : (D.kind_of r ≡ spread) ⊎ (D.kind_of r ≡ inline) → filter (λ q. is_field (D.kind_of q)) (r ∷ []) ≡ []
  unfolding filter
  no_field (inl e) = rw e
  no_field (inr e) = rw e

  pub adds_field : D.kind_of r ≡ field → Adds [] (marked D [] before) (r ∷ [])
  unfolding queued marked
  adds_field e = adds (queued_field D r _ [] e) (marked_field D r _ [] e) (one_field e)

  module _ {u : ℕ} (one : set_of D r ≡ u ∷ []) where
    pub adds_inline : D.kind_of r ≡ inline → Adds (u ∷ []) (marked D [] before) []
    unfolding queued marked
    adds_inline e = adds (queued_inline D r _ [] one e) (marked_inline D r _ [] one e) (no_field (inr e))

    pub adds_again : D.kind_of r ≡ spread → is_in u (marked D [] before) ≡ true → Adds [] (u ∷ marked D [] before) []
    unfolding queued marked
    adds_again e h = adds (queued_again D r _ [] one e h) (marked_spread D r _ [] one e) (no_field (inl e))

    pub adds_new : D.kind_of r ≡ spread → is_in u (marked D [] before) ≡ false → Adds (u ∷ []) (u ∷ marked D [] before) []
    unfolding queued marked
    adds_new e h = adds (queued_new D r _ [] one e h) (marked_spread D r _ [] one e) (no_field (inl e))

-- ---- what stands in the words after the row

fresh_left : {image : List ℕ} (before rows : List ℕ) → Fresh image (before ++ rows) → Fresh image before
fresh_left before rows f = record { inside = λ r m. f.inside r (in_left rows m); once = once_left before rows f.once }

fresh_last : {image : List ℕ} (before : List ℕ) (r : ℕ) → Fresh image (before ++ (r ∷ [])) → r < count_at image selections
fresh_last before r f = f.inside r (in_right before head_in)

module _ {image : List ℕ} {area : Area} where
  -- a change behind the marks' region leaves the marks
  module _ (region : AreaFor image area) {at n : ℕ} {s s' : List ℕ} (o : Outside at n s s') (behind : area.queue ≤ at) where
    mark_kept : (j : ℕ) → j < count_at image fragments → get_or s' (area.marks + j) 0 ≡ get_or s (area.marks + j) 0
    mark_kept j h = o.below (area.marks + j) (omega (arith, region.queue))

    seen_kept : (number : ℕ) (seen : List ℕ) → Seen image area s number seen → Seen image area s' number seen
    seen_kept number seen h j less = ap (λ (v : ℕ). eqb v number) (mark_kept j less) ∙ h j less

    marks_kept : (n : ℕ) → MarksBelow image area s n → MarksBelow image area s' n
    marks_kept n h j less = rw (mark_kept j less) (h j less)

  module _ (t : Task image area) (before : List ℕ) (r : ℕ) (fresh : Fresh image (before ++ (r ∷ []))) (s : List ℕ) (x : Expansion)
      (at : Shows image area t before s x) where
    abbrev D : Document
    D = document_of image area t

    abbrev fields : List ℕ
    fields = filter (λ q. is_field (D.kind_of q)) before

    region : AreaFor image area
    region = t.regions

    queue_held : x.queued ≤ count_at image sets
    queue_held = omega (arith, stores_length at.queue, queue_fits t before (fresh_left before (r ∷ []) fresh))

    -- a set that the row adds finds room in the queue
    queue_room : {u : ℕ} {seen list : List ℕ} → Adds D before r (u ∷ []) seen list → area.queue + x.queued < area.end
    queue_room {u} a =
        let all : length (t.starts ++ queued D [] (before ++ (r ∷ []))) ≤ count_at image sets = queue_fits t (before ++ (r ∷ [])) fresh in
        let most : length t.starts + (length (queued D [] before) + 1) ≤ count_at image sets = simp (a.queue, length-append) at all in
        let now : length t.starts + length (queued D [] before) ≡ x.queued = simp length-append at (stores_length at.queue) in
        omega (arith, region.end)

    -- and a field in the store
    list_room : {sets seen : List ℕ} → Adds D before r sets seen (r ∷ []) → x.listed < t.from + count_at image selections
    list_room a =
        let all : length (filter (λ q. is_field (D.kind_of q)) (before ++ (r ∷ []))) ≤ count_at image selections = list_fits t (before ++ (r ∷ [])) fresh _ in
        let most : length fields + 1 ≤ count_at image selections = simp (a.list, length-append) at all in
        omega (arith, stores_length at.list, at.ahead)

    shows_next : {sets seen list : List ℕ} {q l : ℕ} {s' : List ℕ} → Adds D before r sets seen list
        → Stores s' area.queue q (queue_of t before ++ sets) → t.from ≤ l → Stores s' (area.store + t.from) (l - t.from) (fields ++ list)
        → Seen image area s' x.number seen → MarksBelow image area s' (x.number + 1) → length s' ≡ length s
        → Shows image area t (before ++ (r ∷ [])) s' (record { queued = q; listed = l; number = x.number })
    shows_next {sets} a queue ahead list seen marks long = record {
      number = at.number;
      queue = rw (a.queue, ← append_assoc t.starts (queued D [] before) sets) queue;
      ahead = ahead;
      list = rw a.list list;
      seen = rw a.marks seen;
      marks = marks;
      room = rw long at.room;
    }

    -- a field is listed
    field_shows : Adds D before r [] (marked D [] before) (r ∷ [])
        → Shows image area t (before ++ (r ∷ [])) (set s (area.store + x.listed) r) (record { queued = x.queued; listed = x.listed + 1; number = x.number })
    field_shows a =
        let place : area.store + t.from + (x.listed - t.from) ≡ area.store + x.listed = omega (arith, at.ahead) in
        let count : x.listed - t.from + 1 ≡ x.listed + 1 - t.from = omega (arith, at.ahead) in
        let o = set_outside s (area.store + x.listed) r in
        let inside : area.store + t.from + (x.listed - t.from) < length s = omega (arith, list_room a, at.room) in
        let behind : area.queue ≤ area.store + x.listed = omega (arith, region.end, region.store) in
        let clear : area.queue + x.queued ≤ area.store + x.listed = omega (arith, queue_held, region.end, region.store) in
        shows_next a (rw (append-nil (queue_of t before)) (stores_kept o at.queue (inl clear))) (omega (arith, at.ahead))
        (rw (← count, ← place) ((pushed s (area.store + t.from) (x.listed - t.from) r inside).words fields at.list))
        (seen_kept region o behind _ _ at.seen) (marks_kept region o behind _ at.marks) o.long

    -- the words of a queued set: s₁ is s, but for a mark
    queue_shows : {u : ℕ} {seen : List ℕ} {s₁ : List ℕ} → Adds D before r (u ∷ []) seen [] → length s₁ ≡ length s
        → Stores s₁ area.queue x.queued (queue_of t before) → Stores s₁ (area.store + t.from) (x.listed - t.from) fields
        → Seen image area s₁ x.number seen → MarksBelow image area s₁ (x.number + 1)
        → Shows image area t (before ++ (r ∷ [])) (set s₁ (area.queue + x.queued) u) (record { queued = x.queued + 1; listed = x.listed; number = x.number })
    queue_shows {u} {seen} {s₁} a long queue list marked below =
        let room = queue_room a in
        let o = set_outside s₁ (area.queue + x.queued) u in
        let inside : area.queue + x.queued < length s₁ = omega (arith, at.room, region.store) in
        let behind : area.queue ≤ area.queue + x.queued = omega arith in
        let clear : area.queue + x.queued + 1 ≤ area.store + t.from = omega (arith, region.store) in
        shows_next a ((pushed s₁ area.queue x.queued u inside).words (queue_of t before) queue) at.ahead
        (rw (append-nil fields) (stores_kept o list (inr clear)))
        (seen_kept region o behind _ _ marked) (marks_kept region o behind _ below) (o.long ∙ long)

    inline_shows : {u : ℕ} → Adds D before r (u ∷ []) (marked D [] before) []
        → Shows image area t (before ++ (r ∷ [])) (set s (area.queue + x.queued) u) (record { queued = x.queued + 1; listed = x.listed; number = x.number })
    inline_shows a = queue_shows a refl at.queue at.list at.seen at.marks

    module _ (j : ℕ) (less : j < count_at image fragments) where
      again_shows : Adds D before r [] ((count_at image operations + j) ∷ marked D [] before) [] → is_in (count_at image operations + j) (marked D [] before) ≡ true
          → Shows image area t (before ++ (r ∷ [])) s x
      again_shows a h =
          shows_next a (rw (append-nil (queue_of t before)) at.queue) at.ahead (rw (append-nil fields) at.list)
          (seen_again image area s x.number (marked D [] before) j at.seen h) at.marks refl

      mark_below : MarksBelow image area (set s (area.marks + j) x.number) (x.number + 1)
      mark_below k h =
          ⊎_elim (λ e.
          let same : area.marks + k ≡ area.marks + j = ap (λ (i : ℕ). area.marks + i) (eqb-true k j e) in
          let here : area.marks + j < length s = omega (arith, at.room, region.queue, region.end, region.store) in
          rw (same, get_or-set_same s (area.marks + j) x.number 0 here) (omega arith))
          (λ e.
          let differ = eqb-false k j e in
          rw (get_or-set_other s (area.marks + j) (area.marks + k) x.number 0 (λ q. differ (omega arith))) (at.marks k h))
          (true_or_false (eqb k j))

      new_shows : Adds D before r ((count_at image operations + j) ∷ []) ((count_at image operations + j) ∷ marked D [] before) []
          → Shows image area t (before ++ (r ∷ [])) (set (set s (area.marks + j) x.number) (area.queue + x.queued) (count_at image operations + j))
          (record { queued = x.queued + 1; listed = x.listed; number = x.number })
      new_shows a =
          let o = set_outside s (area.marks + j) x.number in
          let here : area.marks + j < length s = omega (arith, at.room, region.queue, region.end, region.store) in
          let before-queue : area.marks + j + 1 ≤ area.queue = omega (arith, region.queue) in
          let before_list : area.marks + j + 1 ≤ area.store + t.from = omega (arith, region.queue, region.end, region.store) in
          queue_shows a o.long (stores_kept o at.queue (inr before-queue)) (stores_kept o at.list (inr before_list))
          (seen_new image area s x.number (marked D [] before) j at.seen here) mark_below

-- ---- a law for each way out of `expand_selection`

length_cond : (b : Bool) (s s' : List ℕ) → length s' ≡ length s → length (cond b s' s) ≡ length s
length_cond true s s' h = h
length_cond false s s' h = refl

pub length_queue : (area : Area) (x : Expansion) (s : List ℕ) (u : ℕ) → length (queue_words area x s u) ≡ length s
unfolding queue_words
length_queue area x s u = length_cond (has_room area x) s (set s (area.queue + x.queued) u) (length-set s (area.queue + x.queued) u)

length_unless : (b : Bool) (s s' : List ℕ) → length s' ≡ length s → length (cond b s s') ≡ length s
length_unless true s s' h = refl
length_unless false s s' h = h

module _ (area : Area) (x : Expansion) (s : List ℕ) (j u : ℕ) where
  pub length_fragment : length (fragment_words area x s j u) ≡ length s
  unfolding fragment_words
  length_fragment =
      length_unless (is_marked area x s j) s (queue_words area x (set s (area.marks + j) x.number) u)
      (length_queue area x (set s (area.marks + j) x.number) u ∙ length-set s (area.marks + j) x.number)

  fragment_again : is_marked area x s j ≡ true → (fragment_next area x s j ≡ x) × (fragment_words area x s j u ≡ s)
  unfolding fragment_next fragment_words
  fragment_again h = (rw h, rw h)

  fragment_new : is_marked area x s j ≡ false → area.queue + x.queued < area.end
      → (fragment_next area x s j ≡ record { queued = x.queued + 1; listed = x.listed; number = x.number })
      × (fragment_words area x s j u ≡ set (set s (area.marks + j) x.number) (area.queue + x.queued) u)
  unfolding fragment_next fragment_words
  fragment_new h room =
      (rw h (queue_next_lem area x s u room), rw h (queue_words_lem area x (set s (area.marks + j) x.number) u room))

module _ (image : List ℕ) (area : Area) (r : ℕ) (s : List ℕ) (x : Expansion) where
  -- from laws of the row by its kind, where the words and the state are those of a definition
  step : {s' : List ℕ} {x' : Expansion} → length s' ≡ length s
      → ((t : Task image area) (before : List ℕ) → Fresh image (before ++ (r ∷ [])) → Shows image area t before s x
      → Shows image area t (before ++ (r ∷ [])) s' x' × Framed image area s s' x.listed x'.listed)
      → Steps image area (r ∷ []) s s' x x'
  step long both = record {
    long = long;
    shows = λ t before fresh at. (both t before fresh at).0;
    frame = λ t before fresh at. (both t before fresh at).1;
  }

  pub step_field : {s' : List ℕ} {x' : Expansion} → selection_kind image r ≡ columns.field → x' ≡ list_next x → s' ≡ list_words area x s r
      → Steps image area (r ∷ []) s s' x x'
  unfolding list_words
  step_field kind next words =
      rw (next, words) (step (length-set s (area.store + x.listed) r) λ t before fresh at.
      let region = t.regions in
      let a = adds_field (document_of image area t) before r (field_kind t.good t.same_shape t.same_arguments r kind) in
      let room = list_room t before r fresh s x at a in
      let below : x.listed < 4294967295 = omega (arith, t.small) in
      let ordered : area.marks ≤ area.store = omega (arith, region.queue, region.end, region.store) in
      rw (← listed_further x below) (field_shows t before r fresh s x at a, framed_last x.listed ordered (set_outside s (area.store + x.listed) r)))

  pub step_inline : {s' : List ℕ} {x' : Expansion} {u : ℕ} → selection_kind image r ≡ columns.inline → u ≡ selection_target image r
      → x' ≡ queue_next area x → s' ≡ queue_words area x s u → Steps image area (r ∷ []) s s' x x'
  step_inline kind e next words =
      rw (next, words, e) (step (length_queue area x s (selection_target image r)) λ t before fresh at.
      let region = t.regions in
      let own = (t.good.selection r (fresh_last before r fresh)).inline_owned kind in
      let one = inline_set t.good t.same_shape t.same_arguments r kind own in
      let a = adds_inline (document_of image area t) before r one (inline_kind t.good t.same_shape t.same_arguments r kind) in
      let room = queue_room t before r fresh s x at a in
      let above : area.marks ≤ area.queue + x.queued = omega (arith, region.queue) in
      rw (queue_next_lem area x s (selection_target image r) room, queue_words_lem area x s (selection_target image r) room)
      (inline_shows t before r fresh s x at a, framed_inner x.listed above room (omega (arith, region.store)) (set_outside s (area.queue + x.queued) (selection_target image r))))

  -- a spread whose fragment is j
  spread_next : (t : Task image area) (before : List ℕ) → Fresh image (before ++ (r ∷ [])) → Shows image area t before s x
      → selection_kind image r ≡ columns.spread → (j : ℕ) → selection_target image r ≡ j
      → Shows image area t (before ++ (r ∷ [])) (fragment_words area x s j (fragment_set image j)) (fragment_next area x s j)
      × Framed image area s (fragment_words area x s j (fragment_set image j)) x.listed (fragment_next area x s j).listed
  spread_next t before fresh at kind j e = ⊎_elim again new (true_or_false (is_in (count_at image operations + j) (marked D [] before)))
    where
      D : Document
      D = document_of image area t

      Next : Type 0
      Next = Shows image area t (before ++ (r ∷ [])) (fragment_words area x s j (fragment_set image j)) (fragment_next area x s j)
          × Framed image area s (fragment_words area x s j (fragment_set image j)) x.listed (fragment_next area x s j).listed

      region : AreaFor image area
      region = t.regions

      less : j < count_at image fragments
      less = omega (arith, (t.good.selection r (fresh_last before r fresh)).spread_target kind)

      one : set_of D r ≡ (count_at image operations + j) ∷ []
      one = rw (← e) (spread_set t.good t.same_shape t.same_arguments r kind ((t.good.selection r (fresh_last before r fresh)).spread_target kind))

      again : is_in (count_at image operations + j) (marked D [] before) ≡ true → Next
      again h =
          let a = adds_again D before r one (spread_kind t.good t.same_shape t.same_arguments r kind) h in
          let same = fragment_again area x s j (fragment_set image j) (at.seen j less ∙ h) in
          rw (same.0, same.1) (again_shows t before r fresh s x at j less a h, framed_none s x.listed)

      new : is_in (count_at image operations + j) (marked D [] before) ≡ false → Next
      new h =
          let a = adds_new D before r one (spread_kind t.good t.same_shape t.same_arguments r kind) h in
          let room = queue_room t before r fresh s x at a in
          let now = fragment_new area x s j (fragment_set image j) (at.seen j less ∙ h) room in
          let above : area.marks ≤ area.queue + x.queued = omega (arith, region.queue) in
          let here : area.marks ≤ area.marks + j = omega arith in
          let there : area.marks + j < area.end = omega (arith, less, region.queue, region.end) in
          let ordered : area.end ≤ area.store = omega (arith, region.store) in
          let s₁ = set s (area.marks + j) x.number in
          rw (now.0, now.1, fragment_set_is t.good less) (
            new_shows t before r fresh s x at j less a,
            framed_trans (omega arith) (omega arith) (framed_inner x.listed here there ordered (set_outside s (area.marks + j) x.number))
                (framed_inner x.listed above room ordered (set_outside s₁ (area.queue + x.queued) (count_at image operations + j))),
          )

  pub step_spread : {s' : List ℕ} {x' : Expansion} (j : ℕ) → (selection_kind image r ≡ columns.field → ⊥) → (selection_kind image r ≡ columns.inline → ⊥)
      → j ≡ selection_target image r → x' ≡ fragment_next area x s j → s' ≡ fragment_words area x s j (fragment_set image j)
      → Steps image area (r ∷ []) s s' x x'
  step_spread j no_field no-inline e next words =
      rw (next, words) (step (length_fragment area x s j (fragment_set image j)) λ t before fresh at.
      let row = t.good.selection r (fresh_last before r fresh) in
      let kind : selection_kind image r ≡ columns.spread = omega (arith, row.kind) in
      spread_next t before fresh at kind j (sym e))

-- ---- rows in order

module _ {image : List ℕ} {area : Area} where
  pub steps_none : (s : List ℕ) (x : Expansion) → Steps image area [] s s x x
  steps_none s x = record {
    long = refl;
    shows = λ t before fresh at. rw (append-nil before) at;
    frame = λ t before fresh at. framed_none s x.listed;
  }

  -- the list only grows
  pub listed_grows : {t : Task image area} (before rows : List ℕ) {s s' : List ℕ} {x x' : Expansion} → Shows image area t before s x
      → Shows image area t (before ++ rows) s' x' → x.listed ≤ x'.listed
  listed_grows {t} before rows {s' = s'} {x' = x'} a b =
      let fields = filter (λ q. is_field ((document_of image area t).kind_of q)) in
      let parts = filter_append (λ q. is_field ((document_of image area t).kind_of q)) before rows in
      let whole : length (fields before) + length (fields rows) ≡ x'.listed - t.from = sym (length-append (fields before) (fields rows)) ∙ ap length (sym parts) ∙ stores_length b.list in
      omega (arith, stores_length a.list, a.ahead, b.ahead)

  pub steps_then : {rows more : List ℕ} {s s' s'' : List ℕ} {x x' x'' : Expansion} → Steps image area rows s s' x x' → Steps image area more s' s'' x' x''
      → Steps image area (rows ++ more) s s'' x x''
  steps_then {rows} {more} {s} {s'} {s''} {x} {x'} {x''} a b = record {
    long = b.long ∙ a.long;
    shows = λ t before fresh at. rw (← append_assoc before rows more) (last t before fresh at);
    frame = λ t before fresh at.
        let mid = a.shows t before (front before fresh) at in
        framed_trans (listed_grows before rows at mid) (listed_grows (before ++ rows) more mid (last t before fresh at))
        (a.frame t before (front before fresh) at) (b.frame t (before ++ rows) (whole before fresh) mid);
  }
    where
      whole : (before : List ℕ) → Fresh image (before ++ (rows ++ more)) → Fresh image ((before ++ rows) ++ more)
      whole before fresh = rw (append_assoc before rows more) fresh

      front : (before : List ℕ) → Fresh image (before ++ (rows ++ more)) → Fresh image (before ++ rows)
      front before fresh = fresh_left (before ++ rows) more (whole before fresh)

      last : (t : Task image area) (before : List ℕ) → Fresh image (before ++ (rows ++ more)) → Shows image area t before s x
          → Shows image area t ((before ++ rows) ++ more) s'' x''
      last t before fresh at = b.shows t (before ++ rows) (whole before fresh) (a.shows t before (front before fresh) at)

  -- a row that is read as another: the promise is only of rows of the table
  steps_read : {q r : ℕ} {s s' : List ℕ} {x x' : Expansion} → (Good image → r < count_at image selections → q ≡ r) → Steps image area (q ∷ []) s s' x x'
      → Steps image area (r ∷ []) s s' x x'
  steps_read {q} {r} {s} {s'} {x} {x'} same a = record {
    long = a.long;
    shows = λ t before fresh at. (steps t before fresh).shows t before fresh at;
    frame = λ t before fresh at. (steps t before fresh).frame t before fresh at;
  }
    where
      steps : (t : Task image area) (before : List ℕ) → Fresh image (before ++ (r ∷ [])) → Steps image area (r ∷ []) s s' x x'
      steps t before fresh = rw (same t.good (fresh_last before r fresh)) at a

  -- a turn of the loop over a set's rows
  pub steps_more : (range : Range) (i : ℕ) {row : ℕ} {s s' s'' : List ℕ} {x x' x'' : Expansion} → Steps image area (up_from range.first i) s s' x x'
      → row ≡ row_in range i → Steps image area (row ∷ []) s' s'' x' x'' → Steps image area (up_from range.first (i + 1)) s s'' x x''
  steps_more range i a read b =
      rw (add-one i, up_snoc range.first i)
      (steps_then a (steps_read (λ good h. read ∙ row_in_lem range i (omega (arith, few_rows image good.few selections (omega arith)))) b))

  pub steps_first : (first : ℕ) (s : List ℕ) (x : Expansion) → Steps image area (up_from first 0) s s x x
  unfolding up_from
  steps_first first s x = steps_none s x

  -- all rows of the set, as the code reads it
  pub steps_all : {range range' : Range} {i : ℕ} {s s' : List ℕ} {x x' : Expansion} → range ≡ range' → i ≡ range.count
      → Steps image area (up_from range.first i) s s' x x' → Steps image area (up_from range'.first range'.count) s s' x x'
  steps_all read all a = rw (← read, ← all) a
