-- The laws of queueing the sets of a part's fields, and of the words where a list stands. Assumes nothing.
use mathlib.Core.Path.{◌≡◌, refl, sym, ap, ◌∙◌}
use mathlib.Core.Bool.{Bool, true, false, cond, not, ◌&&◌}
use mathlib.Core.Option.{none, some}
use mathlib.Core.List.{List, [], ◌∷◌, ◌++◌, append-nil, append_assoc}
use Prim.Native.Nat.{ℕ, zero, suc, ◌+◌, ◌-◌, ◌≤◌, ◌<◌}
use native.Mathlib.Omega.{arith}
use lib.Dec.{T, eqb, ltb}
use lib.ListN.{length, length-append}
use borrow.Author.Tests.{ne_eqb, eqb-true}
use Rattle.lists.specs.Part.{Stores, Outside}
use Rattle.lists.proofs.Parts.{outside_none, outside_trans, outside_wider, stores_length}
use Rattle.merge_theory.specs.Lists.{flat_map, filter, keep}
use Rattle.merge_theory.specs.Document.{Document, is_field, listed, set_of, FieldAt, field_at}
use Rattle.merge_theory.specs.Document as kinds
use Rattle.merge_theory.specs.Walk.{has_rows, sets_below}
use Rattle.merge_theory.proofs.Loops.{filter_append, flat_map_append}
use Rattle.tables.specs.Layout.{NONE}
use Rattle.tables.specs.Columns.{field, selection_kind, selection_target, set_selections}
use Rattle.tables.proofs.ColumnLaws.{below_own}
use Rattle.selection.specs.declared.arena.Arena.{Arena}
use Rattle.selection.specs.Regions.{area_of}
use Rattle.selection.specs.declared.arena.Walk as states
use Rattle.lists.specs.declared.Span.{Span}
use Rattle.expand.specs.declared.Expansion.{Expansion}
use Rattle.selection.specs.declared.groups.Segment.{Segment}
use Rattle.selection.specs.declared.groups.Part.{Part}
use Rattle.expand.specs.ImageDocument.{document_by, kind_from, link_from, up_from}
use Rattle.selection.specs.Standing.{Stands}
use Rattle.selection.specs.Places.{row_in, onward}
use Rattle.expand.specs.Expanding.{queue_next, queue_words}
use Rattle.selection.specs.Grouping.{member, belongs, member_place, part_rows, Proper}
use Rattle.selection.specs.Following.{followed}
use Rattle.selection.specs.Refining.{document, Site}
use Rattle.selection.specs.Comparing.{has_set, field_next, field_words, CanQueue, QueuesSegment, QueuesPart}
use Rattle.selection.proofs.PlaceLaws.{Found, found_here}
use Rattle.selection.proofs.PartLaws.{belongs_is, member_found}
use Rattle.selection.proofs.FollowLaws.{follows}
use Rattle.selection.proofs.StandLaws.{row_in_lem, grounded, threaded, site_queue, stands_queue}
use Rattle.expand.proofs.StepLaws.{length_queue}
use Rattle.expand.proofs.ExpandedLaws.{queue_next_lem, queue_stores, queue_outside}

-- ---- the sets of a field

-- a field of the sets at hand is one in the table
pub field_kind_of : (image : List ℕ) {At : ℕ → Type 0} {f : ℕ} → FieldAt (document image) At f → selection_kind image f ≡ field
unfolding document_by kind_from
field_kind_of image {f = f} (field_at a m is) = go (eqb (selection_kind image f) 0) refl is
  where
    other : (b : Bool) → T (is_field (cond b kinds.spread kinds.inline)) → ⊥
    other true t = t
    other false t = t

    go : (b : Bool) → eqb (selection_kind image f) 0 ≡ b → T (is_field (cond b kinds.field (cond (eqb (selection_kind image f) 1) kinds.spread kinds.inline))) → selection_kind image f ≡ field
    go true e t = eqb-true _ _ e
    go false e t = absurd (other (eqb (selection_kind image f) 1) t)

-- a field has its own set, queued if it is not empty
some_rows : (first n : ℕ) → has_rows (up_from first n) ≡ not (eqb n 0)
unfolding up_from
some_rows first zero = refl
some_rows first (suc n) = sym (ap not (ne_eqb (suc n) 0 (λ e. omega arith)))

own_set_lem : (image : List ℕ) (f : ℕ) → selection_kind image f ≡ field → filter (λ t. has_rows ((document image).rows_of t)) (set_of (document image) f) ≡ cond (has_set image f) (selection_target image f ∷ []) []
unfolding set_of document_by link_from has_set filter
own_set_lem image f kind = rw (below_own image f (λ s. omega arith)) (by_none (eqb (selection_target image f) NONE))
  where
    t : ℕ
    t = selection_target image f

    by_empty : (b : Bool) → has_rows (up_from (set_selections image (selection_target image f)).first (set_selections image (selection_target image f)).count) ≡ b
        → keep (has_rows (up_from (set_selections image (selection_target image f)).first (set_selections image (selection_target image f)).count)) (selection_target image f) [] ≡ cond b (selection_target image f ∷ []) []
    by_empty true e = rw e
    by_empty false e = rw e

    by_none : (b : Bool) → filter (λ t. has_rows (up_from (set_selections image t).first (set_selections image t).count)) (listed (cond b none (some (selection_target image f))))
        ≡ cond (not b && not (eqb (set_selections image (selection_target image f)).count 0)) (selection_target image f ∷ []) []
    by_none true = refl
    by_none false = by_empty (not (eqb (set_selections image (selection_target image f)).count 0)) (some_rows (set_selections image (selection_target image f)).first (set_selections image (selection_target image f)).count)

pub field_sets : (image : List ℕ) (f : ℕ) (rest : List ℕ) → selection_kind image f ≡ field
    → sets_below (document image) (f ∷ rest) ≡ cond (has_set image f) (selection_target image f ∷ []) [] ++ sets_below (document image) rest
unfolding sets_below flat_map
field_sets image f rest kind =
    let D = document image in
    filter_append (λ t. has_rows (D.rows_of t)) (set_of D f) (flat_map (set_of D) rest) ∙ ap (λ m. m ++ sets_below D rest) (own_set_lem image f kind)

pub sets_append : (D : Document) (xs ys : List ℕ) → sets_below D (xs ++ ys) ≡ sets_below D xs ++ sets_below D ys
unfolding sets_below
sets_append D xs ys = ap (filter (λ t. has_rows (D.rows_of t))) (flat_map_append (set_of D) xs ys) ∙ filter_append (λ t. has_rows (D.rows_of t)) (flat_map (set_of D) xs) (flat_map (set_of D) ys)

sets_none : (D : Document) → sets_below D [] ≡ []
unfolding sets_below flat_map filter
sets_none D = refl

-- ---- the loop over a segment's fields

pub record QueuedUpto (image : List ℕ) (arena : Arena) (s₀ s : List ℕ) (e : Expansion) (g : Segment) (from place : ℕ) (x : Span) (l sets : List ℕ) : Type 0 where
  pub at : ℕ
  pub low : x.start ≤ at
  pub found : Found (member (document image) g) x l at place (row_in s arena.store place)
  pub before : List ℕ
  pub queue : Stores s arena.queue e.queued before
  pub total : before ++ sets_below (document image) (filter (member (document image) g) (onward x l at)) ≡ sets ++ sets_below (document image) (filter (member (document image) g) (onward x l from))
  pub frame : Outside arena.queue (arena.lasts - arena.queue) s₀ s

pub record Queueing (image : List ℕ) (arena : Arena) (s₀ s : List ℕ) (e₀ e : Expansion) (g : Segment) (from end place : ℕ) : Type 0 where
  pub listed : e.listed ≡ e₀.listed
  pub number : e.number ≡ e₀.number
  pub long : length s ≡ length s₀
  pub upto : (work op : ℕ) (isShape : Bool) (z : states.Walk) (x : Span) (l sets : List ℕ) → x.end ≡ end → x.start ≤ from
      → (from < x.end → member (document image) g (row_in s₀ arena.store from) ≡ true) → Proper (document image) isShape g → CanQueue image arena work op isShape s₀ z x l e₀ sets (filter (member (document image) g) (onward x l from)) → QueuedUpto image arena s₀ s e g from place x l sets

stores_at : {s s' : List ℕ} {at n n' : ℕ} {ws : List ℕ} → s' ≡ s → n' ≡ n → Stores s at n ws → Stores s' at n' ws
stores_at e f r = rw (e, f) r

pub next_listed : (arena : Arena) (x : Expansion) → ((queue_next (area_of arena) x).listed ≡ x.listed) × ((queue_next (area_of arena) x).number ≡ x.number)
unfolding queue_next
next_listed arena x = go (ltb (arena.queue + x.queued) arena.lasts)
  where
    go : (b : Bool) → ((cond b (record { queued = x.queued + 1; listed = x.listed; number = x.number }) x).listed ≡ x.listed) × ((cond b (record { queued = x.queued + 1; listed = x.listed; number = x.number }) x).number ≡ x.number)
    go true = (refl, refl)
    go false = (refl, refl)

module _ {image : List ℕ} {arena : Arena} {s₀ : List ℕ} {e₀ : Expansion} {g : Segment} {from end : ℕ} where
  pub queueing_first : Queueing image arena s₀ s₀ e₀ e₀ g from end from
  queueing_first = record {
    listed = refl;
    number = refl;
    long = refl;
    upto = λ work op isShape z x l sets is low begins proper can. record {
      at = from;
      low = low;
      found = found_here can.stands.rows (member (document image) g) from low begins;
      before = sets;
      queue = can.queue;
      total = refl;
      frame = outside_none _ _ s₀;
    };
  }

  pub queueing_done : {s : List ℕ} {e : Expansion} {place : ℕ} (x : Span) → Queueing image arena s₀ s e₀ e g from end place → end ≤ place → x.end ≡ end
      → QueuesSegment image arena s₀ s e₀ e x g from
  queueing_done x q over is = record {
    listed = q.listed;
    number = q.number;
    long = q.long;
    queues = λ work op isShape z l sets low begins proper can.
        let u = q.upto work op isShape z x l sets is low begins proper can in
        record { queue = rw (← u.total, u.found.over (omega arith), sets_none (document image), append-nil u.before) u.queue; frame = u.frame };
  }

  -- one field more
  module _ {s s' : List ℕ} {e e' : Expansion} {place row : ℕ} (q : Queueing image arena s₀ s e₀ e g from end place) (less : place < end) (is_row : row ≡ row_in s arena.store place)
      (next : e' ≡ field_next image arena e row) (words : s' ≡ field_words image arena e s row) where
    field_listed : (e'.listed ≡ e.listed) × (e'.number ≡ e.number)
    unfolding field_next
    field_listed = rw next (go (has_set image row))
      where
        go : (b : Bool) → ((cond b (queue_next (area_of arena) e) e).listed ≡ e.listed) × ((cond b (queue_next (area_of arena) e) e).number ≡ e.number)
        go true = next_listed arena e
        go false = (refl, refl)

    field_long : length s' ≡ length s
    unfolding field_words
    field_long = rw words (go (has_set image row))
      where
        go : (b : Bool) → length (cond b (queue_words (area_of arena) e s (selection_target image row)) s) ≡ length s
        go true = length_queue (area_of arena) e s (selection_target image row)
        go false = refl

    module _ (work op : ℕ) (isShape : Bool) (z : states.Walk) (x : Span) (l sets : List ℕ) (is : x.end ≡ end) (low : x.start ≤ from)
        (begins : from < x.end → member (document image) g (row_in s₀ arena.store from) ≡ true) (proper : Proper (document image) isShape g)
        (can : CanQueue image arena work op isShape s₀ z x l e₀ sets (filter (member (document image) g) (onward x l from))) where
      u : QueuedUpto image arena s₀ s e g from place x l sets
      u = q.upto work op isShape z x l sets is low begins proper can

      abbrev rest : List ℕ
      rest = filter (member (document image) g) (onward x l (place + 1))

      site_now : Site image arena work op s z
      site_now = site_queue can.site u.frame

      stands_now : Stands arena isShape s x l
      stands_now = stands_queue can.site u.frame can.listed can.ordered can.stands

      low_place : x.start ≤ place
      low_place = omega (arith, u.low, u.found.ahead)

      kind : selection_kind image row ≡ field
      kind = field_kind_of image (can.listed.fields row (rw is_row (row_in_lem site_now stands_now.rows place low_place (omega arith))))

      total_now : u.before ++ (cond (has_set image row) (selection_target image row ∷ []) [] ++ sets_below (document image) rest) ≡ sets ++ sets_below (document image) (filter (member (document image) g) (onward x l from))
      total_now = ap (λ m. u.before ++ m) (sym (ap (sets_below (document image)) (u.found.here (omega arith) ∙ ap (λ (k : ℕ). k ∷ filter (member (document image) g) (onward x l (place + 1))) (sym is_row)) ∙ field_sets image row rest kind)) ∙ u.total

      -- what stands in the queue then
      record Added : Type 0 where
        pub before : List ℕ
        pub queue : Stores s' arena.queue e'.queued before
        pub total : before ++ sets_below (document image) rest ≡ sets ++ sets_below (document image) (filter (member (document image) g) (onward x l from))
        pub frame : Outside arena.queue (arena.lasts - arena.queue) s s'

      added_by : (b : Bool) → has_set image row ≡ b → Added
      unfolding field_next field_words
      added_by true h =
          let t = selection_target image row in
          let whole : u.before ++ (t ∷ sets_below (document image) rest) ≡ sets ++ sets_below (document image) (filter (member (document image) g) (onward x l from)) = rw h at total_now in
          let long : length u.before + suc (length (sets_below (document image) rest)) ≡ length (sets ++ sets_below (document image) (filter (member (document image) g) (onward x l from))) = sym (length-append u.before (t ∷ sets_below (document image) rest)) ∙ ap length whole in
          let size = stores_length u.queue in
          let fits = can.fits in
          let room : arena.queue + e.queued < arena.lasts = omega arith in
          let inside : arena.lasts ≤ length s = omega (arith, site_now.room, site_now.regions.heads, site_now.regions.links, site_now.regions.store) in
          let is-e : e'.queued ≡ e.queued + 1 = rw (next, h, queue_next_lem (area_of arena) e s t room) in
          let is-s : s' ≡ queue_words (area_of arena) e s t = rw (words, h) in
          record {
            before = u.before ++ (t ∷ []);
            queue = stores_at is-s is-e (queue_stores (area_of arena) e s t room u.queue inside);
            total = append_assoc u.before (t ∷ []) (sets_below (document image) rest) ∙ whole;
            frame = rw is-s (outside_wider (queue_outside (area_of arena) e s t room) arena.queue (arena.lasts - arena.queue) (omega arith) (omega arith));
          }
      added_by false h =
          let is-e : e' ≡ e = rw (next, h) in
          let is-s : s' ≡ s = rw (words, h) in
          record { before = u.before; queue = stores_at is-s (ap (λ (k : Expansion). k.queued) is-e) u.queue; total = rw h at total_now; frame = rw is-s (outside_none _ _ s) }

    pub queueing_next : {after : ℕ} → after ≡ followed s' arena g.among place end → Queueing image arena s₀ s' e₀ e' g from end after
    queueing_next {after} found = record {
      listed = field_listed.0 ∙ q.listed;
      number = field_listed.1 ∙ q.number;
      long = field_long ∙ q.long;
      upto = λ work op isShape z x l sets is low begins proper can.
          let v = u work op isShape z x l sets is low begins proper can in
          let more = added_by work op isShape z x l sets is low begins proper can (has_set image row) refl in
          let frame : Outside arena.queue (arena.lasts - arena.queue) s₀ s' = outside_trans v.frame more.frame in
          let at_place : x.start ≤ place = low_place work op isShape z x l sets is low begins proper can in
          let ahead : x.start ≤ place + 1 = omega arith in
          let near : place < x.end = omega arith in
          let site' = site_queue can.site frame in
          let stands' = stands_queue can.site frame can.listed can.ordered can.stands in
          let G = grounded site' can.listed stands'.rows in
          let row_stays : row_in s' arena.store place ≡ row_in s arena.store place = more.frame.above (arena.store + place) (omega (arith, can.site.regions.lasts, can.site.regions.heads, can.site.regions.links, can.site.regions.store)) in
          let here : belongs image s' g (row_in s' arena.store place) ≡ true = belongs_is G g place at_place near ∙ ap (member (document image) g) row_stays ∙ v.found.passes near in
          let F = follows (threaded site' can.listed stands') (document image) G.objects g proper in
          let found-next : after ≡ member_place image s' arena.store g (place + 1) x.end = found ∙ ap (followed s' arena g.among place) (sym is) ∙ F place at_place near here in
          record {
            at = place + 1;
            low = ahead;
            found = member_found G g (place + 1) ahead found-next;
            before = more.before;
            queue = more.queue;
            total = more.total;
            frame = frame;
          };
    }

-- ---- both segments of a part

-- the rows of the store stay while sets are queued
stays_at : {image : List ℕ} {arena : Arena} {work op : ℕ} {isShape : Bool} {s s' : List ℕ} {z : states.Walk} {x : Span} {l : List ℕ} {e : Expansion} {sets rows : List ℕ} (place : ℕ)
    → CanQueue image arena work op isShape s z x l e sets rows → Outside arena.queue (arena.lasts - arena.queue) s s' → row_in s' arena.store place ≡ row_in s arena.store place
stays_at {arena = arena} place can o = let r = can.site.regions in o.above (arena.store + place) (omega (arith, r.lasts, r.heads, r.links, r.store))

pub queued_part : {image : List ℕ} {arena : Arena} {s s₁ s' : List ℕ} {e e₁ e' : Expansion} {part : Part} → QueuesSegment image arena s s₁ e e₁ part.list part.front part.first
    → QueuesSegment image arena s₁ s' e₁ e' part.list part.back part.next → QueuesPart image arena s s' e e' part
unfolding part_rows
queued_part {image} {arena} {s} {s₁} {s'} {e} {e₁} {e'} {part} front back = record {
  listed = back.listed ∙ front.listed;
  number = back.number ∙ front.number;
  long = back.long ∙ front.long;
  queues = λ work op isShape z l sets rows p can.
      let D = document image in
      let xs = filter (member (document image) part.front) (onward part.list l part.first) in
      let ys = filter (member (document image) part.back) (onward part.list l part.next) in
      let both : sets ++ sets_below (document image) rows ≡ (sets ++ sets_below (document image) xs) ++ sets_below (document image) ys =
      ap (λ m. sets ++ sets_below (document image) m) (sym p.fields) ∙ ap (λ m. sets ++ m) (sets_append (document image) xs ys) ∙ sym (append_assoc sets (sets_below (document image) xs) (sets_below (document image) ys)) in
      let size : length (sets ++ sets_below (document image) rows) ≡ length (sets ++ sets_below (document image) xs) + length (sets_below (document image) ys) = ap length both ∙ length-append (sets ++ sets_below (document image) xs) (sets_below (document image) ys) in
      let first = front.queues work op isShape z l sets p.from (λ less. p.heads) p.front_proper (record { site = can.site; stands = can.stands; ordered = can.ordered; listed = can.listed; queue = can.queue; fits = omega (arith, can.fits) }) in
      let second = back.queues work op isShape z l (sets ++ sets_below (document image) xs) p.behind (λ less. rw (stays_at part.next can first.frame) (p.starts less)) p.back_proper (record {
        site = site_queue can.site first.frame;
        stands = stands_queue can.site first.frame can.listed can.ordered can.stands;
        ordered = can.ordered;
        listed = can.listed;
        queue = first.queue;
        fits = rw (← both) can.fits;
      }) in
      record { queue = rw both second.queue; frame = outside_trans first.frame second.frame };
}
