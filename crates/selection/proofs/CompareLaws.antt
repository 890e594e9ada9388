-- The laws of comparing a field with those of a segment: what is left decides. Assumes nothing.
use mathlib.Core.Path.{◌≡◌, refl, sym, ap, ◌∙◌}
use mathlib.Core.Bool.{Bool, true}
use mathlib.Core.Option.{Option, none, some}
use mathlib.Core.List.{List, [], ◌∷◌, ◌++◌}
use Prim.Native.Nat.{ℕ, ◌+◌, ◌≤◌, ◌<◌}
use native.Mathlib.Omega.{arith}
use Rattle.merge_theory.specs.Lists.{filter}
use Rattle.merge_theory.specs.Document.{Cause}
use Rattle.merge_theory.specs.Steps.{State, Step, after, stop, tell}
use Rattle.merge_theory.specs.Walk.{against, compare_first}
use Rattle.merge_theory.proofs.Loops.{against_append}
use Rattle.selection.specs.declared.arena.Arena.{Arena}
use Rattle.selection.specs.declared.arena.Walk as states
use Rattle.lists.specs.declared.Span.{Span}
use Rattle.selection.specs.declared.groups.Segment.{Segment}
use Rattle.selection.specs.declared.groups.Part.{Part}
use Rattle.selection.specs.Places.{row_in, onward}
use Rattle.selection.specs.Grouping.{member, belongs, member_place, part_rows, Grounded, PartAt}
use Rattle.selection.specs.Following.{followed, Threaded, Follows}
use Rattle.selection.specs.Refining.{document, pass_of, Holds, Tells}
use Rattle.selection.specs.Comparing.{kind_of_clash, conflicted, ComparesSegment, ComparesPart}
use Rattle.selection.proofs.PlaceLaws.{Found, found_here, filter_here, onward_over}
use Rattle.selection.proofs.PartLaws.{belongs_is, member_found}
use Rattle.selection.proofs.FollowLaws.{follows}
use Rattle.selection.proofs.RefineLaws.{some_kind, tells_go, tells_stop}

no_clash : (o : Option Cause) → kind_of_clash o ≡ 0 → o ≡ none
no_clash none e = refl
no_clash (some c) e = absurd (some_kind c e)

told : (s : List ℕ) (arena : Arena) (z : states.Walk) (kind a b : ℕ) (o : Option Cause) (next : Step) → kind ≡ kind_of_clash o → (kind ≡ 0 → ⊥)
    → (y : State) → Holds s arena z.reply.operation z y → Tells s arena z.reply.operation (conflicted kind a b z) (after (tell stop z.reply.operation o a b y) next)
unfolding tell after
told s arena z kind a b none next k some_kind y h = absurd (some_kind k)
told s arena z kind a b (some c) next k some_kind y h = rw (k, ap (λ r. r.used) h.reply)

nothing_left : (s : List ℕ) (arena : Arena) (z : states.Walk) (clash : ℕ → ℕ → Option Cause) (a : ℕ) (y : State) → Holds s arena z.reply.operation z y
    → Tells s arena z.reply.operation z (against stop z.reply.operation clash a [] y)
unfolding against
nothing_left s arena z clash a y h = h

-- the fields from `from` on have been compared up to a place: those from `at` on are left, and the next of them stands there
pub record Upto (image s : List ℕ) (arena : Arena) (g : Segment) (isShape : Bool) (a from place : ℕ) (x : Span) (l : List ℕ) : Type 0 where
  pub at : ℕ
  pub low : x.start ≤ at
  pub found : Found (member (document image) g) x l at place (row_in s arena.store place)
  pub same : (op : ℕ) (y : State) → against stop op (pass_of image isShape).clash a (filter (member (document image) g) (onward x l from)) y
      ≡ against stop op (pass_of image isShape).clash a (filter (member (document image) g) (onward x l at)) y

pub record Comparing (image s : List ℕ) (arena : Arena) (g : Segment) (isShape : Bool) (a from end place : ℕ) : Type 0 where
  pub upto : (x : Span) (l : List ℕ) → x.end ≡ end → Grounded (document image) image s arena.store x l → Follows image s arena g x → x.start ≤ from
      → (from < x.end → member (document image) g (row_in s arena.store from) ≡ true) → Upto image s arena g isShape a from place x l

module _ {image s : List ℕ} {arena : Arena} {g : Segment} {isShape : Bool} {a from end : ℕ} where
  pub comparing_first : Comparing image s arena g isShape a from end from
  comparing_first = record {
    upto = λ x l is G F low begins. record { at = from; low = low; found = found_here G.list (member (document image) g) from low begins; same = λ op y. refl };
  }

  module _ {place b : ℕ} (c : Comparing image s arena g isShape a from end place) (less : place < end) (row : b ≡ row_in s arena.store place) where
    -- the field at the place is met next
    turn : (x : Span) (l : List ℕ) (is : x.end ≡ end) (G : Grounded (document image) image s arena.store x l) (F : Follows image s arena g x) (low : x.start ≤ from)
        (begins : from < x.end → member (document image) g (row_in s arena.store from) ≡ true) (op : ℕ) (y : State)
        → against stop op (pass_of image isShape).clash a (filter (member (document image) g) (onward x l from)) y
        ≡ after (tell stop op ((pass_of image isShape).clash a b) a b y) (against stop op (pass_of image isShape).clash a (filter (member (document image) g) (onward x l (place + 1))))
    unfolding against
    turn x l is G F low begins op y =
        let u = c.upto x l is G F low begins in
        u.same op y ∙ rw (u.found.here (omega arith), row)

    pub comparing_next : kind_of_clash ((pass_of image isShape).clash a b) ≡ 0 → {next : ℕ} → next ≡ followed s arena g.among place end
        → Comparing image s arena g isShape a from end next
    unfolding tell after
    comparing_next quiet {next} e = record {
      upto = λ x l is G F low begins.
          let u = c.upto x l is G F low begins in
          let low_place : x.start ≤ place = omega (arith, u.low, u.found.ahead) in
          let ahead : x.start ≤ place + 1 = omega (arith, u.low, u.found.ahead) in
          let near : place < x.end = omega arith in
          let here : belongs image s g (row_in s arena.store place) ≡ true = belongs_is G g place low_place near ∙ u.found.passes near in
          let found-next : next ≡ member_place image s arena.store g (place + 1) x.end = e ∙ ap (followed s arena g.among place) (sym is) ∙ F place low_place near here in
          record {
            at = place + 1;
            low = ahead;
            found = member_found G g (place + 1) ahead found-next;
            same = λ op y. turn x l is G F low begins op y ∙ rw (no_clash ((pass_of image isShape).clash a b) quiet);
          };
    }

    pub comparing_clash : (z : states.Walk) (x : Span) {kind : ℕ} → x.end ≡ end → kind ≡ kind_of_clash ((pass_of image isShape).clash a b)
        → (kind ≡ 0 → ⊥) → ComparesSegment image s arena z x g isShape a from (conflicted kind a b z)
    comparing_clash z x {kind} is k stop = record {
      same = λ e. absurd (stop e);
      known = refl;
      operation = refl;
      tells = λ l G F low begins y h. rw (turn x l is G F low begins z.reply.operation y) (told s arena z kind a b ((pass_of image isShape).clash a b) _ k stop y h);
    }

  pub comparing_done : {place : ℕ} → Comparing image s arena g isShape a from end place → end ≤ place → (z : states.Walk) (x : Span) → x.end ≡ end → ComparesSegment image s arena z x g isShape a from z
  comparing_done c over z x is = record {
    same = λ _. refl;
    known = refl;
    operation = refl;
    tells = λ l G F low begins y h. let u = c.upto x l is G F low begins in rw (u.same z.reply.operation y, u.found.over (omega arith)) (nothing_left s arena z (pass_of image isShape).clash a y h);
  }

-- ---- a part: the front segment behind its first field, then the back segment

pub part_head : {image s : List ℕ} {store : ℕ} {isShape : Bool} {l rows : List ℕ} {part : Part} → Grounded (document image) image s store part.list l → PartAt (document image) isShape s store l part rows
    → rows ≡ row_in s store part.first ∷ (filter (member (document image) part.front) (onward part.list l (part.first + 1)) ++ filter (member (document image) part.back) (onward part.list l part.next))
unfolding part_rows
part_head {image} {l = l} {part = part} G p =
    sym p.fields ∙ ap (λ m. m ++ filter (member (document image) part.back) (onward part.list l part.next))
    (filter_here G.list (member (document image) part.front) part.first p.from p.below p.heads)

-- no field behind the first of the front segment, and none of the back segment
pub alone_at : {image s : List ℕ} {arena : Arena} {part : Part} {second : ℕ} → second ≡ followed s arena part.front.among part.first part.list.end → part.list.end ≤ second → part.list.end ≤ part.next
    → (isShape : Bool) (l rows : List ℕ) → Grounded (document image) image s arena.store part.list l → Threaded image s arena isShape part.list → PartAt (document image) isShape s arena.store l part rows
    → rows ≡ row_in s arena.store part.first ∷ []
unfolding filter
alone_at {image} {s} {arena} {part} {second} is over past isShape l rows G t p =
    let here : belongs image s part.front (row_in s arena.store part.first) ≡ true = belongs_is G part.front part.first p.from p.below ∙ p.heads in
    let F = follows t (document image) G.objects part.front p.front_proper in
    let found = member_found G part.front (part.first + 1) (omega (arith, p.from)) (is ∙ F part.first p.from p.below here) in
    part_head G p ∙ rw (found.over over, onward_over G.list part.next past)

module _ {image s : List ℕ} {arena : Arena} {z z₁ : states.Walk} {part : Part} {isShape : Bool} {a : ℕ} (row : a ≡ row_in s arena.store part.first)
    {second : ℕ} (second_is : second ≡ followed s arena part.front.among part.first part.list.end)
    (front : ComparesSegment image s arena z part.list part.front isShape a second z₁) where
  module _ (l rows : List ℕ) (G : Grounded (document image) image s arena.store part.list l) (t : Threaded image s arena isShape part.list) (p : PartAt (document image) isShape s arena.store l part rows) where
    front_follows : Follows image s arena part.front part.list
    front_follows = follows t (document image) G.objects part.front p.front_proper

    back_follows : Follows image s arena part.back part.list
    back_follows = follows t (document image) G.objects part.back p.back_proper

    -- the field behind the first of the front segment
    found_second : Found (member (document image) part.front) part.list l (part.first + 1) second (row_in s arena.store second)
    found_second =
        let here : belongs image s part.front (row_in s arena.store part.first) ≡ true = belongs_is G part.front part.first p.from p.below ∙ p.heads in
        member_found G part.front (part.first + 1) (omega (arith, p.from)) (second_is ∙ front_follows part.first p.from p.below here)

    low_second : part.list.start ≤ second
    low_second = omega (arith, p.from, found_second.ahead)

    front_tells : (y : State) → Holds s arena z.reply.operation z y
        → Tells s arena z.reply.operation z₁ (against stop z.reply.operation (pass_of image isShape).clash a (filter (member (document image) part.front) (onward part.list l (part.first + 1))) y)
    front_tells y h = rw found_second.same (front.tells l G front_follows low_second found_second.passes y h)

  -- the two segments in order, from the first field on
  in_order : (l rows : List ℕ) → Grounded (document image) image s arena.store part.list l → PartAt (document image) isShape s arena.store l part rows → (y : State)
      → compare_first stop z.reply.operation (pass_of image isShape).clash rows y
      ≡ after (against stop z.reply.operation (pass_of image isShape).clash a (filter (member (document image) part.front) (onward part.list l (part.first + 1))) y)
      (against stop z.reply.operation (pass_of image isShape).clash a (filter (member (document image) part.back) (onward part.list l part.next)))
  unfolding compare_first
  in_order l rows G p y =
      rw (part_head G p, ← row)
      (against_append stop z.reply.operation (pass_of image isShape).clash a (filter (member (document image) part.front) (onward part.list l (part.first + 1)))
      (filter (member (document image) part.back) (onward part.list l part.next)) y)

  pub part_clash : (z₁.reply.kind ≡ 0 → ⊥) → ComparesPart image s arena z part isShape z₁
  part_clash stop = record {
    same = λ e. absurd (stop e);
    known = front.known;
    operation = front.operation;
    tells = λ l rows G t p y h.
        rw (in_order l rows G p y) (tells_stop s arena z.reply.operation z₁ _ _ (front_tells l rows G t p y h) stop);
  }

  pub part_compared : z₁ ≡ z → {z₂ : states.Walk} → ComparesSegment image s arena z part.list part.back isShape a part.next z₂ → ComparesPart image s arena z part isShape z₂
  part_compared is {z₂} back = record {
    same = back.same;
    known = back.known;
    operation = back.operation;
    tells = λ l rows G t p y h.
        rw (in_order l rows G p y)
        (tells_go s s arena z.reply.operation z z₂ _ _ (rw is at (front_tells l rows G t p y h)) (ap (λ r. r.kind) h.reply)
        (λ y' h'. back.tells l G (back_follows l rows G t p) p.behind p.starts y' h'));
  }
