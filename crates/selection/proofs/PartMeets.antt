-- One part of a list: compared, and its sets met. The three ways that this ends. Assumes nothing.
use mathlib.Core.Path.{◌≡◌, refl, sym, ap, ◌∙◌, subst}
use mathlib.Core.Bool.{Bool, true, false≢true}
use mathlib.Core.Option.{Option, none, some}
use mathlib.Core.List.{List, [], ◌∷◌}
use Prim.Native.Nat.{ℕ, ◌-◌, ◌≤◌}
use native.Mathlib.Omega.{arith}
use lib.ListN.{length}
use Rattle.lists.specs.Part.{Outside}
use Rattle.lists.proofs.Parts.{stores_none, stores_length}
use Rattle.merge_theory.specs.Lists.{here, flat_map, filter}
use Rattle.merge_theory.specs.Document.{Cause}
use Rattle.merge_theory.specs.Steps.{Entry, entry, State, Result, finished, conflict, Step, after, stop, tell}
use Rattle.merge_theory.specs.Walk.{against, compare_first, descend, sets_below, walk}
use Rattle.tables.specs.Layout.{sets}
use Rattle.selection.specs.declared.arena.Arena.{Arena}
use Rattle.selection.specs.declared.arena.Walk as states
use Rattle.expand.specs.declared.Expansion.{Expansion}
use Rattle.selection.specs.declared.groups.Part.{Part}
use Rattle.selection.specs.declared.walk.Met.{Met}
use Rattle.selection.specs.Standing.{Stands}
use Rattle.selection.specs.Grouping.{PartAt}
use Rattle.std.specs.Prelude.{None}
use Rattle.selection.specs.Refining.{document, pass_of, Tells, Ample, Begun, Site, Rows, Refines, lower, one_part, MeetsSets, MeetsPart}
use Rattle.selection.specs.Comparing.{ComparesPart, QueuesPart, Queues, Bare}
use Rattle.selection.specs.Places.{row_in}
use Rattle.selection.proofs.RefineLaws.{some_kind, kept_none, kept_trans, then_go, then_stop, by, idle}
use Rattle.selection.proofs.QueueingLaws.{field_kind_of, field_sets}
use Rattle.known.proofs.KnownLaws.{known_kept}
use Rattle.selection.proofs.StandLaws.{heads_low, grounded, threaded, site_queue}
use Rattle.selection.proofs.BelowLaws.{below_start, below_hand, below_once, below_few}

-- a comparison finds a conflict, or changes nothing
pub data Quiet (y : State) : Result → Type 0 where
  quiet : Quiet y (finished y)
  loud : (e : Entry) → Quiet y (conflict e y)

against_quiet : (op : ℕ) (clash : ℕ → ℕ → Option Cause) (a : ℕ) (others : List ℕ) (y : State) → Quiet y (against stop op clash a others y)
unfolding against tell after
against_quiet op clash a [] y = quiet
against_quiet op clash a (b ∷ others) y = go (clash a b) (against_quiet op clash a others y)
  where
    go : (o : Option Cause) → Quiet y (against stop op clash a others y) → Quiet y (after (tell stop op o a b y) (against stop op clash a others))
    go none q = q
    go (some c) q = loud (entry op c a b)

compare_quiet : (op : ℕ) (clash : ℕ → ℕ → Option Cause) (rows : List ℕ) (y : State) → Quiet y (compare_first stop op clash rows y)
unfolding compare_first
compare_quiet op clash [] y = quiet
compare_quiet op clash (a ∷ others) y = against_quiet op clash a others y

finished_if : (s : List ℕ) (arena : Arena) (op : ℕ) (z : states.Walk) {y : State} (r : Result) → Quiet y r → Tells s arena op z r → z.reply.kind ≡ 0 → r ≡ finished y
finished_if s arena op z (finished y) quiet h go = refl
finished_if s arena op z (conflict (entry t c a b) y) (loud f) h go = absurd (some_kind c (sym (ap (λ r. r.kind) h) ∙ go))
finished_if s arena op z {y = y} (Rattle.merge_theory.specs.Steps.out _) x4 h go = elim x4 [ ]
finished_if s arena op z {y = y} (Rattle.merge_theory.specs.Steps.deep _) x5 h go = elim x5 [ ]

pub finished_first : (g : Step) (y : State) → after (finished y) g ≡ g y
unfolding after
finished_first g y = refl

nothing_below : (f : List ℕ → Step) (sets : List ℕ) → length sets ≡ 0 → (y : State) → descend f sets y ≡ finished y
unfolding descend
nothing_below f [] e y = refl
nothing_below f (t ∷ sets) e y = absurd (omega arith)

sets_below_lem : (f : List ℕ → Step) (sets : List ℕ) → (length sets ≡ 0 → ⊥) → (y : State) → descend f sets y ≡ f sets y
unfolding descend
sets_below_lem f [] some-sets y = absurd (some-sets refl)
sets_below_lem f (t ∷ sets) some-sets y = refl

-- a part of one field without a set: nothing happens
pub part_bare : {image s : List ℕ} {arena : Arena} {work : ℕ} {z : states.Walk} {part : Part} (isShape : Bool) {r : Bool} → Ample work 0 z → Bare image s arena part r → r ≡ true
    → MeetsPart image arena work s s z part isShape (record { walk = z; below = None })
unfolding compare_first against sets_below flat_map filter
part_bare {image} {s} {arena} {work} {z} {part} isShape ample bare is = record {
  operation = refl;
  going = λ e. absurd (false≢true e);
  ample = λ _. ample;
  meets = λ l rows site stands ordered listed p fields.
      let only = bare.alone is isShape l rows (grounded site listed stands.rows) (threaded site listed stands) p in
      let f = row_in s arena.store part.first in
      let one : Rows image arena work z.reply.operation (row_in s arena.store part.first ∷ []) = rw only at fields in
      let kind = field_kind_of image (one.fields (row_in s arena.store part.first) (here refl)) in
      let no-sets : sets_below (document image) (row_in s arena.store part.first ∷ []) ≡ [] = field_sets image (row_in s arena.store part.first) [] kind ∙ rw (bare.leaf is) in
      record {
        done = λ _ levels.
            by (one_part image arena work z.reply.operation (pass_of image isShape) levels rows)
            (λ y h. rw only
            (finished_first (lower image arena work z.reply.operation (pass_of image isShape) levels (sets_below (document image) (row_in s arena.store part.first ∷ []))) y
            ∙ nothing_below (walk (document image) (pass_of image isShape) stop z.reply.operation work levels) (sets_below (document image) (row_in s arena.store part.first ∷ [])) (ap length no-sets) y))
            (idle site);
        entered = λ e. absurd (false≢true e);
      };
}

-- only words of the queue have changed
pub aside : {image : List ℕ} {arena : Arena} {work op : ℕ} {s s' : List ℕ} {z : states.Walk} → Site image arena work op s z → Outside arena.queue (arena.lasts - arena.queue) s s'
    → Refines image arena work op finished s s' z z
aside {image} {arena} {work} {op} {s} {s'} {z} site o =
    let r = site.regions in
    record {
      tells = λ y h. record {
        known = known_kept (heads_low r) o.long
            (λ k ge less. o.above k (omega (arith, r.lasts, r.heads))) (λ k ge less. o.above k (omega (arith, r.lasts, r.heads, r.chain, r.links, r.store))) h.known;
        reply = h.reply;
      };
      site = λ _. site_queue site o;
      kept = record {
        long = o.long;
        parents = λ k h. o.below k (omega (arith, r.queue));
        links = λ k h less. o.above k (omega (arith, r.lasts, r.heads, r.chain, r.links));
        known = λ k h less. o.above k (omega (arith, r.lasts, r.heads, r.chain, r.links, r.store));
        beyond = λ k h. o.above k (omega (arith, r.lasts, r.heads, r.chain, r.links, r.store));
        grows = omega arith;
      };
    }

module _ {image : List ℕ} {arena : Arena} {work : ℕ} {s : List ℕ} {z z₁ : states.Walk} {part : Part} {isShape : Bool} (ample : Ample work 0 z)
    (compared : ComparesPart image s arena z part isShape z₁) where
  module _ (l rows : List ℕ) (site : Site image arena work z.reply.operation s z) (stands : Stands arena isShape s part.list l)
      (listed : Rows image arena work z.reply.operation l) (p : PartAt (document image) isShape s arena.store l part rows) where
    compare_refines : (z₁.reply.kind ≡ 0 → Site image arena work z.reply.operation s z₁)
        → Refines image arena work z.reply.operation (compare_first stop z.reply.operation (pass_of image isShape).clash rows) s s z z₁
    compare_refines site₁ = record {
      tells = λ y h. compared.tells l rows (grounded site listed stands.rows) (threaded site listed stands) p y h;
      site = site₁;
      kept = kept_none s z z₁ (omega (arith, compared.known));
    }

  -- a conflict
  pub part_stops : (z₁.reply.kind ≡ 0 → ⊥) → MeetsPart image arena work s s z part isShape (record { walk = z₁; below = None })
  part_stops stop = record {
    operation = compared.operation;
    going = λ e. absurd (false≢true e);
    ample = λ e. absurd (stop e);
    meets = λ l rows site stands ordered listed p fields. record {
      done = λ _ levels. then_stop (lower image arena work z.reply.operation (pass_of image isShape) levels (sets_below (document image) rows)) (compare_refines l rows site stands listed p (λ e. absurd (stop e))) stop;
      entered = λ e. absurd (false≢true e);
    };
  }

  module _ (go : z₁.reply.kind ≡ 0) {s₁ : List ℕ} {x₀ x : Expansion} (begun : Begun z₁ x₀) (empty : x₀.queued ≡ 0) (queued : QueuesPart image arena s s₁ x₀ x part) where
    same_state : z₁ ≡ z
    same_state = compared.same go

    module _ (l rows : List ℕ) (site : Site image arena work z.reply.operation s z) (stands : Stands arena isShape s part.list l) (ordered : part.list.start ≤ part.list.end)
        (listed : Rows image arena work z.reply.operation l) (p : PartAt (document image) isShape s arena.store l part rows) (fields : Rows image arena work z.reply.operation rows) where
      below : List ℕ
      below = sets_below (document image) rows

      queues : Queues image arena s s₁ x₀ x [] rows
      queues = queued.queues work z.reply.operation isShape z l [] rows p (record {
        site = site;
        stands = stands;
        ordered = ordered;
        listed = listed;
        queue = rw empty (stores_none s arena.queue (omega (arith, site.room, site.regions.lasts, site.regions.heads, site.regions.chain, site.regions.links, site.regions.store)));
        fits = omega (arith, below_few site fields, site.regions.lasts);
      })

      compare_done : Refines image arena work z.reply.operation (compare_first stop z.reply.operation (pass_of image isShape).clash rows) s s z z
      compare_done = rw same_state at (compare_refines l rows site stands listed p (λ _. rw same_state site))

      goes : z.reply.kind ≡ 0
      goes = ample.going

      frame : Outside arena.queue (arena.lasts - arena.queue) s s₁
      frame = queues.frame

      size : length (sets_below (document image) rows) ≡ x.queued
      size = stores_length queues.queue

    -- no sets below
    pub part_flat : x.queued ≡ 0 → MeetsPart image arena work s s₁ z part isShape (record { walk = z₁; below = None })
    part_flat none-queued = rw same_state (record {
      operation = refl;
      going = λ e. absurd (false≢true e);
      ample = λ _. ample;
      meets = λ l rows site stands ordered listed p fields. record {
        done = λ _ levels.
            let q = queues l rows site stands ordered listed p fields in
            then_go (compare_done l rows site stands ordered listed p fields) ample.going
            (by (lower image arena work z.reply.operation (pass_of image isShape) levels (sets_below (document image) rows))
            (λ y h. nothing_below (walk (document image) (pass_of image isShape) stop z.reply.operation work levels) (sets_below (document image) rows) (size l rows site stands ordered listed p fields ∙ none-queued) y)
            (aside site q.frame));
        entered = λ e. absurd (false≢true e);
      };
    })

    -- the sets below are met
    pub part_meets : (x.queued ≡ 0 → ⊥) → {s' : List ℕ} {m : Met} → MeetsSets image arena work s₁ s' z₁ x isShape m → MeetsPart image arena work s s' z part isShape m
    part_meets some-queued {s'} {m} met₁ = record {
      operation = met.operation;
      going = met.going;
      ample = met.ample;
      meets = λ l rows site stands ordered listed p fields.
          let q = queues l rows site stands ordered listed p fields in
          let P = pass_of image isShape in
          let below = sets_below (document image) rows in
          let beside = aside site q.frame in
          let some_below : length (sets_below (document image) rows) ≡ 0 → ⊥ = λ e. some-queued (sym (size l rows site stands ordered listed p fields) ∙ e) in
          let inner = met.meets (sets_below (document image) rows) (site_queue site q.frame) (record {
            queue = q.queue;
            allowed = below_start site fields;
            once = below_once site fields;
            hand = below_hand site fields;
          }) in
          record {
            done = λ flat levels.
                then_go (compare_done l rows site stands ordered listed p fields) ample.going
                (by (lower image arena work z.reply.operation (pass_of image isShape) levels (sets_below (document image) rows))
                (λ y h. sets_below_lem (walk (document image) (pass_of image isShape) stop z.reply.operation work levels) (sets_below (document image) rows) some_below y ∙ sym (finished_first _ y))
                (then_go beside ample.going (inner.done flat levels)));
            entered = λ deeper.
                let e = inner.entered deeper in
                record {
                  list = e.list;
                  stands = e.stands;
                  ordered = e.ordered;
                  rows = e.rows;
                  stored = e.stored;
                  site = e.site;
                  kept = kept_trans beside.kept e.kept;
                  goes = λ y h. e.goes y (beside.tells y h);
                  same = λ levels y h s'' z'' tells.
                      let still : compare_first stop z.reply.operation (pass_of image isShape).clash rows y ≡ finished y =
                      finished_if s arena z.reply.operation z (compare_first stop z.reply.operation (pass_of image isShape).clash rows y) (compare_quiet z.reply.operation (pass_of image isShape).clash rows y) ((compare_done l rows site stands ordered listed p fields).tells y h) ample.going in
                      let on : one_part image arena work z.reply.operation (pass_of image isShape) levels rows y ≡ walk (document image) (pass_of image isShape) stop z.reply.operation work levels (sets_below (document image) rows) y =
                      ap (λ r. after r (lower image arena work z.reply.operation (pass_of image isShape) levels (sets_below (document image) rows))) still
                      ∙ finished_first _ y
                      ∙ sets_below_lem (walk (document image) (pass_of image isShape) stop z.reply.operation work levels) (sets_below (document image) rows) some_below y in
                      subst (λ r. Tells s'' arena z.reply.operation z'' r) (sym on) (e.same levels y (beside.tells y h) s'' z'' tells);
                };
          };
    }
      where
        met : MeetsSets image arena work s₁ s' z x isShape m
        met = rw same_state at met₁

pub begun_queued : {image : List ℕ} {arena : Arena} {s s' : List ℕ} {z : states.Walk} {x₀ x : Expansion} {part : Part} → Begun z x₀ → QueuesPart image arena s s' x₀ x part → Begun z x
begun_queued begun queued = record { listed = queued.listed ∙ begun.listed; number = queued.number ∙ begun.number }
