-- The check of an operation: its own set is met, and the two passes run. Assumes nothing.
use mathlib.Core.Path.{◌≡◌, refl, sym, ap, ◌∙◌, subst}
use mathlib.Core.Bool.{Bool, false, false≢true}
use mathlib.Core.List.{List, [], ◌∷◌}
use Prim.Native.Nat.{ℕ, suc, ◌+◌, ◌-◌, ◌≤◌, ◌<◌}
use native.Mathlib.Omega.{arith}
use lib.ListN.{length}
use Rattle.lists.specs.Part.{Stores, Outside}
use Rattle.lists.proofs.Parts.{stores_none, outside_wider}
use Rattle.merge_theory.specs.Rule.{Reached, start}
use Rattle.merge_theory.specs.Steps.{Step, stop}
use Rattle.merge_theory.specs.Walk.{fresh, walk}
use Rattle.merge_theory.proofs.ListLaws.{not_in_nil, only}
use Rattle.tables.specs.Layout.{operations, fragments, sets}
use Rattle.tables.specs.Image.{count_at}
use Rattle.selection.specs.declared.arena.Arena.{Arena}
use Rattle.selection.specs.Regions.{area_of, registry_of}
use Rattle.selection.specs.declared.arena.Walk as states
use Rattle.selection.specs.declared.arena.Reply.{Reply}
use Rattle.lists.specs.declared.Span.{Span}
use Rattle.expand.specs.declared.Expansion.{Expansion}
use Rattle.selection.specs.declared.walk.Met.{Met}
use Rattle.expand.specs.ImageDocument.{limit_of_links}
use Rattle.expand.specs.Expanding.{queue_next, queue_words, once_none, once_more, StartSet, of_operation}
use Rattle.std.specs.Prelude.{Some, is_some, Result, Ok, Err}
use Rattle.selection.specs.Refining.{goes_deeper, list_of, span_in, stopped, ended, met_from, Ends, EndsMet, paid_for, document, pass_of, Ample, Begun, Site, Refines, Meets, MeetsSets, WalksList}
use Rattle.selection.specs.Validating.{forgotten, MeetsOperation, Runs}
use Rattle.expand.proofs.ExpandedLaws.{queue_next_lem, queue_stores, queue_outside}
use Rattle.known.specs.KnownLists.{forgotten_words}
use Rattle.known.proofs.KnownLaws.{Forgets, forgets}
use Rattle.selection.proofs.RefineLaws.{kept_trans, then_go, by, tells_stopped, refines_stopped}
use Rattle.selection.proofs.StandLaws.{classed_kept, heads_low, in_front, site_queue}
use Rattle.selection.proofs.QueueingLaws.{next_listed}
use Rattle.selection.proofs.LoopLaws.{WalksAs}
use Rattle.selection.proofs.PartMeets.{aside, finished_first}

-- words of the queue changed before
meets_aside : {image : List ℕ} {arena : Arena} {work op : ℕ} {isShape : Bool} {step : ℕ → Step} {s s₁ s' : List ℕ} {z : states.Walk} {m : Met} → Site image arena work op s z
    → Outside arena.queue (arena.lasts - arena.queue) s s₁ → z.reply.kind ≡ 0 → Meets image arena work op isShape step s₁ s' z m → Meets image arena work op isShape step s s' z m
meets_aside {step = step} site o go inner =
    let beside = aside site o in
    record {
      done = λ flat levels. by (step levels) (λ y h. sym (finished_first (step levels) y)) (then_go beside go (inner.done flat levels));
      entered = λ deeper.
          let e = inner.entered deeper in
          record {
            list = e.list;
            stands = e.stands;
            ordered = e.ordered;
            rows = e.rows;
            stored = e.stored;
            site = e.site;
            kept = kept_trans beside.kept e.kept;
            goes = λ y h. e.goes y (beside.tells y h);
            same = λ levels y h s'' z'' tells. e.same levels y (beside.tells y h) s'' z'' tells;
          };
    }

-- the next pass begins with nothing known
pub site_forgotten : {image : List ℕ} {arena : Arena} {work op : ℕ} {s : List ℕ} {z : states.Walk} → Site image arena work op s z → Site image arena work op s (forgotten z)
site_forgotten site = record {
  good = site.good;
  regions = site.regions;
  chained = site.chained;
  spread = site.spread;
  sound = site.sound;
  parents = site.parents;
  classes = site.classes;
  room = site.room;
  marks = site.marks;
  within = site.within;
}

pub ample_forgotten : {work : ℕ} {z : states.Walk} → Ample work 0 z → Ample work 0 (forgotten z)
ample_forgotten a = record { going = a.going; paid = omega arith; few = omega arith; counted = a.counted; countable = a.countable; budget = a.budget }

pub begun_set : (arena : Arena) {z : states.Walk} {x₀ x : Expansion} → Begun z x₀ → x ≡ queue_next (area_of arena) x₀ → Begun z x
begun_set arena {z} {x₀} begun e = rw e (record { listed = (next_listed arena x₀).0 ∙ begun.listed; number = (next_listed arena x₀).1 ∙ begun.number })

pub operation_met : {image : List ℕ} {arena : Arena} {work operation : ℕ} {s s₁ s' : List ℕ} {z : states.Walk} (x₀ : Expansion) {x : Expansion} {isShape : Bool} {m : Met} → Ample work 0 z → x₀.queued ≡ 0
    → x ≡ queue_next (area_of arena) x₀ → s₁ ≡ queue_words (area_of arena) x₀ s operation → MeetsSets image arena work s₁ s' (forgotten z) x isShape m → MeetsOperation image arena work operation s s' z isShape m
operation_met {image} {arena} {work} {operation} {s} {s₁} {s'} {z} x₀ {x} {m} ample empty next words met = record {
  same = met.operation;
  going = met.going;
  ample = met.ample;
  meets = λ site is row.
      let r = site.regions in
      let site₀ = site_forgotten site in
      let some-sets : operation < count_at image sets = omega (arith, site.good.own_sets, row) in
      let room : arena.queue + x₀.queued < arena.lasts = omega (arith, r.lasts, some-sets, empty) in
      let inside : arena.lasts ≤ length s = omega (arith, site.room, r.heads, r.chain, r.links, r.store) in
      let nothing : Stores s arena.queue x₀.queued [] = rw empty (stores_none s arena.queue (omega (arith, inside, r.lasts))) in
      let o : Outside arena.queue (arena.lasts - arena.queue) s s₁ = rw words (outside_wider (queue_outside (area_of arena) x₀ s operation room) arena.queue (arena.lasts - arena.queue) (omega arith) (omega (arith, room))) in
      let one : x.queued ≡ x₀.queued + 1 = rw (next, queue_next_lem (area_of arena) x₀ s operation room) in
      meets_aside site₀ o ample.going (met.meets (operation ∷ []) (site_queue site₀ o) (record {
        queue = rw (one, words) (queue_stores (area_of arena) x₀ s operation room nothing inside);
        allowed = only (StartSet image) (of_operation row);
        once = once_more not_in_nil once_none;
        hand = only (Reached (document image) z.reply.operation) (rw is start);
      }));
}

-- ---- a pass

-- the words once all known lists are forgotten
abbrev emptied : Arena → List ℕ → List ℕ
emptied arena s = forgotten_words (registry_of arena) s

module _ {image : List ℕ} {arena : Arena} {work op : ℕ} {s s₀ : List ℕ} {z : states.Walk} (forgot : s₀ ≡ emptied arena s) (site : Site image arena work op s z) where
  forgets_all : Forgets (registry_of arena) s s₀
  forgets_all = let r = site.regions in rw forgot (forgets (registry_of arena) s (omega (arith, site.room, heads_low r, r.links, r.store)))

  spares : Outside arena.heads (arena.names + 1) s s₀
  spares = forgets_all.frame

  before_heads : arena.marks + count_at image fragments ≤ arena.heads
  before_heads = let r = site.regions in omega (arith, r.queue, r.lasts, r.heads)

  site_emptied : Site image arena work op s₀ z
  site_emptied = record {
    good = site.good;
    regions = site.regions;
    chained = site.chained;
    spread = site.spread;
    sound = site.sound;
    parents = λ k h. spares.below k (omega (arith, in_front site.regions, before_heads)) ∙ site.parents k h;
    classes = classed_kept (λ k h. spares.below k (omega (arith, in_front site.regions, before_heads))) site.classes;
    room = rw spares.long site.room;
    marks = λ j h. rw (spares.below (arena.marks + j) (omega (arith, before_heads))) (site.marks j h);
    within = site.within;
  }

runs_by : {image : List ℕ} {arena : Arena} {work operation : ℕ} {s s₀ s' : List ℕ} {z z' : states.Walk} {isShape : Bool} → s₀ ≡ emptied arena s → length s' ≡ length s
    → z'.reply.operation ≡ z.reply.operation → (z'.reply.kind ≡ 0 → Ample work 0 z')
    → (Site image arena work z.reply.operation s₀ z → operation ≡ z.reply.operation → operation < count_at image operations
    → Refines image arena work z.reply.operation (walk (document image) (pass_of image isShape) stop z.reply.operation work (suc limit_of_links) (operation ∷ [])) s₀ s' (forgotten z) z')
    → Runs image arena work operation s s' z isShape z'
runs_by {arena = arena} forgot long same ample refines = record {
  long = long;
  same = same;
  ample = ample;
  site = λ site is row go. (refines (site_emptied forgot site) is row).site go;
  frame = λ site is row.
      let k = (refines (site_emptied forgot site) is row).kept in
      let o = spares forgot site in
      let r = site.regions in
      record {
        long = long;
        below = λ i h. k.parents i h ∙ o.below i (omega (arith, before_heads forgot site));
        beyond = λ i h. k.beyond i h ∙ o.above i (omega (arith, heads_low r, r.links, r.store));
      };
  tells = λ y site is row reply. (refines (site_emptied forgot site) is row).tells (fresh y) (record { known = (forgets_all forgot site).known; reply = reply });
}

module _ {image : List ℕ} {arena : Arena} {work operation : ℕ} {s s₀ s₁ : List ℕ} {z : states.Walk} {m : Met} (isShape : Bool) (forgot : s₀ ≡ emptied arena s) (long₁ : length s₁ ≡ length s)
    (met : MeetsOperation image arena work operation s₀ s₁ z isShape m) where
  pub pass_flat : goes_deeper m ≡ false → Runs image arena work operation s s₁ z isShape m.walk
  pass_flat flat = runs_by forgot long₁ met.same met.ample (λ site is row. (met.meets site is row).done flat (suc limit_of_links))

  pub pass_deeper : {x : Span} → m.below ≡ Some x → {s' : List ℕ} {z' : states.Walk} → WalksList image arena work s₁ s' m.walk x isShape (suc limit_of_links) z'
      → Runs image arena work operation s s' z isShape z'
  pass_deeper is_list {s'} {z'} walked = runs_by forgot (walked.long ∙ long₁) (walked.operation ∙ met.same) walked.ample λ site is row.
      let e = (met.meets site is row).entered (ap is_some is_list) in
      let r = walks e.list e.site e.stands e.ordered e.stored e.rows in
      record {
        tells = λ y h. e.same (suc limit_of_links) y h s' z' (r.tells (paid_for e.list y) (e.goes y h));
        site = r.site;
        kept = kept_trans e.kept r.kept;
      }
    where
      walks : WalksAs image arena work z.reply.operation s₁ s' m.walk (list_of m) isShape (suc limit_of_links) z'
      walks = subst (λ (op : ℕ). WalksAs image arena work op s₁ s' m.walk (list_of m) isShape (suc limit_of_links) z') met.same (rw (ap span_in is_list) walked.walks)

-- ---- where the walk stopped, its state but for the reply does not matter

module _ {image : List ℕ} {arena : Arena} {work operation : ℕ} {s s' : List ℕ} {z : states.Walk} {isShape : Bool} where
  pub operation_from : (r : Result Met Reply) → EndsMet r → MeetsOperation image arena work operation s s' z isShape (met_from (forgotten z) r) → MeetsOperation image arena work operation s s' z isShape (met_from z r)
  operation_from (Ok m) ends met = met
  operation_from (Err r) stop met = record {
    same = met.same;
    going = λ e. absurd (false≢true e);
    ample = λ go. absurd (stop go);
    meets = λ site is row. record { done = λ flat levels. refines_stopped stop refl (omega arith) ((met.meets site is row).done flat levels); entered = λ e. absurd (false≢true e) };
  }

  pub runs_from : (z₁ : states.Walk) (r : Result states.Walk Reply) → Ends r → Runs image arena work operation s s' z isShape (ended z₁ r) → Runs image arena work operation s s' z isShape (ended z r)
  runs_from z₁ (Ok z') ends ran = ran
  runs_from z₁ (Err r) stop ran = record {
    long = ran.long;
    same = ran.same;
    ample = λ go. absurd (stop go);
    site = λ site is row go. absurd (stop go);
    frame = ran.frame;
    tells = λ y site is row reply. tells_stopped s' arena z.reply.operation (stopped z₁ r) (stopped z r) _ stop refl (ran.tells y site is row reply);
  }
