-- Merged sets that are expanded and met: what that does, and that the merge theory's walk does the same. Assumes nothing.
use mathlib.Core.Path.{◌≡◌, refl, sym, ap, ◌∙◌}
use mathlib.Core.Bool.{Bool, true, false, false≢true}
use mathlib.Core.List.{List}
use Prim.Native.Nat.{ℕ, zero, suc, ◌+◌, ◌*◌, ◌≤◌, ◌<◌}
use native.Mathlib.Omega.{arith}
use lib.Dec.{leb}
use lib.ListN.{length, get_or}
use borrow.Author.Tests.{leb-true}
use Rattle.merge_theory.specs.Lists.{flat_map}
use Rattle.merge_theory.specs.Expand.{expand, fields_of}
use Rattle.merge_theory.specs.Steps.{State, stop}
use Rattle.merge_theory.specs.Walk.{Pass, walk_parts, walk}
use Rattle.merge_theory.proofs.Theorems.{expand_queue}
use Rattle.merge_theory.proofs.ExpandLaws.{expand_at}
use Rattle.tables.specs.Layout.{fragments, selections}
use Rattle.tables.specs.Image.{count_at}
use Rattle.tables.proofs.Counts.{few_rows}
use Rattle.lists.specs.Part.{StoredAt}
use Rattle.selection.specs.declared.arena.Arena.{Arena}
use Rattle.selection.specs.declared.arena.Walk as states
use Rattle.selection.specs.declared.arena.Reply.{Reply}
use Rattle.std.specs.Prelude.{None}
use Rattle.lists.specs.declared.Span.{Span}
use Rattle.expand.specs.declared.Expansion.{Expansion}
use Rattle.selection.specs.declared.walk.Met.{Met}
use Rattle.expand.specs.Expanding.{Expanded, Listed}
use Rattle.selection.specs.Regions.{area_of, registry_of, Places}
use Rattle.selection.specs.Standing.{LinkFrame, LinkableBoth, Stood}
use Rattle.selection.specs.Places.{row_in}
use Rattle.selection.specs.Refining.{goes_deeper, list_of, paid_for, document, pass_of, Holds, Tells, charged, length_of, MeetsList, Ample, Begun, Site, Rows, Kept, Refines, walk_list, Entered, Meets, Queued, MeetsSets}
use Rattle.selection.proofs.RegionLaws.{area_for}
use Rattle.selection.proofs.StandLaws.{classed_kept, heads_low, in_front, row_in_lem}
use Rattle.expand.proofs.ExpandedLaws.{listed_expand}
use Rattle.lists.proofs.Parts.{stores_same}
use Rattle.known.proofs.KnownLaws.{Fits, known_kept, keeps}
use Rattle.selection.proofs.RefineLaws.{refines_stopped, MetCase, again, refused, stored, met_case, met_done, met_entered}

-- ---- whatever the image is

-- a charge leaves the store and the expansions alone, and where it was made the units are there
pub record Charges (work cost : ℕ) (z z' : states.Walk) : Type 0 where
  pub known : z'.known ≡ z.known
  pub expansions : z'.expansions ≡ z.expansions
  pub operation : z'.reply.operation ≡ z.reply.operation
  pub fits : z'.reply.kind ≡ 0 → z.reply.used + cost ≤ work
  pub units : z'.reply.kind ≡ 0 → z'.reply.used ≡ z.reply.used + cost

pub charges : (work cost : ℕ) (z : states.Walk) → Charges work cost z (charged work cost z)
unfolding charged
charges work cost z = go (leb (z.reply.used + cost) work) refl
  where
    go : (b : Bool) → leb (z.reply.used + cost) work ≡ b → Charges work cost z (charged work cost z)
    go true e = rw e (record { known = refl; expansions = refl; operation = refl; fits = λ _. leb-true _ _ e; units = λ _. refl })
    go false e = rw e (record { known = refl; expansions = refl; operation = refl; fits = λ k. absurd (omega arith); units = λ k. absurd (omega arith) })

pub ample_met : {s s' : List ℕ} {arena : Arena} {work : ℕ} {z : states.Walk} {x : Span} {r : Met} → MeetsList s s' arena work z x r → Ample work 1 z
    → x.start ≤ z.known + 1 → r.walk.reply.kind ≡ 0 → Ample work 0 r.walk
ample_met {s} {s'} {arena} {work} {z} {x} {r} m a low = go (met_case m)
  where
    go : MetCase s s' arena work z x m.old r → r.walk.reply.kind ≡ 0 → Ample work 0 r.walk
    go (again old result words) = rw result (λ at-0.
        let paid = charges work 1 z in
        let fits = paid.fits at-0 in
        let units = paid.units at-0 in
        record {
          going = at-0;
          paid = omega (arith, a.paid, paid.known);
          few = omega (arith, a.few, paid.known);
          counted = omega (arith, a.counted, paid.expansions);
          countable = omega (arith, a.counted, paid.expansions, a.budget);
          budget = a.budget;
        })
    go (refused old stop result words) = rw result (λ at-0. absurd (stop at-0))
    go (stored old go_on result words) = rw result (λ at-0.
        let paid = charges work (1 + length_of x) z in
        let fits = paid.fits at-0 in
        let units = paid.units at-0 in
        record {
          going = at-0;
          paid = omega (arith, a.paid);
          few = omega (arith, a.paid, a.budget);
          counted = omega (arith, a.counted, paid.expansions);
          countable = omega (arith, a.counted, paid.expansions, a.budget);
          budget = a.budget;
        })

-- what a list that is met leaves of the words and the state
record After (s s' : List ℕ) (arena : Arena) (work : ℕ) (z : states.Walk) (x : Span) (r : Met) : Type 0 where
  pub long : length s' ≡ length s
  pub front : (k : ℕ) → k < arena.heads → arena.heads ≤ arena.chain → arena.chain ≤ arena.store → get_or s' k 0 ≡ get_or s k 0
  pub behind : (k : ℕ) → arena.heads + arena.names < k → (k ≡ arena.chain + z.known → ⊥) → (k ≡ arena.store + z.known → ⊥) → get_or s' k 0 ≡ get_or s k 0
  pub list : goes_deeper r ≡ true → list_of r ≡ x
  pub expansions : r.walk.expansions ≡ z.expansions
  pub operation : r.walk.reply.operation ≡ z.reply.operation
  pub grows : z.known ≤ x.end → z.known ≤ r.walk.known
  pub within : r.walk.reply.kind ≡ 0 → r.walk.reply.used ≤ work
  pub end : goes_deeper r ≡ true → r.walk.known ≡ x.end
  pub going : goes_deeper r ≡ true → r.walk.reply.kind ≡ 0

after_met : {s s' : List ℕ} {arena : Arena} {work : ℕ} {z : states.Walk} {x : Span} {r : Met} → MeetsList s s' arena work z x r → After s s' arena work z x r
after_met {s} {s'} {arena} {work} {z} {x} {r} m = go (met_case m)
  where
    go : MetCase s s' arena work z x m.old r → After s s' arena work z x r
    go (again old result words) = rw (result, words) (let paid = charges work 1 z in record {
      long = refl;
      front = λ k _ _ _. refl;
      behind = λ k _ _ _. refl;
      list = λ e. absurd (false≢true e);
      expansions = paid.expansions;
      operation = paid.operation;
      grows = λ _. omega (arith, paid.known);
      within = λ at-0. omega (arith, paid.fits at-0, paid.units at-0);
      end = λ e. absurd (false≢true e);
      going = λ e. absurd (false≢true e);
    })
    go (refused old stop result words) = rw (result, words) (let paid = charges work (1 + length_of x) z in record {
      long = refl;
      front = λ k _ _ _. refl;
      behind = λ k _ _ _. refl;
      list = λ e. absurd (false≢true e);
      expansions = paid.expansions;
      operation = paid.operation;
      grows = λ _. omega (arith, paid.known);
      within = λ at-0. omega (arith, paid.fits at-0, paid.units at-0);
      end = λ e. absurd (false≢true e);
      going = λ e. absurd (false≢true e);
    })
    go (stored old go_on result words) = rw (result, words) (let paid = charges work (1 + length_of x) z in let kept = keeps (registry_of arena) z.known x s in record {
      long = kept.long;
      front = kept.front;
      behind = kept.behind;
      list = λ _. refl;
      expansions = paid.expansions;
      operation = paid.operation;
      grows = λ h. h;
      within = λ at-0. omega (arith, paid.fits at-0, paid.units at-0);
      end = λ _. refl;
      going = λ _. go_on;
    })

-- ---- merged sets, expanded and met

module _ {image : List ℕ} {arena : Arena} {work : ℕ} {s s₁ s₂ : List ℕ} {z : states.Walk} {x : Expansion} {end : ℕ} {m : Met}
    (ample : Ample work 0 z) (begun : Begun z x) (expanded : Expanded image (area_of arena) s s₁ x end)
    (met : MeetsList s₁ s₂ arena work (record { reply = z.reply; known = z.known; expansions = x.number }) (record { start = x.listed; end = end }) m)
    (starts : List ℕ) (site : Site image arena work z.reply.operation s z) (queued : Queued image arena work z.reply.operation s x starts) where
  op : ℕ
  op = z.reply.operation

  abbrev z₁ : states.Walk
  z₁ = record { reply = z.reply; known = z.known; expansions = x.number }

  abbrev at_hand : Span
  at_hand = record { start = x.listed; end = end }

  regions : Places image arena
  regions = site.regions

  low : z.known ≤ work
  low = omega (arith, ample.paid, site.within)

  -- the registry has room for what is known, and for the list at hand
  fits_more : Fits (registry_of arena) (suc z.known)
  fits_more = record { heads = heads_low regions; chain = omega (arith, site.chained, regions.store, low) }

  -- its chain and the links of what is known lie before the store
  chain_low : arena.chain + z.known < arena.links
  chain_low = omega (arith, site.chained, low)

  spread_known : arena.links + 4 * z.known ≤ arena.store
  spread_known = omega (arith, site.spread, low)

  listed : Listed image (area_of arena) (document image) s s₁ x end starts
  listed = expanded.lists _ _ starts (record {
    good = site.good;
    regions = area_for site.regions;
    queue = queued.queue;
    allowed = queued.allowed;
    once = queued.once;
    marks = rw begun.number site.marks;
    room = omega (arith, site.room, low, begun.listed);
    small = omega (arith, ample.few, begun.listed, few_rows image site.good.few selections (omega arith));
  })

  abbrev l : List ℕ
  l = expand (document image) starts

  is_expand : flat_map (fields_of (document image)) listed.visited ≡ l
  is_expand = expand_queue (document image) site.sound starts queued.hand listed.visited listed.walk

  list₁ : StoredAt s₁ arena.store at_hand l
  list₁ = record { rows = listed_expand listed site.sound queued.hand }

  holds₁ : (y : State) → Holds s arena z.reply.operation z y → Holds s₁ arena z.reply.operation z₁ y
  holds₁ y h = record {
    known = known_kept (heads_low regions) listed.frame.long
        (λ k ge less. listed.frame.links k (omega (arith, regions.heads)) (omega (arith, chain_low, spread_known)))
        (λ k ge less. listed.frame.known k ge (omega (arith, begun.listed))) h.known;
    reply = h.reply;
  }

  left : After s₁ s₂ arena work z₁ at_hand m
  left = after_met met

  -- a list that is met leaves the words in front of the registry
  in_front_stays : (k : ℕ) → k < arena.lasts → get_or s₂ k 0 ≡ get_or s₁ k 0
  in_front_stays k h = left.front k (omega (arith, regions.heads)) (omega (arith, regions.chain)) (omega (arith, regions.links, regions.store))

  kept : Kept image arena work z.reply.operation s s₂ z m.walk
  kept = record {
    long = left.long ∙ listed.frame.long;
    parents = λ k h. in_front_stays k (omega (arith, regions.queue, regions.lasts)) ∙ listed.frame.parents k h;
    links = λ k h less.
        left.behind k (omega (arith, heads_low regions, regions.links)) (λ e. omega (arith, chain_low)) (λ e. omega (arith, spread_known))
        ∙ listed.frame.links k (omega (arith, regions.heads, regions.chain, regions.links)) (omega (arith, spread_known));
    known = λ k h less.
        left.behind k (omega (arith, heads_low regions, regions.links, regions.store)) (λ e. omega (arith, chain_low, regions.store)) (λ e. omega arith)
        ∙ listed.frame.known k h (omega (arith, begun.listed));
    beyond = λ k h.
        left.behind k (omega (arith, heads_low regions, regions.links, regions.store)) (λ e. omega (arith, chain_low, regions.store)) (λ e. omega (arith, low))
        ∙ listed.frame.beyond k (omega (arith, listed.most, begun.listed, low));
    grows = left.grows (omega (arith, listed.grows, begun.listed));
  }

  mark_stays : (j : ℕ) → j < count_at image fragments → get_or s₂ (arena.marks + j) 0 ≡ get_or s₁ (arena.marks + j) 0
  mark_stays j h = in_front_stays (arena.marks + j) (omega (arith, regions.queue, regions.lasts))

  site₂ : m.walk.reply.kind ≡ 0 → Site image arena work z.reply.operation s₂ m.walk
  site₂ at-0 = record {
    good = site.good;
    regions = site.regions;
    chained = site.chained;
    spread = site.spread;
    sound = site.sound;
    parents = λ r h. kept.parents r (omega (arith, regions.names, regions.pairs, regions.marks)) ∙ site.parents r h;
    classes = classed_kept (λ k h. kept.parents k (omega (arith, in_front regions))) site.classes;
    room = rw kept.long site.room;
    marks = λ j h. rw (left.expansions, mark_stays j h) (listed.marks j h);
    within = left.within at-0;
  }

  flat_tells : goes_deeper m ≡ false → (P : Pass) (levels : ℕ) (y : State) → Holds s arena z.reply.operation z y
      → Tells s₂ arena z.reply.operation m.walk (walk (document image) P stop z.reply.operation work levels starts y)
  unfolding walk
  flat_tells flat P zero y h = tt
  flat_tells flat P (suc levels) y h = met_done z.reply.operation met l list₁ y (holds₁ y h) flat (walk_parts (document image) P stop z.reply.operation (walk (document image) P stop z.reply.operation work levels) (P.parts l))

  entered_same : goes_deeper m ≡ true → (P : Pass) (levels : ℕ) (y : State) → Holds s arena z.reply.operation z y → (s'' : List ℕ) (z'' : states.Walk)
      → Tells s'' arena z.reply.operation z'' (walk_list image arena work z.reply.operation P levels l (paid_for l y))
      → Tells s'' arena z.reply.operation z'' (walk (document image) P stop z.reply.operation work levels starts y)
  unfolding walk walk_list
  entered_same deeper P zero y h s'' z'' tells = tt
  entered_same deeper P (suc levels) y h s'' z'' tells =
      rw ((met_entered z.reply.operation met l list₁ y (holds₁ y h) deeper fits_more begun.listed listed.grows).2
      (walk_parts (document image) P stop z.reply.operation (walk (document image) P stop z.reply.operation work levels) (P.parts l))) tells

  rows_l : Rows image arena work z.reply.operation l
  rows_l = record {
    fields = expand_at (document image) site.sound starts queued.hand;
    inside = rw (← is_expand) listed.rows.fresh.inside;
    once = rw (← is_expand) listed.rows.fresh.once;
  }

  list₂ : goes_deeper m ≡ true → StoredAt s₂ arena.store (list_of m) l
  list₂ deeper = rw (left.list deeper) (record { rows = stores_same left.long (λ k ge less. left.behind k (omega (arith, heads_low regions, regions.links, regions.store)) (λ e. omega (arith, chain_low, regions.store)) (λ e. omega (arith, begun.listed))) list₁.rows })

  -- where the list was entered it is linked
  module _ (deeper : goes_deeper m ≡ true) where
    start_is : (list_of m).start ≡ z.known + 1
    start_is = ap (λ (k : Span). k.start) (left.list deeper) ∙ begun.listed

    end_is : (list_of m).end ≡ end
    end_is = ap (λ (k : Span). k.end) (left.list deeper)

    site_met : Site image arena work z.reply.operation s₂ m.walk
    site_met = site₂ (left.going deeper)

    fits : (list_of m).end ≤ work + 1 + count_at image selections
    fits = omega (arith, end_is, listed.most, begun.listed, low)

    linkable : LinkableBoth arena (count_at image selections) s₂ (list_of m)
    linkable =
        let row : (p : ℕ) → (list_of m).start ≤ p → p < (list_of m).end → row_in s₂ arena.store p < count_at image selections = λ p h less. rows_l.inside _ (row_in_lem site_met (list₂ deeper) p h less) in
        record {
          names = record {
            rows = row;
            classes = rw regions.names site_met.classes.names_below;
            apart = omega (arith, regions.pairs, regions.marks, regions.queue, regions.lasts);
            before = omega (arith, regions.heads, regions.chain, regions.links);
            below = omega (arith, fits, site.spread);
            inside = omega (arith, fits, site_met.room);
          };
          pairs = record {
            rows = row;
            classes = rw (regions.pairs, regions.names) site_met.classes.pairs_below;
            apart = omega (arith, regions.marks, regions.queue, regions.lasts);
            before = omega (arith, regions.heads, regions.chain, regions.links, regions.small);
            below = omega (arith, fits, site.spread, regions.small);
            inside = omega (arith, fits, site_met.room);
          };
          heads = omega (arith, regions.heads);
          small = regions.small;
        }

  module _ (deeper : goes_deeper m ≡ true) {s' : List ℕ} {isShape : Bool} (stood : Stood arena isShape s₂ s' (list_of m)) where
    abbrev site_now : Site image arena work z.reply.operation s₂ m.walk
    site_now = site_met deeper

    framed : LinkFrame arena (list_of m).start s₂ s'
    framed = stood.frame (count_at image selections) (linkable deeper)

    pub entered_linked : Entered image arena work z.reply.operation isShape (λ levels. walk (document image) (pass_of image isShape) stop z.reply.operation work levels starts) s s' z m
    entered_linked = record {
      list = l;
      stands = record {
        rows = record { rows = stores_same framed.long (λ k ge less. framed.store k (omega arith)) (list₂ deeper).rows };
        names = stood.names (count_at image selections) (linkable deeper);
        pairs = stood.pairs (count_at image selections) (linkable deeper);
      };
      ordered = rw (left.list deeper) listed.grows;
      rows = rows_l;
      stored = omega (arith, left.end deeper, end_is deeper);
      site = record {
        good = site.good;
        regions = site.regions;
        chained = site.chained;
        spread = site.spread;
        sound = site.sound;
        parents = λ r h. framed.front r (omega (arith, regions.names, regions.pairs, regions.marks, regions.queue, regions.lasts)) ∙ site_now.parents r h;
        classes = classed_kept (λ k h. framed.front k (omega (arith, in_front regions, regions.queue, regions.lasts))) site_now.classes;
        room = rw framed.long site_now.room;
        marks = λ j h. rw (framed.front (arena.marks + j) (omega (arith, regions.queue, regions.lasts))) (site_now.marks j h);
        within = site_now.within;
      };
      kept = record {
        long = framed.long ∙ kept.long;
        parents = λ k h. framed.front k (omega (arith, regions.queue, regions.lasts)) ∙ kept.parents k h;
        links = λ k h less. framed.links k (omega (arith, heads_low regions, regions.links)) (omega (arith, start_is deeper)) ∙ kept.links k h less;
        known = λ k h less. framed.store k h ∙ kept.known k h less;
        beyond = λ k h. framed.store k (omega arith) ∙ kept.beyond k h;
        grows = kept.grows;
      };
      goes = λ y h.
          let was = (met_entered z.reply.operation met l list₁ y (holds₁ y h) deeper fits_more begun.listed listed.grows).0 in
          let end_fits : m.walk.known ≤ work + 1 + count_at image selections = omega (arith, left.end deeper, fits deeper, end_is deeper) in
          record {
            known = known_kept (heads_low regions) framed.long
                (λ k ge less. framed.links k ge (omega (arith, site.chained, end_fits))) (λ k ge less. framed.store k ge) was.known;
            reply = was.reply;
          };
      same = entered_same deeper (pass_of image isShape);
    }

  pub flat_done : goes_deeper m ≡ false → {s' : List ℕ} → s' ≡ s₂ → (P : Pass) (levels : ℕ) → Refines image arena work z.reply.operation (walk (document image) P stop z.reply.operation work levels starts) s s' z m.walk
  flat_done flat same P levels = rw same (record { tells = λ y h. flat_tells flat P levels y h; site = site₂; kept = kept })

-- what happens to the words once a list is met
pub data Linking (arena : Arena) (isShape : Bool) (s s' : List ℕ) (m : Met) : Type 0 where
  links_it : goes_deeper m ≡ true → Stood arena isShape s s' (list_of m) → Linking arena isShape s s' m
  leaves_it : goes_deeper m ≡ false → s' ≡ s → Linking arena isShape s s' m

pub meets_sets : {image : List ℕ} {arena : Arena} {work : ℕ} {s s₁ s₂ s' : List ℕ} {z : states.Walk} {x : Expansion} {end : ℕ} {isShape : Bool} {m : Met}
    → Ample work 0 z → Begun z x → Expanded image (area_of arena) s s₁ x end
    → MeetsList s₁ s₂ arena work (record { reply = z.reply; known = z.known; expansions = x.number }) (record { start = x.listed; end = end }) m
    → Linking arena isShape s₂ s' m → MeetsSets image arena work s s' z x isShape m
meets_sets {image} {arena} {work} {s} {s₂ = s₂} {s' = s'} {z = z} {x = x} {isShape = isShape} {m = m} ample begun expanded met linking = record {
  operation = (after_met met).operation;
  going = (after_met met).going;
  ample = ample_met met (record {
    going = ample.going;
    paid = ample.paid;
    few = ample.few;
    counted = omega (arith, ample.counted, begun.number);
    countable = omega (arith, ample.countable, begun.number);
    budget = ample.budget;
  }) (omega (arith, begun.listed));
  meets = λ starts site queued. by_linking linking starts site queued;
}
  where
    by_linking : Linking arena isShape s₂ s' m → (starts : List ℕ) → Site image arena work z.reply.operation s z → Queued image arena work z.reply.operation s x starts
        → Meets image arena work z.reply.operation isShape (λ levels. walk (document image) (pass_of image isShape) stop z.reply.operation work levels starts) s s' z m
    by_linking (links_it deeper stood) starts site queued = record {
      done = λ flat. absurd (false≢true (sym flat ∙ deeper));
      entered = λ _. entered_linked ample begun expanded met starts site queued deeper stood;
    }
    by_linking (leaves_it flat same) starts site queued = record {
      done = λ _ levels. flat_done ample begun expanded met starts site queued flat same (pass_of image isShape) levels;
      entered = λ deeper. absurd (false≢true (sym flat ∙ deeper));
    }

-- where the walk stopped, its state but for the reply does not matter
pub sets_stopped : {image : List ℕ} {arena : Arena} {work : ℕ} {s s' : List ℕ} {z : states.Walk} {x : Expansion} {isShape : Bool} {m : Met} (z' : states.Walk) → (m.walk.reply.kind ≡ 0 → ⊥)
    → goes_deeper m ≡ false → z'.reply ≡ m.walk.reply → z.known ≤ z'.known → MeetsSets image arena work s s' z x isShape m → MeetsSets image arena work s s' z x isShape (record { walk = z'; below = None })
sets_stopped z' stop flat same grows met = record {
  operation = ap (λ (r : Reply). r.operation) same ∙ met.operation;
  going = λ e. absurd (false≢true e);
  ample = λ go. absurd (stop (ap (λ (r : Reply). r.kind) (sym same) ∙ go));
  meets = λ sets site queued. record { done = λ _ levels. refines_stopped stop same grows ((met.meets sets site queued).done flat levels); entered = λ e. absurd (false≢true e) };
}
