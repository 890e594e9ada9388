-- The laws of refinement: how steps of the code that do what steps of the merge theory do are put together. Assumes nothing.
use mathlib.Core.Path.{◌≡◌, refl, sym, ap, ◌∙◌}
use mathlib.Core.Bool.{Bool, true, false, cond, false≢true}
use mathlib.Core.List.{List}
use Prim.Native.Nat.{ℕ, suc, ◌+◌, ◌≤◌}
use native.Mathlib.Omega.{arith}
use lib.Dec.{leb, eqb}
use lib.ListN.{length}
use borrow.Author.Tests.{leb-true, eqb-true, eqb-false}
use Rattle.lists.proofs.Parts.{stores_length}
use Rattle.merge_theory.specs.Lists.{is_known}
use Rattle.merge_theory.specs.Document.{Cause, shape, name, arguments, number_of}
use Rattle.merge_theory.specs.Steps.{entry, State, Result, finished, conflict, out, deep, Step, after, ◌then◌, charge_if, charge}
use Rattle.merge_theory.specs.Steps as steps
use Rattle.merge_theory.specs.Walk.{cost_of, note, enter, meet}
use Rattle.lists.specs.Part.{StoredAt}
use Rattle.selection.specs.declared.arena.Arena.{Arena}
use Rattle.selection.specs.Regions.{registry_of}
use Rattle.selection.specs.declared.arena.Walk as states
use Rattle.selection.specs.declared.arena.Reply.{Reply}
use Rattle.lists.specs.declared.Span.{Span}
use Rattle.selection.specs.declared.walk.Met.{Met}
use Rattle.known.specs.KnownLists.{slot_at, kept_words}
use Rattle.std.specs.Prelude.{Some, None}
use Rattle.selection.specs.Refining.{goes_deeper, paid_for, Holds, Tells, charged, length_of, entered, met_list, met_words, MeetsList, Site, Kept, Refines}
use Rattle.known.proofs.KnownLaws.{Fits, known_more}

pub some_kind : (c : Cause) → number_of c ≡ 0 → ⊥
some_kind shape e = omega arith
some_kind name e = omega arith
some_kind arguments e = omega arith

-- ---- one step after another

-- the walk goes on: only where the first step finished
pub tells_go : (s s' : List ℕ) (arena : Arena) (op : ℕ) (z z' : states.Walk) (r : Result) (next : Step) → Tells s arena op z r → z.reply.kind ≡ 0
    → ((y : State) → Holds s arena op z y → Tells s' arena op z' (next y)) → Tells s' arena op z' (after r next)
unfolding after
tells_go s s' arena op z z' (finished y) next h go f = f y h
tells_go s s' arena op z z' (conflict (entry t c a b) y) next h go f = absurd (some_kind c (sym (ap (λ r. r.kind) h) ∙ go))
tells_go s s' arena op z z' (out y) next h go f = absurd (let k : z.reply.kind ≡ 17 = ap (λ r. r.kind) h in omega arith)
tells_go s s' arena op z z' (deep y) next h go f = tt

-- the walk stops
pub tells_stop : (s : List ℕ) (arena : Arena) (op : ℕ) (z : states.Walk) (r : Result) (next : Step) → Tells s arena op z r → (z.reply.kind ≡ 0 → ⊥) → Tells s arena op z (after r next)
unfolding after
tells_stop s arena op z (finished y) next h stop = absurd (stop (ap (λ r. r.kind) h.reply))
tells_stop s arena op z (conflict e y) next h stop = h
tells_stop s arena op z (out y) next h stop = h
tells_stop s arena op z (deep y) next h stop = tt

pub tells_stopped : (s : List ℕ) (arena : Arena) (op : ℕ) (z z' : states.Walk) (r : Result) → (z.reply.kind ≡ 0 → ⊥) → z'.reply ≡ z.reply → Tells s arena op z r → Tells s arena op z' r
tells_stopped s arena op z z' (finished y) stop same h = absurd (stop (ap (λ r. r.kind) h.reply))
tells_stopped s arena op z z' (conflict e y) stop same h = same ∙ h
tells_stopped s arena op z z' (out y) stop same h = same ∙ h
tells_stopped s arena op z z' (deep y) stop same h = tt

module _ {image : List ℕ} {arena : Arena} {work op : ℕ} where
  pub kept_trans : {s s' s'' : List ℕ} {z z' z'' : states.Walk} → Kept image arena work op s s' z z' → Kept image arena work op s' s'' z' z'' → Kept image arena work op s s'' z z''
  kept_trans p q = record {
    long = q.long ∙ p.long;
    parents = λ k h. q.parents k h ∙ p.parents k h;
    links = λ k h less. q.links k h (omega (arith, p.grows)) ∙ p.links k h less;
    known = λ k h less. q.known k h (omega (arith, p.grows)) ∙ p.known k h less;
    beyond = λ k h. q.beyond k h ∙ p.beyond k h;
    grows = omega (arith, p.grows, q.grows);
  }

  pub kept_none : (s : List ℕ) (z z' : states.Walk) → z.known ≤ z'.known → Kept image arena work op s s z z'
  kept_none s z z' grows = record { long = refl; parents = λ k h. refl; links = λ k h less. refl; known = λ k h less. refl; beyond = λ k h. refl; grows = grows }

  pub then_go : {f g : Step} {s s' s'' : List ℕ} {z z' z'' : states.Walk} → Refines image arena work op f s s' z z' → z'.reply.kind ≡ 0
      → Refines image arena work op g s' s'' z' z'' → Refines image arena work op (f then g) s s'' z z''
  then_go {f} {g} {s} {s'} {s''} {z} {z'} {z''} p go q = record {
    tells = λ y h. tells_go s' s'' arena op z' z'' (f y) g (p.tells y h) go q.tells;
    site = q.site;
    kept = kept_trans p.kept q.kept;
  }

  pub then_stop : {f : Step} (g : Step) {s s' : List ℕ} {z z' : states.Walk} → Refines image arena work op f s s' z z' → (z'.reply.kind ≡ 0 → ⊥)
      → Refines image arena work op (f then g) s s' z z'
  then_stop {f} g {s} {s'} {z} {z'} p stop = record {
    tells = λ y h. tells_stop s' arena op z' (f y) g (p.tells y h) stop;
    site = p.site;
    kept = p.kept;
  }

  -- a step that does, at this state, what another does
  pub by : {f : Step} (g : Step) {s s' : List ℕ} {z z' : states.Walk} → ((y : State) → Holds s arena op z y → g y ≡ f y)
      → Refines image arena work op f s s' z z' → Refines image arena work op g s s' z z'
  by g {s' = s'} {z' = z'} same p = record { tells = λ y h. rw (same y h) (p.tells y h); site = p.site; kept = p.kept }

  -- where the walk stopped, its state but for the reply does not matter
  pub refines_stopped : {f : Step} {s s' : List ℕ} {z z' z'' : states.Walk} → (z'.reply.kind ≡ 0 → ⊥) → z''.reply ≡ z'.reply → z.known ≤ z''.known
      → Refines image arena work op f s s' z z' → Refines image arena work op f s s' z z''
  refines_stopped {f} {s' = s'} {z' = z'} {z'' = z''} stop same grows p = record {
    tells = λ y h. tells_stopped s' arena op z' z'' (f y) stop same (p.tells y h);
    site = λ go. absurd (stop (ap (λ (r : Reply). r.kind) (sym same) ∙ go));
    kept = record { long = p.kept.long; parents = p.kept.parents; links = p.kept.links; known = p.kept.known; beyond = p.kept.beyond; grows = grows };
  }

  pub idle : {s : List ℕ} {z : states.Walk} → Site image arena work op s z → Refines image arena work op finished s s z z
  idle {s} {z} site = record { tells = λ y h. h; site = λ _. site; kept = kept_none s z z (omega arith) }

-- ---- a charge

pub charge_tells : (s : List ℕ) (arena : Arena) (op work cost : ℕ) (z : states.Walk) (y : State) → Holds s arena op z y
    → Tells s arena op (charged work cost z) (charge work cost y)
unfolding charged charge charge_if
charge_tells s arena op work cost z y h = rw (ap (λ r. r.used) h.reply) (go (leb (y.used + cost) work))
  where
    go : (b : Bool) → Tells s arena op (cond b (record {
      reply = record { kind = z.reply.kind; operation = z.reply.operation; a = z.reply.a; b = z.reply.b; used = y.used + cost };
      known = z.known;
      expansions = z.expansions;
    }) (record {
      reply = record { kind = 17; operation = z.reply.operation; a = z.reply.a; b = z.reply.b; used = y.used };
      known = z.known;
      expansions = z.expansions;
    })) (charge_if b cost y)
    go true = record { known = h.known; reply = rw h.reply }
    go false = rw h.reply

paid_fields : (work cost : ℕ) (z : states.Walk) (used : ℕ) → z.reply.used ≡ used → leb (used + cost) work ≡ true → (charged work cost z).reply.used ≡ used + cost
unfolding charged
paid_fields work cost z used units e = rw (units, e)

refused_kind : (work cost : ℕ) (z : states.Walk) (used : ℕ) → z.reply.used ≡ used → leb (used + cost) work ≡ false → (charged work cost z).reply.kind ≡ 17
unfolding charged
refused_kind work cost z used units e = rw (units, e)

-- a charge that left the reply at 0 was made
pub record Paid (work cost : ℕ) (z : states.Walk) (y : State) : Type 0 where
  pub made : charge work cost y ≡ finished (steps.charged cost y)
  pub fits : y.used + cost ≤ work
  pub units : (charged work cost z).reply.used ≡ y.used + cost

paid_if : (s : List ℕ) (arena : Arena) (op work cost : ℕ) (z : states.Walk) (y : State) → Holds s arena op z y → leb (y.used + cost) work ≡ true → Paid work cost z y
unfolding charge charge_if
paid_if s arena op work cost z y h e =
    record { made = rw e; fits = leb-true (y.used + cost) work e; units = paid_fields work cost z y.used (ap (λ r. r.used) h.reply) e }

pub charge_paid : (s : List ℕ) (arena : Arena) (op work cost : ℕ) (z : states.Walk) (y : State) → Holds s arena op z y
    → (charged work cost z).reply.kind ≡ 0 → Paid work cost z y
charge_paid s arena op work cost z y h go = by_test (leb (y.used + cost) work) refl
  where
    units : z.reply.used ≡ y.used
    units = ap (λ r. r.used) h.reply

    by_test : (b : Bool) → leb (y.used + cost) work ≡ b → Paid work cost z y
    by_test true e = paid_if s arena op work cost z y h e
    by_test false e = absurd (let k = refused_kind work cost z y.used units e in omega (arith, k, go))

pub after_finished : (r : Result) → after r finished ≡ r
unfolding after
after_finished (finished y) = refl
after_finished (conflict e y) = refl
after_finished (out y) = refl
after_finished (deep y) = refl

-- ---- a list that is met

-- the three ways
pub data MetCase (s s' : List ℕ) (arena : Arena) (work : ℕ) (z : states.Walk) (x : Span) (old : Bool) (r : Met) : Type 0 where
  again : old ≡ true → r ≡ record { walk = charged work 1 z; below = None } → s' ≡ s → MetCase s s' arena work z x old r
  refused : old ≡ false → ((charged work (1 + length_of x) z).reply.kind ≡ 0 → ⊥) → r ≡ record { walk = charged work (1 + length_of x) z; below = None } → s' ≡ s
      → MetCase s s' arena work z x old r
  stored : old ≡ false → (charged work (1 + length_of x) z).reply.kind ≡ 0
      → r ≡ record { walk = record { reply = (charged work (1 + length_of x) z).reply; known = x.end; expansions = (charged work (1 + length_of x) z).expansions }; below = Some x }
      → s' ≡ kept_words (registry_of arena) (slot_at (registry_of arena) s x) z.known x s → MetCase s s' arena work z x old r

pub met_case : {s s' : List ℕ} {arena : Arena} {work : ℕ} {z : states.Walk} {x : Span} {r : Met} (m : MeetsList s s' arena work z x r) → MetCase s s' arena work z x m.old r
unfolding met_list met_words entered
met_case {s} {s'} {arena} {work} {z} {x} {r} m = go m.old m.result m.words
  where
    paid : states.Walk
    paid = charged work (1 + length_of x) z

    by_kind : (b : Bool) → eqb paid.reply.kind 0 ≡ b
        → r ≡ cond b (record { walk = record { reply = paid.reply; known = x.end; expansions = paid.expansions }; below = Some x }) (record { walk = paid; below = None })
        → s' ≡ cond b (kept_words (registry_of arena) (slot_at (registry_of arena) s x) z.known x s) s → MetCase s s' arena work z x false r
    by_kind true e result words = stored refl (eqb-true _ _ e) result words
    by_kind false e result words = refused refl (eqb-false _ _ e) result words

    go : (b : Bool) → r ≡ met_list work z x b → s' ≡ met_words arena work z x b s → MetCase s s' arena work z x b r
    go true result words = again refl result words
    go false result words = by_kind (eqb paid.reply.kind 0) refl result words

module _ {s s' : List ℕ} {arena : Arena} {work : ℕ} {z : states.Walk} {x : Span} {r : Met} (op : ℕ) (m : MeetsList s s' arena work z x r)
    (l : List ℕ) (list : StoredAt s arena.store x l) where
  rows_are : length_of x ≡ length l
  rows_are = sym (stores_length list.rows)

  module _ (y : State) (h : Holds s arena op z y) where
    old_is : m.old ≡ is_known l y.known
    old_is = m.finds.answer refl z.known y.known l h.known list

    -- nothing is deeper: the charge is all
    pub met_done : goes_deeper r ≡ false → (walked : Step) → Tells s' arena op r.walk (meet work l walked (is_known l y.known) y)
    unfolding meet enter cost_of
    met_done flat walked = rw (← old_is) (go (met_case m))
      where
        go : MetCase s s' arena work z x m.old r → Tells s' arena op r.walk (meet work l walked m.old y)
        go (again old result words) = rw (old, words, result, after_finished (charge work 1 y)) (charge_tells s arena op work 1 z y h)
        go (refused old stop result words) =
            rw (old, words, result)
            (tells_stop s arena op (charged work (1 + length_of x) z) (charge work (1 + length l) y) (enter l walked false)
            (rw (← rows_are) (charge_tells s arena op work (1 + length_of x) z y h)) stop)
        go (stored old go_on result words) = absurd (false≢true (sym flat ∙ ap (λ (k : Met). goes_deeper k) result))

    -- a new list that is paid: it is known now, and its parts are walked
    pub met_entered : goes_deeper r ≡ true → Fits (registry_of arena) (suc z.known) → x.start ≡ z.known + 1 → x.start ≤ x.end
        → Holds s' arena op r.walk (paid_for l y) × (y.used + suc (length l) ≤ work)
        × ((walked : Step) → meet work l walked (is_known l y.known) y ≡ walked (paid_for l y))
    unfolding meet enter cost_of note after
    met_entered deeper fits start ordered = go (met_case m)
      where
        go : MetCase s s' arena work z x m.old r → Holds s' arena op r.walk (paid_for l y) × (y.used + suc (length l) ≤ work)
            × ((walked : Step) → meet work l walked (is_known l y.known) y ≡ walked (paid_for l y))
        go (again old result words) = absurd (false≢true (sym (ap (λ (k : Met). goes_deeper k) result) ∙ deeper))
        go (refused old stop result words) = absurd (false≢true (sym (ap (λ (k : Met). goes_deeper k) result) ∙ deeper))
        go (stored old go_on result words) =
            let n = length_of x in
            let paid = charge_paid s arena op work (1 + n) z y h go_on in
            let size : y.used + (1 + n) ≡ y.used + suc (length l) = omega (arith, rows_are) in
            let cost : 1 + n ≡ 1 + length l = omega (arith, rows_are) in
            let holds : Holds s arena op (charged work (1 + n) z) (steps.charged (1 + n) y) = rw paid.made at (charge_tells s arena op work (1 + n) z y h) in
            let known = known_more l fits (omega arith) ordered h.known list in
            let made : charge work (1 + length l) y ≡ finished (steps.charged (suc (length l)) y) = rw (← cost, paid.made, size) in
            (rw (words, result, ← size) (record { known = known; reply = holds.reply }), omega (arith, paid.fits, rows_are), λ walked. rw (← old_is, old, made))
