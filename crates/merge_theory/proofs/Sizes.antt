-- T3 and B6. With more room and a larger budget a listing is the same, or goes on where it stopped; and some room and budget suffice. One
-- induction over the steps shows both, and the check is the listing with no room. Assumes nothing.
use mathlib.Core.Path.{◌≡◌, refl, sym, ◌∙◌, subst}
use mathlib.Core.Bool.{Bool, true, false}
use mathlib.Core.List.{List, [], ◌∷◌, ◌++◌, append_assoc}
use Prim.Native.Nat.{ℕ, suc, ◌+◌, ◌≤◌, ◌<◌, max}
use native.Mathlib.Nat.{le_refl, le_trans, le-max_left, le-max_right}
use native.Mathlib.Omega.{arith}
use lib.Dec.{T, leb, ltb, leb→le, le→leb, ltb→lt, lt→ltb}
use lib.ListN.{length}
use Rattle.merge_theory.specs.Lists.{◌∈◌, is_known}
use Rattle.merge_theory.specs.Document.{Document}
use Rattle.merge_theory.specs.Expand.{expand}
use Rattle.merge_theory.specs.Steps.{Entry, entry, State, Result, finished, conflict, out, deep, IsOut, state_of, Step, after, ◌then◌, charged, charge_if, charge, Found, stop, is_listed, entered, list_if, list}
use Rattle.merge_theory.specs.Walk.{Pass, shape_pass, parent_pass, compare_first, cost_of, note, enter, meet, walk, fresh, pass, passes, in_order, listing}
use Rattle.merge_theory.specs.Named.{Met, top}
use Rattle.merge_theory.proofs.Carried.{Joins, joins_against, Carries, carried_walk}
use Rattle.merge_theory.proofs.Entries.{Front, front_refl, front_snoc}

-- ---- sizes

pub record Size : Type 0 where
  pub room : ℕ
  pub budget : ℕ

pub record Larger (n m : Size) : Type 0 where
  pub roomier : n.room ≤ m.room
  pub richer : n.budget ≤ m.budget

abbrev larger_refl : (n : Size) → Larger n n
larger_refl n = record { roomier = le_refl _; richer = le_refl _ }

abbrev both_sizes : Size → Size → Size
both_sizes n m = record { room = max n.room m.room; budget = max n.budget m.budget }

-- ---- what a larger size may change

-- the second result is the first, or goes on where the first stopped: for want of room, or of units
pub data Prolongs (n m : Size) : Result → Result → Type 0 where
  same : (r : Result) → Prolongs n m r r
  at_full : {e : Entry} {z : State} (r : Result) → n.room < m.room → Front (z.entries ++ e ∷ []) (state_of r).entries
      → Prolongs n m (conflict e z) r
  at_out : {z : State} (r : Result) → n.budget < m.budget → Front z.entries (state_of r).entries → Prolongs n m (out z) r

-- it stopped for want of room or of units
abbrev pub Stopped : Result → Type 0
Stopped (finished z) = ⊥
Stopped (conflict e z) = Unit {0}
Stopped (out z) = Unit {0}
Stopped (deep z) = ⊥

pub prolongs_same : {n m : Size} {r r' : Result} → Prolongs n m r r' → ¬ Stopped r → r' ≡ r
prolongs_same (same r) h = refl
prolongs_same (at_full r less f) h = absurd (h tt)
prolongs_same (at_out r less f) h = absurd (h tt)

-- whatever the first listing ended in, its entries are the first entries of the second
pub prolonged_front : {n m : Size} {r r' : Result} → Prolongs n m r r' → Front (state_of r).entries (state_of r').entries
prolonged_front (same r) = front_refl (state_of r).entries
prolonged_front (at_full {e = e} {z = z} r less (more, q)) = (e ∷ more, q ∙ append_assoc z.entries (e ∷ []) more)
prolonged_front (at_out r less f) = f

-- ---- a step that takes a size

-- nothing listed is lost
abbrev pub Onward : Step → Type 0
Onward step = (front : List Entry) (z : State) → Front front z.entries → Front front (state_of (step z)).entries

onward_after : (r : Result) (next : Step) (front : List Entry) → Onward next → Front front (state_of r).entries
    → Front front (state_of (after r next)).entries
unfolding after
onward_after (finished z) next front h f = h front z f
onward_after (conflict e z) next front h f = f
onward_after (out z) next front h f = f
onward_after (deep z) next front h f = f

pub record Bears (step : Size → Step) : Type 0 where
  pub grows : (n m : Size) → Larger n m → (z : State) → Prolongs n m (step n z) (step m z)
  pub fronts : (n : Size) → Onward (step n)
  pub enough : (z : State) → (n : Size) × ¬ Stopped (step n z)

-- a step that takes no size, and goes on
pub bears_free : (step : Step) → Onward step → ((z : State) → ¬ Stopped (step z)) → Bears (λ n. step)
bears_free step onward free = record {
  grows = λ n m le z. same (step z);
  fronts = λ n. onward;
  enough = λ z. (record { room = 0; budget = 0 }, free z);
}

prolongs_after : {n m : Size} {r r' : Result} (next next' : Step) → Onward next' → Prolongs n m r r'
    → ((z : State) → Prolongs n m (next z) (next' z)) → Prolongs n m (after r next) (after r' next')
unfolding after
prolongs_after next next' onward (same (finished z)) h = h z
prolongs_after next next' onward (same (conflict e z)) h = same (conflict e z)
prolongs_after next next' onward (same (out z)) h = same (out z)
prolongs_after next next' onward (same (deep z)) h = same (deep z)
prolongs_after next next' onward (at_full {e = e} {z = z} r less f) h =
    at_full (after r next') less (onward_after r next' (z.entries ++ e ∷ []) onward f)
prolongs_after next next' onward (at_out {z = z} r less f) h = at_out (after r next') less (onward_after r next' z.entries onward f)

-- with the larger of two sizes both steps end as with their own
bears_then : (first next : Size → Step) → Bears first → Bears next → Bears (λ n. first n then next n)
unfolding after
bears_then first next B C = record {
  grows = λ n m le z. prolongs_after (next n) (next m) (C.fronts m) (B.grows n m le z) (C.grows n m le);
  fronts = λ n front z f. onward_after (first n z) (next n) front (C.fronts n) (B.fronts n front z f);
  enough = λ z. let (n, h) = B.enough z in go z n (first n z) refl h;
}
  where
    go : (z : State) (n : Size) (r : Result) → first n z ≡ r → ¬ Stopped r → (k : Size) × ¬ Stopped (after (first k z) (next k))
    go z n (finished y) e h =
        let (m, g) = C.enough y in
        let k : Size = both_sizes n m in
        let le₁ : Larger n k = record { roomier = le-max_left _ _; richer = le-max_left _ _ } in
        let le₂ : Larger m k = record { roomier = le-max_right _ _; richer = le-max_right _ _ } in
        let e₁ : first k z ≡ finished y = prolongs_same (subst (λ r. Prolongs n k r (first k z)) e (B.grows n k le₁ z)) h in
        let e₂ : next k y ≡ next m y = prolongs_same (C.grows m k le₂ y) g in
        (k, λ stopped. g (subst Stopped e₂ (subst (λ r. Stopped (after r (next k))) e₁ stopped)))
    go z n (conflict f y) e h = absurd (h tt)
    go z n (out y) e h = absurd (h tt)
    go z n (deep y) e h = (n, λ stopped. subst (λ r. Stopped (after r (next n))) e stopped)

pub bears_joins : Joins {I = Size} Bears
bears_joins = record { stays = bears_free finished (λ front z f. f) (λ z h. h); both = bears_then }

-- ---- the steps of a listing

-- what is enough of the one and not of the other
between : {x less more : ℕ} → x ≤ more → (x ≤ less → ⊥) → less < more
between h lacks = omega arith

pub bears_charge : (cost : ℕ) → Bears (λ n. charge n.budget cost)
unfolding charge charge_if
bears_charge cost = record {
  grows = λ n m le z. by_tests n m z (leb (z.used + cost) n.budget) (leb (z.used + cost) m.budget)
      (λ t. le→leb (z.used + cost) m.budget (le_trans (leb→le (z.used + cost) n.budget t) le.richer))
      (leb→le (z.used + cost) m.budget) (λ h. le→leb (z.used + cost) n.budget h);
  fronts = λ n front z f. onward (leb (z.used + cost) n.budget) front z f;
  enough = λ z. (
    record { room = 0; budget = z.used + cost },
    free z (leb (z.used + cost) (z.used + cost)) (le→leb (z.used + cost) (z.used + cost) (le_refl (z.used + cost))),
  );
}
  where
    by_tests : (n m : Size) (z : State) (b b' : Bool) → (T b → T b') → (T b' → z.used + cost ≤ m.budget) → (z.used + cost ≤ n.budget → T b)
        → Prolongs n m (charge_if b cost z) (charge_if b' cost z)
    by_tests n m z true true h fits lacks = same (finished (charged cost z))
    by_tests n m z true false h fits lacks = absurd (h tt)
    by_tests n m z false true h fits lacks = at_out (finished (charged cost z)) (between (fits tt) lacks) (front_refl z.entries)
    by_tests n m z false false h fits lacks = same (out z)

    onward : (b : Bool) (front : List Entry) (z : State) → Front front z.entries → Front front (state_of (charge_if b cost z)).entries
    onward true front z f = f
    onward false front z f = f

    free : (z : State) (b : Bool) → T b → ¬ Stopped (charge_if b cost z)
    free z true t h = h
    free z false t h = elim t [ ]

pub bears_list : (e : Entry) → Bears (λ n. list n.room e)
unfolding list list_if
bears_list e = record {
  grows = λ n m le z. by_tests n m z (is_listed e z.entries) (ltb (length z.entries) n.room) (ltb (length z.entries) m.room)
      (λ t. lt→ltb (length z.entries) m.room (le_trans (ltb→lt (length z.entries) n.room t) le.roomier))
      (ltb→lt (length z.entries) m.room) (λ h. lt→ltb (length z.entries) n.room h);
  fronts = λ n front z f. onward (is_listed e z.entries) (ltb (length z.entries) n.room) front z f;
  enough = λ z. (
    record { room = suc (length z.entries); budget = 0 },
    free z (is_listed e z.entries) (ltb (length z.entries) (suc (length z.entries)))
        (lt→ltb (length z.entries) (suc (length z.entries)) (le_refl (suc (length z.entries)))),
  );
}
  where
    by_tests : (n m : Size) (z : State) (o r r' : Bool) → (T r → T r') → (T r' → length z.entries < m.room) → (length z.entries < n.room → T r)
        → Prolongs n m (list_if o r e z) (list_if o r' e z)
    by_tests n m z true r r' h fits lacks = same (finished z)
    by_tests n m z false true true h fits lacks = same (finished (entered e z))
    by_tests n m z false true false h fits lacks = absurd (h tt)
    by_tests n m z false false true h fits lacks = at_full (finished (entered e z)) (between (fits tt) lacks) (front_refl (z.entries ++ e ∷ []))
    by_tests n m z false false false h fits lacks = same (conflict e z)

    onward : (o r : Bool) (front : List Entry) (z : State) → Front front z.entries → Front front (state_of (list_if o r e z)).entries
    onward true r front z f = f
    onward false true front z f = front_snoc front z.entries e f
    onward false false front z f = f

    free : (z : State) (o r : Bool) → T r → ¬ Stopped (list_if o r e z)
    free z true r t h = h
    free z false true t h = h
    free z false false t h = elim t [ ]

bears_enter : (fields : List ℕ) (walked : Size → Step) → Bears walked → (isOld : Bool) → Bears (λ n. enter fields (walked n) isOld)
unfolding enter note
bears_enter fields walked B true = bears_joins.stays
bears_enter fields walked B false =
    bears_then (λ n. note fields) walked (bears_free (note fields) (λ front z f. f) (λ z h. h)) B

bears_meet : (fields : List ℕ) (walked : Size → Step) → Bears walked → (isOld : Bool) → Bears (λ n. meet n.budget fields (walked n) isOld)
unfolding meet
bears_meet fields walked B isOld = bears_then _ _ (bears_charge (cost_of isOld fields)) (bears_enter fields walked B isOld)

bears_carries : (D : Document) (P : Pass) (s : ℕ) → Carries {I = Size} D P s (λ n. list n.room) (λ n. n.budget) Bears
unfolding compare_first
bears_carries D P s = record {
  joins = bears_joins;
  compares = by_part;
  meets = λ fields walked B. record {
    grows = λ n m le z. (bears_meet fields walked B (is_known fields z.known)).grows n m le z;
    fronts = λ n front z f. (bears_meet fields walked B (is_known fields z.known)).fronts n front z f;
    enough = λ z. (bears_meet fields walked B (is_known fields z.known)).enough z;
  };
  deeps = bears_free deep (λ front z f. f) (λ z h. h);
}
  where
    by_part : (sets part : List ℕ) → Met D P s sets → part ∈ P.parts (expand D sets) → Bears (λ n. compare_first (list n.room) s P.clash part)
    by_part sets [] met m = bears_joins.stays
    by_part sets (a ∷ others) met m =
        joins_against Bears bears_joins (λ n. list n.room) s P.clash a others (λ c b i e. bears_list (entry s c a b))

-- ---- a pass, an operation, all of them

bears_pass : (D : Document) (P : Pass) (s : ℕ) → Bears (λ n. pass D (list n.room) n.budget P s)
unfolding pass
bears_pass D P s = record {
  grows = λ n m le z. walked.grows n m le (fresh z);
  fronts = λ n front z f. walked.fronts n front (fresh z) f;
  enough = λ z. walked.enough (fresh z);
}
  where
    walked : Bears (λ n. walk D P (list n.room) s n.budget (suc D.limit) (s ∷ []))
    walked = carried_walk D P s _ _ Bears (bears_carries D P s) (suc D.limit) (s ∷ []) top

pub bears_passes : (D : Document) (s : ℕ) → Bears (λ n. passes D (list n.room) n.budget s)
unfolding passes
bears_passes D s = bears_then _ _ (bears_pass D (shape_pass D) s) (bears_pass D (parent_pass D) s)

pub bears_listing : (D : Document) (operations : List ℕ) → Bears (λ n. listing D n.room n.budget operations)
unfolding in_order
bears_listing D [] = bears_joins.stays
bears_listing D (s ∷ operations) = bears_then _ _ (bears_passes D s) (bears_listing D operations)

-- ---- an engine that stops at its first conflict: the one that lists, with no room

abbrev checking : ℕ → Size
checking budget = record { room = 0; budget = budget }

module _ (step : Found → ℕ → Step) (B : Bears (λ n. step (list n.room) n.budget)) where
  -- a budget that suffices may be raised
  pub same_budget : (less more : ℕ) (z : State) → less ≤ more → step stop less z ≡ step (list 0) less z → step stop more z ≡ step (list 0) more z
      → ¬ IsOut (step stop less z) → step stop more z ≡ step stop less z
  same_budget less more z le e e' h =
      e' ∙ kept (B.grows (checking less) (checking more) (record { roomier = le_refl 0; richer = le }) z) (λ isOut. h (subst IsOut (sym e) isOut)) ∙ sym e
    where
      -- neither has room
      kept : {r r' : Result} → Prolongs (checking less) (checking more) r r' → ¬ IsOut r → r' ≡ r
      kept (same r) h = refl
      kept (at_full r more f) h = absurd (omega arith)
      kept (at_out r more f) h = absurd (h tt)

  -- some budget suffices
  pub enough_budget : (z : State) → ((budget : ℕ) → step stop budget z ≡ step (list 0) budget z) → (budget : ℕ) × ¬ IsOut (step stop budget z)
  enough_budget z e =
      let (n, h) = B.enough z in (
        n.budget,
        λ isOut. go n (B.grows (checking n.budget) n (record { roomier = omega arith; richer = le_refl n.budget }) z) h
            (subst IsOut (e n.budget) isOut),
      )
    where
      -- with its budget a listing that is gone through does not run out for want of room
      go : (n : Size) {r r' : Result} → Prolongs (checking n.budget) n r r' → ¬ Stopped r' → ¬ IsOut r
      go n (same (out z)) h isOut = h tt
      go n (at_out r more f) h isOut = omega arith
      go n {r = finished _} (same _) h isOut = elim isOut [ ]
      go n {r = deep _} (same _) h isOut = elim isOut [ ]
      go n {r = conflict _ _} (same _) h isOut = elim isOut [ ]
      go n (at_full _ _ _) h isOut = elim isOut [ ]
