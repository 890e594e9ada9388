-- B2, B3, B5: how a listing goes with the checks, and that one that is gone through has every entry. Assumes what each says.
use mathlib.Core.Path.{◌≡◌, refl, sym, ap, ◌∙◌, subst}
use mathlib.Core.Logic.{◌↔◌, ⊎_elim}
use mathlib.Core.List.{List, [], ◌∷◌, ◌++◌}
use Prim.Native.Nat.{ℕ, suc, ◌<◌}
use native.Mathlib.Nat.{le_refl}
use native.Mathlib.Omega.{arith}
use lib.ListN.{length}
use Rattle.merge_theory.specs.Lists.{◌∈◌, here, there, Every}
use Rattle.merge_theory.specs.Document.{Document, Cause, Sound}
use Rattle.merge_theory.specs.Steps.{Entry, entry, State, Result, finished, conflict, out, deep, IsFinished, state_of, list}
use Rattle.merge_theory.specs.Walk.{Pass, shape_pass, parent_pass, compare_first, fresh, pass, passes, in_order, listing, checks, begin}
use Rattle.merge_theory.specs.Named.{Met, top, ComparedInCheck}
use Rattle.merge_theory.specs.Rule.{SameResponse}
use Rattle.merge_theory.specs.TrueConflict.{SameLevel}
use Rattle.merge_theory.proofs.ListLaws.{head_in, not_in_nil, in_left, in_right}
use Rattle.merge_theory.proofs.Outcome.{Fact, Anyhow, Shallow, Meets, meets_after, meets_weaken}
use Rattle.merge_theory.proofs.Passes.{shape_laws, parent_laws}
use Rattle.merge_theory.specs.Expand.{expand}
use Rattle.merge_theory.proofs.Carried.{joins_against, carried_walk}
use Rattle.merge_theory.proofs.Stopping.{Stopping, StopsSo, StopsSoOf, stops_then, stops_joins, stops_carries}
use Rattle.merge_theory.proofs.Found.{list_meets}
use Rattle.merge_theory.proofs.Gone.{compared_under, Grown, Leaves, pass_done}
use Rattle.merge_theory.proofs.Entries.{Front, ComparedIn, compared_in, ends_compared}
use Rattle.merge_theory.proofs.Sizes.{Prolongs, same, at_full, at_out, bears_listing}
use Rattle.merge_theory.proofs.NoRoom.{no_room_checks}

-- ---- with the checks: the listing prolongs them

-- gone through, with nothing listed
abbrev pub NothingListed : Result → Type 0
NothingListed (finished z) = z.entries ≡ []
NothingListed (conflict e z) = ⊥
NothingListed (out z) = ⊥
NothingListed (deep z) = ⊥

not_in_front : {e : Entry} {more entries : List Entry} → entries ≡ e ∷ more → entries ≡ [] → ⊥
not_in_front q h = let w : ◌≡◌ {A = ℕ} 0 1 = cc in omega arith

module _ (D : Document) (room budget : ℕ) (operations : List ℕ) (used : ℕ) where
  -- the checks have no room; both have the budget
  prolongs_checks : Prolongs (record { room = 0; budget = budget }) (record { room = room; budget = budget })
      (checks D budget operations (begin used)) (listing D room budget operations (begin used))
  prolongs_checks =
      subst (λ r. Prolongs (record { room = 0; budget = budget }) (record { room = room; budget = budget }) r (listing D room budget operations (begin used)))
      (sym (no_room_checks D budget operations (begin used) refl).0)
      ((bears_listing D operations).grows (record { room = 0; budget = budget }) (record { room = room; budget = budget })
      (record { roomier = omega arith; richer = le_refl budget }) (begin used))

  -- B3: a listing is gone through with nothing listed exactly if every check finishes
  pub nothing_listed : IsFinished (checks D budget operations (begin used)) ↔ NothingListed (listing D room budget operations (begin used))
  nothing_listed = go (checks D budget operations (begin used)) (listing D room budget operations (begin used)) prolongs_checks
      (no_room_checks D budget operations (begin used) refl).1
    where
      go : (r r' : Result) → Prolongs (record { room = 0; budget = budget }) (record { room = room; budget = budget }) r r' → (state_of r).entries ≡ []
          → IsFinished r ↔ NothingListed r'
      go r r' (same (finished z)) e = ((λ t. e), λ h. tt)
      go r r' (same (conflict f z)) e = ((λ t. t), λ h. h)
      go r r' (same (out z)) e = ((λ t. t), λ h. h)
      go r r' (same (deep z)) e = ((λ t. t), λ h. h)
      go r r' (at_full {e = f} {z = z} x less (more, q)) e = ((λ t. absurd t), λ h. absurd (listed x h (q ∙ ap (λ (l : List Entry). (l ++ f ∷ []) ++ more) e)))
        where
          listed : (x : Result) → NothingListed x → (state_of x).entries ≡ f ∷ more → ⊥
          listed (finished y) h q = not_in_front q h
          listed (out _) h q = elim h [ ]
          listed (deep _) h q = elim h [ ]
          listed (conflict _ _) h q = elim h [ ]
      go r r' (at_out x less f) e = absurd (omega arith)

  -- a listing stops at a conflict only where there is no room
  abbrev Full : Entry → Fact
  Full e z = ¬ (length z.entries < room)

  full_found : (e : Entry) → StopsSo Full (list room e)
  full_found e z = list_meets room e z Anyhow (Stopping Full) (λ m. tt) (λ new fits. tt) (λ new full. full)

  full_pass : (P : Pass) (s : ℕ) → StopsSo Full (pass D (list room) budget P s)
  unfolding pass compare_first
  full_pass P s z = carried_walk D P s _ _ _ (stops_carries Full D P s budget (list room) by_part) (suc D.limit) (s ∷ []) top (fresh z)
    where
      by_part : (sets part : List ℕ) → Met D P s sets → part ∈ P.parts (expand D sets) → StopsSo Full (compare_first (list room) s P.clash part)
      by_part sets [] met m = λ z. tt
      by_part sets (a ∷ others) met m =
          joins_against (StopsSoOf Full) (stops_joins Full) (λ i. list room) s P.clash a others (λ c b i e. full_found (entry s c a b))

  full_listing : (ops : List ℕ) → StopsSo Full (listing D room budget ops)
  unfolding in_order passes
  full_listing [] = λ z. tt
  full_listing (s ∷ ops) =
      stops_then Full (passes D (list room) budget s) (listing D room budget ops)
      (stops_then Full (pass D (list room) budget (shape_pass D) s) (pass D (list room) budget (parent_pass D) s) (full_pass (shape_pass D) s) (full_pass (parent_pass D) s))
      (full_listing ops)

  -- B2: where the checks stop at a conflict, that is the listing's first entry, if there is room for one
  pub first_listed : (e : Entry) (z : State) → checks D budget operations (begin used) ≡ conflict e z → 0 < room
      → Front (e ∷ []) (state_of (listing D room budget operations (begin used))).entries
  first_listed e z q some-room = go (checks D budget operations (begin used)) (listing D room budget operations (begin used)) prolongs_checks q
      (no_room_checks D budget operations (begin used) refl).1 (full_listing operations (begin used))
    where
      go : (r r' : Result) → Prolongs (record { room = 0; budget = budget }) (record { room = room; budget = budget }) r r' → r ≡ conflict e z
          → (state_of r).entries ≡ [] → Meets Anyhow (Stopping Full) r' → Front (e ∷ []) (state_of r').entries
      go r r' (same x) q h full = absurd (subst (Meets Anyhow (Stopping Full)) q full none_yet)
        where
          none_yet : length z.entries < room
          none_yet =
              let k : (state_of (conflict e z)).entries ≡ [] = subst (λ x. (state_of x).entries ≡ []) q h in
              let l : length z.entries ≡ 0 = ap length k in
              omega arith
      go r r' (at_full {e = f} {z = y} x less (more, p)) q h full =
          let k : f ≡ e = cc in
          (more, p ∙ ap (λ (l : List Entry). (l ++ f ∷ []) ++ more) h ∙ ap (λ (x : Entry). x ∷ more) k)
      go r r' (at_out {z = y} x less f) q h full = absurd (omega arith)

-- ---- B5: gone through, the entries are those of all compared pairs

abbrev Listed : Entry → List Entry → Type 0
Listed e entries = e ∈ entries

list_leaves : (room : ℕ) → Leaves (list room) Listed
list_leaves room e z =
    list_meets room e z _ Shallow (λ m. (m, refl, λ f n. n)) (λ new fits. (in_right z.entries head_in, refl, λ f n. in_left (e ∷ []) n)) (λ new full. tt)

module _ (D : Document) {At : ℕ → Type 0} (S : Sound D At) (room budget : ℕ) where
  abbrev HasAll : ℕ → List Entry → Type 0
  HasAll s entries = (c : Cause) (a b : ℕ) → ComparedInCheck D s c a b → entry s c a b ∈ entries

  passes_done : (s : ℕ) → At s → (z : State)
      → Meets (λ y. HasAll s y.entries × Grown Listed z.entries y.entries) Shallow (passes D (list room) budget s z)
  unfolding passes
  passes_done s at z =
      meets_after _ _ Shallow _ _
      (pass_done D S (shape_pass D) (SameResponse D) (shape_laws D) (list room) Listed (list_leaves room) s budget at z)
      (λ y shapes. meets_weaken _ _ Shallow (pass D (list room) budget (parent_pass D) s y)
      (λ x parents. (
        λ c a b. ⊎_elim (λ h. parents.1 (entry s c a b) (shapes.0 c a b (compared_under D (shape_pass D) h))) (λ h. parents.0 c a b (compared_under D (parent_pass D) h)),
        λ e m. parents.1 e (shapes.1 e m),
      ))
      (pass_done D S (parent_pass D) (SameLevel D) (parent_laws D) (list room) Listed (list_leaves room) s budget at y))

  all_done : (operations : List ℕ) → Every At operations → (z : State)
      → Meets (λ y. ((s : ℕ) → s ∈ operations → HasAll s y.entries) × Grown Listed z.entries y.entries) Shallow (listing D room budget operations z)
  unfolding in_order
  all_done [] all z = ((λ s m. absurd (not_in_nil m)), λ e m. m)
  all_done (s ∷ operations) all z =
      meets_after _ _ Shallow (passes D (list room) budget s z) (listing D room budget operations) (passes_done s (all s head_in) z)
      (λ y f. meets_weaken _ _ Shallow (listing D room budget operations y)
      (λ x g. ((λ t m. both y x f.0 g.0 g.1 t m), λ e m. g.1 e (f.1 e m))) (all_done operations (λ t m. all t (there m)) y))
    where
      both : (y x : State) → HasAll s y.entries → ((t : ℕ) → t ∈ operations → HasAll t x.entries) → Grown Listed y.entries x.entries
          → (t : ℕ) → t ∈ (s ∷ operations) → HasAll t x.entries
      both y x first rest grown t (here q) c a b h =
          grown (entry t c a b) (subst (λ x. entry x c a b ∈ y.entries) (sym q) (first c a b (subst (λ x. ComparedInCheck D x c a b) q h)))
      both y x first rest grown t (there m) c a b h = rest t m c a b h

  pub all_listed : (operations : List ℕ) (used : ℕ) → Every At operations → (z : State) → listing D room budget operations (begin used) ≡ finished z
      → (e : Entry) → (e ∈ z.entries) ↔ ComparedIn D operations e
  all_listed operations used all z q e = (
    λ m. ends_compared D room budget operations (begin used) (λ f n. absurd (not_in_nil n)) e (subst (λ r. e ∈ (state_of r).entries) (sym q) m),
    λ h. go h,
  )
    where
      go : {e : Entry} → ComparedIn D operations e → e ∈ z.entries
      go (compared_in {s = s} {a = a} {b = b} {c = c} m h) =
          (subst (Meets (λ y. ((s : ℕ) → s ∈ operations → HasAll s y.entries) × Grown Listed [] y.entries) Shallow) q
          (all_done operations all (begin used))).0 s m c a b h

  pub listing_never_deep : (operations : List ℕ) (used : ℕ) → Every At operations → (z : State) → ¬ (listing D room budget operations (begin used) ≡ deep z)
  listing_never_deep operations used all z q =
      subst (Meets (λ y. ((s : ℕ) → s ∈ operations → HasAll s y.entries) × Grown Listed [] y.entries) Shallow) q (all_done operations all (begin used))
