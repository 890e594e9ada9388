-- `walk::Run::meet_list` meets its contract: a law for each of its three ways. Assumes nothing.
use mathlib.Core.Path.{◌≡◌, refl, ap, ◌∙◌}
use Rattle.std.specs.Prelude.{Some, None}
use Rattle.std.proofs.lemmas.Result.{err_from_is_err_and}
use mathlib.Core.Bool.{Bool, true, false}
use borrow.Author.Tests.{eq-eqb, ne_eqb}
use Prim.Native.Nat.{ℕ, ◌+◌}
use mathlib.Core.List.{List}
use Rattle.known.specs.declared.Registry.{Registry}
use Rattle.selection.specs.declared.arena.Arena.{Arena}
use Rattle.lists.specs.declared.Span.{Span}
use Rattle.selection.specs.declared.arena.Walk as states
use Rattle.selection.specs.Regions.{registry_of}
use Rattle.known.specs.KnownLists.{slot_at, Finds, kept_words}
use Rattle.selection.specs.Refining.{charged, length_of, entered, met_list, met_words, MeetsList}
use Rattle.selection.proofs.walk.Run.meet_list.Goals as goal

module _ (s : List ℕ) (arena : Arena) (work : ℕ) (z : states.Walk) (x : Span) where
  known_already : {paid : states.Walk} → Finds (registry_of arena) s (slot_at (registry_of arena) s x) x true → paid ≡ charged work 1 z
      → MeetsList s s arena work z x (record { walk = paid; below = None })
  unfolding met_list met_words
  known_already finds paid = record { old = true; finds = finds; result = rw paid; words = refl }

  module _ {paid : states.Walk} {n : ℕ} (finds : Finds (registry_of arena) s (slot_at (registry_of arena) s x) x false) (rows : n ≡ length_of x) (charge : paid ≡ charged work (1 + n) z) where
    charge_is : paid ≡ charged work (1 + length_of x) z
    charge_is = charge ∙ ap (λ m. charged work (1 + m) z) rows

    not_paid : (paid.reply.kind ≡ 0 → ⊥) → MeetsList s s arena work z x (record { walk = paid; below = None })
    unfolding met_list met_words entered
    not_paid stop = record { old = false; finds = finds; result = rw (← charge_is, ne_eqb _ _ stop); words = rw (← charge_is, ne_eqb _ _ stop) }

    stored : paid.reply.kind ≡ 0 → {s' : List ℕ} {slot known : ℕ} → known ≡ x.end → slot ≡ slot_at (registry_of arena) s x → s' ≡ kept_words (registry_of arena) slot z.known x s
        → MeetsList s s' arena work z x (record { walk = record { reply = paid.reply; known = known; expansions = paid.expansions }; below = Some x })
    unfolding met_list met_words entered
    stored go end at words = record { old = false; finds = finds; result = rw (← charge_is, eq-eqb _ _ go, end); words = rw (← charge_is, eq-eqb _ _ go, ← at) words }

-- the registry and the slot are those of the arena and the list
found : {registry : Registry} {slot : ℕ} (s : List ℕ) (arena : Arena) (x : Span) {r : Bool} → registry ≡ registry_of arena → slot ≡ slot_at registry s x
    → Finds registry s slot x r → Finds (registry_of arena) s (slot_at (registry_of arena) s x) x r
found s arena x is at finds = rw (at, is) at finds

pub returns-in_err-paid : goal.returns-in_err-paid
returns-in_err-paid c =
    let p = err_from_is_err_and c.from_residual.result c.from_residual.ensures.1 in
    let refused = c.in_err-paid.ensures in
    let slot = c.slot_of-slot.ensures in
    rw (p.1, p.2) (record {
      meets = known_already _ _ _ _ _ (found _ c.args.self.now.arena _ c.registry-registry.ensures slot (rw c.if-is_known.true at c.is_known.ensures)) refused.charges;
      ends = refused.ends c.requires;
    })

pub returns-then-is_known : goal.returns-then-is_known
returns-then-is_known c =
    let slot = c.slot_of-slot.ensures in
    record {
      meets = known_already _ _ _ _ _ (found _ c.args.self.now.arena _ c.registry-registry.ensures slot (rw c.if-is_known.true at c.is_known.ensures)) c.in_ok-paid.ensures.charges;
      ends = c.in_ok-paid.ensures.ends c.requires;
    }

pub returns-in_err-paid-2 : goal.returns-in_err-paid-2
returns-in_err-paid-2 c =
    let p = err_from_is_err_and c.from_residual-in_err-paid-2.result c.from_residual-in_err-paid-2.ensures.1 in
    let refused = c.in_err-paid-2.ensures in
    let slot = c.slot_of-slot.ensures in
    let registry = c.registry-registry.ensures in
    rw (p.1, p.2) (record {
      meets = not_paid _ _ _ _ _ (found _ c.args.self.now.arena _ registry slot (rw c.if-is_known.false at c.is_known.ensures)) c.len.ensures refused.charges (refused.ends c.requires);
      ends = refused.ends c.requires;
    })

pub returns : goal.returns
returns c =
    let slot = c.slot_of-slot.ensures in
    let registry = c.registry-registry.ensures in
    let paid = c.in_ok-paid-2.ensures in
    record {
      meets = stored _ _ _ _ _ (found _ c.args.self.now.arena _ registry slot (rw c.if-is_known.false at c.is_known.ensures))
          c.len.ensures paid.charges (paid.ends c.requires)
          c.keep-known.ensures.0 (rw registry at slot) (rw registry at c.keep-known.ensures.1);
      ends = paid.ends c.requires;
    }
