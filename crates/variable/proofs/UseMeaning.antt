-- What an operation uses, on an image without fault: the ends cover just the values that it uses, and a variable is marked just if
-- its name is used. Assumes nothing.
use mathlib.Core.Path.{◌≡◌, refl, sym, subst, ◌∙◌}
use mathlib.Core.Logic.{◌⊎◌, inl, inr}
use mathlib.Core.List.{List}
use Prim.Native.Nat.{ℕ, ◌+◌, ◌≤◌, ◌<◌}
use native.Mathlib.Decide.{ℕ_discrete}
use native.Mathlib.Omega.{arith}
use lib.ListN.{length, get_or, replicate, length-replicate, get_or-replicate, get_or-eq_default}
use borrow.Author.Tests.{eq-eqb, ne_eqb}
use Rattle.lists.proofs.EveryLaws.{all_below}
use Rattle.lists.proofs.Parts.{le_or_lt}
use Rattle.tables.specs.declared.Range.{Range}
use Rattle.tables.specs.Layout.{NONE, operations, sets, selections, arguments, values, variables}
use Rattle.tables.specs.Image.{count_at}
use Rattle.tables.specs.Columns.{spread, operation_directives, fragment_directives, set_selections, selection_kind, selection_target, field_arguments, selection_directives}
use Rattle.tables.specs.Good.{Good, StandsIn}
use Rattle.tables.proofs.Counts.{few_rows}
use Rattle.reach.specs.Reach.{RowOf, Reaches, itself, onward, ReachedFrom, Among, member_of, reached_from}
use Rattle.variable.specs.Uses.{Uses, reach_range, reach_selection, reach_set, reach_queue, none_used, reach_arguments}
use Rattle.variable.specs.Rules.{UsesArgument, of_operation, of_field, of_selection, of_definition}
use Rattle.reach.proofs.ReachMeaning.{member_stands, stands_member, stands_row, queued_reached, reached_queued}
use Rattle.variable.proofs.Covers.{Covers, Adds, adds_then, adds_as, InTurn, adds_turns, adds_range}

module _ (image : List ℕ) (good : Good image) where
  pub few_values : count_at image values ≤ 16384
  few_values = few_rows image good.few values (omega arith)

  pub few_variables : count_at image variables ≤ 1024
  few_variables = few_rows image good.few variables (omega arith)

  -- every argument has its value
  pub arguments_valued : count_at image arguments ≤ count_at image values
  arguments_valued = all_below _ _ (λ a h. (good.argument a h).value)

  -- ---- the arguments of a selection, of a set, of a queue

  pub data OfSelection (r a : ℕ) : Type 0 where
    by_field : RowOf (field_arguments image r) a → OfSelection r a
    by_directive : RowOf (selection_directives image r) a → OfSelection r a
    by_definition : selection_kind image r ≡ spread → RowOf (fragment_directives image (selection_target image r)) a → OfSelection r a

  module _ (r : ℕ) (known : r < count_at image selections) (u : Uses) (long : length u.ends ≡ count_at image values) where
    small : count_at image values ≤ NONE
    small = let few = few_values in omega arith

    reaches_argument : (rows : Range) (v : Uses) → length v.ends ≡ count_at image values → rows.first + rows.count ≤ count_at image arguments → Adds image (RowOf rows) v (reach_range image rows v)
    reaches_argument rows v l within = let valued = arguments_valued in adds_range image rows v l (omega arith) small

    own_adds : Adds image (λ a. RowOf (field_arguments image r) a ⊎ RowOf (selection_directives image r) a) u (reach_range image (selection_directives image r) (reach_range image (field_arguments image r) u))
    own_adds =
        let first = reaches_argument (field_arguments image r) u long (good.selection r known).arguments_within.ends in
        adds_then image first (reaches_argument (selection_directives image r) _ (first.long ∙ long) (good.selection r known).directives_within.ends)

    pub adds_selection : Adds image (OfSelection r) u (reach_selection image r u)
    unfolding reach_selection
    adds_selection =
        elim (ℕ_discrete (selection_kind image r) spread) [
          | yes p ↦
              let target = (good.selection r known).spread_target p in
              let third = reaches_argument (fragment_directives image (selection_target image r)) _ (own_adds.long ∙ long) (good.fragment (selection_target image r) target).directives_within.ends in
              rw (eq-eqb _ _ p) (adds_as image (adds_then image own_adds third) (λ a. to p a) (λ a. from a))
          | no q ↦ rw (ne_eqb _ _ q) (adds_as image own_adds (λ a. to_own a) (λ a. from_own q a))
        ]
      where
        to_own : (a : ℕ) → RowOf (field_arguments image r) a ⊎ RowOf (selection_directives image r) a → OfSelection r a
        to_own a (inl h) = by_field h
        to_own a (inr h) = by_directive h

        to : selection_kind image r ≡ spread → (a : ℕ) → (RowOf (field_arguments image r) a ⊎ RowOf (selection_directives image r) a) ⊎ RowOf (fragment_directives image (selection_target image r)) a → OfSelection r a
        to p a (inl h) = to_own a h
        to p a (inr h) = by_definition p h

        from_own : (selection_kind image r ≡ spread → ⊥) → (a : ℕ) → OfSelection r a → RowOf (field_arguments image r) a ⊎ RowOf (selection_directives image r) a
        from_own q a (by_field h) = inl h
        from_own q a (by_directive h) = inr h
        from_own q a (by_definition p h) = absurd (q p)

        from : (a : ℕ) → OfSelection r a → (RowOf (field_arguments image r) a ⊎ RowOf (selection_directives image r) a) ⊎ RowOf (fragment_directives image (selection_target image r)) a
        from a (by_field h) = inl (inl h)
        from a (by_directive h) = inl (inr h)
        from a (by_definition p h) = inr h

  -- a selection of set s
  abbrev pub OfSet : ℕ → ℕ → Type 0
  OfSet s = InTurn image (λ k. OfSelection (member_of image s k)) (set_selections image s).count

  pub adds_set : (s : ℕ) → s < count_at image sets → (u : Uses) → length u.ends ≡ count_at image values → Adds image (OfSet s) u (reach_set image s u)
  unfolding reach_set
  adds_set s known u long =
      adds_turns image (λ k. reach_selection image (member_of image s k)) (set_selections image s).count u long
      (λ k v l e. adds_selection (member_of image s k) (stands_row image good _ s (member_stands image good s k known l)) v e)

  abbrev pub OfQueue : List ℕ → ℕ → Type 0
  OfQueue queue = InTurn image (λ j. OfSet (get_or queue j 0)) (length queue)

  pub adds_queue : (queue : List ℕ) → ((j : ℕ) → j < length queue → get_or queue j 0 < count_at image sets) → (u : Uses) → length u.ends ≡ count_at image values → Adds image (OfQueue queue) u (reach_queue image queue u)
  unfolding reach_queue
  adds_queue queue known u long =
      adds_turns image (λ j. reach_set image (get_or queue j 0)) (length queue) u long (λ j v l e. adds_set (get_or queue j 0) (known j l) v e)

  -- ---- the arguments of an operation

  module _ (i : ℕ) (known : i < count_at image operations) where
    within : i + 1 ≤ count_at image sets
    within = let own = (good.operation i known).set in omega arith

    one_start : (t : ℕ) → ReachedFrom image (record { first = i; count = 1 }) t → Reaches image i t
    one_start t r =
        let from : i ≤ r.start = r.starts.from in
        let below : r.start < i + 1 = r.starts.below in
        let same : r.start ≡ i = omega arith in
        subst (λ (s : ℕ). Reaches image s t) same r.reaches

    pub set_known : (t : ℕ) → Reaches image i t → t < count_at image sets
    set_known t itself = let w = within in omega arith
    set_known t (onward r l) = l.known

    queue_reached : (j : ℕ) → j < length (reached_from image (record { first = i; count = 1 })).queue → Reaches image i (get_or (reached_from image (record { first = i; count = 1 })).queue j 0)
    queue_reached j l = one_start _ (queued_reached image good (record { first = i; count = 1 }) within _ (record { place = j; inside = l; found = refl }))

    reached_place : (t : ℕ) → Reaches image i t → Among t (reached_from image (record { first = i; count = 1 })).queue
    reached_place t r = reached_queued image good (record { first = i; count = 1 }) within t (record { start = i; starts = record { from = omega arith; below = omega arith }; reaches = r })

    none_covered : (r : ℕ) → Covers (none_used image).ends r → ⊥
    unfolding none_used
    none_covered r c = let none = zero_end c.place in let beyond = c.beyond in omega arith
      where
        zero_end : (k : ℕ) → ◌≡◌ {A = ℕ} (get_or (replicate (count_at image values) 0) k 0) 0
        zero_end k = pick (le_or_lt (count_at image values) k)
          where
            pick : (count_at image values ≤ k) ⊎ (k < count_at image values) → ◌≡◌ {A = ℕ} (get_or (replicate (count_at image values) 0) k 0) 0
            pick (inl h) = get_or-eq_default (replicate (count_at image values) 0) 0 (rw (length-replicate {A = ℕ} (count_at image values) 0) h)
            pick (inr h) = get_or-replicate _ k 0 0 h

    pub none_long : length (none_used image).ends ≡ count_at image values
    unfolding none_used
    none_long = length-replicate _ _

    abbrev pub all_arguments : ℕ → Type 0
    all_arguments a = RowOf (operation_directives image i) a ⊎ OfQueue (reached_from image (record { first = i; count = 1 })).queue a

    pub arguments_add : Adds image all_arguments (none_used image) (reach_arguments image i)
    unfolding reach_arguments
    arguments_add =
        let valued = arguments_valued in
        let few = few_values in
        let ends = (good.operation i known).directives_within.ends in
        let own = adds_range image (operation_directives image i) (none_used image) none_long (omega arith) (omega arith) in
        adds_then image own (adds_queue _ (λ j l. set_known _ (queue_reached j l)) _ (own.long ∙ none_long))

    of_selection_row : {s r a : ℕ} → Reaches image i s → StandsIn image r s → OfSelection r a → UsesArgument image i a
    of_selection_row reached stands (by_field h) = of_field reached stands h
    of_selection_row reached stands (by_directive h) = of_selection reached stands h
    of_selection_row {r = r} reached stands (by_definition p h) = of_definition reached (record { row = r; stands = stands; kind = p; target = refl }) h

    pub covered_used : (a : ℕ) → Covers (reach_arguments image i).ends a → UsesArgument image i a
    covered_used a c = pick (arguments_add.only a c)
      where
        queued : OfQueue (reached_from image (record { first = i; count = 1 })).queue a → UsesArgument image i a
        queued h =
            let reached = queue_reached h.turn h.less in
            let k = h.adds in
            of_selection_row reached (member_stands image good _ k.turn (set_known _ reached) k.less) k.adds

        pick : Covers (none_used image).ends a ⊎ all_arguments a → UsesArgument image i a
        pick (inl none) = absurd (none_covered a none)
        pick (inr (inl h)) = of_operation h
        pick (inr (inr h)) = queued h

    in_queue : {s r a : ℕ} → Reaches image i s → StandsIn image r s → OfSelection r a → OfQueue (reached_from image (record { first = i; count = 1 })).queue a
    in_queue {s} {r} {a} reached stands h =
        let place = reached_place s reached in
        let (k, l, e) = stands_member image good r s stands in
        let row : OfSelection (member_of image s k) a = subst (λ (x : ℕ). OfSelection x a) (sym e) h in
        let inner : OfSet s a = record { turn = k; less = l; adds = row } in
        record { turn = place.place; less = place.inside; adds = subst (λ (t : ℕ). OfSet t a) (sym place.found) inner }

    pub used_covered : (a : ℕ) → UsesArgument image i a → Covers (reach_arguments image i).ends a
    used_covered a (of_operation h) = arguments_add.new a (inl h)
    used_covered a (of_field reached stands h) = arguments_add.new a (inr (in_queue reached stands (by_field h)))
    used_covered a (of_selection reached stands h) = arguments_add.new a (inr (in_queue reached stands (by_directive h)))
    used_covered a (of_definition reached spreads h) =
        let target : RowOf (fragment_directives image (selection_target image spreads.row)) a = subst (λ (f : ℕ). RowOf (fragment_directives image f) a) (sym spreads.target) h in
        arguments_add.new a (inr (in_queue reached spreads.stands (by_definition spreads.kind target)))
