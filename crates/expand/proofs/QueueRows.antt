-- What the queue holds where distinct rows have been done: each set once, and so no more sets than the table has; and that
-- the rows of distinct sets are distinct. Assumes `Good`, and of the sets that the queue began with that each is an operation's or a
-- field's.
use mathlib.Core.Path.{◌≡◌, refl, sym, ap, ◌∙◌, subst}
use mathlib.Core.Logic.{◌⊎◌, inl, inr, ⊎_elim}
use mathlib.Core.Bool.{Bool, true, false, ◌||◌}
use mathlib.Core.List.{List, [], ◌∷◌, ◌++◌}
use Prim.Native.Nat.{ℕ, ◌+◌, ◌≤◌, ◌<◌}
use native.Mathlib.Omega.{arith}
use borrow.Author.Tests.{eq-eqb}
use lib.Dec.{eqb}
use lib.ListN.{length}
use Rattle.merge_theory.specs.Lists.{◌∈◌, here, there, Every, flat_map, filter, is_in}
use Rattle.merge_theory.specs.Document.{field, spread, inline, Document, set_of}
use Rattle.merge_theory.specs.Expand.{entering, marking, queued, marked}
use Rattle.merge_theory.proofs.ListLaws.{head_in, not_in_nil, in_append, from_flat_map}
use Rattle.tables.specs.Layout.{operations, fragments, sets, selections}
use Rattle.tables.specs.Image.{count_at}
use Rattle.tables.specs.Columns as columns
use Rattle.tables.specs.Columns.{selection_kind, selection_target, set_selections}
use Rattle.tables.specs.Good.{Good, GoodOwned, StandsIn}
use Rattle.tables.proofs.ColumnLaws.{stands_below}
use Rattle.expand.specs.declared.Area.{Area}
use Rattle.expand.specs.ImageDocument.{document_by}
use Rattle.expand.specs.Expanding.{Once, once_none, once_more, StartSet, of_operation, of_field, Fresh}
use Rattle.expand.specs.ExpandSteps.{Task, document_of}
use Rattle.expand.proofs.OnceLaws.{once_append, once_flat_map, once_below, filter_shorter}
use Rattle.expand.proofs.DocumentLaws.{up_once, one_inline, field_owned, field_apart, fragment_set_known, field_kind, spread_kind, inline_kind, spread_set, inline_set, RowKind, a_field, a_spread, an_inline, row_kind, rows_stand}

pub true_or_false : (b : Bool) → (b ≡ true) ⊎ (b ≡ false)
true_or_false true = inl refl
true_or_false false = inr refl

true_not_false : true ≡ false → ⊥
true_not_false h = let z : ◌≡◌ {A = ℕ} 0 1 = cc in omega arith

-- an expansion starts from sets that are there
start_known : {image : List ℕ} → Good image → {u : ℕ} → StartSet image u → u < count_at image sets
start_known good {u} (of_operation h) = (good.operation u h).set
start_known good (of_field r h kind e less) = less

-- ---- one row, by its kind

module _ (D : Document) (r : ℕ) (seen rows : List ℕ) where
  pub queued_field : D.kind_of r ≡ field → queued D seen (r ∷ rows) ≡ queued D seen rows
  unfolding queued entering marking
  queued_field e = rw e

  pub marked_field : D.kind_of r ≡ field → marked D seen (r ∷ rows) ≡ marked D seen rows
  unfolding marked marking
  marked_field e = rw e

  module _ {u : ℕ} (one : set_of D r ≡ u ∷ []) where
    pub queued_inline : D.kind_of r ≡ inline → queued D seen (r ∷ rows) ≡ u ∷ queued D seen rows
    unfolding queued entering marking
    queued_inline e = rw (e, one)

    pub marked_inline : D.kind_of r ≡ inline → marked D seen (r ∷ rows) ≡ marked D seen rows
    unfolding marked marking
    marked_inline e = rw e

    pub queued_again : D.kind_of r ≡ spread → is_in u seen ≡ true → queued D seen (r ∷ rows) ≡ queued D (u ∷ seen) rows
    unfolding queued entering marking filter
    queued_again e before = rw (e, one, before)

    pub queued_new : D.kind_of r ≡ spread → is_in u seen ≡ false → queued D seen (r ∷ rows) ≡ u ∷ queued D (u ∷ seen) rows
    unfolding queued entering marking filter
    queued_new e new = rw (e, one, new)

    pub marked_spread : D.kind_of r ≡ spread → marked D seen (r ∷ rows) ≡ marked D (u ∷ seen) rows
    unfolding marked marking
    marked_spread e = rw (e, one)

-- ---- rows in order

module _ {image : List ℕ} {area : Area} (t : Task image area) where
  abbrev D : Document
  D = document_of image area t

  -- what one row does to the queue
  data Turn (seen : List ℕ) (r : ℕ) : Type 0 where
    stays : ((rows : List ℕ) → queued D seen (r ∷ rows) ≡ queued D seen rows) → Turn seen r
    inlines : selection_kind image r ≡ columns.inline → GoodOwned image r
        → ((rows : List ℕ) → queued D seen (r ∷ rows) ≡ selection_target image r ∷ queued D seen rows) → Turn seen r
    again : (u : ℕ) → ((rows : List ℕ) → queued D seen (r ∷ rows) ≡ queued D (u ∷ seen) rows) → Turn seen r
    enters : (j u : ℕ) → j < count_at image fragments → u ≡ count_at image operations + j → is_in u seen ≡ false
        → ((rows : List ℕ) → queued D seen (r ∷ rows) ≡ u ∷ queued D (u ∷ seen) rows) → Turn seen r

  turn_of : (seen : List ℕ) (r : ℕ) → r < count_at image selections → Turn seen r
  turn_of seen r h = by_kind (row_kind t.good r h)
    where
      by_seen : (u : ℕ) → D.kind_of r ≡ spread → set_of D r ≡ u ∷ [] → selection_target image r < count_at image fragments
          → u ≡ count_at image operations + selection_target image r → (is_in u seen ≡ true) ⊎ (is_in u seen ≡ false) → Turn seen r
      by_seen u kind one less e (inl before) = again u (λ rows. queued_again D r seen rows one kind before)
      by_seen u kind one less e (inr new) = enters (selection_target image r) u less e new (λ rows. queued_new D r seen rows one kind new)

      by_kind : RowKind image r → Turn seen r
      by_kind (a_field e) = stays (λ rows. queued_field D r seen rows (field_kind t.good t.same_shape t.same_arguments r e))
      by_kind (a_spread e less) =
          by_seen (count_at image operations + selection_target image r) (spread_kind t.good t.same_shape t.same_arguments r e)
          (spread_set t.good t.same_shape t.same_arguments r e less) less refl (true_or_false _)
      by_kind (an_inline e own) =
          inlines e own (λ rows. queued_inline D r seen rows (inline_set t.good t.same_shape t.same_arguments r e own) (inline_kind t.good t.same_shape t.same_arguments r e))

  -- where a set of the queue comes from
  data Entered (seen rows : List ℕ) (u : ℕ) : Type 0 where
    by_inline : (r : ℕ) → r ∈ rows → selection_kind image r ≡ columns.inline → GoodOwned image r → selection_target image r ≡ u → Entered seen rows u
    by_spread : (j : ℕ) → j < count_at image fragments → u ≡ count_at image operations + j → is_in u seen ≡ false → Entered seen rows u

  entered_there : {seen rows : List ℕ} {r u : ℕ} → Entered seen rows u → Entered seen (r ∷ rows) u
  entered_there (by_inline q m kind own e) = by_inline q (there m) kind own e
  entered_there (by_spread j h e new) = by_spread j h e new

  not_seen : (a b : Bool) → (a || b) ≡ false → b ≡ false
  not_seen true b h = absurd (true_not_false h)
  not_seen false b h = h

  entered_after : {seen rows : List ℕ} {r u v : ℕ} → Entered (v ∷ seen) rows u → Entered seen (r ∷ rows) u
  unfolding is_in
  entered_after (by_inline q m kind own e) = by_inline q (there m) kind own e
  entered_after {seen} {u = u} {v = v} (by_spread j h e new) = by_spread j h e (not_seen (eqb u v) (is_in u seen) new)

  from_queued : (seen rows : List ℕ) → Every (λ r. r < count_at image selections) rows → {u : ℕ} → u ∈ queued D seen rows → Entered seen rows u
  unfolding queued
  from_queued seen [] all m = absurd (not_in_nil m)
  from_queued seen (r ∷ rows) all {u} m =
      by_turn (turn_of seen r (all r head_in)) (λ k n. from_queued k rows (λ q i. all q (there i)) n)
    where
      Rest : Type 0
      Rest = (seen : List ℕ) → u ∈ queued D seen rows → Entered seen rows u

      by_inlined : selection_kind image r ≡ columns.inline → GoodOwned image r → Rest → u ∈ (selection_target image r ∷ queued D seen rows) → Entered seen (r ∷ rows) u
      by_inlined kind own rest (here e) = by_inline r head_in kind own (sym e)
      by_inlined kind own rest (there n) = entered_there (rest seen n)

      by_entered : (j v : ℕ) → j < count_at image fragments → v ≡ count_at image operations + j → is_in v seen ≡ false → Rest
          → u ∈ (v ∷ queued D (v ∷ seen) rows) → Entered seen (r ∷ rows) u
      by_entered j v h is new rest (here e) = by_spread j h (e ∙ is) (ap (λ (k : ℕ). is_in k seen) e ∙ new)
      by_entered j v h is new rest (there n) = entered_after (rest (v ∷ seen) n)

      by_turn : Turn seen r → Rest → Entered seen (r ∷ rows) u
      by_turn (stays e) rest = entered_there (rest seen (subst (λ (l : List ℕ). u ∈ l) (e rows) m))
      by_turn (inlines kind own e) rest = by_inlined kind own rest (subst (λ (l : List ℕ). u ∈ l) (e rows) m)
      by_turn (again v e) rest = entered_after (rest (v ∷ seen) (subst (λ (l : List ℕ). u ∈ l) (e rows) m))
      by_turn (enters j v h is new e) rest = by_entered j v h is new rest (subst (λ (l : List ℕ). u ∈ l) (e rows) m)

  -- distinct rows queue distinct sets
  queued_once : (seen rows : List ℕ) → Every (λ r. r < count_at image selections) rows → Once rows → Once (queued D seen rows)
  unfolding queued is_in
  queued_once seen [] all o = once_none
  queued_once seen (r ∷ rows) all (once_more out o) =
      by_turn (turn_of seen r (all r head_in)) (λ k. queued_once k rows later o)
    where
      later : Every (λ r. r < count_at image selections) rows
      later q i = all q (there i)

      inline_new : selection_kind image r ≡ columns.inline → GoodOwned image r → Entered seen rows (selection_target image r) → ⊥
      inline_new kind own (by_inline q m kind' own' e) = out (subst (λ (k : ℕ). k ∈ rows) (one_inline t.good kind' kind own' own e) m)
      inline_new kind own (by_spread j h e new) = omega (arith, own.own)

      fragment_new : (j u : ℕ) → j < count_at image fragments → u ≡ count_at image operations + j → Entered (u ∷ seen) rows u → ⊥
      fragment_new j u h is (by_inline q m kind own e) = omega (arith, own.own)
      fragment_new j u h is (by_spread i l e new) = true_not_false (sym (ap (λ (b : Bool). b || is_in u seen) (eq-eqb u u refl)) ∙ new)

      by_turn : Turn seen r → ((seen : List ℕ) → Once (queued D seen rows)) → Once (queued D seen (r ∷ rows))
      by_turn (stays e) rest = subst Once (sym (e rows)) (rest seen)
      by_turn (inlines kind own e) rest = subst Once (sym (e rows)) (once_more (λ m. inline_new kind own (from_queued seen rows later m)) (rest seen))
      by_turn (again u e) rest = subst Once (sym (e rows)) (rest (u ∷ seen))
      by_turn (enters j u h is new e) rest =
          subst Once (sym (e rows)) (once_more (λ m. fragment_new j u h is (from_queued (u ∷ seen) rows later m)) (rest (u ∷ seen)))

  -- ---- with the sets that the queue began with

  abbrev pub queue_of : List ℕ → List ℕ
  queue_of rows = t.starts ++ queued D [] rows

  module _ (rows : List ℕ) (fresh : Fresh image rows) where
    entered_known : {u : ℕ} → Entered [] rows u → u < count_at image sets
    entered_known (by_inline r m kind own e) = omega (arith, own.known)
    entered_known (by_spread j h e new) = omega (arith, fragment_set_known t.good h)

    start_apart : {u : ℕ} → StartSet image u → Entered [] rows u → ⊥
    start_apart (of_operation h) (by_inline r m kind own e) = omega (arith, own.own)
    start_apart (of_operation h) (by_spread j l e new) = omega arith
    start_apart (of_field q h kind e less) (by_inline r m kind' own e') =
        field_apart t.good kind (field_owned t.good h kind e less) kind' own (e ∙ sym e')
    start_apart (of_field q h kind e less) (by_spread j l e' new) = omega (arith, (field_owned t.good h kind e less).own)

    pub queue_known : Every (λ u. u < count_at image sets) (queue_of rows)
    queue_known u m = ⊎_elim (λ i. start_known t.good (t.allowed u i)) (λ i. entered_known (from_queued [] rows fresh.inside i)) (in_append t.starts m)

    pub queue_once : Once (queue_of rows)
    queue_once =
        once_append t.starts t.once (queued_once [] rows fresh.inside fresh.once)
        (λ u m n. start_apart (t.allowed u m) (from_queued [] rows fresh.inside n))

    -- so the queue's region has room for them all
    pub queue_fits : length (queue_of rows) ≤ count_at image sets
    queue_fits = once_below (count_at image sets) (queue_of rows) queue_once queue_known

    -- and the list is no longer than the table
    pub list_fits : (p : ℕ → Bool) → length (filter p rows) ≤ count_at image selections
    list_fits p = omega (arith, filter_shorter p rows, once_below (count_at image selections) rows fresh.once fresh.inside)

  -- the rows of distinct sets are distinct rows of the table
  pub rows_fresh : (visited : List ℕ) → Once visited → Every (λ u. u < count_at image sets) visited → Fresh image (flat_map D.rows_of visited)
  unfolding document_by
  rows_fresh visited o all = record {
    inside = λ r m. let (u, i, j) = from_flat_map D.rows_of visited m in inside_of u (all u i) r j;
    once = once_flat_map D.rows_of visited o (λ u i. rows_once u)
        (λ u v r i j m n. t.good.one_home r u (stands u (all u i) r m) ∙ sym (t.good.one_home r v (stands v (all v j) r n)));
  }
    where
      stands : (u : ℕ) → u < count_at image sets → (r : ℕ) → r ∈ D.rows_of u → StandsIn image r u
      stands u h r m = rows_stand t.good t.same_shape t.same_arguments u h m

      inside_of : (u : ℕ) → u < count_at image sets → (r : ℕ) → r ∈ D.rows_of u → r < count_at image selections
      inside_of u h r m = omega (arith, stands_below (stands u h r m), (t.good.set u h).within.ends)

      rows_once : (u : ℕ) → Once (D.rows_of u)
      rows_once u = up_once (set_selections image u).first (set_selections image u).count
