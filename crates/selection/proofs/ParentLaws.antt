-- The loop of the parent pass: subgroup by subgroup. Assumes nothing.
use mathlib.Core.Path.{◌≡◌, refl, sym, ap, ◌∙◌}
use mathlib.Core.Logic.{⊎_elim}
use mathlib.Core.Bool.{Bool, true, false, cond, not, false≢true}
use mathlib.Core.List.{List, ◌++◌}
use Prim.Native.Nat.{ℕ, suc, ◌≤◌, ◌<◌}
use native.Mathlib.Nat.{le_refl}
use lib.Dec.{T, eqb}
use borrow.Author.Tests.{eqb-true}
use Rattle.merge_theory.specs.Lists.{◌∈◌, filter}
use Rattle.merge_theory.specs.Document.{Document}
use Rattle.merge_theory.specs.Groups.{fields_with, abstracts}
use Rattle.merge_theory.proofs.ListLaws.{from_filter, in_append}
use Rattle.selection.specs.declared.arena.Arena.{Arena}
use Rattle.selection.specs.declared.arena.Walk as states
use Rattle.lists.specs.declared.Span.{Span}
use Rattle.selection.specs.declared.groups.Part.{Part}
use Rattle.selection.specs.declared.groups.Cursor.{Cursor}
use Rattle.selection.specs.Places.{row_in}
use Rattle.selection.specs.Grouping.{has_object_parent, subgroup_part}
use Rattle.selection.specs.Following.{group_found, FirstSubgroup, Open, NextSubgroup}
use Rattle.selection.specs.Refining.{document, Ample, Rows, WalksList}
use Rattle.expand.proofs.OnceLaws.{once_append}
use Rattle.selection.proofs.PlaceLaws.{seek_ge}
use Rattle.selection.proofs.PartLaws.{field_at, Opened, Along, subgroup_at, subgroups_after, subgroups_from, subgroup_part_lem, same_name, open_group, step_on, subgroups_start}
use Rattle.selection.proofs.FollowLaws.{group_is}
use Rattle.selection.proofs.StandLaws.{grounded, threaded}
use Rattle.selection.proofs.LoopLaws.{Stepped, PassLoop, loop_first, loop_move, loop_turn, loop_end}
use Rattle.selection.proofs.ShapeLaws.{rows_filter}

-- ---- whatever the words are

module _ (image s : List ℕ) (store : ℕ) (x : Span) where
  pub subgroup_list : (c : Cursor) {part : Part} → part ≡ subgroup_part image s store x c → part.list ≡ x
  unfolding subgroup_part
  subgroup_list c e = rw e (either (has_object_parent image s (row_in s store c.first)) _ _ refl refl)
    where
      either : (b : Bool) (p q : Part) → p.list ≡ x → q.list ≡ x → (cond b p q).list ≡ x
      either true p q h k = h
      either false p q h k = k

-- ---- the rows of a subgroup

is_true : (b : Bool) → T b → b ≡ true
is_true true t = refl
is_true false t = absurd t

rows_append : {image : List ℕ} {arena : Arena} {work op : ℕ} (xs ys : List ℕ) → Rows image arena work op xs → Rows image arena work op ys → ((f : ℕ) → f ∈ xs → f ∈ ys → ⊥) → Rows image arena work op (xs ++ ys)
rows_append xs ys p q apart = record {
  fields = λ f m. ⊎_elim (λ h. p.fields f h) (λ h. q.fields f h) (in_append xs m);
  inside = λ f m. ⊎_elim (λ h. p.inside f h) (λ h. q.inside f h) (in_append xs m);
  once = once_append xs p.once q.once apart;
}

rows_subgroup : {image : List ℕ} {arena : Arena} {work op : ℕ} (x : Span) (l : List ℕ) (c : Cursor) → Rows image arena work op l → Rows image arena work op (subgroup_at (document image) x l c)
unfolding subgroup_at abstracts fields_with
rows_subgroup {image} {arena} {work} {op} x l c r = go (D.is_object (D.parent_of (field_at x l c.first))) refl
  where
    D : Document
    D = document image

    named : List ℕ
    named = filter (λ f. eqb ((document image).name_of f) ((document image).name_of (field_at x l c.group))) l

    rows_named : Rows image arena work op named
    rows_named = rows_filter _ l r

    front : List ℕ
    front = filter (λ f. eqb ((document image).parent_of f) ((document image).parent_of (field_at x l c.first))) named

    back : List ℕ
    back = filter (λ f. not ((document image).is_object ((document image).parent_of f))) named

    apart : (document image).is_object ((document image).parent_of (field_at x l c.first)) ≡ true → (f : ℕ) → f ∈ front → f ∈ back → ⊥
    apart object f m n =
        let same : (document image).parent_of f ≡ (document image).parent_of (field_at x l c.first) =
        eqb-true _ _ (is_true (eqb ((document image).parent_of f) ((document image).parent_of (field_at x l c.first))) (from_filter (λ g. eqb ((document image).parent_of g) ((document image).parent_of (field_at x l c.first))) named m).1) in
        let other : not ((document image).is_object ((document image).parent_of f)) ≡ true =
        is_true (not ((document image).is_object ((document image).parent_of f))) (from_filter (λ g. not ((document image).is_object ((document image).parent_of g))) named n).1 in
        let both : not true ≡ true = ap not (sym object ∙ sym (ap (document image).is_object same)) ∙ other in
        false≢true both

    go : (b : Bool) → (document image).is_object ((document image).parent_of (field_at x l c.first)) ≡ b → Rows image arena work op (cond b (front ++ back) back)
    go true object = rows_append front back (rows_filter _ named rows_named) (rows_filter _ named rows_named) (apart object)
    go false object = rows_filter _ named rows_named

-- ---- the loop

module _ {image : List ℕ} {arena : Arena} {work : ℕ} {s₀ s : List ℕ} {z₀ z : states.Walk} {x : Span} {levels : ℕ} where
  -- a subgroup is walked
  pub parent_turn : (c : Cursor) {s' : List ℕ} {z' : states.Walk} {part : Part} → PassLoop image arena work s₀ s z₀ z x false levels (λ l rest. Along (document image) x l c rest) → Ample work 0 z
      → c.group < x.end → part ≡ subgroup_part image s arena.store x c → Stepped image arena work s s' z part false levels z'
      → PassLoop image arena work s₀ s' z₀ z' x false levels (λ l rest. Opened (document image) x l c × (rest ≡ subgroups_after (document image) x l c))
  parent_turn c {s'} {z'} {part} loop ample less is step =
      loop_turn (λ l rest. Opened (document image) x l c × (rest ≡ subgroups_after (document image) x l c)) loop ample (subgroup_list image s arena.store x c is) step
      λ l rest site stands ordered stored listed along.
      record {
        rows = subgroup_at (document image) x l c;
        others = subgroups_after (document image) x l c;
        is = along.next less;
        at = rw is (subgroup_part_lem (grounded site listed stands.rows) c (along.here less));
        fields = rows_subgroup x l c listed;
        next = (along.here less, refl);
      }

-- the next subgroup is found
pub parent_found : {image : List ℕ} {arena : Arena} {work : ℕ} {s₀ s : List ℕ} {z₀ z : states.Walk} {x : Span} {levels : ℕ} (c : Cursor) {c' : Cursor}
    → PassLoop image arena work s₀ s z₀ z x false levels (λ l rest. Opened (document image) x l c × (rest ≡ subgroups_after (document image) x l c)) → z.reply.kind ≡ 0
    → NextSubgroup image s arena x c c' → PassLoop image arena work s₀ s z₀ z x false levels (λ l rest. Along (document image) x l c' rest)
parent_found {image} {arena} {s = s} {x = x} c {c'} loop go next =
    loop_move (λ l rest. Along (document image) x l c' rest) loop go λ l rest site stands listed left.
    let G = grounded site listed stands.rows in
    let open-now : Open image s arena x c = record { from = left.0.from; ahead = left.0.ahead; below = left.0.below; named = same_name G c left.0 } in
    rw (left.1, next.is (threaded site listed stands) open-now) (step_on G c left.0)

pub parent_first : {image : List ℕ} {arena : Arena} {work : ℕ} {s : List ℕ} {z : states.Walk} (x : Span) (levels : ℕ) {q : ℕ} {c : Cursor} → Ample work 0 z
    → q ≡ group_found s arena x.start x.end → FirstSubgroup image s arena x q c
    → PassLoop image arena work s s z z x false levels (λ l rest. Along (document image) x l c rest)
parent_first {image} {arena} {s = s} x levels {q} {c} ample is first =
    loop_move (λ l rest. Along (document image) x l c rest) (loop_first x false levels (λ l rest. rest ≡ subgroups_from (document image) x l x.start) ample (λ l. subgroups_start (document image) x l)) ample.going
    λ l rest site stands listed left.
    let t = threaded site listed stands in
    let from : x.start ≤ q = rw is (seek_ge _ x.start x.end) in
    rw (left, first.is t from) (open_group (grounded site listed stands.rows) x.start (le_refl x.start) (is ∙ group_is t x.start (le_refl x.start)))

pub parent_end : {image : List ℕ} {arena : Arena} {work : ℕ} {s₀ s : List ℕ} {z₀ z : states.Walk} {x : Span} {levels : ℕ} (c : Cursor)
    → PassLoop image arena work s₀ s z₀ z x false levels (λ l rest. Along (document image) x l c rest) → x.end ≤ c.group → (level : ℕ) → level ≡ suc levels → WalksList image arena work s₀ s z₀ x false level z
parent_end c loop past level is = loop_end loop level is (λ l rest left. left.over past)
