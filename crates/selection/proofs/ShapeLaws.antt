-- The loop of the shape pass: group by group. Assumes nothing.
use mathlib.Core.Path.{◌≡◌, refl, ap, ◌∙◌}
use mathlib.Core.Bool.{Bool, true}
use mathlib.Core.List.{List, [], ◌∷◌, map}
use Prim.Native.Nat.{ℕ, suc, ◌+◌, ◌≤◌, ◌<◌}
use native.Mathlib.Nat.{le_refl}
use native.Mathlib.Omega.{arith}
use Rattle.merge_theory.specs.Lists.{filter}
use Rattle.merge_theory.specs.Document.{Document}
use Rattle.merge_theory.specs.Groups.{fields_with}
use Rattle.merge_theory.proofs.ListLaws.{from_filter}
use Rattle.selection.specs.declared.arena.Arena.{Arena}
use Rattle.selection.specs.declared.arena.Walk as states
use Rattle.lists.specs.declared.Span.{Span}
use Rattle.selection.specs.declared.groups.Part.{Part}
use Rattle.selection.specs.Places.{row_in, before, appears}
use Rattle.selection.specs.Grouping.{group_place, group_part, Grounded}
use Rattle.selection.specs.Following.{group_found}
use Rattle.selection.specs.Refining.{document, Ample, Rows, WalksList}
use Rattle.expand.proofs.OnceLaws.{once_filter}
use Rattle.selection.proofs.PlaceLaws.{row_is, seek_ge}
use Rattle.selection.proofs.PartLaws.{all, field_at, group_found_lem, group_part_lem, groups_from, groups_start}
use Rattle.selection.proofs.FollowLaws.{group_is}
use Rattle.selection.proofs.StandLaws.{grounded, threaded}
use Rattle.selection.proofs.LoopLaws.{Stepped, PassLoop, loop_first, loop_move, loop_turn, loop_end}

-- the groups from a place on: none past the end, else the one that opens there and those behind it
pub record AlongGroups (D : Document) (x : Span) (place : ℕ) (l : List ℕ) (rest : List (List ℕ)) : Type 0 where
  pub from : x.start ≤ place
  pub over : x.end ≤ place → rest ≡ []
  pub opens : place < x.end → appears D.name_of all (before x l place) (field_at x l place) ≡ true
  pub next : place < x.end → rest ≡ fields_with D.name_of l (D.name_of (field_at x l place)) ∷ groups_from D x l (place + 1)

groups_along : {D : Document} {image s : List ℕ} {store : ℕ} {x : Span} {l : List ℕ} → Grounded D image s store x l → (from : ℕ) {place : ℕ} → x.start ≤ from
    → place ≡ group_place image s store x from → AlongGroups D x place l (groups_from D x l from)
groups_along {D} {image} {s} {store} {x} {l} G from {place} low e =
    let fk = group_found_lem G from low e in
    let low_place : x.start ≤ place = omega (arith, fk.ahead) in
    record {
      from = low_place;
      over = λ past. ap (map (fields_with D.name_of l)) (fk.over past);
      opens = λ less. rw (row_is G.list place low_place less) at (fk.opens less);
      next = λ less. rw (row_is G.list place low_place less) at (ap (map (fields_with D.name_of l)) (fk.here less));
    }

-- the rows of a filtered list
pub rows_filter : {image : List ℕ} {arena : Arena} {work op : ℕ} (p : ℕ → Bool) (l : List ℕ) → Rows image arena work op l → Rows image arena work op (filter p l)
rows_filter p l r = record {
  fields = λ f m. r.fields f (from_filter p l m).0;
  inside = λ f m. r.inside f (from_filter p l m).0;
  once = once_filter p l r.once;
}

module _ {image : List ℕ} {arena : Arena} {work : ℕ} {s₀ s : List ℕ} {z₀ z : states.Walk} {x : Span} {levels : ℕ} where
  -- a group is walked
  pub shape_turn : {place : ℕ} {s' : List ℕ} {z' : states.Walk} {part : Part} → PassLoop image arena work s₀ s z₀ z x true levels (AlongGroups (document image) x place) → Ample work 0 z → place < x.end
      → part ≡ group_part image s arena.store x place → Stepped image arena work s s' z part true levels z'
      → PassLoop image arena work s₀ s' z₀ z' x true levels (λ l rest. (x.start ≤ place) × (rest ≡ groups_from (document image) x l (place + 1)))
  unfolding group_part fields_with
  shape_turn {place} {s'} {z'} {part} loop ample less is step =
      loop_turn (λ l rest. (x.start ≤ place) × (rest ≡ groups_from (document image) x l (place + 1))) loop ample (ap (λ (p : Part). p.list) is) step λ l rest site stands ordered stored listed along.
      let G = grounded site listed stands.rows in
      let row : row_in s arena.store place ≡ field_at x l place = row_is stands.rows place along.from less in
      record {
        rows = fields_with (document image).name_of l ((document image).name_of (field_at x l place));
        others = groups_from (document image) x l (place + 1);
        is = along.next less;
        at = rw (is, ← row) (group_part_lem G place along.from less (rw row (along.opens less)));
        fields = rows_filter _ l listed;
        next = (along.from, refl);
      }

-- the next group is found
pub shape_found : {image : List ℕ} {arena : Arena} {work : ℕ} {s₀ s : List ℕ} {z₀ z : states.Walk} {x : Span} {levels place next : ℕ}
    → PassLoop image arena work s₀ s z₀ z x true levels (λ l rest. (x.start ≤ place) × (rest ≡ groups_from (document image) x l (place + 1))) → z.reply.kind ≡ 0
    → next ≡ group_found s arena (place + 1) x.end → PassLoop image arena work s₀ s z₀ z x true levels (AlongGroups (document image) x next)
shape_found {image} {x = x} {place = place} {next = next} loop go e =
    loop_move (AlongGroups (document image) x next) loop go λ l rest site stands listed left.
    rw left.1 (groups_along (grounded site listed stands.rows) (place + 1) (omega (arith, left.0)) (e ∙ group_is (threaded site listed stands) (place + 1) (omega (arith, left.0))))

pub shape_first : {image : List ℕ} {arena : Arena} {work : ℕ} {s : List ℕ} {z : states.Walk} (x : Span) (levels : ℕ) {place : ℕ} → Ample work 0 z
    → place ≡ group_found s arena x.start x.end → PassLoop image arena work s s z z x true levels (AlongGroups (document image) x place)
shape_first {image} x levels {place} ample e =
    loop_move (AlongGroups (document image) x place) (loop_first x true levels (λ l rest. rest ≡ groups_from (document image) x l x.start) ample (λ l. groups_start (document image) x l)) ample.going
    λ l rest site stands listed left. rw left (groups_along (grounded site listed stands.rows) x.start (le_refl x.start) (e ∙ group_is (threaded site listed stands) x.start (le_refl x.start)))

pub shape_end : {image : List ℕ} {arena : Arena} {work : ℕ} {s₀ s : List ℕ} {z₀ z : states.Walk} {x : Span} {levels place : ℕ}
    → PassLoop image arena work s₀ s z₀ z x true levels (AlongGroups (document image) x place) → x.end ≤ place → (level : ℕ) → level ≡ suc levels → WalksList image arena work s₀ s z₀ x true level z
shape_end loop past level is = loop_end loop level is (λ l rest left. left.over past)

-- a search for a group goes ahead
pub group_ahead : (s : List ℕ) (arena : Arena) (from end : ℕ) {q : ℕ} → q ≡ group_found s arena from end → from ≤ q
group_ahead s arena from end e = rw e (seek_ge _ from end)
