-- Going along the links of a list: a link leads where a search would end. Assumes what `Threaded` says.
use mathlib.Core.Path.{◌≡◌, refl, sym, ap, ◌∙◌}
use mathlib.Core.Logic.{inl, inr, ⊎_elim}
use mathlib.Core.Bool.{Bool, true, false, cond, not, ◌&&◌, and-false, false≢true, and-true}
use mathlib.Core.List.{List}
use Prim.Native.Nat.{ℕ, ◌+◌, ◌≤◌, ◌<◌}
use native.Mathlib.Omega.{arith}
use lib.Dec.{eqb, ltb}
use lib.ListN.{get_or}
use borrow.Author.Tests.{eq-eqb, eqb-true, lt-ltb, le-ltb, ltb-true}
use Rattle.lists.proofs.Parts.{le_or_lt}
use Rattle.lists.proofs.Tests.{first_of, second_of}
use Rattle.merge_theory.specs.Document.{Document}
use Rattle.tables.specs.Columns.{object_type, type_kind, response_name}
use Rattle.selection.specs.declared.arena.Arena.{Arena}
use Rattle.lists.specs.declared.Span.{Span}
use Rattle.selection.specs.declared.groups.Segment.{Segment}
use Rattle.selection.specs.declared.groups.Cursor.{Cursor}
use Rattle.selection.specs.Places.{seek, row_in}
use Rattle.selection.specs.declared.groups.Among.{Among}
use Rattle.selection.specs.declared.groups.Among.TheVariants.{Every, One, Abstract}
use Rattle.selection.specs.Grouping.{is_among, segment, has_object_parent, belongs, member_place, name_at, parent_at, name_segment, pair_segment, is_first_of_name, opens_subgroup, group_place, subgroup_place, first_subgroup, later_subgroup, next_subgroup, Proper, of_all, of_object, of_others}
use Rattle.selection.specs.Following.{link_at, column_of, followed, group_found, opens_at, Threaded, Follows, FindsSubgroup, FindsOthers, FirstSubgroup, Open, LaterSubgroup, NextSubgroup}
use Rattle.selection.proofs.PlaceLaws.{Passed, passed_trans, passed_more, seek_ge, seek_passes, seek_passed, seek_is, seek_further, seek_cong}

-- ---- on any words

follow_on : (s : List ℕ) (arena : Arena) (kind : Among) (place end : ℕ) {next : ℕ} → next ≡ link_at s arena place (column_of kind) → place < next → next ≡ followed s arena kind place end
unfolding followed
follow_on s arena kind place end e less = rw (← e, lt-ltb place _ less)

-- a link leads on
pub follow_ahead : (s : List ℕ) (arena : Arena) (kind : Among) (place end : ℕ) {q : ℕ} → q ≡ followed s arena kind place end → place < end → place < q
unfolding followed
follow_ahead s arena kind place end e less = rw e (go (ltb place (link_at s arena place (column_of kind))) refl)
  where
    go : (b : Bool) → ltb place (link_at s arena place (column_of kind)) ≡ b → place < cond b (link_at s arena place (column_of kind)) end
    go true h = ltb-true _ _ h
    go false h = less

-- past the end it does not lead back
follow_late : (s : List ℕ) (arena : Arena) (kind : Among) (place end : ℕ) → end ≤ place → end ≤ followed s arena kind place end
unfolding followed
follow_late s arena kind place end over = go (ltb place (link_at s arena place (column_of kind))) refl
  where
    go : (b : Bool) → ltb place (link_at s arena place (column_of kind)) ≡ b → end ≤ cond b (link_at s arena place (column_of kind)) end
    go true h = let less : place < link_at s arena place (column_of kind) = ltb-true _ _ h in omega arith
    go false h = omega arith

-- ---- segments

module _ (image s : List ℕ) where
  pub belongs_name : (name row : ℕ) → belongs image s (segment name Every) row ≡ eqb (response_name image row) name
  unfolding belongs is_among
  belongs_name name row = and-true (eqb (response_name image row) name)

  pub belongs_parent : (name parent row : ℕ) → belongs image s (segment name (One parent)) row ≡ (eqb (response_name image row) name && eqb (get_or s row 0) parent)
  unfolding belongs is_among
  belongs_parent name parent row = refl

  pub belongs_others : (name row : ℕ) → belongs image s (segment name Abstract) row ≡ (eqb (response_name image row) name && not (has_object_parent image s row))
  unfolding belongs is_among
  belongs_others name row = refl

-- ---- where the list is linked

module _ {image s : List ℕ} {arena : Arena} {isShape : Bool} {x : Span} (t : Threaded image s arena isShape x) where
  next_of_name : (p : ℕ) → x.start ≤ p → p < x.end
      → followed s arena Every p x.end ≡ member_place image s arena.store (name_segment image s arena.store p) (p + 1) x.end
  next_of_name p low less =
      let is = t.next_name p low less in
      let ahead = seek_ge (λ q. belongs image s (name_segment image s arena.store p) (row_in s arena.store q)) (p + 1) x.end in
      sym (follow_on s arena Every p x.end (sym is) (omega arith))

  next_of_pair : isShape ≡ false → (kind : Among) (p : ℕ) → column_of kind ≡ 2 → x.start ≤ p → p < x.end
      → followed s arena kind p x.end ≡ member_place image s arena.store (pair_segment image s arena.store p) (p + 1) x.end
  next_of_pair by-pairs kind p column low less =
      let is = ap (link_at s arena p) column ∙ t.next_pair by-pairs p low less in
      let ahead = seek_ge (λ q. belongs image s (pair_segment image s arena.store p) (row_in s arena.store q)) (p + 1) x.end in
      sym (follow_on s arena kind p x.end (sym is) (omega arith))

  -- from a field of a segment the links lead to the segment's next
  pub follows : (D : Document) → ((k : ℕ) → eqb (type_kind image k) object_type ≡ D.is_object k) → (g : Segment) → Proper D isShape g → Follows image s arena g x
  follows D objects g (of_all name) p low less here =
      let named : name_at image s arena.store p ≡ name = eqb-true _ _ (sym (belongs_name image s name (row_in s arena.store p)) ∙ here) in
      next_of_name p low less ∙ ap (λ n. member_place image s arena.store (segment n Every) (p + 1) x.end) named
  follows D objects g (of_object by-pairs name parent object) p low less here =
      let row = row_in s arena.store p in
      let both : (eqb (response_name image row) name && eqb (get_or s row 0) parent) ≡ true = sym (belongs_parent image s name parent row) ∙ here in
      let named : name_at image s arena.store p ≡ name = eqb-true _ _ (first_of (eqb (response_name image row) name) (eqb (get_or s row 0) parent) both) in
      let of-parent : parent_at image s arena.store p ≡ parent = eqb-true _ _ (second_of (eqb (response_name image row) name) (eqb (get_or s row 0) parent) both) in
      let is-object : has_object_parent image s (row_in s arena.store p) ≡ true = ap (λ k. eqb (type_kind image k) object_type) of-parent ∙ objects parent ∙ object in
      let same : pair_segment image s arena.store p ≡ segment name (One parent) = rw (is-object, named, of-parent) in
      next_of_pair by-pairs (One parent) p refl low less ∙ ap (λ g. member_place image s arena.store g (p + 1) x.end) same
  follows D objects g (of_others by-pairs name) p low less here =
      let row = row_in s arena.store p in
      let both : (eqb (response_name image row) name && not (has_object_parent image s row)) ≡ true = sym (belongs_others image s name row) ∙ here in
      let named : name_at image s arena.store p ≡ name = eqb-true _ _ (first_of (eqb (response_name image row) name) (not (has_object_parent image s row)) both) in
      let none : has_object_parent image s (row_in s arena.store p) ≡ false = unless (has_object_parent image s row) (second_of (eqb (response_name image row) name) (not (has_object_parent image s row)) both) in
      let same : pair_segment image s arena.store p ≡ segment name Abstract = rw (none, named) in
      next_of_pair by-pairs Abstract p refl low less ∙ ap (λ g. member_place image s arena.store g (p + 1) x.end) same
    where
      unless : (b : Bool) → not b ≡ true → b ≡ false
      unless true e = absurd (false≢true e)
      unless false e = refl

  -- the groups are found
  pub group_is : (from : ℕ) → x.start ≤ from → group_found s arena from x.end ≡ group_place image s arena.store x from
  unfolding is_first_of_name
  group_is from low = seek_cong _ _ from x.end (λ p h less. ap (λ q. eqb q p) (t.first_name p (omega arith) less))

  -- between a place and the next of its name no field has that name
  pub passes_name : (name p : ℕ) → x.start ≤ p → p < x.end → name_at image s arena.store p ≡ name → (test : ℕ → Bool) → ((q : ℕ) → eqb (name_at image s arena.store q) name ≡ false → test q ≡ false)
      → {next : ℕ} → next ≡ followed s arena Every p x.end → Passed test (p + 1) x.end next
  passes_name name p low less named test fails {next} e =
      let is : next ≡ member_place image s arena.store (name_segment image s arena.store p) (p + 1) x.end = e ∙ next_of_name p low less in
      let b = seek_passed (λ q. belongs image s (name_segment image s arena.store p) (row_in s arena.store q)) (p + 1) x.end in
      rw is (record {
        ahead = b.ahead;
        within = b.within;
        failed = λ k h. fails (p + 1 + k) (ap (eqb (name_at image s arena.store (p + 1 + k))) (sym named) ∙ sym (belongs_name image s (name_at image s arena.store p) (row_in s arena.store (p + 1 + k))) ∙ b.failed k h);
      })

  -- the next of a name has it
  pub name_next : (name p : ℕ) → x.start ≤ p → p < x.end → name_at image s arena.store p ≡ name
      → {next : ℕ} → next ≡ followed s arena Every p x.end → next < x.end → name_at image s arena.store next ≡ name
  name_next name p low less named {next} e near =
      let is : next ≡ member_place image s arena.store (name_segment image s arena.store p) (p + 1) x.end = e ∙ next_of_name p low less in
      let here = seek_passes (λ q. belongs image s (name_segment image s arena.store p) (row_in s arena.store q)) (p + 1) x.end (rw is at near) in
      rw is (eqb-true _ _ (sym (belongs_name image s (name_at image s arena.store p) _) ∙ here) ∙ named)

  -- a field of the name opens a subgroup as its links say
  pub opens_as : isShape ≡ false → (name p : ℕ) → x.start ≤ p → p < x.end → name_at image s arena.store p ≡ name → opens_at image s arena p ≡ opens_subgroup image s arena.store x name p
  unfolding opens_subgroup
  opens_as by-pairs name p low less named = go (has_object_parent image s (row_in s arena.store p)) refl
    where
      go : (b : Bool) → has_object_parent image s (row_in s arena.store p) ≡ b → opens_at image s arena p ≡ opens_subgroup image s arena.store x name p
      go false none = rw (none, eq-eqb _ _ named)
      go true object =
          let same : pair_segment image s arena.store p ≡ segment name (One (parent_at image s arena.store p)) = rw (object, named) in
          let first : link_at s arena p 3 ≡ member_place image s arena.store (segment name (One (parent_at image s arena.store p))) x.start p =
          t.first_pair by-pairs p low less ∙ ap (λ g. member_place image s arena.store g x.start p) same in
          rw (object, eq-eqb _ _ named, first)

-- a field of another name opens none of the subgroups of a name
pub other_opens : (image s : List ℕ) (store : ℕ) (x : Span) (name q : ℕ) → eqb (name_at image s store q) name ≡ false → opens_subgroup image s store x name q ≡ false
unfolding opens_subgroup
other_opens image s store x name q e = rw e

-- nor is it among its others
pub other_others : (image s : List ℕ) (store name q : ℕ) → eqb (name_at image s store q) name ≡ false → belongs image s (segment name Abstract) (row_in s store q) ≡ false
other_others image s store name q e = belongs_others image s name (row_in s store q) ∙ rw e

-- ---- a search along the fields of one name, for one that passes a test that no field of another name passes

module _ (image s : List ℕ) (arena : Arena) (test : Span → ℕ → ℕ → Bool) where
  -- the places from `from` to here fail, and here the name goes on
  pub record OnName (from end place : ℕ) : Type 0 where
    pub ahead : from ≤ place
    pub passed : (x : Span) → x.end ≡ end → (name : ℕ) → Threaded image s arena false x → x.start ≤ from → (from < x.end → name_at image s arena.store from ≡ name)
        → Passed (test x name) from x.end place
    pub named : (x : Span) → x.end ≡ end → (name : ℕ) → Threaded image s arena false x → x.start ≤ from → (from < x.end → name_at image s arena.store from ≡ name)
        → place < x.end → name_at image s arena.store place ≡ name

  module _ (unlike : (x : Span) (name q : ℕ) → eqb (name_at image s arena.store q) name ≡ false → test x name q ≡ false) {from end place : ℕ} (on : OnName from end place) where
    pub on_name_next : place < end → ((x : Span) (name : ℕ) → x.end ≡ end → Threaded image s arena false x → x.start ≤ place → name_at image s arena.store place ≡ name → test x name place ≡ false)
        → {next : ℕ} → next ≡ followed s arena Every place end → OnName from end next
    on_name_next less fails {next} e = record {
      ahead = omega (arith, on.ahead, follow_ahead s arena Every place end e less);
      passed = λ x is name t low here.
          let h = on.named x is name t low here (omega arith) in
          let low_place : x.start ≤ place = omega (arith, on.ahead) in
          passed_trans (test x name) from x.end
          (passed_more (test x name) from x.end place (on.passed x is name t low here) (omega arith) (fails x name is t low_place h))
          (passes_name t name place low_place (omega arith) h (test x name) (unlike x name) (e ∙ ap (followed s arena Every place) (sym is)));
      named = λ x is name t low here near.
          let h = on.named x is name t low here (omega arith) in
          name_next t name place (omega (arith, on.ahead)) (omega arith) h (e ∙ ap (followed s arena Every place) (sym is)) near;
    }

    -- the search ends here
    pub on_name_end : (x : Span) → x.end ≡ end → (name : ℕ) → Threaded image s arena false x → x.start ≤ from → (from < x.end → name_at image s arena.store from ≡ name)
        → (place < x.end → name_at image s arena.store place ≡ name → test x name place ≡ true) → place ≡ seek (test x name) from x.end
    on_name_end x is name t low here passes = seek_is (test x name) from x.end (on.passed x is name t low here) (λ less. passes less (on.named x is name t low here less))

-- the two tests
abbrev pub opens_of : List ℕ → List ℕ → Arena → Span → ℕ → ℕ → Bool
opens_of image s arena x name = opens_subgroup image s arena.store x name

abbrev pub others_of : List ℕ → List ℕ → Arena → Span → ℕ → ℕ → Bool
others_of image s arena x name q = belongs image s (segment name Abstract) (row_in s arena.store q)

-- a field whose parent is an object is not among the others
others_not : (image s : List ℕ) (store place name : ℕ) → has_object_parent image s (row_in s store place) ≡ true → belongs image s (segment name Abstract) (row_in s store place) ≡ false
others_not image s store place name object = belongs_others image s name (row_in s store place) ∙ rw object (and-false (eqb (name_at image s store place) name))

module _ {image s : List ℕ} {arena : Arena} {from end place : ℕ} where
  pub opens_next : OnName image s arena (opens_of image s arena) from end place → place < end → opens_at image s arena place ≡ false → {next : ℕ} → next ≡ followed s arena Every place end
      → OnName image s arena (opens_of image s arena) from end next
  opens_next on less fails e =
      on_name_next image s arena (opens_of image s arena) (λ x name q h. other_opens image s arena.store x name q h) on less
      (λ x name is t low named. sym (opens_as t refl name place low (omega arith) named) ∙ fails) e

  pub opens_found : OnName image s arena (opens_of image s arena) from end place → (place < end → opens_at image s arena place ≡ true) → (x : Span) → x.end ≡ end
      → FindsSubgroup image s arena x from place
  opens_found on passes x is = record {
    ahead = on.ahead;
    found = λ name t low here.
        on_name_end image s arena (opens_of image s arena) (λ x name q h. other_opens image s arena.store x name q h) on x is name t low here
        (λ less named. sym (opens_as t refl name place (omega (arith, on.ahead)) less named) ∙ passes (omega arith));
  }

  pub others_next : OnName image s arena (others_of image s arena) from end place → place < end → has_object_parent image s (row_in s arena.store place) ≡ true → {next : ℕ}
      → next ≡ followed s arena Every place end → OnName image s arena (others_of image s arena) from end next
  others_next on less object e =
      on_name_next image s arena (others_of image s arena) (λ x name q h. other_others image s arena.store name q h) on less (λ x name is t low named. others_not image s arena.store place name object) e

  pub others_found : OnName image s arena (others_of image s arena) from end place → (place < end → has_object_parent image s (row_in s arena.store place) ≡ false) → (x : Span) → x.end ≡ end
      → FindsOthers image s arena x from place
  others_found on passes x is = record {
    found = λ t low.
        on_name_end image s arena (others_of image s arena) (λ x name q h. other_others image s arena.store name q h) on x is (name_at image s arena.store from) t low (λ less. refl)
        (λ less named. belongs_others image s (name_at image s arena.store from) (row_in s arena.store place) ∙ rw (passes (omega arith), eq-eqb _ _ named));
  }

-- ---- subgroups

module _ {image s : List ℕ} {arena : Arena} {x : Span} where
  pub first_is : {group first o : ℕ} → FindsOthers image s arena x group o → FindsSubgroup image s arena x group first → first < x.end
      → FirstSubgroup image s arena x group (record { group = group; first = first; others = o })
  unfolding first_subgroup
  first_is {group} {first} {o} rest sub less = record {
    same = refl;
    below = λ _. less;
    is = λ t low. rw (← rest.found t low, ← sub.found (name_at image s arena.store group) t low (λ _. refl), lt-ltb first x.end less);
  }

  pub first_whole : {group first o : ℕ} → FindsOthers image s arena x group o → FindsSubgroup image s arena x group first → x.end ≤ first
      → FirstSubgroup image s arena x group (record { group = group; first = group; others = o })
  unfolding first_subgroup
  first_whole {group} {first} {o} rest sub over = record {
    same = refl;
    below = λ less. less;
    is = λ t low. rw (← rest.found t low, ← sub.found (name_at image s arena.store group) t low (λ _. refl), le-ltb first x.end over);
  }

  module _ (c : Cursor) where
    pub later_is : has_object_parent image s (row_in s arena.store c.first) ≡ true → {next place : ℕ} → next ≡ followed s arena Every c.first x.end
        → FindsSubgroup image s arena x next place → LaterSubgroup image s arena x c place
    unfolding later_subgroup
    later_is object {next} {place} e sub = record { ahead = further; is = λ t o. found t o }
      where
        further : place < x.end → c.first < place
        further less = ⊎_elim (λ over. absurd (omega (arith, sub.ahead, late over))) (λ near. omega (arith, sub.ahead, follow_ahead s arena Every c.first x.end e near)) (le_or_lt x.end c.first)
          where
            late : x.end ≤ c.first → x.end ≤ next
            late over = rw e (follow_late s arena Every c.first x.end over)

        found : Threaded image s arena false x → Open image s arena x c → place ≡ cond (has_object_parent image s (row_in s arena.store c.first)) (subgroup_place image s arena.store x (name_at image s arena.store c.group) (c.first + 1)) x.end
        found t o =
            let n = name_at image s arena.store c.group in
            let low : x.start ≤ c.first = omega (arith, o.from, o.ahead) in
            let skips = passes_name t n c.first low o.below o.named (opens_subgroup image s arena.store x n) (other_opens image s arena.store x n) e in
            let goes_on : seek (opens_subgroup image s arena.store x n) next x.end ≡ seek (opens_subgroup image s arena.store x n) (c.first + 1) x.end = seek_further (opens_subgroup image s arena.store x n) (c.first + 1) x.end skips in
            rw object (sub.found n t (omega (arith, low, follow_ahead s arena Every c.first x.end e o.below)) (λ near. name_next t n c.first low o.below o.named e near) ∙ goes_on)

    pub later_none : has_object_parent image s (row_in s arena.store c.first) ≡ false → LaterSubgroup image s arena x c x.end
    unfolding later_subgroup
    later_none object = record { ahead = λ less. absurd (omega arith); is = λ t o. rw object }

    module _ {place : ℕ} (later : LaterSubgroup image s arena x c place) where
      pub next_same : c.group < x.end → place < x.end → NextSubgroup image s arena x c (record { group = c.group; first = place; others = c.others })
      unfolding next_subgroup
      next_same below less = record {
        below = λ _. less;
        further = inl (refl, later.ahead less);
        is = λ t o. rw (← later.is t o, lt-ltb place x.end less);
      }

      pub next_other : x.end ≤ place → {group : ℕ} {r : Cursor} → group ≡ group_found s arena (c.group + 1) x.end → FirstSubgroup image s arena x group r → NextSubgroup image s arena x c r
      unfolding next_subgroup
      next_other over {group} {r} is first = record {
        below = λ less. first.below (omega (arith, first.same));
        further = inr (omega (arith, first.same, ahead));
        is = λ t o.
            let low : x.start ≤ c.group + 1 = omega (arith, o.from) in
            rw (← later.is t o, le-ltb place x.end over, ← group_is t (c.group + 1) low, ← is) (first.is t (omega (arith, low, ahead)));
      }
        where
          ahead : c.group + 1 ≤ group
          ahead = rw is (seek_ge _ (c.group + 1) x.end)
