-- Going along the links of a list: what is read on any words, and what that finds where the list is linked. Assumes nothing.
--     Threaded ..         the links of a list lead where searches for a field's name, or name and parent, end
--     Follows ..          from a field of a segment, its links lead to the segment's next
--     FindsSubgroup .. and the others below: what the searches along links give
use Rattle.std.specs.Prelude.{◌≡◌, ◌⊎◌, Bool, true, false, cond, ◌&&◌, List, ℕ, ◌+◌, ◌*◌, ◌≤◌, ◌<◌, eqb, ltb, get_or}
use Rattle.selection.specs.declared.arena.Arena.{Arena}
use Rattle.lists.specs.declared.Span.{Span}
use Rattle.selection.specs.declared.groups.Among.{Among}
use Rattle.selection.specs.declared.groups.Among.TheVariants.{Every, One, Abstract}
use Rattle.selection.specs.declared.groups.Link.{Link}
use Rattle.selection.specs.declared.groups.Link.TheVariants.{NextOfName, FirstOfName, NextOfParent, FirstOfParent}
use Rattle.selection.specs.declared.groups.Segment.{Segment}
use Rattle.selection.specs.declared.groups.Cursor.{Cursor}
use Rattle.selection.specs.Places.{seek, row_in}
use Rattle.selection.specs.Grouping.{has_object_parent, belongs, member_place, name_at, name_segment, pair_segment, subgroup_place, others_place, first_subgroup, later_subgroup, next_subgroup}

-- ---- on any words

-- the four words of a place: the next and the first of its name, then of its name and parent
abbrev pub link_at : List ℕ → Arena → (place column : ℕ) → ℕ
link_at s arena place column = get_or s (arena.links + 4 * place + column) 0

abbrev pub link_column : Link → ℕ
link_column NextOfName = 0
link_column FirstOfName = 1
link_column NextOfParent = 2
link_column FirstOfParent = 3

-- which of them leads to the next of a segment
abbrev pub column_of : Among → ℕ
column_of Every = 0
column_of (One parent) = 2
column_of Abstract = 2

-- the place that a link leads to; the end where it does not lead on
unfoldable pub followed : List ℕ → Arena → Among → (place end : ℕ) → ℕ
followed s arena among place end = cond (ltb place (link_at s arena place (column_of among))) (link_at s arena place (column_of among)) end

abbrev pub group_found : List ℕ → Arena → (from end : ℕ) → ℕ
group_found s arena from end = seek (λ p. eqb (link_at s arena p 1) p) from end

abbrev pub opens_at : List ℕ → List ℕ → Arena → ℕ → Bool
opens_at image s arena place = has_object_parent image s (row_in s arena.store place) && eqb (link_at s arena place 3) place

-- ---- where the list is linked

module _ (image s : List ℕ) (arena : Arena) where
  -- in the shape pass by names alone
  pub record Threaded (isShape : Bool) (x : Span) : Type 0 where
    pub next_name : (p : ℕ) → x.start ≤ p → p < x.end
        → link_at s arena p 0 ≡ member_place image s arena.store (name_segment image s arena.store p) (p + 1) x.end
    pub first_name : (p : ℕ) → x.start ≤ p → p < x.end
        → link_at s arena p 1 ≡ member_place image s arena.store (name_segment image s arena.store p) x.start p
    pub next_pair : isShape ≡ false → (p : ℕ) → x.start ≤ p → p < x.end
        → link_at s arena p 2 ≡ member_place image s arena.store (pair_segment image s arena.store p) (p + 1) x.end
    pub first_pair : isShape ≡ false → (p : ℕ) → x.start ≤ p → p < x.end
        → link_at s arena p 3 ≡ member_place image s arena.store (pair_segment image s arena.store p) x.start p

  abbrev pub Follows : Segment → Span → Type 0
  Follows g x =
      (p : ℕ) → x.start ≤ p → p < x.end → belongs image s g (row_in s arena.store p) ≡ true
      → followed s arena g.among p x.end ≡ member_place image s arena.store g (p + 1) x.end

  -- from a place of the group of that name
  pub record FindsSubgroup (x : Span) (from r : ℕ) : Type 0 where
    pub ahead : from ≤ r
    pub found : (name : ℕ) → Threaded false x → x.start ≤ from → (from < x.end → name_at image s arena.store from ≡ name)
        → r ≡ subgroup_place image s arena.store x name from

  pub record FindsOthers (x : Span) (group r : ℕ) : Type 0 where
    pub found : Threaded false x → x.start ≤ group → r ≡ others_place image s arena.store x group

  pub record FirstSubgroup (x : Span) (group : ℕ) (r : Cursor) : Type 0 where
    pub same : r.group ≡ group
    pub below : group < x.end → r.first < x.end
    pub is : Threaded false x → x.start ≤ group → r ≡ first_subgroup image s arena.store x group

  -- a subgroup of a group, both of them open
  pub record Open (x : Span) (c : Cursor) : Type 0 where
    pub from : x.start ≤ c.group
    pub ahead : c.group ≤ c.first
    pub below : c.first < x.end
    pub named : name_at image s arena.store c.first ≡ name_at image s arena.store c.group

  pub record LaterSubgroup (x : Span) (c : Cursor) (r : ℕ) : Type 0 where
    pub ahead : r < x.end → c.first < r
    pub is : Threaded false x → Open x c → r ≡ later_subgroup image s arena.store x c

  -- a later subgroup, or a later group
  pub record NextSubgroup (x : Span) (c r : Cursor) : Type 0 where
    pub below : r.group < x.end → r.first < x.end
    pub further : ((r.group ≡ c.group) × (c.first < r.first)) ⊎ (c.group < r.group)
    pub is : Threaded false x → Open x c → r ≡ next_subgroup image s arena.store x c

  -- ---- in either pass; in the shape pass a cursor is read for its group alone

  -- a group is entered, at its first subgroup
  pub record Enters (isShape : Bool) (x : Span) (group : ℕ) (r : Cursor) : Type 0 where
    pub same : r.group ≡ group
    pub below : group < x.end → r.first < x.end
    pub is : isShape ≡ false → Threaded false x → x.start ≤ group → r ≡ first_subgroup image s arena.store x group

  abbrev pub FirstPart : Bool → Span → Cursor → Type 0
  FirstPart isShape x r = Enters isShape x (group_found s arena x.start x.end) r

  -- the part behind another
  pub record NextPart (isShape : Bool) (x : Span) (c r : Cursor) : Type 0 where
    pub below : r.group < x.end → r.first < x.end
    pub further : ((r.group ≡ c.group) × (c.first < r.first)) ⊎ (c.group < r.group)
    pub group : isShape ≡ true → r.group ≡ group_found s arena (c.group + 1) x.end
    pub subgroup : isShape ≡ false → Threaded false x → Open x c → r ≡ next_subgroup image s arena.store x c
