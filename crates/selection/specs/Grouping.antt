-- The groups and subgroups of a list that stands in the store, by places. Parents stand in the words from 0 on, one for each row.
-- Assumes nothing.
use Rattle.std.specs.Prelude.{◌≡◌, Bool, true, false, cond, not, ◌&&◌, List, ◌++◌, ℕ, ◌+◌, ◌≤◌, ◌<◌, eqb, ltb, get_or}
use Rattle.merge_theory.specs.Lists.{filter}
use Rattle.merge_theory.specs.Document.{Document}
use Rattle.tables.specs.Columns.{object_type, type_kind, response_name}
use Rattle.lists.specs.declared.Span.{Span}
use Rattle.selection.specs.declared.groups.Among.{Among}
use Rattle.selection.specs.declared.groups.Among.TheVariants.{Every, One, Abstract}
use Rattle.selection.specs.declared.groups.Segment.{Segment}
use Rattle.selection.specs.declared.groups.Cursor.{Cursor}
use Rattle.selection.specs.declared.groups.Part.{Part}
use Rattle.lists.specs.Part.{StoredAt}
use Rattle.selection.specs.Places.{seek, row_in, onward}

-- whether a field of this parent is in a segment: among all fields of a name, those of one parent, or those whose parent is no object
unfoldable pub is_among : Among → (parent : ℕ) (is_object : Bool) → Bool
is_among Every parent is_object = true
is_among (One only) parent is_object = eqb parent only
is_among Abstract parent is_object = not is_object

-- the same of a document's field
unfoldable pub member : Document → Segment → ℕ → Bool
member D g f = eqb (D.name_of f) g.name && is_among g.among (D.parent_of f) (D.is_object (D.parent_of f))

abbrev pub segment : (name : ℕ) → Among → Segment
segment name among = record { name = name; among = among }

module _ (image s : List ℕ) where
  abbrev pub has_object_parent : ℕ → Bool
  has_object_parent row = eqb (type_kind image (get_or s row 0)) object_type

  unfoldable pub belongs : Segment → ℕ → Bool
  belongs g row = eqb (response_name image row) g.name && is_among g.among (get_or s row 0) (has_object_parent row)

  module _ (store : ℕ) where
    -- the first place from one place on, and below another, that has a field of the segment
    abbrev pub member_place : Segment → ℕ → ℕ → ℕ
    member_place g from end = seek (λ p. belongs g (row_in s store p)) from end

    abbrev pub name_at : ℕ → ℕ
    name_at place = response_name image (row_in s store place)

    abbrev pub parent_at : ℕ → ℕ
    parent_at place = get_or s (row_in s store place) 0

    -- the segments that a field is in: that of its name, and that of its name and parent
    abbrev pub name_segment : ℕ → Segment
    name_segment place = segment (name_at place) Every

    abbrev pub pair_segment : ℕ → Segment
    pair_segment place =
        cond (has_object_parent (row_in s store place)) (segment (name_at place) (One (parent_at place))) (segment (name_at place) Abstract)

    module _ (x : Span) where
      -- no earlier field of the list has this one's response name
      unfoldable pub is_first_of_name : ℕ → Bool
      is_first_of_name place = eqb (member_place (name_segment place) x.start place) place

      -- a field of that name with an object for its parent, and none before it has both
      unfoldable pub opens_subgroup : ℕ → ℕ → Bool
      opens_subgroup name place =
          eqb (name_at place) name && (has_object_parent (row_in s store place)
          && eqb (member_place (segment name (One (parent_at place))) x.start place) place)

      abbrev pub group_place : ℕ → ℕ
      group_place from = seek is_first_of_name from x.end

      abbrev pub subgroup_place : ℕ → ℕ → ℕ
      subgroup_place name from = seek (opens_subgroup name) from x.end

      -- the first field of a group whose parent is no object
      abbrev pub others_place : ℕ → ℕ
      others_place group = member_place (segment (name_at group) Abstract) group x.end

      -- a group's first subgroup: that of its first object parent, or all of it where there is none
      abbrev pub opening : (group place : ℕ) → Cursor
      opening group place = record { group = group; first = cond (ltb place x.end) place group; others = others_place group }

      unfoldable pub first_subgroup : ℕ → Cursor
      first_subgroup group = opening group (subgroup_place (name_at group) group)

      -- the next of the group; the list's end where there is none
      unfoldable pub later_subgroup : Cursor → ℕ
      later_subgroup c = cond (has_object_parent (row_in s store c.first)) (subgroup_place (name_at c.group) (c.first + 1)) x.end

      -- that one, or the first of the next group
      unfoldable pub next_subgroup : Cursor → Cursor
      next_subgroup c =
          cond (ltb (later_subgroup c) x.end) (record { group = c.group; first = later_subgroup c; others = c.others }) (first_subgroup (group_place (c.group + 1)))

      -- a name group, and a subgroup, as parts
      abbrev pub whole_part : (first : ℕ) → Segment → Part
      whole_part first g = record { list = x; first = first; front = g; next = x.end; back = g }

      unfoldable pub group_part : ℕ → Part
      group_part group = whole_part group (segment (name_at group) Every)

      unfoldable pub subgroup_part : Cursor → Part
      subgroup_part c =
          cond (has_object_parent (row_in s store c.first))
          (record {
            list = x;
            first = c.first;
            front = segment (name_at c.group) (One (parent_at c.first));
            next = c.others;
            back = segment (name_at c.group) Abstract;
          })
          (whole_part c.first (segment (name_at c.group) Abstract))

      -- the part of a cursor: in the shape pass its whole group
      abbrev pub part_in : Bool → Cursor → Part
      part_in true c = group_part c.group
      part_in false c = subgroup_part c

-- the fields of a part, in order
unfoldable pub part_rows : Document → List ℕ → Part → List ℕ
part_rows D l part = filter (member D part.front) (onward part.list l part.first) ++ filter (member D part.back) (onward part.list l part.next)

-- the list stands in the words, and so do the parents of its rows
pub record Grounded (D : Document) (image s : List ℕ) (store : ℕ) (x : Span) (l : List ℕ) : Type 0 where
  pub list : StoredAt s store x l
  pub names : (f : ℕ) → response_name image f ≡ D.name_of f
  pub objects : (t : ℕ) → eqb (type_kind image t) object_type ≡ D.is_object t
  pub parents : (p : ℕ) → x.start ≤ p → p < x.end → get_or s (row_in s store p) 0 ≡ D.parent_of (row_in s store p)

-- the segments of parts: one parent is an object, and in the shape pass there are segments of all parents alone
pub data Proper (D : Document) (isShape : Bool) : Segment → Type 0 where
  of_all : (name : ℕ) → Proper D isShape (segment name Every)
  of_object : isShape ≡ false → (name parent : ℕ) → D.is_object parent ≡ true → Proper D isShape (segment name (One parent))
  of_others : isShape ≡ false → (name : ℕ) → Proper D isShape (segment name Abstract)

-- a part of a list l that stands in the words: its first field is one of the front segment's, the next one, if there is one, of the
-- back segment's, and its fields are these rows
pub record PartAt (D : Document) (isShape : Bool) (s : List ℕ) (store : ℕ) (l : List ℕ) (part : Part) (rows : List ℕ) : Type 0 where
  pub from : part.list.start ≤ part.first
  pub below : part.first < part.list.end
  pub behind : part.list.start ≤ part.next
  pub heads : member D part.front (row_in s store part.first) ≡ true
  pub starts : part.next < part.list.end → member D part.back (row_in s store part.next) ≡ true
  pub front_proper : Proper D isShape part.front
  pub back_proper : Proper D isShape part.back
  pub fields : part_rows D l part ≡ rows
