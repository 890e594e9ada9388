-- What the places of groups and subgroups say of the merge theory's groups: a list's parts, one after the other, are those at the
-- places that the searches give. `Grounded` is what they take for granted. Assumes nothing else.
use mathlib.Core.Path.{◌≡◌, refl, sym, ap, ◌∙◌}
use mathlib.Core.Logic.{◌⊎◌, inl, inr, ⊎_elim}
use mathlib.Core.Bool.{Bool, true, false, cond, not, ◌&&◌, and-false, false≢true, ◌||◌, and-true}
use mathlib.Core.List.{List, [], ◌∷◌, ◌++◌, append-nil, map}
use Prim.Native.Nat.{ℕ, suc, ◌+◌, ◌-◌, ◌≤◌, ◌<◌}
use native.Mathlib.Decide.{ℕ_discrete}
use native.Mathlib.Omega.{arith}
use lib.Dec.{eqb}
use lib.ListN.{length, take, drop, get_or, take-append-drop}
use borrow.Author.Tests.{not-true, eq-eqb, ne_eqb, eqb-true, lt-ltb, le-ltb}
use Rattle.lists.proofs.Parts.{le_or_lt}
use Rattle.lists.proofs.Tests.{both, first_of, second_of}
use Rattle.merge_theory.specs.Lists.{flat_map, filter, keep, is_in}
use Rattle.merge_theory.specs.Document.{Document}
use Rattle.merge_theory.specs.Groups.{fields_with, keys_of, groups, concretes, abstracts, subgroups_by, subgroups}
use Rattle.merge_theory.proofs.Loops.{filter_append}
use Rattle.lists.specs.declared.Span.{Span}
use Rattle.selection.specs.declared.groups.Segment.{Segment}
use Rattle.selection.specs.declared.groups.Cursor.{Cursor}
use Rattle.lists.specs.Part.{StoredAt}
use Rattle.selection.specs.Places.{seek, row_in, before, onward, appears, fresh_from}
use Rattle.selection.specs.declared.groups.Among.TheVariants.{Every, One, Abstract}
use Rattle.selection.specs.Grouping.{is_among, member, segment, has_object_parent, belongs, member_place, name_at, parent_at, is_first_of_name, opens_subgroup, group_place, subgroup_place, first_subgroup, later_subgroup, next_subgroup, group_part, subgroup_part, part_rows, others_place, Grounded, PartAt, of_all, of_object, of_others}
use Rattle.selection.proofs.PlaceLaws.{row_is, eqb_sym, none_seen, fresh_rest, seek_ge, seek_skips, seek_passes, Found, found, found_row, filter_skip, filter_cong, filter_filter, onward_start, onward_over, before_start, appears_by, fresh_all, fresh_here, fresh_skip, fresh_over}

-- what a search for the first appearance of a key found
pub record FoundKey (key : ℕ → ℕ) (among : ℕ → Bool) (x : Span) (l : List ℕ) (from q row : ℕ) : Type 0 where
  pub ahead : from ≤ q
  pub over : x.end ≤ q → fresh_from key among x l from ≡ []
  pub here : q < x.end → fresh_from key among x l from ≡ key row ∷ fresh_from key among x l (q + 1)
  pub same : fresh_from key among x l from ≡ fresh_from key among x l q
  pub opens : q < x.end → appears key among (before x l q) row ≡ true

pub found_key : {s : List ℕ} {store : ℕ} {x : Span} {l : List ℕ} (key : ℕ → ℕ) (among : ℕ → Bool) (list : StoredAt s store x l) (test : ℕ → Bool) (from : ℕ) {q : ℕ}
    → x.start ≤ from → ((p : ℕ) → x.start ≤ p → p < x.end → test p ≡ appears key among (before x l p) (row_in s store p))
    → q ≡ seek test from x.end → FoundKey key among x l from q (row_in s store q)
found_key {s} {store} {x} {l} key among list test from {q} low agree e =
    let ge = seek_ge test from x.end in
    let skips : fresh_from key among x l from ≡ fresh_from key among x l q =
    rw e (seek_skips test from x.end (fresh_from key among x l) (λ p h less fails. fresh_skip key among list p (omega arith) less (sym (agree p (omega arith) less) ∙ fails))) in
    let ahead : from ≤ q = rw e ge in
    let opens : q < x.end → appears key among (before x l q) (row_in s store q) ≡ true = λ less. sym (agree q (omega arith) less) ∙ rw e (seek_passes test from x.end (rw e at less)) in
    record {
      ahead = ahead;
      over = λ past. skips ∙ fresh_over key among list q past;
      here = λ less. skips ∙ fresh_here key among list q (omega arith) less (opens less);
      same = skips;
      opens = opens;
    }

abbrev pub all : ℕ → Bool
all f = true

pub filter_all : (l : List ℕ) → filter all l ≡ l
unfolding filter
filter_all [] = refl
filter_all (f ∷ fs) = ap (λ (m : List ℕ). f ∷ m) (filter_all fs)

-- the fields of a name whose parents are objects
abbrev pub concrete : Document → ℕ → ℕ → Bool
concrete D name f = eqb (D.name_of f) name && D.is_object (D.parent_of f)

-- the three kinds of segments
member_all : (D : Document) (name f : ℕ) → member D (segment name Every) f ≡ eqb (D.name_of f) name
unfolding member is_among
member_all D name f = and-true (eqb (D.name_of f) name)

member_one : (D : Document) (name parent f : ℕ) → member D (segment name (One parent)) f ≡ (eqb (D.name_of f) name && eqb (D.parent_of f) parent)
unfolding member is_among
member_one D name parent f = refl

member_abstract : (D : Document) (name f : ℕ) → member D (segment name Abstract) f ≡ (eqb (D.name_of f) name && not (D.is_object (D.parent_of f)))
unfolding member is_among
member_abstract D name f = refl

three : (a b c d : Bool) → (b ≡ true → c ≡ d) → (a && (b && c)) ≡ ((a && b) && d)
three true true c d h = h refl
three true false c d h = refl
three false b c d h = refl

-- a field of an object parent has an object for its parent
same_parent_lem : (D : Document) (name parent f : ℕ) → D.is_object parent ≡ true
    → (eqb (D.name_of f) name && eqb (D.parent_of f) parent) ≡ (concrete D name f && eqb (D.parent_of f) parent)
same_parent_lem D name parent f object = go (eqb (D.name_of f) name) (ℕ_discrete (D.parent_of f) parent)
  where
    go : (a : Bool) → Dec (D.parent_of f ≡ parent) → (a && eqb (D.parent_of f) parent) ≡ ((a && D.is_object (D.parent_of f)) && eqb (D.parent_of f) parent)
    go false d = refl
    go true (yes e) = rw (e, object)
    go true (no ne) = rw (ne_eqb _ _ ne) (sym (and-false (D.is_object (D.parent_of f))))

-- the field at a place of the list
abbrev pub field_at : Span → List ℕ → ℕ → ℕ
field_at x l p = get_or l (p - x.start) 0

-- the fields of a name whose parents are no objects
abbrev pub others : Document → ℕ → ℕ → Bool
others D name = member D (segment name Abstract)

-- an open subgroup: its group is one, and it is that of an object parent, or all of a group where there is no such parent
pub record Opened (D : Document) (x : Span) (l : List ℕ) (c : Cursor) : Type 0 where
  pub from : x.start ≤ c.group
  pub ahead : c.group ≤ c.first
  pub below : c.first < x.end
  pub group : appears D.name_of all (before x l c.group) (field_at x l c.group) ≡ true
  pub first : (appears D.parent_of (concrete D (D.name_of (field_at x l c.group))) (before x l c.first) (field_at x l c.first) ≡ true)
      ⊎ ((D.is_object (D.parent_of (field_at x l c.first)) ≡ false) × (c.first ≡ c.group))
  pub rest : Found (others D (D.name_of (field_at x l c.group))) x l c.group c.others (field_at x l c.others)

module _ (D : Document) (x : Span) (l : List ℕ) where
  -- a group by its name, and the subgroup of one of its object parents
  abbrev pub group_named : ℕ → List ℕ
  group_named name = fields_with D.name_of l name

  abbrev pub subgroup_of : ℕ → ℕ → List ℕ
  subgroup_of name parent = fields_with D.parent_of (group_named name) parent ++ abstracts D (group_named name)

  -- the groups from a place on, and their subgroups
  abbrev pub groups_from : ℕ → List (List ℕ)
  groups_from p = map (fields_with D.name_of l) (fresh_from D.name_of all x l p)

  abbrev pub subgroups_from : ℕ → List (List ℕ)
  subgroups_from p = flat_map (subgroups D) (groups_from p)

  module _ (c : Cursor) where
    abbrev name_here : ℕ
    name_here = D.name_of (field_at x l c.group)

    abbrev object_here : Bool
    object_here = D.is_object (D.parent_of (field_at x l c.first))

    -- the subgroup at a cursor, and those behind it
    unfoldable pub subgroup_at : List ℕ
    subgroup_at = cond object_here (subgroup_of name_here (D.parent_of (field_at x l c.first))) (abstracts D (group_named name_here))

    unfoldable pub subgroups_after : List (List ℕ)
    subgroups_after =
        cond object_here (map (subgroup_of name_here) (fresh_from D.parent_of (concrete D name_here) x l (c.first + 1))) [] ++ subgroups_from (c.group + 1)

-- a row that opens a subgroup has the group's name, and an object for its parent
concrete_of : (D : Document) (name : ℕ) (seen : List ℕ) (f : ℕ) → appears D.parent_of (concrete D name) seen f ≡ true → concrete D name f ≡ true
unfolding appears
concrete_of D name seen f e = first_of (concrete D name f) _ e

-- no field before has the name: then none of them is of the group
none_named : (D : Document) (name : ℕ) (xs : List ℕ) → is_in name (map D.name_of (filter all xs)) ≡ false → filter (concrete D name) xs ≡ []
unfolding filter is_in
none_named D name [] e = refl
none_named D name (y ∷ ys) e = go (eqb name (D.name_of y)) refl (none_named D name ys) e
  where
    go : (b : Bool) → eqb name (D.name_of y) ≡ b → (is_in name (map D.name_of (filter all ys)) ≡ false → filter (concrete D name) ys ≡ [])
        → (b || is_in name (map D.name_of (filter all ys))) ≡ false → keep (concrete D name y) y (filter (concrete D name) ys) ≡ []
    go true h rest f = absurd (false≢true (sym f))
    go false h rest f = rw (eqb_sym (D.name_of y) name ∙ h) (rest f)

-- the parts from a cursor on: none past the end, else the subgroup there and those behind it
pub record Along (D : Document) (x : Span) (l : List ℕ) (c : Cursor) (rest : List (List ℕ)) : Type 0 where
  pub over : x.end ≤ c.group → rest ≡ []
  pub here : c.group < x.end → Opened D x l c
  pub next : c.group < x.end → rest ≡ subgroup_at D x l c ∷ subgroups_after D x l c

module _ {D : Document} {image s : List ℕ} {store : ℕ} {x : Span} {l : List ℕ} (G : Grounded D image s store x l) where
  pub belongs_is : (g : Segment) (p : ℕ) → x.start ≤ p → p < x.end → belongs image s g (row_in s store p) ≡ member D g (row_in s store p)
  unfolding belongs member
  belongs_is g p low less = rw (G.names (row_in s store p), G.parents p low less, G.objects (D.parent_of (row_in s store p)))

  -- a search for a field of a segment
  pub member_found : (g : Segment) (from : ℕ) {q : ℕ} → x.start ≤ from → q ≡ member_place image s store g from x.end
      → Found (member D g) x l from q (row_in s store q)
  member_found g from low e = found G.list (member D g) (λ p. belongs image s g (row_in s store p)) from low (belongs_is g) e

  -- no field of the segment stands before a place
  none_before : (g : Segment) (p : ℕ) → p ≤ x.end → eqb (member_place image s store g x.start p) p ≡ true → filter (member D g) l ≡ filter (member D g) (onward x l p)
  none_before g p less e =
      let is : member_place image s store g x.start p ≡ p = eqb-true _ _ e in
      ap (filter (member D g)) (sym (onward_start x l))
      ∙ seek_skips (λ k. belongs image s g (row_in s store k)) x.start p (λ k. filter (member D g) (onward x l k))
      (λ k low m fails. filter_skip G.list (member D g) k low (omega arith) (sym (belongs_is g k low (omega arith)) ∙ fails))
      ∙ ap (λ k. filter (member D g) (onward x l k)) is

  nothing_behind : (g : Segment) → filter (member D g) (onward x l x.end) ≡ []
  unfolding filter
  nothing_behind g = rw (onward_over G.list x.end (omega arith))

  -- ---- groups

  first_of_name : (p : ℕ) → x.start ≤ p → p < x.end → is_first_of_name image s store x p ≡ appears D.name_of all (before x l p) (row_in s store p)
  unfolding is_first_of_name appears
  first_of_name p low less =
      appears_by D.name_of all G.list (λ q. belongs image s (segment (name_at image s store p) Every) (row_in s store q)) p low less
      (λ q h m. belongs_is (segment (name_at image s store p) Every) q h (omega arith) ∙ member_all D (name_at image s store p) (row_in s store q) ∙ ap (eqb (D.name_of (row_in s store q))) (G.names (row_in s store p)))

  pub group_found_lem : (from : ℕ) {q : ℕ} → x.start ≤ from → q ≡ group_place image s store x from → FoundKey D.name_of all x l from q (row_in s store q)
  group_found_lem from low e = found_key D.name_of all G.list (is_first_of_name image s store x) from low first_of_name e

  -- the group that a place opens, as a part
  group_rows : (g : ℕ) → x.start ≤ g → g < x.end → appears D.name_of all (before x l g) (row_in s store g) ≡ true
      → part_rows D l (group_part image s store x g) ≡ fields_with D.name_of l (D.name_of (row_in s store g))
  unfolding part_rows group_part fields_with is_first_of_name
  group_rows g low less opens =
      let n = name_at image s store g in
      let alone = none_before (segment n Every) g (omega arith) (first_of_name g low less ∙ opens) in
      let behind : filter (member D (segment n Every)) (onward x l x.end) ≡ [] = nothing_behind (segment n Every) in
      rw (behind, append-nil (filter (member D (segment n Every)) (onward x l g)))
      (sym alone ∙ filter_cong _ _ l (λ f. member_all D n f ∙ ap (eqb (D.name_of f)) (G.names (row_in s store g))))

  pub group_part_lem : (g : ℕ) → x.start ≤ g → g < x.end → appears D.name_of all (before x l g) (row_in s store g) ≡ true
      → PartAt D true s store l (group_part image s store x g) (fields_with D.name_of l (D.name_of (row_in s store g)))
  unfolding group_part
  group_part_lem g low less opens = record {
    from = low;
    below = less;
    behind = omega arith;
    heads = member_all D (name_at image s store g) (row_in s store g) ∙ eq-eqb _ _ (sym (G.names (row_in s store g)));
    starts = λ over. absurd (omega arith);
    front_proper = of_all (name_at image s store g);
    back_proper = of_all (name_at image s store g);
    fields = group_rows g low less opens;
  }

  -- ---- subgroups

  -- a field opens the subgroup of its parent
  opens_is : (name p : ℕ) → x.start ≤ p → p < x.end
      → opens_subgroup image s store x name p ≡ appears D.parent_of (concrete D name) (before x l p) (row_in s store p)
  unfolding opens_subgroup appears
  opens_is name p low less =
      rw (G.names (row_in s store p), G.parents p low less, G.objects (D.parent_of (row_in s store p)))
      (three (eqb (D.name_of (row_in s store p)) name) (D.is_object (D.parent_of (row_in s store p))) _ _ λ object.
      appears_by D.parent_of (concrete D name) G.list (λ q. belongs image s (segment name (One (D.parent_of (row_in s store p)))) (row_in s store q)) p low less
      (λ q h m. belongs_is (segment name (One (D.parent_of (row_in s store p)))) q h (omega arith) ∙ member_one D name (D.parent_of (row_in s store p)) (row_in s store q)
      ∙ same_parent_lem D name (D.parent_of (row_in s store p)) (row_in s store q) object))

  pub subgroup_found : (name from : ℕ) {q : ℕ} → x.start ≤ from → q ≡ subgroup_place image s store x name from
      → FoundKey D.parent_of (concrete D name) x l from q (row_in s store q)
  subgroup_found name from low e = found_key D.parent_of (concrete D name) G.list (opens_subgroup image s store x name) from low (opens_is name) e

  object_is : (p : ℕ) → x.start ≤ p → p < x.end → has_object_parent image s (row_in s store p) ≡ D.is_object (D.parent_of (row_in s store p))
  object_is p low less = rw (G.parents p low less) (G.objects (D.parent_of (row_in s store p)))

  -- in a group, the fields of interface and union parents stand from its first field on
  abstracts_from : (g : ℕ) → x.start ≤ g → g < x.end → appears D.name_of all (before x l g) (row_in s store g) ≡ true
      → filter (member D (segment (name_at image s store g) Abstract)) (onward x l g) ≡ abstracts D (fields_with D.name_of l (D.name_of (row_in s store g)))
  unfolding abstracts fields_with is_first_of_name
  abstracts_from g low less opens =
      let n = name_at image s store g in
      let no_object : ℕ → Bool = λ f. not (D.is_object (D.parent_of f)) in
      let named : ℕ → Bool = λ f. eqb (D.name_of f) n in
      let alone = none_before (segment n Every) g (omega arith) (first_of_name g low less ∙ opens) in
      let same : filter named (onward x l g) ≡ filter named l =
      filter_cong _ _ (onward x l g) (λ f. sym (member_all D n f)) ∙ sym alone ∙ filter_cong _ _ l (λ f. member_all D n f) in
      filter_cong _ _ (onward x l g) (λ f. member_abstract D n f)
      ∙ sym (filter_filter no_object named (onward x l g))
      ∙ ap (filter no_object) same
      ∙ ap (λ m. filter no_object (filter (λ f. eqb (D.name_of f) m) l)) (G.names (row_in s store g))

  -- the fields of one object parent stand from the first of them on
  concretes_from : (name p : ℕ) → x.start ≤ p → p < x.end → appears D.parent_of (concrete D name) (before x l p) (row_in s store p) ≡ true
      → filter (member D (segment name (One (parent_at image s store p)))) (onward x l p) ≡ fields_with D.parent_of (fields_with D.name_of l name) (D.parent_of (row_in s store p))
  unfolding fields_with opens_subgroup
  concretes_from name p low less opens =
      let object = has_object_parent image s (row_in s store p) in
      let alone = eqb (member_place image s store (segment name (One (parent_at image s store p))) x.start p) p in
      let last = second_of object alone (second_of (eqb (name_at image s store p) name) (object && alone) (opens_is name p low less ∙ opens)) in
      let alone = none_before (segment name (One (parent_at image s store p))) p (omega arith) last in
      sym alone
      ∙ filter_cong _ _ l (λ f. member_one D name (parent_at image s store p) f)
      ∙ sym (filter_filter (λ f. eqb (D.parent_of f) (parent_at image s store p)) (λ f. eqb (D.name_of f) name) l)
      ∙ ap (λ m. filter (λ f. eqb (D.parent_of f) m) (filter (λ f. eqb (D.name_of f) name) l)) (G.parents p low less)

  -- ---- a subgroup by its cursor

  field_is : (p : ℕ) → x.start ≤ p → p < x.end → row_in s store p ≡ field_at x l p
  field_is p low less = row_is G.list p low less

  name_is : (p : ℕ) → x.start ≤ p → p < x.end → name_at image s store p ≡ D.name_of (field_at x l p)
  name_is p low less = G.names (row_in s store p) ∙ ap D.name_of (field_is p low less)

  module _ (c : Cursor) (here : Opened D x l c) where
    group_in : (x.start ≤ c.group) × (c.group < x.end)
    group_in = (here.from, omega (arith, here.ahead, here.below))

    first_in : (x.start ≤ c.first) × (c.first < x.end)
    first_in = (omega (arith, here.ahead, here.from), here.below)

    abbrev name_c : ℕ
    name_c = D.name_of (field_at x l c.group)

    group_row : row_in s store c.group ≡ field_at x l c.group
    group_row = field_is c.group group_in.0 group_in.1

    first_row : row_in s store c.first ≡ field_at x l c.first
    first_row = field_is c.first first_in.0 first_in.1

    group_name : name_at image s store c.group ≡ name_c
    group_name = name_is c.group group_in.0 group_in.1

    object_here_lem : has_object_parent image s (row_in s store c.first) ≡ D.is_object (D.parent_of (field_at x l c.first))
    object_here_lem = object_is c.first first_in.0 first_in.1 ∙ ap (λ f. D.is_object (D.parent_of f)) first_row

    -- the fields of interface and union parents
    rest_here : Found (others D (name_at image s store c.group)) x l c.group c.others (field_at x l c.others)
    rest_here = rw group_name here.rest

    rest_row : c.others < x.end → row_in s store c.others ≡ field_at x l c.others
    rest_row less = field_is c.others (omega (arith, here.from, here.rest.ahead)) less

    back_rows : filter (member D (segment (name_at image s store c.group) Abstract)) (onward x l c.group) ≡ abstracts D (fields_with D.name_of l name_c)
    back_rows = abstracts_from c.group group_in.0 group_in.1 (rw group_row here.group) ∙ ap (λ f. abstracts D (fields_with D.name_of l (D.name_of f))) group_row

    with_object : appears D.parent_of (concrete D name_c) (before x l c.first) (field_at x l c.first) ≡ true
        → D.is_object (D.parent_of (field_at x l c.first)) ≡ true → PartAt D false s store l (subgroup_part image s store x c) (subgroup_at D x l c)
    unfolding subgroup_part subgroup_at part_rows
    with_object opens object =
        let object-s = object_here_lem ∙ object in
        let named : eqb (D.name_of (row_in s store c.first)) (name_at image s store c.group) ≡ true =
        rw (group_name, first_row) (first_of _ _ (concrete_of D name_c _ _ opens)) in
        let n = name_at image s store c.group in
        let front = concretes_from n c.first first_in.0 first_in.1 (rw (group_name, first_row) opens) in
        let rows : filter (member D (segment n (One (parent_at image s store c.first)))) (onward x l c.first) ≡ fields_with D.parent_of (fields_with D.name_of l name_c) (D.parent_of (field_at x l c.first)) =
        front ∙ rw (group_name, first_row) in
        rw (object-s, object) (record {
          from = first_in.0;
          below = first_in.1;
          behind = omega (arith, here.from, here.rest.ahead);
          starts = λ less. rw (rest_row less) (rest_here.passes less);
          front_proper = of_object refl n (parent_at image s store c.first) (sym (G.objects (parent_at image s store c.first)) ∙ object-s);
          back_proper = of_others refl n;
          heads = member_one D n (parent_at image s store c.first) (row_in s store c.first) ∙ both named (eq-eqb _ _ (sym (G.parents c.first first_in.0 first_in.1)));
          fields = ap (λ m. filter (member D (segment n (One (parent_at image s store c.first)))) (onward x l c.first) ++ m) (sym rest_here.same) ∙ ap (λ m. m ++ filter (member D (segment n Abstract)) (onward x l c.group)) rows ∙ ap (λ m. fields_with D.parent_of (fields_with D.name_of l name_c) (D.parent_of (field_at x l c.first)) ++ m) back_rows;
        })

    without_object : D.is_object (D.parent_of (field_at x l c.first)) ≡ false → c.first ≡ c.group → PartAt D false s store l (subgroup_part image s store x c) (subgroup_at D x l c)
    unfolding subgroup_part subgroup_at part_rows
    without_object object is =
        let object-s = object_here_lem ∙ object in
        let named : D.name_of (row_in s store c.first) ≡ name_at image s store c.group = rw is (sym (G.names (row_in s store c.group))) in
        let no_object : not (D.is_object (D.parent_of (row_in s store c.first))) ≡ true = rw first_row (ap not object) in
        let n = name_at image s store c.group in
        rw (object-s, object) (record {
          from = first_in.0;
          below = first_in.1;
          behind = omega (arith, first_in.0, first_in.1);
          starts = λ over. absurd (omega arith);
          front_proper = of_others refl n;
          back_proper = of_others refl n;
          heads = member_abstract D n (row_in s store c.first) ∙ both (eq-eqb _ _ named) no_object;
          fields = ap (λ m. filter (member D (segment n Abstract)) (onward x l c.first) ++ m) (nothing_behind (segment n Abstract))
              ∙ append-nil (filter (member D (segment n Abstract)) (onward x l c.first))
              ∙ ap (λ k. filter (member D (segment n Abstract)) (onward x l k)) is
              ∙ back_rows;
        })

    -- the part at a cursor is the subgroup there
    pub subgroup_part_lem : PartAt D false s store l (subgroup_part image s store x c) (subgroup_at D x l c)
    subgroup_part_lem = ⊎_elim (λ opens. with_object opens (second_of (eqb (D.name_of (field_at x l c.first)) name_c) (D.is_object (D.parent_of (field_at x l c.first))) (concrete_of D name_c _ _ opens))) (λ h. without_object h.0 h.1) here.first

    -- its first field has the group's name
    pub same_name : name_at image s store c.first ≡ name_at image s store c.group
    same_name = ⊎_elim
        (λ opens. rw (group_name, G.names (row_in s store c.first), first_row) (eqb-true _ _ (first_of _ _ (concrete_of D name_c _ _ opens))))
        (λ h. ap (name_at image s store) h.1)
        here.first

  -- ---- the next subgroup

  -- no field before the first of a group is of the group
  none_of_group : (g : ℕ) → appears D.name_of all (before x l g) (row_in s store g) ≡ true → filter (concrete D (D.name_of (row_in s store g))) (before x l g) ≡ []
  unfolding appears
  none_of_group g opens = none_named D (D.name_of (row_in s store g)) (before x l g) (not-true _ opens)

  -- in a group, the object parents in order are those that appear from its first field on
  parents_from : (g : ℕ) → appears D.name_of all (before x l g) (row_in s store g) ≡ true
      → keys_of D.parent_of (concretes D (fields_with D.name_of l (D.name_of (row_in s store g)))) ≡ fresh_from D.parent_of (concrete D (D.name_of (row_in s store g))) x l g
  unfolding concretes fields_with before onward
  parents_from g opens =
      let n = D.name_of (row_in s store g) in
      let k = g - x.start in
      let none : filter (concrete D n) (take k l) ≡ [] = none_of_group g opens in
      let whole : filter (concrete D n) l ≡ filter (concrete D n) (drop k l) =
      ap (filter (concrete D n)) (sym (take-append-drop k l)) ∙ filter_append (concrete D n) (take k l) (drop k l) ∙ ap (λ m. m ++ filter (concrete D n) (drop k l)) none in
      ap (keys_of D.parent_of) (filter_filter (λ f. D.is_object (D.parent_of f)) (λ f. eqb (D.name_of f) n) l ∙ whole)
      ∙ sym (fresh_rest D.parent_of (concrete D n) (take k l) (drop k l) ∙ rw none (none_seen (keys_of D.parent_of (filter (concrete D n) (drop k l)))))

  -- a group's first field would open a subgroup if its parent were an object
  no_object_first : (g : ℕ) → x.start ≤ g → g < x.end → appears D.name_of all (before x l g) (row_in s store g) ≡ true
      → fresh_from D.parent_of (concrete D (D.name_of (row_in s store g))) x l g ≡ [] → D.is_object (D.parent_of (row_in s store g)) ≡ false
  unfolding appears is_in
  no_object_first g low less opens none = go (D.is_object (D.parent_of (row_in s store g))) refl
    where
      n : ℕ
      n = D.name_of (row_in s store g)

      first_appears : D.is_object (D.parent_of (row_in s store g)) ≡ true → appears D.parent_of (concrete D n) (before x l g) (row_in s store g) ≡ true
      first_appears e = rw (none_of_group g opens, eq-eqb n n refl, e)

      go : (b : Bool) → D.is_object (D.parent_of (row_in s store g)) ≡ b → D.is_object (D.parent_of (row_in s store g)) ≡ false
      go false e = e
      go true e =
          let some : D.parent_of (row_in s store g) ∷ fresh_from D.parent_of (concrete D n) x l (g + 1) ≡ [] = sym (fresh_here D.parent_of (concrete D n) G.list g low less (first_appears e)) ∙ none in
          let long : suc (length (fresh_from D.parent_of (concrete D n) x l (g + 1))) ≡ 0 = ap length some in
          absurd (omega arith)

  -- a subgroup of an object parent, which a search from `from` found at q
  found_subgroup : (g from q o : ℕ) → x.start ≤ g → g ≤ q → q < x.end → appears D.name_of all (before x l g) (field_at x l g) ≡ true
      → Found (others D (D.name_of (field_at x l g))) x l g o (field_at x l o)
      → FoundKey D.parent_of (concrete D (D.name_of (field_at x l g))) x l from q (row_in s store q)
      → Opened D x l (record { group = g; first = q; others = o })
      × (map (subgroup_of D x l (D.name_of (field_at x l g))) (fresh_from D.parent_of (concrete D (D.name_of (field_at x l g))) x l from) ++ subgroups_from D x l (g + 1)
      ≡ subgroup_at D x l (record { group = g; first = q; others = o }) ∷ subgroups_after D x l (record { group = g; first = q; others = o }))
  unfolding subgroup_at subgroups_after
  found_subgroup g from q o low ahead less group-opens rest fk =
      let n = D.name_of (field_at x l g) in
      let row : row_in s store q ≡ field_at x l q = field_is q (omega arith) less in
      let opens : appears D.parent_of (concrete D n) (before x l q) (field_at x l q) ≡ true = rw row at (fk.opens less) in
      let object : D.is_object (D.parent_of (field_at x l q)) ≡ true = second_of (eqb (D.name_of (field_at x l q)) n) (D.is_object (D.parent_of (field_at x l q))) (concrete_of D n _ _ opens) in
      let keys : fresh_from D.parent_of (concrete D n) x l from ≡ D.parent_of (field_at x l q) ∷ fresh_from D.parent_of (concrete D n) x l (q + 1) = rw row at (fk.here less) in
      (record { from = low; ahead = ahead; below = less; group = group-opens; first = inl opens; rest = rest }, rw (keys, object))

  -- a group that a search from `from` found at q, and a search from there for its first object parent, which ended at p
  module _ (from q p : ℕ) (low : x.start ≤ from) (fk : FoundKey D.name_of all x l from q (row_in s store q)) (less : q < x.end)
      (found_at : p ≡ subgroup_place image s store x (name_at image s store q) q) where
    low_q : x.start ≤ q
    low_q = omega (arith, fk.ahead)

    row_q : row_in s store q ≡ field_at x l q
    row_q = field_is q low_q less

    opens_q : appears D.name_of all (before x l q) (field_at x l q) ≡ true
    opens_q = rw row_q at (fk.opens less)

    inner : FoundKey D.parent_of (concrete D (D.name_of (field_at x l q))) x l q p (row_in s store p)
    inner = subgroup_found (D.name_of (field_at x l q)) q low_q (found_at ∙ ap (λ m. subgroup_place image s store x m q) (name_is q low_q less))

    rest_q : Found (others D (D.name_of (field_at x l q))) x l q (others_place image s store x q) (field_at x l (others_place image s store x q))
    rest_q =
        let f = member_found (segment (name_at image s store q) Abstract) q low_q refl in
        rw (← name_is q low_q less) (found_row f (λ near. field_is (others_place image s store x q) (omega (arith, low_q, f.ahead)) near))

    groups_are : subgroups_from D x l from ≡ subgroups_by D (group_named D x l (D.name_of (field_at x l q))) (fresh_from D.parent_of (concrete D (D.name_of (field_at x l q))) x l q) ++ subgroups_from D x l (q + 1)
    unfolding flat_map subgroups
    groups_are = rw (fk.here less, row_q, rw row_q at (parents_from q (fk.opens less)))

    with_parent : p < x.end → Opened D x l (record { group = q; first = p; others = others_place image s store x q })
        × (subgroups_from D x l from ≡ subgroup_at D x l (record { group = q; first = p; others = others_place image s store x q }) ∷ subgroups_after D x l (record { group = q; first = p; others = others_place image s store x q }))
    unfolding subgroups_by
    with_parent less-p =
        let both_facts = found_subgroup q q p (others_place image s store x q) low_q inner.ahead less-p opens_q rest_q inner in
        (both_facts.0, groups_are ∙ rw (inner.here less-p) (rw (inner.here less-p) at both_facts.1))

    without_parent : x.end ≤ p → Opened D x l (record { group = q; first = q; others = others_place image s store x q })
        × (subgroups_from D x l from ≡ subgroup_at D x l (record { group = q; first = q; others = others_place image s store x q }) ∷ subgroups_after D x l (record { group = q; first = q; others = others_place image s store x q }))
    unfolding subgroups_by subgroup_at subgroups_after
    without_parent past =
        let none = inner.over past in
        let object : D.is_object (D.parent_of (field_at x l q)) ≡ false = rw row_q at (no_object_first q low_q less (fk.opens less) (rw row_q none)) in
        (record { from = low_q; ahead = omega arith; below = less; group = opens_q; first = inr (object, refl); rest = rest_q }, groups_are ∙ rw (none, object))

  -- from a place on, the first group's first subgroup comes first
  pub open_group : (from : ℕ) {q : ℕ} → x.start ≤ from → q ≡ group_place image s store x from → Along D x l (first_subgroup image s store x q) (subgroups_from D x l from)
  unfolding first_subgroup flat_map
  open_group from {q} low is =
      record { over = λ past. rw (fk.over past); here = λ less. (opened less).0; next = λ less. (opened less).1 }
    where
      fk : FoundKey D.name_of all x l from q (row_in s store q)
      fk = group_found_lem from low is

      p : ℕ
      p = subgroup_place image s store x (name_at image s store q) q

      opened : q < x.end → Opened D x l (first_subgroup image s store x q) × (subgroups_from D x l from ≡ subgroup_at D x l (first_subgroup image s store x q) ∷ subgroups_after D x l (first_subgroup image s store x q))
      opened less = ⊎_elim (λ past. rw (le-ltb p x.end past) (without_parent from q p low fk less refl past)) (λ near. rw (lt-ltb p x.end near) (with_parent from q p low fk less refl near)) (le_or_lt x.end p)

  -- the next subgroup of the group comes next, or the first of the next group
  pub step_on : (c : Cursor) → Opened D x l c → Along D x l (next_subgroup image s store x c) (subgroups_after D x l c)
  unfolding next_subgroup later_subgroup subgroups_after
  step_on c here = go (D.is_object (D.parent_of (field_at x l c.first))) refl
    where
      n : ℕ
      n = D.name_of (field_at x l c.group)

      p : ℕ
      p = subgroup_place image s store x (name_at image s store c.group) (c.first + 1)

      fk : FoundKey D.parent_of (concrete D (D.name_of (field_at x l c.group))) x l (c.first + 1) p (row_in s store p)
      fk = subgroup_found (D.name_of (field_at x l c.group)) (c.first + 1) (omega (arith, here.from, here.ahead)) (ap (λ m. subgroup_place image s store x m (c.first + 1)) (group_name c here))

      below : c.group < x.end
      below = (group_in c here).1

      next_group : Along D x l (first_subgroup image s store x (group_place image s store x (c.group + 1))) (subgroups_from D x l (c.group + 1))
      next_group = open_group (c.group + 1) (omega (arith, here.from)) refl

      go : (b : Bool) → D.is_object (D.parent_of (field_at x l c.first)) ≡ b → Along D x l (next_subgroup image s store x c) (subgroups_after D x l c)
      go true object = rw (object, object_here_lem c here ∙ object) (⊎_elim
          (λ past. rw (le-ltb p x.end past, fk.over past) next_group)
          (λ near. rw (lt-ltb p x.end near)
          (let two = found_subgroup c.group (c.first + 1) p c.others here.from (omega (arith, here.ahead, fk.ahead)) near here.group here.rest fk in
          record { over = λ past. absurd (omega (arith, below)); here = λ _. two.0; next = λ _. two.1 }))
          (le_or_lt x.end p))
      go false object = rw (object, object_here_lem c here ∙ object, le-ltb x.end x.end (omega arith)) next_group

-- ---- the parts of a list, from the beginning

pub groups_start : (D : Document) (x : Span) (l : List ℕ) → groups D l ≡ groups_from D x l x.start
unfolding groups
groups_start D x l =
    rw (before_start x l, onward_start x l) (ap (map (fields_with D.name_of l)) (ap (keys_of D.name_of) (sym (filter_all l)) ∙ fresh_all D.name_of all l))

pub subgroups_start : (D : Document) (x : Span) (l : List ℕ) → flat_map (subgroups D) (groups D l) ≡ subgroups_from D x l x.start
subgroups_start D x l = ap (flat_map (subgroups D)) (groups_start D x l)
