-- Specimens of the walk, and of its queue, order and charges: documents given by tables, and one table of replies that
-- antt computes. Assumes nothing.
use Rattle.std.specs.Prelude.{◌≡◌, refl, Bool, true, false, List, [], ◌∷◌, map, ℕ, eqb, length, get_or}
use Rattle.std.proofs.Math.Option.{Option, none, some}
use Rattle.merge_theory.specs.Document.{Kind, field, spread, inline, Document, number_of}
use Rattle.merge_theory.specs.Steps.{Entry, entry, Result, finished, conflict, out, deep}
use Rattle.merge_theory.specs.Walk.{begin, check, listing, computes}

-- ---- documents by tables

-- a selection row: types that agree are equal here, and so are equal arguments; `parent` is that of the set that the row stands in
pub record Row : Type 0 where
  pub kind : Kind
  pub response : ℕ
  pub own : ℕ
  pub type : ℕ
  pub args : ℕ
  pub link : Option ℕ
  pub parent : ℕ

-- a field of a leaf type, with its response name, its own name and its parent; a field with a set; a spread; an inline
abbrev pub leaf : ℕ → ℕ → ℕ → Row
leaf response own parent = record { kind = field; response = response; own = own; type = 0; args = 0; link = none; parent = parent }

abbrev pub composite : ℕ → ℕ → Row
composite response set = record { kind = field; response = response; own = response; type = 1; args = 0; link = some set; parent = 0 }

abbrev pub spreading : ℕ → Row
spreading set = record { kind = spread; response = 0; own = 0; type = 0; args = 0; link = some set; parent = 0 }

abbrev pub inlining : ℕ → Row
inlining set = record { kind = inline; response = 0; own = 0; type = 0; args = 0; link = some set; parent = 0 }

abbrev pub row_at : List Row → ℕ → Row
row_at rows r = get_or rows r (leaf 0 0 0)

-- each set's rows, the rows, and whether each type is an object
pub record Tables : Type 0 where
  pub sets : List (List ℕ)
  pub rows : List Row
  pub objects : List Bool

-- as a document; no specimen has a chain of so many links
abbrev pub document : Tables → Document
document t = record {
  rows_of = λ s. get_or t.sets s [];
  kind_of = λ r. (row_at t.rows r).kind;
  name_of = λ r. (row_at t.rows r).response;
  link_of = λ r. (row_at t.rows r).link;
  parent_of = λ r. (row_at t.rows r).parent;
  is_object = λ ty. get_or t.objects ty false;
  types_agree = λ a b. eqb (row_at t.rows a).type (row_at t.rows b).type;
  same_name = λ a b. eqb (row_at t.rows a).own (row_at t.rows b).own;
  same_arguments = λ a b. eqb (row_at t.rows a).args (row_at t.rows b).args;
  limit = 8;
}

-- ---- the specimens. Set 0 is the operation's.

-- {a}
abbrev pub one_field : Tables
one_field = record { sets = (0 ∷ []) ∷ []; rows = leaf 1 1 0 ∷ []; objects = true ∷ [] }

-- {a{...F} b{...F}}, F {c}: set 1 is the fragment's, 2 and 3 are those of a and b
abbrev pub shared_fragment : Tables
shared_fragment = record {
  sets = (0 ∷ 1 ∷ []) ∷ (2 ∷ []) ∷ (3 ∷ []) ∷ (4 ∷ []) ∷ [];
  rows = composite 1 2 ∷ composite 2 3 ∷ leaf 3 3 0 ∷ spreading 1 ∷ spreading 1 ∷ [];
  objects = true ∷ [];
}

-- n: name on Cat (type 1), n: nick on Dog (type 2), one leaf type
abbrev pub cat_dog : Tables
cat_dog = record {
  sets = (0 ∷ 1 ∷ []) ∷ (2 ∷ []) ∷ (3 ∷ []) ∷ [];
  rows = inlining 1 ∷ inlining 2 ∷ leaf 7 8 1 ∷ leaf 7 9 2 ∷ [];
  objects = false ∷ true ∷ true ∷ [];
}

-- and a third n: name on the interface Pet (type 0): the rows are 3 (Cat), 4 (Dog), 5 (Pet)
abbrev pub cat_dog_pet : Tables
cat_dog_pet = record {
  sets = (0 ∷ 1 ∷ 2 ∷ []) ∷ (3 ∷ []) ∷ (4 ∷ []) ∷ (5 ∷ []) ∷ [];
  rows = inlining 1 ∷ inlining 2 ∷ inlining 3 ∷ leaf 7 8 1 ∷ leaf 7 9 2 ∷ leaf 7 8 0 ∷ [];
  objects = false ∷ true ∷ true ∷ [];
}

-- {a{x:p} a{x:q}}
abbrev pub inner_pair : Tables
inner_pair = record {
  sets = (0 ∷ 1 ∷ []) ∷ (2 ∷ []) ∷ (3 ∷ []) ∷ [];
  rows = composite 1 1 ∷ composite 1 2 ∷ leaf 5 6 0 ∷ leaf 5 7 0 ∷ [];
  objects = true ∷ [];
}

-- three fields of one name in one set, the third of another type; two of other arguments
abbrev pub with_type : ℕ → Row
with_type t = record { kind = field; response = 1; own = 1; type = t; args = 0; link = none; parent = 0 }

abbrev pub row_with_arguments : ℕ → Row
row_with_arguments x = record { kind = field; response = 1; own = 1; type = 0; args = x; link = none; parent = 0 }

abbrev pub two_types : Tables
two_types = record { sets = (0 ∷ 1 ∷ 2 ∷ []) ∷ []; rows = with_type 3 ∷ with_type 3 ∷ with_type 4 ∷ []; objects = true ∷ [] }

abbrev pub two_arguments : Tables
two_arguments = record { sets = (0 ∷ 1 ∷ []) ∷ []; rows = row_with_arguments 3 ∷ row_with_arguments 4 ∷ []; objects = true ∷ [] }

-- {...F ...F}, F {c}: the fragment is queued once, so that its list is of one field
abbrev fragment_twice : Tables
fragment_twice = record {
  sets = (0 ∷ 1 ∷ []) ∷ (2 ∷ []) ∷ [];
  rows = spreading 1 ∷ spreading 1 ∷ leaf 3 3 0 ∷ [];
  objects = true ∷ [];
}

-- {... {n: name} n: nick}: the inline's set waits in the queue, so that n: nick (row 1) comes before n: name (row 2)
abbrev inline_waits : Tables
inline_waits = record {
  sets = (0 ∷ 1 ∷ []) ∷ (2 ∷ []) ∷ [];
  rows = inlining 1 ∷ leaf 7 9 0 ∷ leaf 7 8 0 ∷ [];
  objects = true ∷ [];
}

-- {a{} b{...F}}, F {}: a's set is empty and is not met; b's is not empty, is met, and has no fields
abbrev empty_sets : Tables
empty_sets = record {
  sets = (0 ∷ 1 ∷ []) ∷ [] ∷ [] ∷ (2 ∷ []) ∷ [];
  rows = composite 1 2 ∷ composite 2 3 ∷ spreading 1 ∷ [];
  objects = true ∷ [];
}

-- {x:p y:r x:q y:s}: the group of x comes first
abbrev two_groups : Tables
two_groups = record {
  sets = (0 ∷ 1 ∷ 2 ∷ 3 ∷ []) ∷ [];
  rows = leaf 5 6 0 ∷ leaf 4 8 0 ∷ leaf 5 7 0 ∷ leaf 4 9 0 ∷ [];
  objects = true ∷ [];
}

-- {a{x:p} a{x:q} y:r y:s}: what is below a group comes before the next group
abbrev below_first : Tables
below_first = record {
  sets = (0 ∷ 1 ∷ 2 ∷ 3 ∷ []) ∷ (4 ∷ []) ∷ (5 ∷ []) ∷ [];
  rows = composite 1 1 ∷ composite 1 2 ∷ leaf 4 8 0 ∷ leaf 4 9 0 ∷ leaf 5 6 0 ∷ leaf 5 7 0 ∷ [];
  objects = true ∷ [];
}

-- {x:p x:q n: name n: name}, the last two of two types: the shape pass comes before the parent pass
abbrev shape_first : Tables
shape_first = record {
  sets = (0 ∷ 1 ∷ 2 ∷ 3 ∷ []) ∷ [];
  rows = leaf 5 6 0 ∷ leaf 5 7 0 ∷ with_type 3 ∷ with_type 4 ∷ [];
  objects = true ∷ [];
}

-- n: nick and n: name on Dog (type 2), and again on Cat (type 1): both subgroups fail, and that of Dog comes first, as its fields do
abbrev two_subgroups : Tables
two_subgroups = record {
  sets = (0 ∷ 1 ∷ []) ∷ (2 ∷ 3 ∷ []) ∷ (4 ∷ 5 ∷ []) ∷ [];
  rows = inlining 1 ∷ inlining 2 ∷ leaf 7 9 2 ∷ leaf 7 8 2 ∷ leaf 7 8 1 ∷ leaf 7 9 1 ∷ [];
  objects = false ∷ true ∷ true ∷ [];
}

-- {a:p{x:r} a:q{x:s}}: the two a are compared before what is below them
abbrev aliased : (own type set : ℕ) → Row
aliased own type set = record { kind = field; response = 1; own = own; type = type; args = 0; link = some set; parent = 0 }

abbrev pair_over_pair : Tables
pair_over_pair = record {
  sets = (0 ∷ 1 ∷ []) ∷ (2 ∷ []) ∷ (3 ∷ []) ∷ [];
  rows = aliased 2 1 1 ∷ aliased 3 1 2 ∷ leaf 5 6 0 ∷ leaf 5 7 0 ∷ [];
  objects = true ∷ [];
}

-- {a{n} a{n}}, where the types of the two a disagree, and those of the two n: likewise in the shape pass
abbrev shape_over_shape : Tables
shape_over_shape = record {
  sets = (0 ∷ 1 ∷ []) ∷ (2 ∷ []) ∷ (3 ∷ []) ∷ [];
  rows = aliased 1 1 1 ∷ aliased 1 2 2 ∷ with_type 3 ∷ with_type 4 ∷ [];
  objects = true ∷ [];
}

-- ---- the table

-- a document, a budget, and the reply's kind, a, b and used
data Specimen : Type 0 where
  specimen : Tables → ℕ → List ℕ → Specimen

abbrev table : List Specimen
table =
    specimen one_field 4 (0 ∷ 0 ∷ 0 ∷ 4 ∷ [])
    ∷ specimen one_field 3 (17 ∷ 0 ∷ 0 ∷ 2 ∷ [])
    ∷ specimen shared_fragment 12 (0 ∷ 0 ∷ 0 ∷ 12 ∷ [])
    ∷ specimen shared_fragment 11 (17 ∷ 0 ∷ 0 ∷ 11 ∷ [])
    ∷ specimen cat_dog 100 (0 ∷ 0 ∷ 0 ∷ 6 ∷ [])
    ∷ specimen cat_dog_pet 100 (15 ∷ 4 ∷ 5 ∷ 8 ∷ [])
    ∷ specimen inner_pair 100 (15 ∷ 2 ∷ 3 ∷ 12 ∷ [])
    ∷ specimen two_types 100 (14 ∷ 0 ∷ 2 ∷ 4 ∷ [])
    ∷ specimen two_arguments 100 (16 ∷ 0 ∷ 1 ∷ 6 ∷ [])
    ∷ specimen fragment_twice 100 (0 ∷ 0 ∷ 0 ∷ 4 ∷ [])
    ∷ specimen inline_waits 100 (15 ∷ 1 ∷ 2 ∷ 6 ∷ [])
    ∷ specimen empty_sets 100 (0 ∷ 0 ∷ 0 ∷ 8 ∷ [])
    ∷ specimen two_groups 100 (15 ∷ 0 ∷ 2 ∷ 10 ∷ [])
    ∷ specimen below_first 100 (15 ∷ 4 ∷ 5 ∷ 16 ∷ [])
    ∷ specimen shape_first 100 (14 ∷ 2 ∷ 3 ∷ 5 ∷ [])
    ∷ specimen two_subgroups 100 (15 ∷ 2 ∷ 3 ∷ 10 ∷ [])
    ∷ specimen pair_over_pair 100 (15 ∷ 0 ∷ 1 ∷ 9 ∷ [])
    ∷ specimen shape_over_shape 100 (14 ∷ 0 ∷ 1 ∷ 3 ∷ [])
    ∷ []

abbrev pub shown : Result → List ℕ
shown (finished z) = 0 ∷ 0 ∷ 0 ∷ z.used ∷ []
shown (conflict (entry s c a b) z) = number_of c ∷ a ∷ b ∷ z.used ∷ []
shown (out z) = 17 ∷ 0 ∷ 0 ∷ z.used ∷ []
shown (deep z) = []

abbrev run : Specimen → List ℕ
run (specimen tables budget reply) = shown (check (document tables) budget 0 0)

abbrev expected : Specimen → List ℕ
expected (specimen tables budget reply) = reply

replies : map run table ≡ map expected table
unfolding computes
replies = refl

-- ---- listings

-- three fields of one name with three lists of arguments
abbrev three_arguments : Tables
three_arguments = record {
  sets = (0 ∷ 1 ∷ 2 ∷ []) ∷ [];
  rows = row_with_arguments 3 ∷ row_with_arguments 4 ∷ row_with_arguments 5 ∷ [];
  objects = true ∷ [];
}

-- a on Cat with y, a on Dog with z, a on the interface Pet with x: p and x: q. The two x meet in the subgroup of Cat and in that of Dog,
-- in two lists: one entry.
abbrev a_under : ℕ → ℕ → Row
a_under parent set = record { kind = field; response = 1; own = 1; type = 1; args = 0; link = some set; parent = parent }

abbrev met_twice : Tables
met_twice = record {
  sets = (0 ∷ 1 ∷ 2 ∷ []) ∷ (3 ∷ []) ∷ (4 ∷ []) ∷ (5 ∷ []) ∷ (6 ∷ []) ∷ (7 ∷ []) ∷ (8 ∷ 9 ∷ []) ∷ [];
  rows =
      inlining 1 ∷ inlining 2 ∷ inlining 3 ∷ a_under 1 4 ∷ a_under 2 5 ∷ a_under 0 6
      ∷ leaf 2 2 3 ∷ leaf 3 3 3 ∷ leaf 4 5 3 ∷ leaf 4 6 3 ∷ [];
  objects = false ∷ true ∷ true ∷ true ∷ [];
}

abbrev numbers : Entry → List ℕ
numbers (entry s c a b) = number_of c ∷ s ∷ a ∷ b ∷ []

-- kind, number of entries, used; then the entries
abbrev all_shown : Result → List (List ℕ)
all_shown (finished z) = (0 ∷ length z.entries ∷ z.used ∷ []) ∷ map numbers z.entries
all_shown (conflict e z) = (19 ∷ length z.entries ∷ z.used ∷ []) ∷ map numbers z.entries
all_shown (out z) = (17 ∷ length z.entries ∷ z.used ∷ []) ∷ map numbers z.entries
all_shown (deep z) = []

-- a document, the room, the budget, how often operation 0 is listed, and the listing's numbers
data ListingSpecimen : Type 0 where
  listed : Tables → (room budget : ℕ) → (operations : List ℕ) → List (List ℕ) → ListingSpecimen

abbrev listings : List ListingSpecimen
listings =
    listed one_field 0 4 (0 ∷ []) ((0 ∷ 0 ∷ 4 ∷ []) ∷ [])
    ∷ listed three_arguments 2 100 (0 ∷ []) ((0 ∷ 2 ∷ 8 ∷ []) ∷ (16 ∷ 0 ∷ 0 ∷ 1 ∷ []) ∷ (16 ∷ 0 ∷ 0 ∷ 2 ∷ []) ∷ [])
    ∷ listed three_arguments 1 100 (0 ∷ []) ((19 ∷ 1 ∷ 8 ∷ []) ∷ (16 ∷ 0 ∷ 0 ∷ 1 ∷ []) ∷ [])
    ∷ listed three_arguments 9 15 (0 ∷ 0 ∷ []) ((17 ∷ 2 ∷ 12 ∷ []) ∷ (16 ∷ 0 ∷ 0 ∷ 1 ∷ []) ∷ (16 ∷ 0 ∷ 0 ∷ 2 ∷ []) ∷ [])
    ∷ listed met_twice 1 100 (0 ∷ []) ((0 ∷ 1 ∷ 21 ∷ []) ∷ (15 ∷ 0 ∷ 8 ∷ 9 ∷ []) ∷ [])
    ∷ []

abbrev run_listing : ListingSpecimen → List (List ℕ)
run_listing (listed tables room budget operations numbers) = all_shown (listing (document tables) room budget operations (begin 0))

abbrev expected_listing : ListingSpecimen → List (List ℕ)
expected_listing (listed tables room budget operations numbers) = numbers

listed_so : map run_listing listings ≡ map expected_listing listings
unfolding computes
listed_so = refl
