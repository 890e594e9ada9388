-- What stands in front of the words that the walk is lent: for each selection the parent of its set, the class of its name, and that
-- of its name and parent. Two rows have one class exactly where they have one name, or one name and one kind of parent.
-- Assumes nothing.
use Rattle.std.specs.Prelude.{◌≡◌, Bool, cond, not, ◌&&◌, List, ℕ, ◌+◌, ◌*◌, ◌≤◌, ◌<◌, eqb, length, get_or}
use Rattle.tables.specs.Layout.{selections}
use Rattle.tables.specs.Image.{count_at}
use Rattle.tables.specs.Columns.{object_type, type_kind, response_name, set_parent}
use Rattle.tables.specs.Numbering.{home_set}
use Rattle.tables.specs.Good.{Good}

-- fields of these parents are in one segment: one object, or no objects
unfoldable pub same_parent : List ℕ → ℕ → ℕ → Bool
same_parent image a b = cond (eqb (type_kind image b) object_type) (eqb a b) (not (eqb (type_kind image a) object_type))

module _ (image s : List ℕ) where
  abbrev pub name_class : ℕ → ℕ
  name_class r = get_or s (count_at image selections + r) 0

  abbrev pub pair_class : ℕ → ℕ
  pair_class r = get_or s (count_at image selections + count_at image selections + r) 0

  pub record Classed : Type 0 where
    pub names_below : (r : ℕ) → r < count_at image selections → name_class r < count_at image selections
    pub names : (q r : ℕ) → q < count_at image selections → r < count_at image selections → eqb (name_class q) (name_class r) ≡ eqb (response_name image q) (response_name image r)
    pub pairs_below : (r : ℕ) → r < count_at image selections → pair_class r < count_at image selections
    pub pairs : (q r : ℕ) → q < count_at image selections → r < count_at image selections
        → eqb (pair_class q) (pair_class r) ≡ (eqb (response_name image q) (response_name image r) && same_parent image (get_or s q 0) (get_or s r 0))

  pub record Prepared : Type 0 where
    pub parents : (r : ℕ) → r < count_at image selections → get_or s r 0 ≡ set_parent image (home_set image r)
    pub classes : Classed

-- parents and classes are written, where there is room for them and for an index of the rows
pub record Prepares (image s s' : List ℕ) : Type 0 where
  pub long : length s' ≡ length s
  pub prepared : Good image → 6 * count_at image selections ≤ length s → Prepared image s'
