-- What a fault-free image promises of its values: kinds, atoms, members, keys and levels. Assumes nothing.
use Prim.Native.Nat.{ℕ, zero, suc, ◌+◌, ◌<◌, ◌≤◌}
use mathlib.Core.Path.{◌≡◌, sym, ◌∙◌}
use mathlib.Core.List.{List}
use mathlib.Core.Option.{none}
use native.Mathlib.Nat.{le_refl}
use native.Mathlib.Numerals.{add-one}
use native.Mathlib.Omega.{arith}
use Rattle.lists.proofs.EveryLaws.{all_below, distinct_same}
use Rattle.tables.specs.Layout.{NONE, arguments, values}
use Rattle.tables.specs.Image.{count_at}
use Rattle.tables.specs.Columns.{list, object, value_kind, value_key, value_members}
use Rattle.tables.specs.Numbering.{next_value}
use Rattle.tables.specs.Good as good
use Rattle.tables.proofs.Tidy.{good_header}
use Rattle.tables.proofs.Counts.{few_rows}
use Rattle.rows.specs.RowFault.{image_fault, GoodBelow}
use Rattle.rows.specs.Meaning.{KeepsMembers, KeepsValue}
use Rattle.rows.proofs.PlainPromise.{good_header_of, every_row, no_value_left, argument_keeps}
use Rattle.rows.proofs.LevelLaws.{GoodBefore, good_values, good_holder, next_start, next_grows, next_of_holder, argument_level, member_level, levels_bound, next_fits}
use Rattle.rows.proofs.ValueMeaning.{holder, key_at_lem, value_exactly}

-- ---- the rows of a fault-free image

module _ (image : List ℕ) (fault-free : image_fault image ≡ none) where
  all_good : GoodBelow image 9
  all_good = record { header = good_header_of image fault-free; rows = λ t ht r h. every_row image fault-free t r ht h }

  before : GoodBefore image (count_at image values)
  before = good_values all_good (omega arith)

  rows_few : count_at image values ≤ NONE
  rows_few = omega (arith, few_rows image (good_header image all_good.header).few values (omega arith))

  keeps : (v : ℕ) → v < count_at image values → KeepsValue image v
  keeps v h = (value_exactly image v (λ k less. before k (omega arith)) rows_few).0 (before v h)

  pub own_key : (a : ℕ) → a < count_at image arguments → a < count_at image values → value_key image a ≡ NONE
  own_key a h inside = (keeps a inside).argument_key h

  -- no row claims past the table, so all claims end where the table does
  arguments_few : count_at image arguments ≤ count_at image values
  arguments_few = all_below _ _ (λ a h. (argument_keeps image 9 all_good (omega arith) a h).value)

  few_claimed : (v : ℕ) → v ≤ count_at image values → next_value image v ≤ count_at image values
  few_claimed zero h = omega (arith, next_start image, arguments_few)
  few_claimed (suc v) h = rw add-one at (next_fits image v (before v h) (count_at image values) (few_claimed v (omega arith)) (le_refl _))

  pub all_claimed : next_value image (count_at image values) ≡ count_at image values
  all_claimed = omega (arith, no_value_left image fault-free, few_claimed (count_at image values) (le_refl _))

  members_row : (v : ℕ) → v < count_at image values → list ≤ value_kind image v → good.GoodMembers image v
  members_row v h is =
      let m : KeepsMembers image v = (keeps v h).members is in
      let first = (good_holder image v (before v h) (holder image v is)).first in
      record {
        within = m.within;
        later = m.after;
        unlike_arguments = omega (arith, next_grows image 0 v (omega arith), next_start image);
        levels = λ k less.
            member_level image v (λ u l. before u (omega arith)) ((value_members image v).first + k) (omega arith)
            (omega (arith, next_of_holder image v (holder image v is)));
      }

  object_row : (v : ℕ) → v < count_at image values → value_kind image v ≡ object → good.GoodObject image v
  object_row v h is =
      let o = (keeps v h).object_row is in
      let inside = ((keeps v h).members (omega arith)).within.ends in
      record {
        few_members = o.few_members;
        keys = λ k less none. o.keys k less (sym (key_at_lem image v rows_few k inside less) ∙ none);
        distinct_keys = distinct_same _ _ _ (λ k less. sym (key_at_lem image v rows_few k inside less)) o.distinct_keys;
      }

  pub value_row : (v : ℕ) → v < count_at image values → good.GoodValue image v
  value_row v h =
      let k : KeepsValue image v = keeps v h in
      record {
        kind = k.kind;
        null_atom = k.null_atom;
        boolean_atom = k.boolean_atom;
        no_members = λ less. k.no_members (omega arith);
        members = members_row v h;
        list_keys = λ is j less. key_at_lem image v rows_few j (k.members (omega arith)).within.ends less ∙ k.list_keys is j less;
        object_row = object_row v h;
        argument_level = argument_level image v;
        shallow = (levels_bound image (count_at image values) before v (omega (arith, all_claimed))).1;
      }
