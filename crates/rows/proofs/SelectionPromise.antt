-- What a fault-free image promises of its selections: where each stands, which set it owns, and what its kind asks.
-- Assumes nothing.
use Prim.Native.Nat.{ℕ, ◌+◌, ◌<◌, ◌≤◌}
use mathlib.Core.Path.{◌≡◌, sym, ap, ◌∙◌}
use mathlib.Core.Bool.{true}
use mathlib.Core.List.{List}
use mathlib.Core.Option.{none}
use native.Mathlib.Decide.{dec_le, ℕ_discrete}
use native.Mathlib.Nat.{le_refl}
use native.Mathlib.Omega.{arith}
use Rattle.lists.proofs.EveryLaws.{distinct_same, total_grows}
use Rattle.tables.specs.Layout.{operations, fragments, sets, selections, arguments}
use Rattle.tables.specs.Image.{count_at}
use Rattle.tables.specs.Columns.{field, innermost, type_kind, selection_kind, field_type, field_arguments, selection_at}
use Rattle.tables.specs.Numbering.{set_start, owns_set, owned, next_set, home_set}
use Rattle.tables.specs.Good as good
use Rattle.tables.proofs.ColumnLaws.{inline_owns, field_owns, next_set_first, next_set_more}
use Rattle.rows.specs.Selections.{good_selection}
use Rattle.rows.specs.RowFault.{row_rule, image_fault, GoodBelow}
use Rattle.rows.specs.Meaning.{KeepsOwned, KeepsField, NoFieldWords, KeepsSelection}
use Rattle.rows.proofs.PlainPromise.{good_header_of, every_row, no_selection_left}
use Rattle.rows.proofs.HomeLaws.{set_first, start_inside, some_set, home_set_lem}
use Rattle.rows.proofs.SelectionMeaning.{owner_means, owned_number, core_is, name_at_lem, field_composite, selection_exactly}

-- ---- the rows of a fault-free image

module _ (image : List ℕ) (fault-free : image_fault image ≡ none) where
  lower : GoodBelow image 5
  lower = record { header = good_header_of image fault-free; rows = λ t ht r h. every_row image fault-free t r (omega arith) h }

  rule : (r : ℕ) → r < count_at image selections → good_selection image r ≡ true
  unfolding row_rule
  rule r h = every_row image fault-free selections r (omega arith) h

  rules_before : (r : ℕ) → r < count_at image selections → (q : ℕ) → q < r → good_selection image q ≡ true
  rules_before r h q less = rule q (omega arith)

  keeps : (r : ℕ) → r < count_at image selections → KeepsSelection image r
  keeps r h = (selection_exactly image lower r (rules_before r h)).0 (rule r h)

  pub stands : (r : ℕ) → r < count_at image selections → good.StandsIn image r (home_set image r)
  stands r h =
      let place = some_set image lower (count_at image sets) r (le_refl _) (omega (arith, no_selection_left image fault-free)) in
      let s = place.0 in
      let home : home_set image r ≡ s = home_set_lem image lower s r place.1 place.2 place.3 in
      rw home (record { known = place.1; from = omega (arith, set_first image lower s place.1, place.2); below = place.3 })

  pub only_home : (r s : ℕ) → good.StandsIn image r s → s ≡ home_set image r
  only_home r s st = sym (home_set_lem image lower s r st.known (omega (arith, set_first image lower s st.known, st.from)) st.below)

  -- numbers of owned sets come after those of operations and fragments
  own_number : (r : ℕ) → count_at image operations + count_at image fragments ≤ next_set image r
  unfolding next_set
  own_number r = omega (arith, total_grows (count_at image operations + count_at image fragments) (owned image) 0 r (omega arith), next_set_first image)

  pub owned_set : (r : ℕ) → r < count_at image selections → owns_set (selection_at image r) ≡ true → good.GoodOwned image r
  owned_set r h owns =
      let own : KeepsOwned image r = (keeps r h).owned ((owner_means image r).0 owns) in
      let number = owned_number image r (rule r h) owns in
      record { known = own.known; number = number; own = omega (arith, own_number r); later = own.greater (home_set image r) (stands r h) }

  field_row : (r : ℕ) → r < count_at image selections → selection_kind image r ≡ field → good.GoodField image r
  field_row r h k =
      let f : KeepsField image r = (keeps r h).field_row k in
      let core : innermost image (field_type image r) ≡ f.core = core_is image lower f.reference f.innermost in
      record {
        reference = f.reference;
        output = λ input. f.output (ap (type_kind image) (sym core) ∙ input);
        few_arguments = f.few_arguments;
        distinct_names = distinct_same _ _ _ (λ j less. sym (name_at_lem image lower r (rules_before r h) j f.arguments_within.ends less)) f.distinct_names;
        owned = λ some. owned_set r h (field_owns image r k some);
        composite = λ some. rw core (field_composite image lower r (rules_before r h) f some);
        parent = λ some. f.parent some ∙ sym core;
      }

  arguments_in : (r : ℕ) → r < count_at image selections → (field_arguments image r).first + (field_arguments image r).count ≤ count_at image arguments
  arguments_in r h =
      elim (ℕ_discrete (selection_kind image r) field) [
        | yes k ↦ ((keeps r h).field_row k).arguments_within.ends
        | no k ↦ let words : NoFieldWords image r = (keeps r h).no_words k in omega arith
      ]

  pub selection_row : (r : ℕ) → r < count_at image selections → good.GoodSelection image r
  selection_row r h =
      let k : KeepsSelection image r = keeps r h in
      record {
        kind = k.kind;
        home = stands r h;
        directives_within = k.directives_within;
        arguments_within = record { ends = arguments_in r h };
        field_row = field_row r h;
        spread_target = k.spread_target;
        inline_owned = λ is. owned_set r h (inline_owns image r is);
        no_arguments = λ other. (k.no_words other).count;
      }

  -- ---- all rows together

  pub all_stand : set_start image (count_at image sets) ≡ count_at image selections
  all_stand = omega (arith, no_selection_left image fault-free, start_inside image lower (count_at image sets) (le_refl _))

-- the running number goes up at each owner
owners_apart : (image : List ℕ) (q r : ℕ) → owns_set (selection_at image q) ≡ true → q < r → next_set image q ≡ next_set image r → ⊥
unfolding next_set
owners_apart image q r owns less e =
    let step : owned image q ≡ 1 = rw owns in
    omega (arith, next_set_more image q, total_grows (count_at image operations + count_at image fragments) (owned image) (q + 1) r (omega arith))

-- so that two owners have two numbers
pub one_owner : (image : List ℕ) (q r : ℕ) → owns_set (selection_at image q) ≡ true → owns_set (selection_at image r) ≡ true → next_set image q ≡ next_set image r → q ≡ r
one_owner image q r p o e =
    elim (dec_le q r) [
      | yes le ↦ elim (ℕ_discrete q r) [ yes same ↦ same | no other ↦ absurd (owners_apart image q r p (omega arith) e) ]
      | no more ↦ absurd (owners_apart image r q o (omega arith) (sym e))
    ]
