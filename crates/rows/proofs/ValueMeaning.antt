-- The test of a value, against what specs/Meaning says of its row: levels by the relation are those by steps, keys stand in the rows of
-- the range. Assumes nothing.
use Prim.Native.Nat.{ℕ, zero, suc, ◌+◌, ◌<◌, ◌≤◌}
use mathlib.Core.Path.{◌≡◌, sym, ap, ◌∙◌, subst}
use mathlib.Core.Logic.{◌↔◌}
use mathlib.Core.Bool.{true, false, ◌||◌}
use mathlib.Core.List.{List}
use native.Mathlib.Decide.{dec_le, dec_lt, ℕ_discrete}
use native.Mathlib.Omega.{arith}
use borrow.Author.Tests.{leb-true, eqb-true, le-leb, lt-leb, lt-ltb, le-ltb, eq-eqb, ne_eqb}
use lib.Dec.{eqb, leb, ltb}
use Rattle.lists.specs.Every.{absent, distinct}
use Rattle.lists.proofs.Tests.{both, second_of, first_of, all_three}
use Rattle.lists.proofs.EveryLaws.{every_at, every_intro, distinct_holds, absent_holds, distinct_intro, absent_intro, distinct_same}
use Rattle.tables.specs.Layout.{NONE, arguments, values}
use Rattle.tables.specs.Image.{count_at, row_in}
use Rattle.tables.specs.Columns.{null, boolean, list, object, value_kind, value_key, value_atom, value_members}
use Rattle.tables.specs.Keys.{key_of, key_in}
use Rattle.tables.specs.Numbering.{most_members, deepest_level, is_holder, next_value, level}
use Rattle.tables.proofs.Ranges.{row_in_lem}
use Rattle.rows.specs.Values.{good_atom, good_list_keys, good_object_keys, good_keys, good_claim, good_own_key, value_rule, good_value}
use Rattle.rows.specs.Meaning.{LastBefore, IsHolder, MemberOf, LevelOf, argument, member, KeepsMembers, KeepsObject, KeepsValue}
use Rattle.rows.proofs.Running.{running}
use Rattle.rows.proofs.LevelLaws.{GoodHolder, Held, GoodBefore, good_atom_lem, good_holder, next_of_holder, claims_some, argument_level, member_level, held_by, levels_bound}

-- ---- what the rule of a row says

module _ (image : List ℕ) (v : ℕ) where
  atom_null : good_atom image v ≡ true → value_kind image v ≡ null → value_atom image v ≡ 0
  unfolding good_atom
  atom_null e k = eqb-true _ _ (rw (eq-eqb _ _ k) at (second_of (eqb (value_members image v).count 0) _ e))

  atom_boolean : good_atom image v ≡ true → value_kind image v ≡ boolean → value_atom image v ≤ 1
  unfolding good_atom
  atom_boolean e k =
      leb-true _ _ (rw (ne_eqb (value_kind image v) null (λ h. omega arith), eq-eqb _ _ k) at (second_of (eqb (value_members image v).count 0) _ e))

  atom_alone : good_atom image v ≡ true → (value_members image v).count ≡ 0
  unfolding good_atom
  atom_alone e = eqb-true _ _ (first_of (eqb (value_members image v).count 0) _ e)

  no_holder : value_kind image v < list → is_holder image v ≡ false
  unfolding is_holder
  no_holder h = lt-leb _ _ h

  pub holder : list ≤ value_kind image v → is_holder image v ≡ true
  unfolding is_holder
  holder h = le-leb _ _ h

  list_keys : good_keys image v ≡ true → value_kind image v ≡ list → (k : ℕ) → k < (value_members image v).count → value_key image (row_in (value_members image v) k) ≡ NONE
  unfolding good_keys good_list_keys key_of
  list_keys e is k h =
      eqb-true _ _ (every_at (value_members image v).count (λ k. eqb (key_in image values (value_members image v) k) NONE) (rw (eq-eqb _ _ is) at e) k h)

module _ (image : List ℕ) where
  -- ---- levels

  -- the members of a good list or object are the rows that it claims
  pub member_claimed : (u v : ℕ) → good_value image u ≡ true → MemberOf image u v → (next_value image u ≤ v) × (v < next_value image (u + 1))
  member_claimed u v good m =
      let is = holder image u m.holder in
      let h : GoodHolder image u = good_holder image u good is in
      (omega (arith, h.first, m.from), omega (arith, h.first, m.to, next_of_holder image u is))

  pub claimed_member : (u v : ℕ) → good_value image u ≡ true → next_value image u ≤ v → v < next_value image (u + 1) → MemberOf image u v
  unfolding is_holder
  claimed_member u v good from to =
      let is : is_holder image u ≡ true = claims_some image u (omega arith) in
      let h : GoodHolder image u = good_holder image u good is in
      record { holder = leb-true _ _ is; from = omega (arith, h.first); to = omega (arith, h.first, next_of_holder image u is) }

  level_is : {v n : ℕ} → GoodBefore image v → LevelOf image v n → level image v ≡ n
  level_is {v} good (argument h) = argument_level image v h
  level_is {v} good (member {u} less m above) =
      let rows = member_claimed u v (good u less) m in
      member_level image u (λ k l. good k (omega arith)) v rows.0 rows.1 ∙ ap suc (level_is (λ k l. good k (omega arith)) above)

  has_level : (n v : ℕ) → v < n → GoodBefore image v → v < next_value image v → LevelOf image v (level image v)
  has_level zero v less good before = absurd (omega arith)
  has_level (suc n) v less good before =
      elim (dec_lt v (count_at image arguments)) [
        | yes own ↦ rw (argument_level image v own) (argument own)
        | no past ↦
            let held : Held image v v = held_by image v v (omega arith) before in
            let u = held.holder in
            let h : GoodHolder image u = good_holder image u (good u held.earlier) (claims_some image u (omega (arith, held.from, held.to))) in
            let above : LevelOf image u (level image u) = has_level n u (omega (arith, held.earlier)) (λ k l. good k (omega (arith, held.earlier))) h.after in
            rw (member_level image u (λ k l. good k (omega (arith, held.earlier))) v held.from held.to)
            (member held.earlier (claimed_member u v (good u held.earlier) held.from held.to) above)
      ]

  -- ---- what the next list or object claims, by the last before

  holder_means : (u : ℕ) → (is_holder image u ≡ true) ↔ IsHolder image u
  unfolding is_holder
  holder_means u = (λ e. leb-true _ _ e, λ h. le-leb _ _ h)

  claim_before : (v : ℕ) → GoodBefore image v → (u : ℕ) → LastBefore (IsHolder image) u v
      → next_value image u + (value_members image u).count ≡ (value_members image u).first + (value_members image u).count
  claim_before v good u l = omega (arith, (good_holder image u (good u l.earlier) ((holder_means u).1 l.one)).first)

  claim_exactly : (v : ℕ) → GoodBefore image v → ((value_members image v).first ≡ next_value image v)
      ↔ ((((u : ℕ) → u < v → IsHolder image u → ⊥) → (value_members image v).first ≡ count_at image arguments)
      × ((u : ℕ) → LastBefore (IsHolder image) u v → (value_members image v).first ≡ (value_members image u).first + (value_members image u).count))
  unfolding next_value
  claim_exactly v good =
      let sum = running (count_at image arguments) (is_holder image) (λ u. (value_members image u).count) (IsHolder image) holder_means v (value_members image v).first in
      (λ e. ((sum.0 e).0, λ u l. (sum.0 e).1 u l ∙ claim_before v good u l), λ f. sum.1 (f.0, λ u l. f.1 u l ∙ sym (claim_before v good u l)))

  -- ---- the rule

  -- the rows of the range, by plain sums
  pub key_at_lem : (v : ℕ) → count_at image values ≤ NONE → (k : ℕ) → (value_members image v).first + (value_members image v).count ≤ count_at image values
      → k < (value_members image v).count → value_key image (row_in (value_members image v) k) ≡ value_key image ((value_members image v).first + k)
  key_at_lem v rows k within less = ap (λ (m : ℕ). value_key image m) (row_in_lem (value_members image v) k (omega arith))

  module _ (v : ℕ) (good : GoodBefore image v) (rows : count_at image values ≤ NONE) where
    module _ (e : good_value image v ≡ true) where
      holds_members : list ≤ value_kind image v → GoodHolder image v
      holds_members is = good_holder image v e (holder image v is)

      within : list ≤ value_kind image v → (value_members image v).first + (value_members image v).count ≤ count_at image values
      within is = let h : GoodHolder image v = holds_members is in omega (arith, h.first, h.inside)

      members_say : list ≤ value_kind image v → KeepsMembers image v
      members_say is =
          let h : GoodHolder image v = holds_members is in
          let claim = (claim_exactly v good).0 h.first in
          record {
            first_claim = claim.0;
            next_claim = claim.1;
            after = omega (arith, h.first, h.after);
            within = record { ends = within is };
            deepest = λ deep. elim (dec_le 1 (value_members image v).count) [
              | yes some ↦ absurd (omega (arith, h.shallow some, level_is good deep))
              | no none ↦ omega arith
            ];
          }

      object_says : value_kind image v ≡ object → KeepsObject image v
      unfolding good_keys good_object_keys key_of
      object_says is =
          let many : list ≤ value_kind image v = omega arith in
          let members = value_members image v in
          let key = key_in image values members in
          let parts = all_three (leb members.count most_members) (absent members.count key NONE) (distinct members.count key)
          (rw (ne_eqb (value_kind image v) list (λ h. omega arith)) at (holds_members many).keys) in
          record {
            few_members = leb-true _ _ parts.0;
            keys = λ k less none. absent_holds members.count key NONE parts.1 k less (key_at_lem v rows k (within many) less ∙ none);
            distinct_keys = distinct_same _ _ _ (λ k less. key_at_lem v rows k (within many) less) (distinct_holds members.count key parts.2);
          }

      value_says : KeepsValue image v
      unfolding good_value value_rule good_own_key
      value_says =
          let parts = all_three (leb (value_kind image v) object) (good_own_key image v) _ e in
          record {
            kind = leb-true _ _ parts.0;
            argument_key = λ own. eqb-true _ _ (rw (lt-ltb _ _ own) at parts.1);
            null_atom = λ k. atom_null image v (good_atom_lem image v e (no_holder image v (omega arith))) k;
            boolean_atom = λ k. atom_boolean image v (good_atom_lem image v e (no_holder image v (omega arith))) k;
            no_members = λ k. atom_alone image v (good_atom_lem image v e (no_holder image v (omega arith)));
            members = members_say;
            list_keys = λ k j less.
                let many : list ≤ value_kind image v = omega arith in
                sym (key_at_lem v rows j (within many) less) ∙ list_keys image v (holds_members many).keys k j less;
            object_row = object_says;
          }

    module _ (keeps : KeepsValue image v) where
      claim_holds : KeepsMembers image v → good_claim image v (next_value image v) (level image v) ≡ true
      unfolding good_claim
      claim_holds m =
          let first : (value_members image v).first ≡ next_value image v = (claim_exactly v good).1 (m.first_claim, m.next_claim) in
          let next : v < next_value image v = omega (arith, m.after) in
          both (both (both (lt-ltb _ _ next) (eq-eqb _ _ first)) (le-leb _ _ m.within.ends)) (not_deep next)
        where
          not_deep : v < next_value image v → (ltb (level image v) deepest_level || eqb (value_members image v).count 0) ≡ true
          not_deep next =
              elim (dec_lt (level image v) deepest_level) [
                | yes less ↦ rw (lt-ltb _ _ less)
                | no more ↦
                    let deep : level image v ≡ 64 = omega (arith, (levels_bound image v good v next).1) in
                    let none : (value_members image v).count ≡ 0 = m.deepest (subst (λ (n : ℕ). LevelOf image v n) deep (has_level (suc v) v (omega arith) good next)) in
                    rw (deep, none)
              ]

      keys_hold : list ≤ value_kind image v → (value_members image v).first + (value_members image v).count ≤ count_at image values → good_keys image v ≡ true
      unfolding good_keys good_list_keys good_object_keys key_of
      keys_hold is inside =
          elim (ℕ_discrete (value_kind image v) list) [
            | yes k ↦ rw (eq-eqb _ _ k) (every_intro _ _ (λ j less. eq-eqb _ _ (key_at_lem v rows j inside less ∙ keeps.list_keys k j less)))
            | no k ↦
                let o : KeepsObject image v = keeps.object_row (omega (arith, keeps.kind)) in
                rw (ne_eqb _ _ k)
                (both (both (le-leb _ _ o.few_members) (absent_intro _ _ NONE (λ j less none. o.keys j less (sym (key_at_lem v rows j inside less) ∙ none))))
                (distinct_intro _ _ (distinct_same _ _ _ (λ j less. sym (key_at_lem v rows j inside less)) o.distinct_keys)))
          ]

      atom_holds : value_kind image v < list → good_atom image v ≡ true
      unfolding good_atom
      atom_holds less =
          both (eq-eqb _ _ (keeps.no_members (omega arith)))
          (elim (ℕ_discrete (value_kind image v) null) [
            | yes k ↦ rw (eq-eqb _ _ k) (eq-eqb _ _ (keeps.null_atom k))
            | no k ↦ rw (ne_eqb _ _ k) (elim (ℕ_discrete (value_kind image v) boolean) [
              | yes b ↦ rw (eq-eqb _ _ b) (le-leb _ _ (keeps.boolean_atom b))
              | no b ↦ rw (ne_eqb _ _ b)
            ])
          ])

      own_key_holds : good_own_key image v ≡ true
      unfolding good_own_key
      own_key_holds =
          elim (dec_lt v (count_at image arguments)) [
            | yes own ↦ rw (lt-ltb _ _ own) (eq-eqb _ _ (keeps.argument_key own))
            | no past ↦ let most : count_at image arguments ≤ v = omega arith in rw (le-ltb _ _ most)
          ]

      value_holds : good_value image v ≡ true
      unfolding good_value value_rule
      value_holds =
          both (both (le-leb _ _ keeps.kind) own_key_holds)
          (elim (dec_le list (value_kind image v)) [
            | yes is ↦
                let m : KeepsMembers image v = keeps.members is in
                rw (holder image v is) (both (claim_holds m) (keys_hold is m.within.ends))
            | no is-not ↦ rw (no_holder image v (omega arith)) (atom_holds (omega arith))
          ])

    pub value_exactly : (good_value image v ≡ true) ↔ KeepsValue image v
    value_exactly = (value_says, value_holds)
