-- The laws of claims, holders and levels (table 7): what the rule says of a list or an object, which rows it has for members,
-- and at which level they stand. Assumes nothing.
use Prim.Native.Nat.{ℕ, zero, suc, ◌+◌, ◌<◌, ◌≤◌, zero-le}
use mathlib.Core.Path.{◌≡◌, refl, ap, ◌∙◌}
use mathlib.Core.Bool.{Bool, true, false, cond, ◌&&◌, ◌||◌}
use mathlib.Core.List.{List}
use native.Mathlib.Nat.{le_refl}
use native.Mathlib.Omega.{arith}
use native.Mathlib.Numerals.{add-one}
use native.Mathlib.Decide.{dec_le, dec_lt}
use borrow.Author.Tests.{le-leb, lt-ltb, le-ltb, leb-true, ltb-true, eqb-true}
use lib.Dec.{eqb, leb, ltb}
use Rattle.lists.specs.Every.{total}
use Rattle.lists.proofs.EveryLaws.{position_found, total_more, total_grows}
use Rattle.lists.proofs.Tests.{both, first_of, second_of, second_fails, other_of}
use Rattle.tables.specs.Layout.{NONE, arguments, values}
use Rattle.tables.specs.Image.{count_at, row_in, lies_within, is_row}
use Rattle.tables.specs.Columns.{value_kind, value_members, object}
use Rattle.tables.specs.Numbering.{deepest_level, is_holder, claimed, next_value, holds, holder_of, level_in, level}
use Rattle.rows.specs.Values.{good_atom, good_keys, good_claim, good_own_key, value_rule, good_value}
use Rattle.rows.specs.RowFault.{row_rule, GoodBelow}
use Rattle.tables.proofs.Ranges.{row_in_lem}

-- what the rule says of a list or an object
pub record GoodHolder (image : List ℕ) (v : ℕ) : Type 0 where
  pub after : v < next_value image v
  pub first : (value_members image v).first ≡ next_value image v
  pub inside : next_value image v + (value_members image v).count ≤ count_at image values
  pub shallow : 0 < (value_members image v).count → level image v < deepest_level
  pub keys : good_keys image v ≡ true

-- row w is one that `holder`, a row before v, claims
pub record Held (image : List ℕ) (v w : ℕ) : Type 0 where
  pub holder : ℕ
  pub earlier : holder < v
  pub from : next_value image holder ≤ w
  pub to : w < next_value image (holder + 1)

-- every row before v is good
abbrev pub GoodBefore : List ℕ → ℕ → Type 0
GoodBefore image v = (k : ℕ) → k < v → good_value image k ≡ true

not_deep : (l n : ℕ) → (ltb l deepest_level || eqb n 0) ≡ true → 0 < n → l < deepest_level
not_deep l n e some = go (ltb l deepest_level) refl
  where
    go : (b : Bool) → ltb l deepest_level ≡ b → l < deepest_level
    go true is = ltb-true _ _ is
    go false is-not = let none : n ≡ 0 = eqb-true _ _ (other_of is-not e) in absurd (omega arith)

module _ (image : List ℕ) where
  -- ---- the next unclaimed row

  pub next_start : next_value image 0 ≡ count_at image arguments
  unfolding next_value total
  next_start = refl

  pub next_more : (v : ℕ) → next_value image (v + 1) ≡ next_value image v + claimed image v
  unfolding next_value
  next_more v = total_more (count_at image arguments) (claimed image) v

  pub next_grows : (u v : ℕ) → u ≤ v → next_value image u ≤ next_value image v
  unfolding next_value
  next_grows u v h = total_grows (count_at image arguments) (claimed image) u v h

  pub next_of_holder : (v : ℕ) → is_holder image v ≡ true → next_value image (v + 1) ≡ next_value image v + (value_members image v).count
  next_of_holder v is = rw (next_more v, is)

  pub next_of_atom : (v : ℕ) → is_holder image v ≡ false → next_value image (v + 1) ≡ next_value image v
  next_of_atom v is-not = let more : next_value image (v + 1) ≡ next_value image v + 0 = rw (next_more v, is-not) in omega arith

  -- a row that claims any is a list or an object
  pub claims_some : (v : ℕ) → next_value image v < next_value image (v + 1) → is_holder image v ≡ true
  claims_some v some = go (is_holder image v) refl
    where
      go : (b : Bool) → is_holder image v ≡ b → is_holder image v ≡ true
      go true is = is
      go false is-not = let same = next_of_atom v is-not in absurd (omega arith)

  -- ---- levels

  -- any number of steps above the row's number gives the same level
  pub level_steps : (n m v : ℕ) → v < n → v < m → level_in image n v ≡ level_in image m v
  unfolding level_in
  level_steps zero m v hn hm = absurd (omega arith)
  level_steps (suc n) zero v hn hm = absurd (omega arith)
  level_steps (suc n) (suc m) v hn hm =
      go (is_row image arguments v) (ltb holder v) refl (level_steps n m holder)
    where
      holder : ℕ
      holder = holder_of image v

      go : (argument earlier : Bool) → ltb holder v ≡ earlier
          → (holder < n → holder < m → level_in image n holder ≡ level_in image m holder)
          → cond argument 1 (cond earlier (suc (level_in image n holder)) 0) ≡ cond argument 1 (cond earlier (suc (level_in image m holder)) 0)
      go true earlier e above = refl
      go false false e above = refl
      go false true e above = let less : holder < v = ltb-true _ _ e in ap suc (above (omega arith) (omega arith))

  -- the value of an argument stands at level 1
  pub argument_level : (v : ℕ) → v < count_at image arguments → level image v ≡ 1
  unfolding level level_in
  argument_level v h = rw (lt-ltb _ _ h)

  pub held_level : (v : ℕ) → count_at image arguments ≤ v → holder_of image v < v → level image v ≡ suc (level image (holder_of image v))
  unfolding level level_in
  held_level v past less =
      let above : level_in image v (holder_of image v) ≡ level image (holder_of image v) = level_steps v (suc (holder_of image v)) (holder_of image v) less (omega arith) in
      rw (le-ltb _ _ past, lt-ltb _ _ less) (ap suc above)

  -- ---- what the rule says

  module _ (v : ℕ) (good : good_value image v ≡ true) where
    judged : cond (is_holder image v) (good_claim image v (next_value image v) (level image v) && good_keys image v) (good_atom image v) ≡ true
    unfolding good_value value_rule
    judged = second_of (leb (value_kind image v) object && good_own_key image v) _ good

    pub good_atom_lem : is_holder image v ≡ false → good_atom image v ≡ true
    good_atom_lem is-not = rw is-not at judged

    pub good_holder : is_holder image v ≡ true → GoodHolder image v
    unfolding good_claim
    good_holder is =
        let next = next_value image v in
        let members = value_members image v in
        let held : (good_claim image v next (level image v) && good_keys image v) ≡ true = rw is at judged in
        let claim : good_claim image v next (level image v) ≡ true = first_of _ (good_keys image v) held in
        let near = ltb v next && eqb members.first next in
        let within = near && lies_within members (count_at image values) in
        let deep = ltb (level image v) deepest_level || eqb members.count 0 in
        let inside : within ≡ true = first_of within deep claim in
        let begun : near ≡ true = first_of near (lies_within members (count_at image values)) inside in
        let first : members.first ≡ next = eqb-true _ _ (second_of (ltb v next) (eqb members.first next) begun) in
        let few : members.first + members.count ≤ count_at image values = leb-true _ _ (second_of near (lies_within members (count_at image values)) inside) in
        record {
          after = ltb-true _ _ (first_of (ltb v next) (eqb members.first next) begun);
          first = first;
          inside = omega arith;
          shallow = λ some. not_deep (level image v) members.count (second_of within deep claim) some;
          keys = second_of (good_claim image v next (level image v)) (good_keys image v) held;
        }

    -- a good row that is claimed by now was claimed before it claimed any
    pub claimed_before : v < next_value image (v + 1) → v < next_value image v
    claimed_before less = go (is_holder image v) refl
      where
        go : (b : Bool) → is_holder image v ≡ b → v < next_value image v
        go true is = (good_holder is).after
        go false is-not = let same = next_of_atom v is-not in omega arith

    -- its claim does not lead past the table
    pub next_fits : (most : ℕ) → next_value image v ≤ most → count_at image values ≤ most → next_value image (v + 1) ≤ most
    next_fits most before rows = go (is_holder image v) refl
      where
        go : (b : Bool) → is_holder image v ≡ b → next_value image (v + 1) ≤ most
        go true is = let h : GoodHolder image v = good_holder is in omega (arith, next_of_holder v is)
        go false is-not = omega (arith, next_of_atom v is-not)

  module _ (u : ℕ) (good : GoodBefore image (u + 1)) where
    ends_before : (w : ℕ) → next_value image u ≤ w → (k : ℕ) → k < u → holds image w k ≡ false
    ends_before w past k less = go (is_holder image k) refl
      where
        go : (b : Bool) → is_holder image k ≡ b → holds image w k ≡ false
        go false is-not = rw is-not
        go true is =
            let h : GoodHolder image k = good_holder k (good k (omega arith)) is in
            let end : (value_members image k).first + (value_members image k).count ≤ w = omega (arith, next_of_holder k is, next_grows (k + 1) u (omega arith)) in
            second_fails (is_holder image k && leb (value_members image k).first w) (le-ltb _ _ end)

    -- the rows that a good list or object claims have it for their holder
    pub holder_found : (w : ℕ) → next_value image u ≤ w → w < next_value image (u + 1) → holder_of image w ≡ u
    unfolding holder_of
    holder_found w past before =
        let is : is_holder image u ≡ true = claims_some u (omega arith) in
        let h : GoodHolder image u = good_holder u (good u (omega arith)) is in
        let from : (value_members image u).first ≤ w = omega arith in
        let to : w < (value_members image u).first + (value_members image u).count = omega (arith, next_of_holder u is) in
        position_found w (holds image w) u (omega arith) (ends_before w past) (both (both is (le-leb _ _ from)) (lt-ltb _ _ to))

    -- and stand one level below it
    pub member_level : (w : ℕ) → next_value image u ≤ w → w < next_value image (u + 1) → level image w ≡ suc (level image u)
    member_level w past before =
        let is : is_holder image u ≡ true = claims_some u (omega arith) in
        let h : GoodHolder image u = good_holder u (good u (omega arith)) is in
        let found : holder_of image w ≡ u = holder_found w past before in
        let least : count_at image arguments ≤ next_value image u = omega (arith, next_start, next_grows 0 u zero-le) in
        held_level w (omega arith) (omega arith) ∙ ap (λ (k : ℕ). suc (level image k)) found

    -- the rows of its range are those that it claims
    pub member_row : is_holder image u ≡ true → count_at image values ≤ NONE → (k : ℕ) → k < (value_members image u).count
        → row_in (value_members image u) k ≡ next_value image u + k
    member_row is rows k less =
        let h : GoodHolder image u = good_holder u (good u (omega arith)) is in
        row_in_lem (value_members image u) k (omega arith) ∙ ap (λ (n : ℕ). n + k) h.first

  -- every row that those before v claim is some list's or object's
  pub held_by : (v w : ℕ) → count_at image arguments ≤ w → w < next_value image v → Held image v w
  held_by zero w past before = absurd (omega (arith, next_start))
  held_by (suc v) w past before =
      elim (dec_le (next_value image v) w) [
        | yes from ↦ record { holder = v; earlier = le_refl _; from = from; to = rw add-one before }
        | no under ↦
            let held : Held image v w = held_by v w past (omega arith) in
            record { holder = held.holder; earlier = omega arith; from = held.from; to = held.to }
      ]

  -- and stands, as the arguments' do, at one of the levels 1 to 64
  pub levels_bound : (v : ℕ) → GoodBefore image v → (w : ℕ) → w < next_value image v → (1 ≤ level image w) × (level image w ≤ deepest_level)
  levels_bound v good w before =
      elim (dec_lt w (count_at image arguments)) [
        | yes own ↦ omega (arith, argument_level w own)
        | no past ↦
            let held : Held image v w = held_by v w (omega arith) before in
            let u = held.holder in
            let is : is_holder image u ≡ true = claims_some u (omega arith) in
            let h : GoodHolder image u = good_holder u (good u held.earlier) is in
            let few : level image u < deepest_level = h.shallow (omega (arith, next_of_holder u is)) in
            omega (arith, member_level u (λ k l. good k (omega arith)) w held.from held.to)
      ]

-- where table 7 is good, so is every row of it
pub good_values : {image : List ℕ} {n : ℕ} → GoodBelow image n → values < n → GoodBefore image (count_at image values)
unfolding row_rule
good_values below less k row = below.rows values less k row
