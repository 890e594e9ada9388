-- The pass over the values (table 7): how its running numbers agree with the definitions, and a law for each way on or out.
-- Assumes nothing.
use Prim.Native.Nat.{ℕ, suc, ◌+◌, ◌<◌, ◌≤◌, zero-le}
use mathlib.Core.Path.{◌≡◌, sym, ap, ◌∙◌}
use mathlib.Core.Bool.{Bool, true, false}
use mathlib.Core.List.{List}
use native.Mathlib.Nat.{le_refl}
use native.Mathlib.Omega.{arith}
use native.Mathlib.Decide.{dec_le, dec_lt}
use borrow.Author.Count.{below_none, below_more}
use borrow.Author.Tests.{le-ltb}
use Rattle.tables.specs.Layout.{NONE, arguments, values}
use Rattle.tables.specs.Image.{count_at}
use Rattle.tables.specs.Numbering.{claimed, next_value, level}
use Rattle.rows.specs.Values.{good_claim, value_rule, good_value}
use Rattle.rows.specs.RowFault.{bad_row, row_rule, broken_row}
use mathlib.Core.Option.{none, some}
use Rattle.rows.proofs.RowPass.{bad_row_shown, no_row_shown}
use Rattle.rows.proofs.LevelLaws.{GoodBefore, next_start, next_more, next_grows, argument_level, claimed_before, next_fits, member_level}

-- The levels of the claimed rows from v on: those before `end` have the level at hand, the others the next. `bound` is v where
-- the pass comes to row v, and v + 1 once the level of row v is settled.
pub record Levels (image : List ℕ) (v bound at_level end : ℕ) : Type 0 where
  pub low : at_level ≤ bound
  pub within : end ≤ next_value image v
  pub reach : v < next_value image v → bound ≤ end
  pub here : (w : ℕ) → v ≤ w → w < end → level image w ≡ at_level
  pub later : (w : ℕ) → v ≤ w → end ≤ w → w < next_value image v → level image w ≡ suc at_level

-- the numbers that the pass runs with, all rows before `row` being good
pub record Passed (image : List ℕ) (row unclaimed at_level end : ℕ) : Type 0 where
  pub rows : row ≤ count_at image values
  pub good : GoodBefore image row
  pub next : unclaimed ≡ next_value image row
  pub fits : unclaimed ≤ NONE
  pub levels : Levels image row row at_level end

module _ (image : List ℕ) where
  pub begins : {unclaimed : ℕ} → unclaimed ≡ count_at image arguments → unclaimed ≤ NONE → Passed image 0 unclaimed 0 0
  begins first fits = record {
    rows = zero-le;
    good = below_none _;
    next = first ∙ sym (next_start image);
    fits = fits;
    levels = record {
      low = zero-le;
      within = zero-le;
      reach = λ _. zero-le;
      here = λ w _ before. absurd (omega arith);
      later = λ w _ _ before. argument_level image w (omega (arith, next_start image));
    };
  }

  module _ (v : ℕ) where
    -- at `end` the next level begins, and goes to the rows that are claimed by now
    pub climbs : {at_level end unclaimed new-level new-end : ℕ} → Levels image v v at_level end → unclaimed ≡ next_value image v
        → v ≡ end → new-level ≡ at_level + 1 → new-end ≡ unclaimed → Levels image v (v + 1) new-level new-end
    climbs l next is level_is end_is = record {
      low = omega arith;
      within = omega arith;
      reach = λ less. omega arith;
      here = λ w from before. omega (arith, l.later w from (omega arith) (omega arith));
      later = λ w from past before. absurd (omega arith);
    }

    pub stays : {at_level end new-level new-end : ℕ} → Levels image v v at_level end
        → (v ≡ end → ⊥) → new-level ≡ at_level → new-end ≡ end → Levels image v (v + 1) new-level new-end
    stays l is-not level_is end_is = record {
      low = omega arith;
      within = omega arith;
      reach = λ less. omega (arith, l.reach less);
      here = λ w from before. l.here w from (omega arith) ∙ sym level_is;
      later = λ w from past before. omega (arith, l.later w from (omega arith) before);
    }

    module _ {at_level end : ℕ} (l : Levels image v (v + 1) at_level end) where
      -- the level of a claimed row
      level_here : v < next_value image v → level image v ≡ at_level
      level_here less = l.here v (le_refl v) (omega (arith, l.reach less))

      pub advances : GoodBefore image (v + 1) → Levels image (v + 1) (v + 1) at_level end
      advances good = record {
        low = l.low;
        within = omega (arith, l.within, next_grows image v (v + 1) (omega arith));
        reach = λ less. l.reach (claimed_before image v (good v (omega arith)) (omega arith));
        here = λ w from before. l.here w (omega arith) before;
        later = λ w from past before. elim (dec_le (next_value image v) w) [
          | yes new ↦ member_level image v good w new before ∙ ap suc (level_here (claimed_before image v (good v (omega arith)) (omega arith)))
          | no old ↦ l.later w (omega arith) past (omega arith)
        ];
      }

      -- nobody asks for the level of a row that none claimed
      pub judged : value_rule image v (next_value image v) at_level ≡ good_value image v
      unfolding good_value value_rule good_claim
      judged =
          elim (dec_lt v (next_value image v)) [
            | yes less ↦ rw (level_here less)
            | no past ↦ let over : next_value image v ≤ v = omega arith in rw (le-ltb _ _ over)
          ]

  -- one turn: the pass has come to `row`, and then settles its level
  module _ {row unclaimed before-level before_end : ℕ} (p : Passed image row unclaimed before-level before_end) where
    pub good_row : {at_level end : ℕ} → Levels image row (row + 1) at_level end → {verdict : Bool} → verdict ≡ value_rule image row unclaimed at_level → verdict ≡ good_value image row
    good_row {at_level} l is = is ∙ ap (λ (n : ℕ). value_rule image row n at_level) p.next ∙ judged row l

    -- on a good row it goes on; a table's count is a word
    module _ (rows : count_at image values ≤ NONE) (good : good_value image row ≡ true) {more : ℕ} (claim : more ≡ claimed image row) where
      pub claim_fits : unclaimed + more ≤ NONE
      claim_fits = omega (arith, p.next, next_more image row, next_fits image row good NONE (omega arith) rows)

      pub goes_on : {at_level end : ℕ} → Levels image row (row + 1) at_level end → row < count_at image values → Passed image (row + 1) (unclaimed + more) at_level end
      goes_on l less =
          let all : GoodBefore image (row + 1) = below_more _ row p.good good in
          record {
            rows = omega arith;
            good = all;
            next = omega (arith, p.next, next_more image row);
            fits = claim_fits;
            levels = advances row l all;
          }

    pub stops : row < count_at image values → good_value image row ≡ false → some (bad_row values row) ≡ broken_row image values
    unfolding row_rule
    stops less bad = bad_row_shown image values row less p.good bad

  pub ends : {row unclaimed at_level end : ℕ} → Passed image row unclaimed at_level end → count_at image values ≤ row → none ≡ broken_row image values
  unfolding row_rule
  ends p past = no_row_shown image values (λ k less. p.good k (omega arith))
