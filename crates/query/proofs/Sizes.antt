-- Kinds 1 to 3: how few words are needed, and a law for each `return`. Assumes nothing.
use Prim.Native.Nat.{ℕ, ◌+◌, ◌*◌, ◌<◌, ◌≤◌}
use mathlib.Core.Path.{◌≡◌, ap}
use mathlib.Core.List.{List}
use mathlib.Core.Option.{none, some}
use native.Mathlib.Omega.{arith}
use borrow.Author.Tests.{le-leb, lt-leb}
use Rattle.lists.specs.First.{expect, ◌▷◌}
use Rattle.lists.specs.Every.{total}
use Rattle.tables.specs.Image.{word_at, count_at}
use Rattle.tables.specs.Header.{bad_word, header_fault}
use Rattle.tables.proofs.Tidy.{nine_exactly, good_header}
use Rattle.tables.proofs.Counts.{limit_of, few_rows}
use Rattle.query.specs.Needed.{most_work, rows_in_all, scratch_needed}
use Rattle.query.specs.Reply.{answer, refused}
use Rattle.query.specs.Faults.{refusal_reply}
use Rattle.query.specs.Refusing.{refused_shows, sizes_fault}
use Rattle.query.specs.declared.refuse.Refusal.{Refusal}
use Rattle.std.specs.Prelude.{Result, Ok, Err}
use Rattle.std.specs.Result.{IsErrAnd}

-- the nine counts
pub nine_counts : (image : List ℕ) → rows_in_all image ≡ count_at image 0 + count_at image 1 + count_at image 2 + count_at image 3 + count_at image 4 + count_at image 5 + count_at image 6 + count_at image 7 + count_at image 8
unfolding rows_in_all total
nine_counts image = rw (nine_exactly (word_at image 0)) (omega arith)

module _ (image : List ℕ) (good : header_fault image ≡ none) where
  few_in : (t : ℕ) → t < 9 → count_at image t ≤ limit_of t
  few_in = few_rows image (good_header image good).few

  pub few_in_all : rows_in_all image ≤ 9 * 16384
  few_in_all =
      omega (
        arith,
        nine_counts image,
        few_in 0 (omega arith),
        few_in 1 (omega arith),
        few_in 2 (omega arith),
        few_in 3 (omega arith),
        few_in 4 (omega arith),
        few_in 5 (omega arith),
        few_in 6 (omega arith),
        few_in 7 (omega arith),
        few_in 8 (omega arith),
      )

  -- with the largest budget, too
  pub few_needed : (work : ℕ) → work ≤ most_work → scratch_needed image work ≤ 10500000
  unfolding scratch_needed
  few_needed work h = omega (arith, few_in_all)

-- a refusal that was passed on is shown
pub refused_by : (r : Result (Unit {0}) Refusal) (refusal : Refusal) → IsErrAnd r (λ e. e ≡ refusal) → refused_shows r ≡ some (refusal_reply refusal)
refused_by (Ok _) refusal is = absurd is
refused_by (Err e) refusal is = ap (λ (e : Refusal). some (refusal_reply e)) is

module _ (image : List ℕ) (work long : ℕ) where
  pub work_over : most_work < work → some (answer 2 0 work 0 0) ≡ sizes_fault image work long
  unfolding sizes_fault expect ◌▷◌
  work_over h = rw (lt-leb _ _ h)

  pub scratch_short : work ≤ most_work → long < scratch_needed image work → {n : ℕ} → n ≡ scratch_needed image work → some (answer 3 0 n 0 0) ≡ sizes_fault image work long
  unfolding sizes_fault expect ◌▷◌
  scratch_short w h e = rw (e, le-leb _ _ w, lt-leb _ _ h)

  pub enough : work ≤ most_work → scratch_needed image work ≤ long → none ≡ sizes_fault image work long
  unfolding sizes_fault expect ◌▷◌
  enough w h = rw (le-leb _ _ w, le-leb _ _ h)

  pub header_refuses : (word : ℕ) → some (bad_word word) ≡ header_fault image → some (answer 1 0 word 0 0) ≡ refused image work long
  unfolding refused ◌▷◌
  header_refuses word shown = rw (← shown)

  pub sizes_decide : header_fault image ≡ none → sizes_fault image work long ≡ refused image work long
  unfolding refused sizes_fault ◌▷◌
  sizes_decide good = rw good
