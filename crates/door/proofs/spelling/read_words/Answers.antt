-- `spelling::read_words` meets its contract. The loop's invariant: the first i words are read, or as many as there is room for. Assumes nothing.
use Prim.Native.Nat.{ℕ, ◌+◌, ◌<◌, min}
use native.Mathlib.Decide.{dec_le}
use native.Mathlib.Omega.{arith}
use mathlib.Core.List.{List}
use native.Mathlib.Numerals.{add-one}
use mathlib.Core.Path.{◌≡◌, refl, sym, ap, ◌∙◌}
use lib.ListN.{length, set, length-set}
use lib.Seq.{set_out}
use Rattle.lists.proofs.Parts.{write_none, write_more}
use Rattle.door.specs.Spelling.{word_at, words_of}
use Rattle.lists.specs.Part.{write}
use Rattle.door.proofs.DoorLaws.{length_words}
use Rattle.door.proofs.spelling.read_words.Goals as goal

none_read : (bytes w₀ : List ℕ) → w₀ ≡ write w₀ 0 (words_of bytes (min 0 (length w₀)))
unfolding words_of
none_read bytes w₀ =
    let none : min 0 (length w₀) ≡ 0 = omega arith in
    rw none (sym (write_none w₀ 0))

-- a word that there is room for
stored : (bytes w₀ w : List ℕ) (i : ℕ) → w ≡ write w₀ 0 (words_of bytes i) → i < length w₀ → set w i (word_at bytes i) ≡ write w₀ 0 (words_of bytes (i + 1))
unfolding words_of
stored bytes w₀ w i e room =
    let long = length_words bytes i in
    let place : 0 + length (words_of bytes i) ≡ i = omega arith in
    let more = rw place at (write_more w₀ 0 (words_of bytes i) (word_at bytes i) (omega arith)) in
    rw (e, add-one) more

turn : (bytes w₀ w w' : List ℕ) (i v : ℕ) → w ≡ write w₀ 0 (words_of bytes (min i (length w₀))) → length w ≡ length w₀ → v ≡ word_at bytes i → w' ≡ set w i v
    → w' ≡ write w₀ 0 (words_of bytes (min (i + 1) (length w₀)))
turn bytes w₀ w w' i v e long word put =
    elim (dec_le (i + 1) (length w₀)) [
      | yes inside ↦
          let now : min i (length w₀) ≡ i = omega arith in
          let then : min (i + 1) (length w₀) ≡ i + 1 = omega arith in
          rw (put, word, then) (stored bytes w₀ w i (rw now at e) (omega arith))
      | no past ↦
          let same : min (i + 1) (length w₀) ≡ min i (length w₀) = omega arith in
          rw (put, same) (set_out w i v (omega arith) ∙ e)
    ]

done : (bytes w₀ w : List ℕ) (i n : ℕ) → w ≡ write w₀ 0 (words_of bytes (min i (length w₀))) → i ≡ n → w ≡ write w₀ 0 (words_of bytes (min n (length w₀)))
done bytes w₀ w i n e all = rw (e, all)

pub loop-i-init : goal.loop-i-init
loop-i-init c = (refl, none_read _ _)

pub loop-i-preserved : goal.loop-i-preserved
loop-i-preserved c = (
  ap length c.put.ensures ∙ simp length-set c.loop-i.invariant.0,
  turn _ _ _ _ c.loop-i.i _ c.loop-i.invariant.1 c.loop-i.invariant.0 c.word_from.ensures c.put.ensures,
)

pub shape_of-words : goal.shape_of-words
shape_of-words c = c.loop-i.invariant.0

pub returns : goal.returns
returns c =
    let l = c.loop-i in
    let all : l.i ≡ c.args.n = omega arith in
    done _ _ _ _ _ l.invariant.1 all
