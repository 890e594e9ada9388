-- What the door reads and writes. Assumes nothing.
use Prim.Native.Nat.{ℕ, zero, suc, ◌+◌, ◌≤◌, ◌%◌, min}
use mathlib.Core.Path.{◌≡◌, refl, sym, ap, ◌∙◌}
use mathlib.Core.List.{List, [], ◌++◌, append-nil, append_assoc}
use native.Mathlib.Omega.{arith}
use borrow.Author.Tests.{ne_eqb}
use lib.ListN.{length, take, drop, length-append, drop_of_length-le}
use lib.Seq.{drop-drop, take_at, drop_at}
use Rattle.lists.specs.Part.{part, write}
use Rattle.lists.proofs.Parts.{part_write, length_write}
use Rattle.selection.specs.declared.arena.Reply.{Reply}
use Rattle.query.specs.Reply.{reply}
use Rattle.door.specs.Spelling.{words_of, bytes_of}
use Rattle.door.specs.Door.{no_words, reply_to_words, reply_to_bytes, reply_bytes}

-- ---- bytes that are refused

pub no_words_lem : (bytes : List ℕ) (budget : ℕ) {r : Reply} → (length bytes % 4 ≡ 0 → ⊥) → r ≡ no_words (length bytes) → r ≡ reply_to_bytes bytes budget
unfolding reply_to_bytes
no_words_lem bytes budget h e = rw (ne_eqb _ _ h) e

-- ---- words that were read

pub length_words : (bytes : List ℕ) (n : ℕ) → length (words_of bytes n) ≡ n
unfolding words_of
length_words bytes zero = refl
length_words bytes (suc n) = simp length-append (omega (arith, length_words bytes n))

-- reading words leaves the length
pub read_length : (bytes words : List ℕ) {words' : List ℕ} (n : ℕ) → words' ≡ write words 0 (words_of bytes (min n (length words))) → length words' ≡ length words
read_length bytes words n read =
    let size = length_words bytes (min n (length words)) in
    ap length read ∙ length_write words 0 (words_of bytes (min n (length words))) (omega arith)

-- the words that were read are what is checked
pub words_checked : (bytes words words' : List ℕ) (n budget long : ℕ) {r : Reply} → length words ≡ 8192 → n ≤ 8192 → long ≡ 16384
    → words' ≡ write words 0 (words_of bytes (min n (length words))) → r ≡ reply (take n words') budget long → r ≡ reply_to_words bytes n budget
unfolding part
words_checked bytes words words' n budget long {r} room few own read e =
    let all : min n (length words) ≡ n = omega arith in
    let read' = rw all at read in
    let size = length_words bytes n in
    let back : take (length (words_of bytes n)) (write words 0 (words_of bytes n)) ≡ words_of bytes n = part_write words 0 (words_of bytes n) (omega arith) in
    let cut : take (length (words_of bytes n)) words' ≡ words_of bytes n = rw read' back in
    let front : take n words' ≡ words_of bytes n = rw size at cut in
    e ∙ (rw (front, own) refl)

-- ---- the reply's five words, and their bytes

-- a write behind the first words, which are xs
write_behind : (s xs ys : List ℕ) → write (xs ++ drop (length xs) s) (length xs) ys ≡ (xs ++ ys) ++ drop (length xs + length ys) s
unfolding write
write_behind s xs ys =
    let rest : drop (length xs + length ys) (xs ++ drop (length xs) s) ≡ drop (length xs + length ys) s =
    sym (drop-drop (length ys) (length xs) (xs ++ drop (length xs) s)) ∙ ap (drop (length ys)) (drop_at xs (drop (length xs) s) (length xs) refl) ∙ drop-drop (length ys) (length xs) s in
    rw (take_at xs (drop (length xs) s) (length xs) refl, rest, append_assoc xs ys (drop (length xs + length ys) s)) refl

five_stored : (s : List ℕ) (r : Reply) → length s ≡ 20
    → write (write (write (write (write s 0 (bytes_of r.kind)) 4 (bytes_of r.operation)) 8 (bytes_of r.a)) 12 (bytes_of r.b)) 16 (bytes_of r.used) ≡ reply_bytes r
five_stored s r h =
    let k = bytes_of r.kind in
    let o = bytes_of r.operation in
    let a = bytes_of r.a in
    let b = bytes_of r.b in
    let one = write_behind s [] k in
    let two = write_behind s k o in
    let three = write_behind s (k ++ o) a in
    let four = write_behind s (k ++ o ++ a) b in
    let five = write_behind s (k ++ o ++ a ++ b) (bytes_of r.used) in
    let end : drop 20 s ≡ [] = drop_of_length-le s {i = 20} (omega arith) in
    rw (one, two, three, four, five, end, append-nil (reply_bytes r)) refl

pub five_told : (s : List ℕ) (r : Reply) {p q t u v : List ℕ} → length s ≡ 20 → p ≡ write s 0 (bytes_of r.kind) → q ≡ write p 4 (bytes_of r.operation)
    → t ≡ write q 8 (bytes_of r.a) → u ≡ write t 12 (bytes_of r.b) → v ≡ write u 16 (bytes_of r.used) → v ≡ reply_bytes r
five_told s r h e₁ e₂ e₃ e₄ e₅ = rw (e₅, e₄, e₃, e₂, e₁) (five_stored s r h)
