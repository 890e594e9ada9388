-- `lists::clear` meets its contract: the part that is filled begins at the place, or is empty. Assumes nothing.
use mathlib.Core.Path.{◌≡◌, sym, ◌∙◌}
use mathlib.Core.List.{List, append_assoc}
use Prim.Native.Nat.{ℕ, ◌+◌, ◌-◌, min}
use native.Mathlib.Decide.{dec_le}
use native.Mathlib.Omega.{arith}
use lib.ListN.{length, take, drop, replicate, length-take, length-drop, length-replicate}
use borrow.Rule.Slice.PartMut.{put_mid}
use Rattle.std.proofs.lemmas.List.Edits.{paste_all}
use Rattle.std.proofs.lemmas.Slice.{put_mid-paste}
use Rattle.lists.specs.Part.{write}
use Rattle.lists.proofs.Parts.{write_none}
use Rattle.lists.proofs.clear.Goals as goal

module _ (s : List ℕ) (at n start words : ℕ) (begins : start ≡ min at (length s)) (size : words ≡ min n (length s - start)) where
  -- where the place is past the end, no word is written at either
  moved : write s start (replicate words 0) ≡ write s at (replicate (min n (length s - at)) 0)
  moved = elim (dec_le at (length s)) [
    | yes h ↦ let same : start ≡ at = omega arith in let all : words ≡ min n (length s - at) = omega arith in rw (same, all)
    | no h ↦ let none : words ≡ 0 = omega arith in let past : min n (length s - at) ≡ 0 = omega arith in
        rw (none, past) (write_none s start ∙ sym (write_none s at))
  ]

  filled : (ys : List ℕ) → ys ≡ replicate (length (take (start + words - start) (drop start s))) 0
      → put_mid start (start + words - start) s ys ≡ write s start (replicate words 0)
  unfolding write
  filled ys is =
      let part : length (take (start + words - start) (drop start s)) ≡ words = simp (length-take, length-drop) (omega arith) in
      let long : words ≡ length (replicate {A = ℕ} words 0) = sym (length-replicate {A = ℕ} words 0) in
      put_mid-paste start (start + words - start) s ys (replicate words 0) words (rw part at is) (omega arith) long ∙
      (paste_all s start (replicate words 0) words long ∙ rw (← long, append_assoc))

pub returns : goal.returns
returns c =
    filled c.args.s.now c.args.at c.args.n c.min-start.result c.min-words.result c.min-start.ensures c.min-words.ensures _ (c.fill.ensures.after (λ y h. h)) ∙
    moved c.args.s.now c.args.at c.args.n c.min-start.result c.min-words.result c.min-start.ensures c.min-words.ensures
