-- `spelling::store_word` meets its contract: the bytes are those of the definition. Assumes nothing.
use Rattle.std.proofs.Common.{◌≡◌, ◌+◌, ◌-◌, arith, sym, take, drop}
use mathlib.Core.List.{append_assoc}
use Rattle.door.specs.Spelling.{bytes_of}
use lib.Seq.{drop-drop}
use Rattle.lists.specs.Part.{write}
use Rattle.door.proofs.spelling.store_word.Goals as goal

pub returns : goal.returns
unfolding write
returns c =
    let four : c.args.at + 4 - c.args.at ≡ 4 = omega arith in
    rw (four, c.copy_from_slice.ensures.after, c.to_le_bytes.ensures, drop-drop 4 c.args.at c.args.out.now) (sym (append_assoc (take c.args.at c.args.out.now) (bytes_of c.args.word) (drop (c.args.at + 4) c.args.out.now)))
