-- The loop of `spelling::read_words`. Its invariant: the first i words are read, or as many as there is room for. Assumes nothing.
use Prim.Native.Nat.{min}
use mathlib.Core.Path.{◌≡◌}
use lib.ListN.{length}
use Rattle.door.specs.Spelling.{words_of}
use Rattle.lists.specs.Part.{write}
use Rattle.door.proofs.spelling.read_words.Given as goal

abbrev pub invariant-loop-i : goal.invariant-loop-i
invariant-loop-i l = (length l.words ≡ length l.initial.words) × (l.words ≡ write l.initial.words 0 (words_of l.bytes (min l.i (length l.initial.words))))
