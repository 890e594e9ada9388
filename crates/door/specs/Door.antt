-- What the door returns and writes. Assumes nothing.
use Rattle.std.specs.Prelude.{ℕ, ◌%◌, ◌/◌, min, cond, List, [], ◌∷◌, ◌++◌, leb, eqb, length}
use Rattle.tables.specs.Layout.{NONE}
use Rattle.selection.specs.declared.arena.Reply.{Reply}
use Rattle.query.specs.Reply.{answer, reply, scratch_after}
use Rattle.door.specs.Spelling.{words_of, bytes_of}

-- kind 18 shows the length, NONE past 32 bits
abbrev pub no_words : ℕ → Reply
no_words long = answer 18 0 (min long NONE) 0 0

-- n words that bytes spell, with the door's own scratch
abbrev pub reply_to_words : List ℕ → (n budget : ℕ) → Reply
reply_to_words bytes n budget = reply (words_of bytes n) budget 16384

-- a multiple of 4, at most 32,768: before all else
unfoldable pub reply_to_bytes : List ℕ → ℕ → Reply
reply_to_bytes bytes budget =
    let long = length bytes in
    let checked = cond (leb long 32768) (reply_to_words bytes (long / 4) budget) (no_words long) in
    cond (eqb (long % 4) 0) checked (no_words long)

-- the five words, and their bytes
abbrev pub reply_words : Reply → List ℕ
reply_words r = r.kind ∷ r.operation ∷ r.a ∷ r.b ∷ r.used ∷ []

abbrev pub reply_bytes : Reply → List ℕ
reply_bytes r = bytes_of r.kind ++ bytes_of r.operation ++ bytes_of r.a ++ bytes_of r.b ++ bytes_of r.used

-- 1 where the room is what the reply takes, else 0
abbrev pub returned : (room takes : ℕ) → ℕ
returned room takes = cond (eqb room takes) 1 0

-- what the room holds after; and the lent scratch
unfoldable pub bytes_after : List ℕ → ℕ → List ℕ → List ℕ
bytes_after image budget room = cond (eqb (length room) 20) (reply_bytes (reply_to_bytes image budget)) room

unfoldable pub words_after : List ℕ → (budget long : ℕ) → List ℕ → List ℕ
words_after image budget long room = cond (eqb (length room) 5) (reply_words (reply image budget long)) room

unfoldable pub lent_after : List ℕ → ℕ → List ℕ → ℕ → List ℕ
lent_after image budget scratch room = cond (eqb room 5) (scratch_after image budget scratch) scratch
