-- Words as bytes, low byte first. Assumes nothing.
use Rattle.std.specs.Prelude.{ℕ, zero, suc, ◌+◌, ◌*◌, ◌/◌, ◌%◌, List, [], ◌∷◌, ◌++◌, get_or}

abbrev pub word_of : (a b c d : ℕ) → ℕ
word_of a b c d = a + 256 * b + 65536 * c + 16777216 * d

-- the i-th word of bytes; bytes past the end are 0
unfoldable pub word_at : List ℕ → ℕ → ℕ
word_at bytes i = word_of (get_or bytes (4 * i) 0) (get_or bytes (4 * i + 1) 0) (get_or bytes (4 * i + 2) 0) (get_or bytes (4 * i + 3) 0)

-- the first n words
unfoldable pub words_of : List ℕ → ℕ → List ℕ
words_of bytes zero = []
words_of bytes (suc n) = words_of bytes n ++ (word_at bytes n ∷ [])

-- the four bytes of a word
abbrev pub bytes_of : ℕ → List ℕ
bytes_of w = w % 256 ∷ w / 256 % 256 ∷ w / 65536 % 256 ∷ w / 16777216 % 256 ∷ []
