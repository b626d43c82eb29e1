-- "Word n fills bytes 4n to 4n+3, most significant first": words of 32 bits and their bytes. The one undoes the other (`ReturnTrip.words_back`).
use Rattle.std.specs.Prelude.{ℕ, zero, suc, ◌+◌, ◌*◌, ◌/◌, ◌%◌, List, [], ◌∷◌, ◌++◌, get_or, drop}

-- The bytes of a word, and of a memory.
abbrev pub word_bytes : ℕ → List ℕ
word_bytes w = w / 0x1000000 % 256 ∷ w / 0x10000 % 256 ∷ w / 256 % 256 ∷ w % 256 ∷ []

unfoldable pub memory_bytes : List ℕ → List ℕ
memory_bytes [] = []
memory_bytes (w ∷ ws) = word_bytes w ++ memory_bytes ws

-- The word of the first four bytes, and n words; bytes that are missing count as zero.
abbrev pub first_word : List ℕ → ℕ
first_word bs = ((get_or bs 0 0 * 256 + get_or bs 1 0) * 256 + get_or bs 2 0) * 256 + get_or bs 3 0

unfoldable pub words_of : ℕ → List ℕ → List ℕ
words_of zero bs = []
words_of (suc n) bs = first_word bs ∷ words_of n (drop 4 bs)
