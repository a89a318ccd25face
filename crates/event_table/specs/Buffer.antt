-- Bytes in the shared buffer of a page (AMD 56421, "GHCB Layout"): words of eight bytes, the lowest first.
use Rattle.std.specs.Prelude.{ℕ, ◌+◌, ◌/◌, List, [], ◌∷◌, ◌++◌, length}
use Rattle.event_table.specs.Elements.{bytes_of, numbers_in}

-- the buffer's first word: it begins at offset 0x800
abbrev pub first_word : ℕ
first_word = 256

-- the words that so many bytes need
abbrev pub words_for : ℕ → ℕ
words_for bytes = (bytes + 7) / 8

-- words with their numbers, from one on
abbrev pub numbered : ℕ → List ℕ → List (ℕ × ℕ)
numbered number [] = []
numbered number (word ∷ words) = (number, word) ∷ numbered (number + 1) words

-- bytes in the buffer: each word with its number, the last padded with zero bytes
abbrev pub buffer_of : List ℕ → List (ℕ × ℕ)
buffer_of bytes = numbered first_word (numbers_in 8 (words_for (length bytes)) bytes)

-- the bytes of words
abbrev pub bytes_from : List ℕ → List ℕ
bytes_from [] = []
bytes_from (word ∷ words) = bytes_of 8 word ++ bytes_from words
