-- A page as its 4,096 bytes.
use Rattle.std.specs.Prelude.{ℕ, ◌*◌, List, drop, map}
use Rattle.std.specs.List.{flat_map, range_with_len}
use Rattle.byteorder.specs.Endian.{little_bytes, little_number}
use Rattle.page_words.specs.Told.{Kept}

-- word k is the eight bytes at offset 8k, the lowest first
abbrev pub word_at : List ℕ → ℕ → ℕ
word_at bytes k = little_number 8 (drop (8 * k) bytes)

-- the 512 words of a page's bytes
unfoldable pub words_of : List ℕ → List ℕ
words_of bytes = map (word_at bytes) (range_with_len 0 512)

-- the page of these bytes, whose MSR word is 0
abbrev pub page_of : List ℕ → Kept
page_of bytes = record { words = words_of bytes; msr = 0 }

-- a page's bytes, word after word
abbrev pub bytes_of : Kept → List ℕ
bytes_of page = flat_map (little_bytes 8) page.words
