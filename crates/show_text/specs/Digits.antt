-- Hexadecimal digits, in either case, as a word or a page.
use Rattle.std.specs.Prelude.{ℕ, List, Option, option_map}
use Rattle.std.specs.Int.{w64, from_be_bytes}
use Rattle.std.specs.Result.{result_ok}
use Rattle.hex.specs.Hex.{decode_sized}
use Rattle.page_words.specs.Told.{Kept}
use Rattle.ghcb_layout.specs.Bytes.{page_of}

-- the bytes of twice as many digits, and none where these aren't so many or aren't digits
abbrev pub bytes_of_digits : ℕ → List ℕ → Option (List ℕ)
bytes_of_digits count digits = result_ok (decode_sized digits count)

-- the number of sixteen digits, the greatest first
abbrev pub word_of_digits : List ℕ → Option ℕ
word_of_digits digits = option_map (from_be_bytes w64) (bytes_of_digits 8 digits)

-- the page of 8,192 digits, which are its 4,096 bytes in order
abbrev pub page_of_digits : List ℕ → Option Kept
page_of_digits digits = option_map page_of (bytes_of_digits 4096 digits)
