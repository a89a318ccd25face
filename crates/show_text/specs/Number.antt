-- Numbers in print.
use Rattle.std.specs.Prelude.{ℕ, ◌+◌, ◌/◌, ◌%◌, List, [], ◌∷◌, ◌++◌, drop, codes, decimal}
use Rattle.std.specs.Int.{w64, to_be_bytes}
use Rattle.hex.specs.Hex.{encode_lower}

-- sixteen lower-case hexadecimal digits, the greatest first
unfoldable pub hex_text : ℕ → List ℕ
hex_text word = encode_lower (to_be_bytes w64 word)

-- the last three of them
abbrev pub short_hex_text : ℕ → List ℕ
short_hex_text word = drop 13 (hex_text word)

-- the three decimal digits of a number below 1,000
abbrev pub three_digits : ℕ → List ℕ
three_digits n = (48 + n / 100) ∷ (48 + n / 10 % 10) ∷ (48 + n % 10) ∷ []

-- words, and a number after them
abbrev pub labelled : List ℕ → ℕ → List ℕ
labelled label number = label ++ decimal number

abbrev pub labelled_hex : List ℕ → ℕ → List ℕ
labelled_hex label word = label ++ hex_text word

-- a line feed
abbrev pub line_end : List ℕ
line_end = codes "\n"
