-- The last word of a page (AMD 56421, "GHCB Layout"): bits 31:16 are the protocol version, and bits 63:32 the usage.
use Rattle.std.specs.Prelude.{ℕ, ◌+◌, ◌*◌, ◌/◌, ◌%◌, ◌^◌}

abbrev pub last_word : ℕ
last_word = 511

abbrev pub version_in : ℕ → ℕ
version_in word = word / 2 ^ 16 % 2 ^ 16

abbrev pub usage_in : ℕ → ℕ
usage_in word = word / 2 ^ 32

-- bits 15:0 are written 0
abbrev pub word_with : ℕ → ℕ → ℕ
word_with version usage = usage * 2 ^ 32 + version * 2 ^ 16
