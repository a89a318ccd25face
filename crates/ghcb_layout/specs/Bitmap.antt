-- The valid bitmap (AMD 56421, "GHCB Layout", VALID_BITMAP): bit k says that word k is filled in.
use Rattle.std.specs.Prelude.{◌≡◌, ◌≢◌, ℕ, ◌+◌, ◌-◌, ◌*◌, ◌^◌, ◌%◌, ◌<◌, ◌==◌, nat_lt, Bool, true, if◌then◌else◌, List, [], ◌∷◌, sum_by}
use Rattle.std.specs.Int.{bit_at}
use Rattle.ghcb_layout.specs.declared.bitmap.Bitmap.{Bitmap}
use Rattle.ghcb_layout.specs.declared.field.Field.{Field}
use Rattle.ghcb_layout.specs.Field.{word_number}

-- its two words, which are no fields
abbrev pub bitmap_low : ℕ
bitmap_low = 126

abbrev pub bitmap_high : ℕ
bitmap_high = 127

-- whether bit k is set: the first word has bits 0 to 63, and the second has bits 64 to 127
abbrev pub has_bit : Bitmap → ℕ → Bool
has_bit b k = (if nat_lt k 64 then bit_at b.low k else bit_at b.high (k - 64)) == 1

-- a number with bit k set
abbrev pub with_one : ℕ → ℕ → ℕ
with_one n k = n + (1 - bit_at n k) * 2 ^ k

-- the bitmap with bit k set
abbrev pub with_bit : Bitmap → ℕ → Bitmap
with_bit b k = if nat_lt k 64 then record b { low = with_one b.low k } else record b { high = with_one b.high (k - 64) }

-- bit k is set, and every other bit is as it was
pub record Sets (old new : Bitmap) (k : ℕ) : Type 0 where
  pub bit : has_bit new k ≡ true
  pub others : (j : ℕ) → j < 128 → j ≢ k → has_bit new j ≡ has_bit old j

-- a field's bit in its word of the bitmap, where it is wanted, and else 0
abbrev pub bit_if : Field → Bool → ℕ
bit_if field wanted = if wanted then 2 ^ (word_number field % 64) else 0

-- a field's word with its value, where it is wanted
abbrev pub word_if : Field → Bool → ℕ → List (ℕ × ℕ)
word_if field wanted value = if wanted then (word_number field, value) ∷ [] else []

-- the bitmap with exactly the bits of these words, each a number and a value: bit k stands for word k
abbrev pub low_bits : List (ℕ × ℕ) → ℕ
low_bits words = sum_by (λ w. if nat_lt w.0 64 then 2 ^ w.0 else 0) words

abbrev pub high_bits : List (ℕ × ℕ) → ℕ
high_bits words = sum_by (λ w. if nat_lt w.0 64 then 0 else 2 ^ (w.0 - 64)) words

abbrev pub bitmap_of : List (ℕ × ℕ) → Bitmap
bitmap_of words = record { low = low_bits words; high = high_bits words }
