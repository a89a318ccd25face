-- Numbers of n bits, with and without a sign (APM volume 1, section 3.2).
use Rattle.std.specs.Prelude.{ℕ, ℤ, pos, neg_ℤ, ◌-ℤ◌, ◌-◌, ◌%◌, ◌^◌, Bool, not, ◌&&◌, ◌||◌, if◌then◌else◌, ◌==◌, nat_lt, nat_le, int_lt, int_le, count_ones, unsigned_abs, IsTrue}
use Rattle.std.specs.Int.{int_rem_euclid}

-- a width
abbrev pub IsWidth : ℕ → Type 0
IsWidth n = IsTrue (n == 8 || n == 16 || n == 32 || n == 64)

-- an n-bit number read with its sign
abbrev pub signed : ℕ → ℕ → ℤ
signed n a = if nat_lt a (2 ^ (n - 1)) then pos a else pos a -ℤ pos (2 ^ n)

-- a whole number modulo 2^n
abbrev pub modulo : ℕ → ℤ → ℕ
modulo n z = unsigned_abs (int_rem_euclid z (pos (2 ^ n)))

-- a whole number isn't at least -2^(n-1) and below 2^(n-1)
abbrev pub is_out_of_range : ℕ → ℤ → Bool
is_out_of_range n z = not (int_le (neg_ℤ (pos (2 ^ (n - 1)))) z && int_lt z (pos (2 ^ (n - 1))))

-- bit n-1 of an n-bit number
abbrev pub top_bit : ℕ → ℕ → Bool
top_bit n a = nat_le (2 ^ (n - 1)) a

-- the low 8 bits have an even number of ones
abbrev pub is_even_parity : ℕ → Bool
is_even_parity a = count_ones (a % 2 ^ 8) % 2 == 0

-- one of the two alone
abbrev pub differ : Bool → Bool → Bool
differ a b = if a then not b else b
