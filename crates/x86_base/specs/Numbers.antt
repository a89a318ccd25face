-- Numbers among the bytes of an instruction.
use Rattle.std.specs.Prelude.{ℕ, ◌+◌, ◌-◌, ◌*◌, ◌^◌, if◌then◌else◌, ◌==◌, ◌||◌, nat_lt, List, [], ◌∷◌, take, drop, IsTrue}

-- a little-endian number
abbrev pub little : List ℕ → ℕ
little [] = 0
little (b ∷ bs) = b + 256 * little bs

-- a number of so many bits, sign-extended modulo 2^64
abbrev pub extended : ℕ → ℕ → ℕ
extended bits n = if nat_lt n (2 ^ (bits - 1)) then n else n + 2 ^ 64 - 2 ^ bits

-- the number of `len` bytes at a place
abbrev pub number_at : ℕ → ℕ → List ℕ → ℕ
number_at at len bytes = little (take len (drop at bytes))

-- the same with its sign
abbrev pub signed_at : ℕ → ℕ → List ℕ → ℕ
signed_at at len bytes = extended (8 * len) (number_at at len bytes)

-- how many bytes a number of an instruction has
abbrev pub HasNumberLen : ℕ → Type 0
HasNumberLen len = IsTrue (len == 0 || len == 1 || len == 2 || len == 4 || len == 8)
