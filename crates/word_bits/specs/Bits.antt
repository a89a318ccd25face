-- Bits high:low of a word.
use Rattle.std.specs.Prelude.{ℕ, ◌+◌, ◌-◌, ◌*◌, ◌/◌, ◌%◌, ◌^◌}

pub record Bits : Type 0 where
  pub high : ℕ
  pub low : ℕ

abbrev pub bits : ℕ → ℕ → Bits
bits high low = record { high = high; low = low }

-- how many numbers they can hold
abbrev pub limit_of : Bits → ℕ
limit_of b = 2 ^ (b.high + 1 - b.low)

-- the number that they hold in a word
abbrev pub number_in : ℕ → Bits → ℕ
number_in word b = word / 2 ^ b.low % limit_of b

-- a number in its place
abbrev pub placed : Bits → ℕ → ℕ
placed b number = number * 2 ^ b.low

-- the bits of a word in their places, and 0 in the others
abbrev pub in_place : ℕ → Bits → ℕ
in_place word b = placed b (number_in word b)
