-- Widths of registers and operands (APM volume 1, "Operand Sizes and Overrides").
use Rattle.std.specs.Prelude.{ℕ, ◌%◌, ◌^◌}
use Rattle.x86_base.specs.declared.reg.Width.{Width}
use Rattle.x86_base.specs.declared.reg.Width.TheVariants.{B8, B16, B32, B64}

-- the bits of a width
abbrev pub bits_of : Width → ℕ
bits_of B8 = 8
bits_of B16 = 16
bits_of B32 = 32
bits_of B64 = 64

-- its bytes
abbrev pub size_of : Width → ℕ
size_of B8 = 1
size_of B16 = 2
size_of B32 = 4
size_of B64 = 8

-- the low bits of a number
abbrev pub low : Width → ℕ → ℕ
low B8 value = value % 2 ^ 8
low B16 value = value % 2 ^ 16
low B32 value = value % 2 ^ 32
low B64 value = value
