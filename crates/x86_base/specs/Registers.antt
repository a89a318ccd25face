-- What it means to read and to write a register, and what an operand's address is.
use Rattle.std.specs.Prelude.{ℕ, ◌+◌, ◌*◌, ◌/◌, ◌%◌, ◌^◌, if◌then◌else◌, slice_index, slice_set, Option, None, Some}
use Rattle.x86_base.specs.declared.memory.MemRef.{MemRef}
use Rattle.x86_base.specs.declared.reg.Reg.{Reg}
use Rattle.x86_base.specs.declared.reg.Reg.TheVariants.{Rax, Rcx, Rdx, Rbx, Rsp, Rbp, Rsi, Rdi, R8, R9, R10, R11, R12, R13, R14, R15}
use Rattle.x86_base.specs.declared.reg.Width.{Width}
use Rattle.x86_base.specs.declared.reg.Width.TheVariants.{B8, B16, B32, B64}
use Rattle.x86_base.specs.declared.regs.Regs.{Regs}

abbrev pub number_of : Reg → ℕ
number_of Rax = 0
number_of Rcx = 1
number_of Rdx = 2
number_of Rbx = 3
number_of Rsp = 4
number_of Rbp = 5
number_of Rsi = 6
number_of Rdi = 7
number_of R8 = 8
number_of R9 = 9
number_of R10 = 10
number_of R11 = 11
number_of R12 = 12
number_of R13 = 13
number_of R14 = 14
number_of R15 = 15

-- all 64 bits of a register
abbrev pub whole : Reg → Regs → ℕ
whole reg r = slice_index r.gpr (number_of reg)

-- one register is written, all else stays
abbrev pub with_reg : Reg → ℕ → Regs → Regs
with_reg reg value r = record r { gpr = slice_set r.gpr (number_of reg) value }

-- a register after a write of its low bits: 8 and 16 bits keep the rest, 32 bits clear it
-- (APM volume 1, section 3.1.2)
abbrev pub merged : Width → ℕ → ℕ → ℕ
merged B8 old value = old / 2 ^ 8 * 2 ^ 8 + value % 2 ^ 8
merged B16 old value = old / 2 ^ 16 * 2 ^ 16 + value % 2 ^ 16
merged B32 old value = value % 2 ^ 32
merged B64 old value = value

abbrev pub put : Reg → Width → ℕ → Regs → Regs
put reg width value r = with_reg reg (merged width (whole reg r) value) r

-- a register after a write of its bits 15:8
abbrev pub merged_high : ℕ → ℕ → ℕ
merged_high old value = old / 2 ^ 16 * 2 ^ 16 + value % 2 ^ 8 * 2 ^ 8 + old % 2 ^ 8

abbrev pub put_high : Reg → ℕ → Regs → Regs
put_high reg value r = with_reg reg (merged_high (whole reg r) value) r

-- what a base or an index adds to an address
abbrev pub part_of : Regs → Option Reg → ℕ
part_of r None = 0
part_of r (Some reg) = whole reg r

-- the effective address, where `next` is the following instruction's (APM volume 1, "Effective Addresses")
abbrev pub address_of : MemRef → Regs → ℕ → ℕ
address_of m r next =
    let from = if m.from_rip then next else 0 in
    (part_of r m.base + part_of r m.index * m.scale + m.disp + from) % 2 ^ 64
