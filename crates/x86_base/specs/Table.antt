-- The opcode table, in the order of the opcode maps (APM volume 3, appendix A). Read docs/OPCODES.md first, which has it in
-- prose. Behind a page's head stands the map's own spelling where it differs from the row's.
use Rattle.std.specs.Prelude.{ℕ, ◌/◌, ◌%◌, Bool, ◌&&◌, if◌then◌else◌, ◌==◌, nat_lt, nat_le, Option, Some, None, List, [], ◌∷◌}
use Rattle.x86_base.specs.declared.op.Op.{Op}
use Rattle.x86_base.specs.declared.op.Op.TheVariants as op
use Rattle.x86_base.specs.declared.row.Ops.{Ops}
use Rattle.x86_base.specs.declared.row.Ops.TheVariants.{One, OnlyZero, Arithmetic, Shift, TestNotNeg, IncDec}
use Rattle.x86_base.specs.declared.row.Row.{Row}
use Rattle.x86_base.specs.Rows.{Columns, Marks, plain, o, r, o_r, w, o_r_x, row}
use Rattle.x86_base.specs.Notation.{Eb_Gb, Ev_Gv, Gb_Eb, Gv_Ev, Gv_Eb, Gv_Ew, Gq_Ed, Gv_M, Eb, Ev, E_ignored, Eb_Ib, Ev_Ib, Ev_Iz, Eb_group3, Ev_group3, Eb_count, Ev_count, Eb_1, Ev_1, Eb_CL, Ev_CL, AL_Ib, rAX_Iz, Zq, Zb_Ib, Zv_Iv, Ib_q, Iz_q, Jb, Jz, AL_port, eAX_port, port_AL, port_eAX, AL_DX, eAX_DX, DX_AL, DX_eAX, Yb_DX, Yz_DX, DX_Xb, DX_Xz, no_operands}

-- the opcode bytes from first to last, and their rows
pub record Entry : Type 0 where
  pub first : ℕ
  pub last : ℕ
  pub row : ℕ → Row

abbrev pub entry : ℕ → ℕ → (ℕ → Row) → Entry
entry first last row = record { first = first; last = last; row = row }

-- one byte, and a group's operations
abbrev pub group : ℕ → Ops → Columns → Marks → Entry
group byte ops columns marks = entry byte byte (λ b. row ops columns marks)

-- one byte, and its operation
abbrev pub at : ℕ → Op → Columns → Marks → Entry
at byte op columns marks = group byte (One op) columns marks

-- whether a byte is from first to last
abbrev pub within : ℕ → ℕ → ℕ → Bool
within first last b = nat_le first b && nat_le b last

abbrev pub row_at : List Entry → ℕ → Option Row
row_at [] b = None
row_at (e ∷ es) b = if within e.first e.last b then Some (e.row b) else row_at es b

-- the eight operations of 00 to 3F, and of group 1 by the reg bits
abbrev pub arithmetic_of : ℕ → Op
arithmetic_of k =
    if k == 0 then op.Add else (if k == 1 then op.Or else (if k == 2 then op.Adc else (if k == 3 then op.Sbb else
    (if k == 4 then op.And else (if k == 5 then op.Sub else (if k == 6 then op.Xor else op.Cmp))))))

-- 00 to 3F: the rows 8k+0 to 8k+5 of the operation k
abbrev pub arithmetic_rows : ℕ → List Entry
arithmetic_rows k =
    at 0 (arithmetic_of k) Eb_Gb plain ∷
    at 1 (arithmetic_of k) Ev_Gv o ∷
    at 2 (arithmetic_of k) Gb_Eb plain ∷
    at 3 (arithmetic_of k) Gv_Ev o ∷
    at 4 (arithmetic_of k) AL_Ib plain ∷
    at 5 (arithmetic_of k) rAX_Iz o ∷
    []

-- The rows of one byte from 40 on stand in two lists, so that the code matches on one of them at a time: the prover opens
-- a whole list, row by row, at each match.
abbrev pub rows_40_to_BF : List Entry
rows_40_to_BF =
    -- 50 to 5F
    entry 0x50 0x57 (λ b. row (One op.Push) (Zq b) plain) ∷
    entry 0x58 0x5F (λ b. row (One op.Pop) (Zq b) plain) ∷
    -- 60 to 6F; 63 is MOVSXD Gv,Ed, 68 and 6A are PUSH Iz and PUSH Ib
    at 0x63 op.Movsxd Gq_Ed w ∷
    at 0x68 op.Push Iz_q plain ∷
    at 0x6A op.Push Ib_q plain ∷
    at 0x6C op.Ins Yb_DX r ∷
    at 0x6D op.Ins Yz_DX o_r ∷
    at 0x6E op.Outs DX_Xb r ∷
    at 0x6F op.Outs DX_Xz o_r ∷
    -- 70 to 7F
    entry 0x70 0x7F (λ b. row (One (op.Jcc (b % 16))) Jb plain) ∷
    -- 80 to 8F; 80, 81 and 83 are group 1
    group 0x80 Arithmetic Eb_Ib plain ∷
    group 0x81 Arithmetic Ev_Iz o ∷
    group 0x83 Arithmetic Ev_Ib o ∷
    at 0x84 op.Test Eb_Gb plain ∷
    at 0x85 op.Test Ev_Gv o ∷
    at 0x88 op.Mov Eb_Gb plain ∷
    at 0x89 op.Mov Ev_Gv o ∷
    at 0x8A op.Mov Gb_Eb plain ∷
    at 0x8B op.Mov Gv_Ev o ∷
    at 0x8D op.Lea Gv_M o ∷
    -- 90 to 9F; 90 is XCHG r8,rAX with REX.B
    at 0x90 op.Nop no_operands o_r_x ∷
    -- A0 to AF
    at 0xA8 op.Test AL_Ib plain ∷
    at 0xA9 op.Test rAX_Iz o ∷
    -- B0 to BF
    entry 0xB0 0xB7 (λ b. row (One op.Mov) (Zb_Ib b) plain) ∷
    entry 0xB8 0xBF (λ b. row (One op.Mov) (Zv_Iv b) o) ∷
    []

abbrev pub rows_C0_to_FF : List Entry
rows_C0_to_FF =
    -- C0 to CF; C0 and C1 are group 2 with Ib, C6 and C7 group 11
    group 0xC0 Shift Eb_count plain ∷
    group 0xC1 Shift Ev_count o ∷
    at 0xC3 op.Ret no_operands plain ∷
    group 0xC6 (OnlyZero op.Mov) Eb_Ib plain ∷
    group 0xC7 (OnlyZero op.Mov) Ev_Iz o ∷
    at 0xCF op.Iretq no_operands w ∷
    -- D0 to DF; D0 to D3 are group 2
    group 0xD0 Shift Eb_1 plain ∷
    group 0xD1 Shift Ev_1 o ∷
    group 0xD2 Shift Eb_CL plain ∷
    group 0xD3 Shift Ev_CL o ∷
    -- E0 to EF; the port of E4 to E7 is Ib
    at 0xE4 op.In AL_port plain ∷
    at 0xE5 op.In eAX_port o ∷
    at 0xE6 op.Out port_AL plain ∷
    at 0xE7 op.Out port_eAX o ∷
    at 0xE8 op.Call Jz plain ∷
    at 0xE9 op.Jmp Jz plain ∷
    at 0xEB op.Jmp Jb plain ∷
    at 0xEC op.In AL_DX plain ∷
    at 0xED op.In eAX_DX o ∷
    at 0xEE op.Out DX_AL plain ∷
    at 0xEF op.Out DX_eAX o ∷
    -- F0 to FF; F6 and F7 are group 3 with /0 TEST, /2 NOT, /3 NEG, FE group 4 and FF group 5 with /0 INC, /1 DEC
    at 0xF4 op.Hlt no_operands plain ∷
    at 0xF5 op.Cmc no_operands plain ∷
    group 0xF6 TestNotNeg Eb_group3 plain ∷
    group 0xF7 TestNotNeg Ev_group3 o ∷
    at 0xF8 op.Clc no_operands plain ∷
    at 0xF9 op.Stc no_operands plain ∷
    at 0xFC op.Cld no_operands plain ∷
    at 0xFD op.Std no_operands plain ∷
    group 0xFE IncDec Eb plain ∷
    group 0xFF IncDec Ev o ∷
    []

-- the rows of 0F and a byte
abbrev pub two_byte_rows : List Entry
two_byte_rows =
    -- 00 to 1F; 1F is NOP Ev
    at 0x09 op.Wbinvd no_operands plain ∷
    group 0x1F (OnlyZero op.Nop) E_ignored o ∷
    -- 30 to 3F
    at 0x30 op.Wrmsr no_operands plain ∷
    at 0x31 op.Rdtsc no_operands plain ∷
    at 0x32 op.Rdmsr no_operands plain ∷
    at 0x33 op.Rdpmc no_operands plain ∷
    -- 40 to 4F
    entry 0x40 0x4F (λ b. row (One (op.Cmovcc (b % 16))) Gv_Ev o) ∷
    -- 80 to 9F
    entry 0x80 0x8F (λ b. row (One (op.Jcc (b % 16))) Jz plain) ∷
    entry 0x90 0x9F (λ b. row (OnlyZero (op.Setcc (b % 16))) Eb plain) ∷
    -- A0 to BF
    at 0xA2 op.Cpuid no_operands plain ∷
    at 0xAF op.Imul Gv_Ev o ∷
    at 0xB6 op.Movzx Gv_Eb o ∷
    at 0xB7 op.Movzx Gv_Ew o ∷
    at 0xBE op.Movsx Gv_Eb o ∷
    at 0xBF op.Movsx Gv_Ew o ∷
    []

-- the rows of 0F 01 and a byte: group 7 with mod 3
abbrev pub three_byte_rows : List Entry
three_byte_rows =
    at 0xD9 op.Vmmcall no_operands plain ∷
    at 0xF9 op.Rdtscp no_operands plain ∷
    []

-- Left out on purpose, of the cells that the maps have in 64-bit mode:
-- the prefixes 26, 2E, 36, 3E, 64, 65, 67, F0 and F2; 69 and 6B (IMUL with an immediate); 86, 87 and 91 to 97 (XCHG);
-- 8C and 8E (segment registers); 8F (group 1A); 98, 99 and 9B to 9F (sign extension, FWAIT, the flags); A0 to A7 and
-- AA to AF (offsets and strings); C2, CA and CB (returns with a number, far returns); C4 and C5 (VEX); C8, C9, CC and CD
-- (frames and interrupts); XLAT at D7; D8 to DF (x87); E0 to E3 (LOOP, JrCXZ); F1, FA and FB (ICEBP, CLI, STI);
-- /0 to /3 and /6 of group 2, /1 and /4 to /7 of group 3, /2 to /6 of group 5; and behind 0F all cells but those above.

unfoldable pub row_00_to_3F : ℕ → Option Row
row_00_to_3F b = row_at (arithmetic_rows (b / 8)) (b % 8)

unfoldable pub row_40_to_BF : ℕ → Option Row
row_40_to_BF b = row_at rows_40_to_BF b

unfoldable pub row_C0_to_FF : ℕ → Option Row
row_C0_to_FF b = row_at rows_C0_to_FF b

abbrev pub one_byte : ℕ → Option Row
one_byte b = if nat_lt b 0x40 then row_00_to_3F b else (if nat_lt b 0xC0 then row_40_to_BF b else row_C0_to_FF b)

unfoldable pub two_bytes : ℕ → Option Row
two_bytes b = row_at two_byte_rows b

unfoldable pub three_bytes : ℕ → Option Row
three_bytes b = row_at three_byte_rows b

-- the row of a list of opcode bytes
abbrev pub opcode_row : List ℕ → Option Row
opcode_row [] = None
opcode_row (b ∷ []) = one_byte b
opcode_row (b ∷ c ∷ []) = if b == 0x0F then two_bytes c else None
opcode_row (b ∷ c ∷ d ∷ []) = if b == 0x0F && (c == 1) then three_bytes d else None
opcode_row (b ∷ c ∷ d ∷ e ∷ rest) = None

-- the operation of a row at the reg bits of its ModRM byte, if there is one
abbrev pub op_at : Ops → ℕ → Option Op
op_at (One o) reg = Some o
op_at (OnlyZero o) reg = if reg == 0 then Some o else None
op_at Arithmetic reg = Some (arithmetic_of reg)
op_at Shift reg =
    if reg == 4 then Some op.Shl else (if reg == 5 then Some op.Shr else (if reg == 7 then Some op.Sar else None))
op_at TestNotNeg reg =
    if reg == 0 then Some op.Test else (if reg == 2 then Some op.Not else (if reg == 3 then Some op.Neg else None))
op_at IncDec reg = if reg == 0 then Some op.Inc else (if reg == 1 then Some op.Dec else None)
