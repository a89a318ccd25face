-- What the bytes of an instruction mean.
use Rattle.std.specs.Prelude.{ℕ, ◌+◌, ◌-◌, ◌*◌, ◌/◌, ◌%◌, ◌^◌, Bool, true, false, not, ◌&&◌, if◌then◌else◌, ◌==◌, nat_lt, nat_le, Some, None, is_none, unwrap_or, List, get_or}
use Rattle.x86_base.specs.declared.insn.Insn.{Insn}
use Rattle.x86_base.specs.declared.insn.Operand.{Operand}
use Rattle.x86_base.specs.declared.insn.Operand.TheVariants as operand
use Rattle.x86_base.specs.declared.memory.MemRef.{MemRef}
use Rattle.x86_base.specs.declared.op.Op.{Op}
use Rattle.x86_base.specs.declared.op.Op.TheVariants as op
use Rattle.x86_base.specs.declared.reg.Reg.{Reg}
use Rattle.x86_base.specs.declared.reg.Reg.TheVariants as reg
use Rattle.x86_base.specs.declared.reg.Width.{Width}
use Rattle.x86_base.specs.declared.reg.Width.TheVariants.{B8, B16, B32, B64}
use Rattle.x86_base.specs.declared.row.Context.{Context}
use Rattle.x86_base.specs.declared.row.Form.{Form}
use Rattle.x86_base.specs.declared.row.Form.TheVariants as form
use Rattle.x86_base.specs.declared.row.RowWidth.{RowWidth}
use Rattle.x86_base.specs.declared.row.RowWidth.TheVariants as width
use Rattle.x86_base.specs.declared.row.Row.{Row}
use Rattle.x86_base.specs.Table.{op_at}
use Rattle.x86_base.specs.ModRm.{rex_bit, is_w, mode, reg_bits, rm_bits, modrm, needs_sib, displacement_at, displacement_len, imm_at, imm_len}
use Rattle.x86_base.specs.Numbers.{signed_at}

abbrev pub reg_of : ℕ → Reg
reg_of n =
    if n == 0 then reg.Rax else (if n == 1 then reg.Rcx else (if n == 2 then reg.Rdx else (if n == 3 then reg.Rbx else
    (if n == 4 then reg.Rsp else (if n == 5 then reg.Rbp else (if n == 6 then reg.Rsi else (if n == 7 then reg.Rdi else
    (if n == 8 then reg.R8 else (if n == 9 then reg.R9 else (if n == 10 then reg.R10 else (if n == 11 then reg.R11 else
    (if n == 12 then reg.R12 else (if n == 13 then reg.R13 else (if n == 14 then reg.R14 else reg.R15))))))))))))))

-- a register operand, of 8 bits where it is narrow: 4 to 7 are AH, CH, DH and BH without REX
unfoldable pub register : Context → Bool → ℕ → Operand
register c narrow n =
    if narrow && is_none c.rex && nat_le 4 n && nat_lt n 8 then operand.High (reg_of (n - 4))
    else operand.Whole (reg_of n)

-- the operand in memory: mod 0 with r/m 5 counts from RIP, and base 5 with mod 0 is a displacement
-- alone; index 4 without REX.X is none
unfoldable pub memory : Context → List ℕ → MemRef
memory c tail =
    let m = get_or tail 0 0 in
    let sib = get_or tail 1 0 in
    let base = if needs_sib m then sib % 8 else rm_bits m in
    let no_base = mode m == 0 && (base == 5) in
    let index = sib / 8 % 8 + 8 * rex_bit c.rex 1 in
    let has_index = needs_sib m && not (index == 4) in
    record {
      base = if no_base then None else Some (reg_of (base + 8 * rex_bit c.rex 0));
      index = if has_index then Some (reg_of index) else None;
      scale = if has_index then 2 ^ (sib / 64) else 1;
      disp = signed_at (displacement_at m) (displacement_len m sib) tail;
      from_rip = no_base && not (needs_sib m);
    }

-- the operand of the ModRM byte's mod and r/m bits
unfoldable pub rm_operand : Context → Bool → List ℕ → Operand
rm_operand c narrow tail =
    let m = get_or tail 0 0 in
    if mode m == 3 then register c narrow (rm_bits m + 8 * rex_bit c.rex 0) else operand.Memory (memory c tail)

-- the operand of the ModRM byte's reg bits
unfoldable pub reg_operand : Context → Bool → List ℕ → Operand
reg_operand c narrow tail = register c narrow (reg_bits (get_or tail 0 0) + 8 * rex_bit c.rex 2)

-- the register of the opcode's low bits
unfoldable pub opcode_operand : Context → Bool → ℕ → Operand
opcode_operand c narrow low = register c narrow (low % 8 + 8 * rex_bit c.rex 0)

-- the immediate, with its sign
unfoldable pub immediate : Context → Row → List ℕ → Operand
immediate c r tail =
    let m = modrm r tail in
    operand.Imm (signed_at (imm_at r m (get_or tail 1 0)) (imm_len c r.imm m) tail)

-- a port or a count: the immediate byte, with no sign
unfoldable pub byte_immediate : Row → List ℕ → Operand
byte_immediate r tail = operand.Imm (get_or tail (imm_at r (modrm r tail) (get_or tail 1 0)) 0)

abbrev pub is_narrow : RowWidth → Bool
is_narrow width.B = true
is_narrow _ = false

-- the first operand
unfoldable pub dst_of : Context → Row → List ℕ → Form → Operand
dst_of c r tail form.RmReg = rm_operand c (is_narrow r.width) tail
dst_of c r tail form.RegRm = reg_operand c (is_narrow r.width) tail
dst_of c r tail form.RegRmByte = reg_operand c false tail
dst_of c r tail form.RegRmWord = reg_operand c false tail
dst_of c r tail form.RegRmDouble = reg_operand c false tail
dst_of c r tail form.RegAddress = reg_operand c false tail
dst_of c r tail form.Rm = rm_operand c (is_narrow r.width) tail
dst_of c r tail form.RmOne = rm_operand c (is_narrow r.width) tail
dst_of c r tail form.RmCl = rm_operand c (is_narrow r.width) tail
dst_of c r tail form.RmImm = rm_operand c (is_narrow r.width) tail
dst_of c r tail form.RmCount = rm_operand c (is_narrow r.width) tail
dst_of c r tail form.RmImmOfTest = rm_operand c (is_narrow r.width) tail
dst_of c r tail form.RmIgnored = operand.Absent
dst_of c r tail form.AccImm = operand.Whole reg.Rax
dst_of c r tail form.AccPort = operand.Whole reg.Rax
dst_of c r tail form.PortAcc = byte_immediate r tail
dst_of c r tail form.AccDx = operand.Whole reg.Rax
dst_of c r tail form.DxAcc = operand.Whole reg.Rdx
dst_of c r tail (form.OpcodeImm low) = opcode_operand c (is_narrow r.width) low
dst_of c r tail (form.Opcode low) = opcode_operand c false low
dst_of c r tail form.Immediate = immediate c r tail
dst_of c r tail form.Nothing = operand.Absent

-- the second operand
unfoldable pub src_of : Context → Row → List ℕ → Form → Operand
src_of c r tail form.RmReg = reg_operand c (is_narrow r.width) tail
src_of c r tail form.RegRm = rm_operand c (is_narrow r.width) tail
src_of c r tail form.RegRmByte = rm_operand c true tail
src_of c r tail form.RegRmWord = rm_operand c false tail
src_of c r tail form.RegRmDouble = rm_operand c false tail
src_of c r tail form.RegAddress = rm_operand c false tail
src_of c r tail form.Rm = operand.Absent
src_of c r tail form.RmOne = operand.Imm 1
src_of c r tail form.RmCl = operand.Whole reg.Rcx
src_of c r tail form.RmImm = immediate c r tail
src_of c r tail form.RmCount = byte_immediate r tail
src_of c r tail form.RmImmOfTest = if reg_bits (get_or tail 0 0) == 0 then immediate c r tail else operand.Absent
src_of c r tail form.RmIgnored = operand.Absent
src_of c r tail form.AccImm = immediate c r tail
src_of c r tail form.AccPort = byte_immediate r tail
src_of c r tail form.PortAcc = operand.Whole reg.Rax
src_of c r tail form.AccDx = operand.Whole reg.Rdx
src_of c r tail form.DxAcc = operand.Whole reg.Rax
src_of c r tail (form.OpcodeImm low) = immediate c r tail
src_of c r tail (form.Opcode low) = operand.Absent
src_of c r tail form.Immediate = operand.Absent
src_of c r tail form.Nothing = operand.Absent

-- the width of a row
abbrev pub width_of : Context → RowWidth → Width
width_of c width.B = B8
width_of c width.V = if is_w c then B64 else (if c.size then B16 else B32)
width_of c width.Z = if is_w c then B32 else (if c.size then B16 else B32)
width_of c width.Q = B64

-- the width of the r/m operand of Movzx, Movsx and Movsxd, and else the row's
abbrev pub source_width_of : Context → Row → Form → Width
source_width_of c r form.RegRmByte = B8
source_width_of c r form.RegRmWord = B16
source_width_of c r form.RegRmDouble = B32
source_width_of c r _ = width_of c r.width

-- The operation of a row and its ModRM byte. Where there is none this is `Nop`, and that case doesn't come: a spelling's
-- ModRM byte is one that the row accepts (`IsTail`), so the row has an operation there.
abbrev pub operation_of : Row → ℕ → Op
operation_of r m = unwrap_or (op_at r.ops (reg_bits m)) op.Nop

-- the instruction of a row, the bytes behind its opcode, and the number of all bytes
unfoldable pub insn_of : Context → Row → List ℕ → ℕ → Insn
insn_of c r tail len = record {
  op = operation_of r (modrm r tail);
  width = width_of c r.width;
  source_width = source_width_of c r r.form;
  dst = dst_of c r tail r.form;
  src = src_of c r tail r.form;
  rep = c.rep;
  len = len;
}
