-- The columns of the opcode table, in the notation of the opcode maps (APM volume 3, appendix A).
-- E is the r/m operand, G the register of the ModRM byte's reg bits, M memory alone, Z the register
-- of the opcode's low three bits, I an immediate, J the displacement of a jump, X and Y the strings
-- at RSI and RDI. b is 8 bits, w 16, d 32, q 64; v is 64 with REX.W, 16 with 66, else 32;
-- z is v, but 32 with REX.W.
use Rattle.std.specs.Prelude.{ℕ, ◌%◌}
use Rattle.x86_base.specs.declared.row.Form.TheVariants as form
use Rattle.x86_base.specs.declared.row.RowWidth.TheVariants as width
use Rattle.x86_base.specs.declared.row.Imm.TheVariants as imm
use Rattle.x86_base.specs.Rows.{Columns, columns}

-- r/m and register, in both orders
abbrev pub Eb_Gb : Columns
Eb_Gb = columns form.RmReg width.B imm.Nothing

abbrev pub Ev_Gv : Columns
Ev_Gv = columns form.RmReg width.V imm.Nothing

abbrev pub Gb_Eb : Columns
Gb_Eb = columns form.RegRm width.B imm.Nothing

abbrev pub Gv_Ev : Columns
Gv_Ev = columns form.RegRm width.V imm.Nothing

abbrev pub Gv_Eb : Columns
Gv_Eb = columns form.RegRmByte width.V imm.Nothing

abbrev pub Gv_Ew : Columns
Gv_Ew = columns form.RegRmWord width.V imm.Nothing

abbrev pub Gq_Ed : Columns
Gq_Ed = columns form.RegRmDouble width.Q imm.Nothing

-- an address: a register with mod 3 is no operand here
abbrev pub Gv_M : Columns
Gv_M = columns form.RegAddress width.V imm.Nothing

-- r/m alone
abbrev pub Eb : Columns
Eb = columns form.Rm width.B imm.Nothing

abbrev pub Ev : Columns
Ev = columns form.Rm width.V imm.Nothing

abbrev pub E_ignored : Columns
E_ignored = columns form.RmIgnored width.Q imm.Nothing

-- r/m and an immediate
abbrev pub Eb_Ib : Columns
Eb_Ib = columns form.RmImm width.B imm.Byte

abbrev pub Ev_Ib : Columns
Ev_Ib = columns form.RmImm width.V imm.Byte

abbrev pub Ev_Iz : Columns
Ev_Iz = columns form.RmImm width.V imm.Word

-- group 3: Test has an immediate, Not and Neg have none
abbrev pub Eb_group3 : Columns
Eb_group3 = columns form.RmImmOfTest width.B imm.ByteOfTest

abbrev pub Ev_group3 : Columns
Ev_group3 = columns form.RmImmOfTest width.V imm.WordOfTest

-- r/m shifted by a byte, by 1, by CL
abbrev pub Eb_count : Columns
Eb_count = columns form.RmCount width.B imm.Byte

abbrev pub Ev_count : Columns
Ev_count = columns form.RmCount width.V imm.Byte

abbrev pub Eb_1 : Columns
Eb_1 = columns form.RmOne width.B imm.Nothing

abbrev pub Ev_1 : Columns
Ev_1 = columns form.RmOne width.V imm.Nothing

abbrev pub Eb_CL : Columns
Eb_CL = columns form.RmCl width.B imm.Nothing

abbrev pub Ev_CL : Columns
Ev_CL = columns form.RmCl width.V imm.Nothing

-- the accumulator and an immediate
abbrev pub AL_Ib : Columns
AL_Ib = columns form.AccImm width.B imm.Byte

abbrev pub rAX_Iz : Columns
rAX_Iz = columns form.AccImm width.V imm.Word

-- the register of the opcode's low bits
abbrev pub Zq : ℕ → Columns
Zq b = columns (form.Opcode (b % 8)) width.Q imm.Nothing

abbrev pub Zb_Ib : ℕ → Columns
Zb_Ib b = columns (form.OpcodeImm (b % 8)) width.B imm.Byte

abbrev pub Zv_Iv : ℕ → Columns
Zv_Iv b = columns (form.OpcodeImm (b % 8)) width.V imm.Full

-- a number of Push, and the displacement of a jump or call
abbrev pub Ib_q : Columns
Ib_q = columns form.Immediate width.Q imm.Byte

abbrev pub Iz_q : Columns
Iz_q = columns form.Immediate width.Q imm.Double

abbrev pub Jb : Columns
Jb = columns form.Immediate width.Q imm.Byte

abbrev pub Jz : Columns
Jz = columns form.Immediate width.Q imm.Double

-- ports: a byte or DX
abbrev pub AL_port : Columns
AL_port = columns form.AccPort width.B imm.Byte

abbrev pub eAX_port : Columns
eAX_port = columns form.AccPort width.Z imm.Byte

abbrev pub port_AL : Columns
port_AL = columns form.PortAcc width.B imm.Byte

abbrev pub port_eAX : Columns
port_eAX = columns form.PortAcc width.Z imm.Byte

abbrev pub AL_DX : Columns
AL_DX = columns form.AccDx width.B imm.Nothing

abbrev pub eAX_DX : Columns
eAX_DX = columns form.AccDx width.Z imm.Nothing

abbrev pub DX_AL : Columns
DX_AL = columns form.DxAcc width.B imm.Nothing

abbrev pub DX_eAX : Columns
DX_eAX = columns form.DxAcc width.Z imm.Nothing

-- strings of Ins and Outs
abbrev pub Yb_DX : Columns
Yb_DX = columns form.Nothing width.B imm.Nothing

abbrev pub Yz_DX : Columns
Yz_DX = columns form.Nothing width.Z imm.Nothing

abbrev pub DX_Xb : Columns
DX_Xb = columns form.Nothing width.B imm.Nothing

abbrev pub DX_Xz : Columns
DX_Xz = columns form.Nothing width.Z imm.Nothing

-- no operands
abbrev pub no_operands : Columns
no_operands = columns form.Nothing width.Q imm.Nothing
