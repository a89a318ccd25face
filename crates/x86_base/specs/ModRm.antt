-- The bytes round the opcode: REX before it (APM volume 3, section 1.2.7), and behind it ModRM, SIB,
-- displacement and immediate (sections 1.4 to 1.6).
use Rattle.std.specs.Prelude.{ℕ, ◌+◌, ◌/◌, ◌%◌, ◌^◌, ◌≤◌, Bool, true, false, not, ◌&&◌, ◌||◌, if◌then◌else◌, ◌==◌, nat_lt, Option, Some, None, is_some, List, length, get_or}
use Rattle.x86_base.specs.declared.row.Context.{Context}
use Rattle.x86_base.specs.declared.row.Form.{Form}
use Rattle.x86_base.specs.declared.row.Form.TheVariants as form
use Rattle.x86_base.specs.declared.row.Imm.{Imm}
use Rattle.x86_base.specs.declared.row.Imm.TheVariants as imm
use Rattle.x86_base.specs.declared.row.Row.{Row}
use Rattle.x86_base.specs.Table.{op_at}

-- ---- REX: bit 3 is W, bit 2 R, bit 1 X, bit 0 B

-- a bit of the REX byte, or 0
abbrev pub rex_bit : Option ℕ → ℕ → ℕ
rex_bit None k = 0
rex_bit (Some rex) k = rex / 2 ^ k % 2

abbrev pub is_w : Context → Bool
is_w c = rex_bit c.rex 3 == 1

-- whether a row may stand behind these prefixes, by its marks
abbrev pub allows : Context → Row → Bool
allows c r =
    (r.size || not c.size) && (r.rep || not c.rep) && (not r.long || is_w c) && not (r.no_base && (rex_bit c.rex 0 == 1))

-- ---- the ModRM byte m and the SIB byte

abbrev pub mode : ℕ → ℕ
mode m = m / 64

abbrev pub reg_bits : ℕ → ℕ
reg_bits m = m / 8 % 8

abbrev pub rm_bits : ℕ → ℕ
rm_bits m = m % 8

abbrev pub has_modrm : Form → Bool
has_modrm form.AccImm = false
has_modrm form.AccPort = false
has_modrm form.PortAcc = false
has_modrm form.AccDx = false
has_modrm form.DxAcc = false
has_modrm (form.OpcodeImm n) = false
has_modrm (form.Opcode n) = false
has_modrm form.Immediate = false
has_modrm form.Nothing = false
has_modrm _ = true

abbrev pub is_address : Form → Bool
is_address form.RegAddress = true
is_address _ = false

-- the ModRM byte, or 0 in a row without one
abbrev pub modrm : Row → List ℕ → ℕ
modrm r tail = if has_modrm r.form then get_or tail 0 0 else 0

-- whether the ModRM byte is one of the row's
abbrev pub accepts : Row → ℕ → Bool
accepts r m = not (has_modrm r.form) || (is_some (op_at r.ops (reg_bits m)) && not (is_address r.form && (mode m == 3)))

abbrev pub needs_sib : ℕ → Bool
needs_sib m = nat_lt (mode m) 3 && (rm_bits m == 4)

-- mod 1 has a byte, mod 2 four, mod 0 four where the base is 5
abbrev pub displacement_len : ℕ → ℕ → ℕ
displacement_len m sib =
    if mode m == 1 then 1 else
    (if mode m == 2 then 4 else
    (if mode m == 0 && ((if needs_sib m then sib % 8 else rm_bits m) == 5) then 4 else 0))

-- where the displacement stands
abbrev pub displacement_at : ℕ → ℕ
displacement_at m = if needs_sib m then 2 else 1

abbrev pub address_len : ℕ → ℕ → ℕ
address_len m sib = displacement_at m + displacement_len m sib

-- ---- the immediate

-- 16 bits at width 16, and else 32
abbrev pub word_len : Context → ℕ
word_len c = if not (is_w c) && c.size then 2 else 4

abbrev pub imm_len : Context → Imm → ℕ → ℕ
imm_len c imm.Nothing m = 0
imm_len c imm.Byte m = 1
imm_len c imm.Word m = word_len c
imm_len c imm.Double m = 4
imm_len c imm.Full m = if is_w c then 8 else word_len c
imm_len c imm.ByteOfTest m = if reg_bits m == 0 then 1 else 0
imm_len c imm.WordOfTest m = if reg_bits m == 0 then word_len c else 0

-- where the immediate stands
abbrev pub imm_at : Row → ℕ → ℕ → ℕ
imm_at r m sib = if has_modrm r.form then address_len m sib else 0

-- how many bytes a row has behind its opcode
abbrev pub tail_len : Context → Row → ℕ → ℕ → ℕ
tail_len c r m sib = imm_at r m sib + imm_len c r.imm m

-- a ModRM byte, and the SIB byte and displacement that it asks for
abbrev pub HasAddress : List ℕ → Type 0
HasAddress tail = address_len (get_or tail 0 0) (get_or tail 1 0) ≤ length tail
