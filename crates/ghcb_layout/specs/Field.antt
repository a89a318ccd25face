-- The values of a GHCB page that have names (AMD 56421, "GHCB Layout").
use Rattle.std.specs.Prelude.{ℕ, ◌/◌, ◌==◌, List, [], ◌∷◌, Result, codes}
use Rattle.std.specs.List.{find}
use Rattle.std.specs.Option.{ok_or}
use Rattle.ghcb_layout.specs.declared.field.Field.{Field}
use Rattle.ghcb_layout.specs.declared.field.Field.TheVariants.{Cpl, Xss, Dr7, Rip, Rsp, Rax, Rcx, Rdx, Rbx, Rbp, Rsi, Rdi, R8, R9, R10, R11, R12, R13, R14, R15, ExitCode, ExitInfo1, ExitInfo2, Scratch, Xcr0}
use Rattle.ghcb_layout.specs.declared.field.NotAField.{NotAField}

-- a field's name in print, and the offset of its first byte in the page
pub record Row : Type 0 where
  pub name : List ℕ
  pub offset : ℕ

abbrev pub row : List ℕ → ℕ → Row
row name offset = record { name = name; offset = offset }

-- the table of fields
abbrev pub field_row : Field → Row
field_row Cpl = row (codes "cpl") 0x0CB
field_row Xss = row (codes "xss") 0x140
field_row Dr7 = row (codes "dr7") 0x160
field_row Rip = row (codes "rip") 0x178
field_row Rsp = row (codes "rsp") 0x1D8
field_row Rax = row (codes "rax") 0x1F8
field_row Rcx = row (codes "rcx") 0x308
field_row Rdx = row (codes "rdx") 0x310
field_row Rbx = row (codes "rbx") 0x318
field_row Rbp = row (codes "rbp") 0x328
field_row Rsi = row (codes "rsi") 0x330
field_row Rdi = row (codes "rdi") 0x338
field_row R8 = row (codes "r8") 0x340
field_row R9 = row (codes "r9") 0x348
field_row R10 = row (codes "r10") 0x350
field_row R11 = row (codes "r11") 0x358
field_row R12 = row (codes "r12") 0x360
field_row R13 = row (codes "r13") 0x368
field_row R14 = row (codes "r14") 0x370
field_row R15 = row (codes "r15") 0x378
field_row ExitCode = row (codes "exitcode") 0x390
field_row ExitInfo1 = row (codes "exitinfo1") 0x398
field_row ExitInfo2 = row (codes "exitinfo2") 0x3A0
field_row Scratch = row (codes "scratch") 0x3A8
field_row Xcr0 = row (codes "xcr0") 0x3E8

abbrev pub name_of : Field → List ℕ
name_of field = (field_row field).name

abbrev pub offset_of : Field → ℕ
offset_of field = (field_row field).offset

-- a word has eight bytes, and word k has bit k of the valid bitmap
abbrev pub word_number : Field → ℕ
word_number field = offset_of field / 8

-- each field once, in the order of the page
abbrev pub all_fields : List Field
all_fields =
    Cpl ∷ Xss ∷ Dr7 ∷ Rip ∷ Rsp ∷ Rax
    ∷ Rcx ∷ Rdx ∷ Rbx ∷ Rbp ∷ Rsi ∷ Rdi ∷ R8 ∷ R9 ∷ R10 ∷ R11 ∷ R12 ∷ R13 ∷ R14 ∷ R15
    ∷ ExitCode ∷ ExitInfo1 ∷ ExitInfo2 ∷ Scratch ∷ Xcr0 ∷ []

-- the field that begins at an offset
abbrev pub field_from : ℕ → Result Field NotAField
field_from offset = ok_or (find (λ field. offset_of field == offset) all_fields) (record {})
