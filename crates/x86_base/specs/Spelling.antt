-- Which bytes spell an instruction (APM volume 3, section 1.1): any number of the prefixes 66 and F3
-- in any order, at most one REX byte, a row's opcode bytes, and the bytes that the row has behind them.
use Rattle.std.specs.Prelude.{◌≡◌, ◌≢◌, ℕ, ◌≤◌, Bool, true, ◌==◌, ◌||◌, nat_lt, Option, Some, None, List, [], ◌∷◌, ◌++◌, length, get_or}
use Rattle.std.specs.List.{list_all, list_any}
use Rattle.x86_base.specs.declared.insn.Insn.{Insn}
use Rattle.x86_base.specs.declared.row.Row.{Row}
use Rattle.x86_base.specs.declared.row.Context.{Context}
use Rattle.x86_base.specs.Table.{opcode_row, within}
use Rattle.x86_base.specs.ModRm.{allows, modrm, accepts, tail_len}
use Rattle.x86_base.specs.Operands.{insn_of}

-- 66 is the operand size, F3 is REP
abbrev pub is_prefix : ℕ → Bool
is_prefix b = b == 0x66 || b == 0xF3

-- no byte, or one of 40 to 4F
abbrev pub IsRex : List ℕ → Type 0
IsRex [] = Unit {0}
IsRex (b ∷ []) = within 0x40 0x4F b ≡ true
IsRex (b ∷ c ∷ rest) = ⊥

abbrev pub rex_of : List ℕ → Option ℕ
rex_of [] = None
rex_of (b ∷ rest) = Some b

-- what stands before the opcode
abbrev pub context_of : List ℕ → List ℕ → Context
context_of prefixes rex = record {
  size = list_any (λ b. b == 0x66) prefixes;
  rep = list_any (λ b. b == 0xF3) prefixes;
  rex = rex_of rex;
}

-- ModRM, SIB, displacement and immediate: as many bytes as the first two ask for
pub record IsTail (c : Context) (r : Row) (tail : List ℕ) : Type 0 where
  pub accepted : accepts r (modrm r tail) ≡ true
  pub whole : length tail ≡ tail_len c r (modrm r tail) (get_or tail 1 0)

abbrev pub is_byte : ℕ → Bool
is_byte b = nat_lt b 256

abbrev pub AreBytes : List ℕ → Type 0
AreBytes bytes = list_all is_byte bytes ≡ true

-- the bytes spell the instruction
pub record Spells (bytes : List ℕ) (insn : Insn) : Type 0 where
  pub prefixes : List ℕ
  pub rex : List ℕ
  pub opcode : List ℕ
  pub tail : List ℕ
  pub row : Row
  pub are_bytes : AreBytes bytes
  pub are_prefixes : list_all is_prefix prefixes ≡ true
  pub is_rex : IsRex rex
  pub is_row : opcode_row opcode ≡ Some row
  pub is_allowed : allows (context_of prefixes rex) row ≡ true
  pub is_tail : IsTail (context_of prefixes rex) row tail
  pub whole : bytes ≡ prefixes ++ (rex ++ (opcode ++ tail))
  pub gives : insn ≡ insn_of (context_of prefixes rex) row tail (length bytes)

-- the bytes are a proper prefix of a spelling: more bytes complete it
pub record BeginsSpelling (bytes : List ℕ) : Type 0 where
  pub more : List ℕ
  pub insn : Insn
  pub some : more ≢ []
  pub spelled : Spells (bytes ++ more) insn

-- a spelling of at most 15 bytes stands at the front
pub record Begins (bytes : List ℕ) (insn : Insn) : Type 0 where
  pub front : List ℕ
  pub rest : List ℕ
  pub split : bytes ≡ front ++ rest
  pub short : length front ≤ 15
  pub spelled : Spells front insn

-- the instruction has a spelling
pub record IsSpelled (insn : Insn) : Type 0 where
  pub bytes : List ℕ
  pub spelled : Spells bytes insn
