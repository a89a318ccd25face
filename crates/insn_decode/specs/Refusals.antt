-- When bytes are no instruction (APM volume 3, section 1.1: at most 15 bytes).
use Rattle.std.specs.Prelude.{ℕ, ◌≤◌, ◌<◌, List, length, take}
use Rattle.x86_base.specs.declared.insn.Insn.{Insn}
use Rattle.x86_base.specs.Spelling.{Begins, BeginsSpelling}

-- the first 15 bytes are a proper prefix of a spelling
abbrev pub IsTooLong : List ℕ → Type 0
IsTooLong bytes = (15 ≤ length bytes) × BeginsSpelling (take 15 bytes)

-- the bytes are fewer, and a proper prefix of a spelling
abbrev pub IsShort : List ℕ → Type 0
IsShort bytes = (length bytes < 15) × BeginsSpelling bytes

-- no spelling of at most 15 bytes stands at the front, nor does either of the above hold
abbrev pub SpellsNothing : List ℕ → Type 0
SpellsNothing bytes = ((insn : Insn) → Begins bytes insn → ⊥) × (IsTooLong bytes → ⊥) × (IsShort bytes → ⊥)
