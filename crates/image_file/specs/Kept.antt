-- The instructions that RAM keeps, once they were decoded.
use Rattle.std.specs.Prelude.{◌≡◌, ℕ, ◌%◌, ◌==◌, if◌then◌else◌, List, take, drop, get_or, Option, None, Some, Ok, IfSome}
use Rattle.x86_base.specs.declared.insn.Insn.{Insn}
use Rattle.x86_base.specs.Spelling.{Begins}
use Rattle.insn_decode.specs.Reading.{decode_of}
use Rattle.image_file.specs.declared.kept.Kept.{Kept}

-- the instruction that stands in the code at an address
abbrev pub StandsAt : List ℕ → ℕ → Insn → Type 0
StandsAt code at insn = (decode_of (take 15 (drop at code)) ≡ Ok insn) × Begins (take 15 (drop at code)) insn

-- what is kept is the instruction at its address
abbrev pub IsKeptInsn : List ℕ → Kept → Type 0
IsKeptInsn code k = IfSome k.insn (StandsAt code k.at)

-- an instruction that was decoded at an address
abbrev pub kept_insn : ℕ → Insn → Kept
kept_insn at insn = record { at = at; insn = Some insn }

-- a slot that keeps none
abbrev pub no_insn : Kept
no_insn = record { at = 0; insn = None }

-- what is kept of an address: the slot of its low six bits is of this address
abbrev pub kept_by : Kept → ℕ → Option Insn
kept_by k at = if k.at == at then k.insn else None

abbrev pub kept_at : List Kept → ℕ → Option Insn
kept_at slots at = kept_by (get_or slots (at % 64) no_insn) at
