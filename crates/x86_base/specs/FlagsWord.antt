-- The flags as a word (APM volume 2, section 3.1.6).
use Rattle.std.specs.Prelude.{ℕ, ◌+◌, ◌/◌, ◌%◌, ◌^◌, ◌==◌, Bool, if◌then◌else◌}
use Rattle.x86_base.specs.declared.flags.Flags.{Flags}

-- whether a bit of a word is set
abbrev pub bit_at : ℕ → ℕ → Bool
bit_at word index = word / 2 ^ index % 2 == 1

abbrev pub flags_of : ℕ → Flags
flags_of word = record {
  cf = bit_at word 0;
  pf = bit_at word 2;
  zf = bit_at word 6;
  sf = bit_at word 7;
  df = bit_at word 10;
  of = bit_at word 11;
}

-- a bit of a word: its value where it is set
abbrev pub bit_of : Bool → ℕ → ℕ
bit_of set index = if set then 2 ^ index else 0

-- bit 1 always reads 1
abbrev pub flags_word : Flags → ℕ
flags_word f = 2 ^ 1 + bit_of f.cf 0 + bit_of f.pf 2 + bit_of f.zf 6 + bit_of f.sf 7 + bit_of f.df 10 + bit_of f.of 11
