-- SW_EXITINFO1 of port I/O (AMD 56421, IOIO_PROT; APM volume 2, 15.10.2).
use Rattle.std.specs.Prelude.{◌≡◌, ℕ, ◌+◌, ◌*◌, ◌/◌, ◌^◌, ◌<◌, ◌==◌, Bool, not, ◌||◌, ◌⊎◌, if◌then◌else◌, List, [], ◌∷◌, sum_by, Option, Some, None, Result, Ok, Err}
use Rattle.exit_info.specs.declared.io_info.IoInfo.{IoInfo}
use Rattle.exit_info.specs.declared.io_info.BadInfo.{BadInfo}
use Rattle.exit_info.specs.declared.io_info.BadInfo.TheVariants.{Reserved, BadSize, BadAddress}
use Rattle.word_bits.specs.Bits.{Bits, bits, number_in, placed}

-- where each part of the word stands
pub record Layout : Type 0 where
  pub input : Bits
  pub string : Bits
  pub rep : Bits
  -- one of three bits is set: 8, 16 or 32 bits of data
  pub size : Bits
  -- one of three bits is set: addresses of 16, 32 or 64 bits
  pub address : Bits
  pub segment : Bits
  pub port : Bits
  pub reserved : List Bits

abbrev pub layout : Layout
layout = record {
  input = bits 0 0;
  string = bits 2 2;
  rep = bits 3 3;
  size = bits 6 4;
  address = bits 9 7;
  segment = bits 12 10;
  port = bits 31 16;
  reserved = bits 1 1 ∷ bits 15 13 ∷ bits 63 32 ∷ [];
}

abbrev pub flag : Bool → ℕ
flag b = if b then 1 else 0

-- what an info can say
pub record IsLawfulInfo (i : IoInfo) : Type 0 where
  pub size : (i.size ≡ 8) ⊎ (i.size ≡ 16) ⊎ (i.size ≡ 32)
  pub address : (i.address ≡ 16) ⊎ (i.address ≡ 32) ⊎ (i.address ≡ 64)
  pub segment : i.segment < 8
  pub port : i.port < 2 ^ 16

-- the word of an info: a size in bytes and an address size in units of 16 bits are one bit of three
abbrev pub info_word : IoInfo → ℕ
info_word i =
    placed layout.port i.port + placed layout.segment i.segment + placed layout.address (i.address / 16)
    + placed layout.size (i.size / 8)
    + placed layout.rep (flag i.rep) + placed layout.string (flag i.string) + placed layout.input (flag i.input)

-- the word is the info's
abbrev pub IsInfoWord : IoInfo → ℕ → Type 0
IsInfoWord i word = IsLawfulInfo i × (info_word i ≡ word)

-- what stands for the one bit that is set of three, in multiples of a unit
abbrev pub one_bit_of : ℕ → ℕ → Option ℕ
one_bit_of unit number = if number == 1 || number == 2 || number == 4 then Some (unit * number) else None

abbrev pub size_in : ℕ → Option ℕ
size_in word = one_bit_of 8 (number_in word layout.size)

abbrev pub address_size_in : ℕ → Option ℕ
address_size_in word = one_bit_of 16 (number_in word layout.address)

-- whether a reserved bit is set
abbrev pub has_reserved : ℕ → Bool
has_reserved word = not (sum_by (number_in word) layout.reserved == 0)

-- the info that stands in a word of this size and address size
abbrev pub taken : ℕ → ℕ → ℕ → IoInfo
taken word size address = record {
  port = number_in word layout.port;
  input = number_in word layout.input == 1;
  string = number_in word layout.string == 1;
  rep = number_in word layout.rep == 1;
  size = size;
  address = address;
  segment = number_in word layout.segment;
}

abbrev pub with_address : ℕ → ℕ → Option ℕ → Result IoInfo BadInfo
with_address word size None = Err (BadAddress word)
with_address word size (Some address) = Ok (taken word size address)

abbrev pub with_size : ℕ → Option ℕ → Result IoInfo BadInfo
with_size word None = Err (BadSize word)
with_size word (Some size) = with_address word size (address_size_in word)

-- what a word is read as: the reserved bits are tested first, then the size, then the address size
abbrev pub info_of : ℕ → Result IoInfo BadInfo
info_of word = if has_reserved word then Err (Reserved word) else with_size word (size_in word)
