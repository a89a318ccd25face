-- The exception that a hypervisor asks for, in SW_EXITINFO2 (AMD 56421; APM volume 2, 15.20).
use Rattle.std.specs.Prelude.{◌≡◌, ℕ, ◌+◌, ◌==◌, ◌&&◌, ◌||◌, ◌⊎◌, if◌then◌else◌, Result, Ok, Err}
use Rattle.exit_info.specs.declared.inject.Inject.{Inject}
use Rattle.exit_info.specs.declared.inject.BadInject.{BadInject}
use Rattle.exit_info.specs.declared.inject.BadInject.TheVariants.{NotValid, BadType, BadVector}
use Rattle.word_bits.specs.Bits.{Bits, bits, number_in, placed}

-- where each part of the word stands
pub record Layout : Type 0 where
  pub vector : Bits
  pub type : Bits
  pub has_code : Bits
  pub valid : Bits
  pub code : Bits

abbrev pub layout : Layout
layout = record { vector = bits 7 0; type = bits 10 8; has_code = bits 11 11; valid = bits 31 31; code = bits 63 32 }

-- the type of an exception
abbrev pub exception_type : ℕ
exception_type = 3

-- #UD has no error code, and #GP has one
abbrev pub IsLawfulInject : Inject → Type 0
IsLawfulInject i = ((i.vector ≡ 6) × (i.code ≡ 0)) ⊎ (i.vector ≡ 13)

-- the word of a request
abbrev pub inject_word : Inject → ℕ
inject_word i =
    placed layout.code i.code + placed layout.valid 1 + placed layout.has_code (if i.vector == 13 then 1 else 0)
    + placed layout.type exception_type + placed layout.vector i.vector

-- #UD takes no error code, and #GP takes the one that is marked as valid, or 0
abbrev pub code_in : ℕ → ℕ
code_in word =
    if (number_in word layout.vector == 13) && (number_in word layout.has_code == 1)
    then number_in word layout.code else 0

-- what a word is read as: the valid bit is tested first, then the type, then the vector
abbrev pub request_of : ℕ → Result Inject BadInject
request_of word =
    if number_in word layout.valid == 1
    then (if number_in word layout.type == exception_type
    then (if (number_in word layout.vector == 6) || (number_in word layout.vector == 13)
    then Ok (record { vector = number_in word layout.vector; code = code_in word })
    else Err (BadVector word))
    else Err (BadType word))
    else Err (NotValid word)

-- the word asks for this exception, whatever stands in its other bits
pub record IsRequestFor (i : Inject) (word : ℕ) : Type 0 where
  pub lawful : IsLawfulInject i
  pub valid : number_in word layout.valid ≡ 1
  pub type : number_in word layout.type ≡ exception_type
  pub vector : number_in word layout.vector ≡ i.vector
  pub code : code_in word ≡ i.code
