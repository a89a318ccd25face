-- The words of the GHCB MSR (AMD 56421, "GHCB MSR Protocol").
use Rattle.std.specs.Prelude.{◌≡◌, ℕ, ◌+◌, ◌*◌, ◌/◌, ◌%◌, ◌^◌, ◌<◌, ◌==◌, if◌then◌else◌, List, [], ◌∷◌, map, sum_by, Option, Some, None, option_map, Result, Ok, Err}
use Rattle.std.specs.List.{find}
use Rattle.msr_protocol.specs.declared.msr_word.MsrWord.{MsrWord}
use Rattle.msr_protocol.specs.declared.msr_word.MsrWord.TheVariants.{GhcbAddress, SevInfo, SevInfoRequest, CpuidRequest, CpuidResponse, ApHoldRequest, ApHoldResponse, FeatureRequest, FeatureResponse, Terminate}
use Rattle.msr_protocol.specs.declared.msr_word.BadMsr.{BadMsr}
use Rattle.msr_protocol.specs.declared.msr_word.BadMsr.TheVariants.{UnknownInfo, ReservedSet}
use Rattle.word_bits.specs.Bits.{Bits, bits, limit_of, number_in, placed, in_place}

-- bits high:low of a word, and the number in them
pub record Part : Type 0 where
  pub place : Bits
  pub number : ℕ

abbrev pub part : ℕ → ℕ → ℕ → Part
part high low number = record { place = bits high low; number = number }

-- bits high:low are reserved, and are 0 in a message's word
abbrev pub reserved : ℕ → ℕ → List Part
reserved high low = part high low 0 ∷ []

-- no bit is reserved
abbrev pub none : List Part
none = []

-- what a message's word holds: bits 11:0, the parts, and the reserved bits
pub record Row : Type 0 where
  pub info : ℕ
  pub parts : List Part
  pub zeros : List Part

abbrev pub row : ℕ → List Part → List Part → Row
row info parts zeros = record { info = info; parts = parts; zeros = zeros }

-- the table of messages: bits 11:0, the parts with their bits, and the reserved bits
abbrev pub message_row : MsrWord → Row
message_row (GhcbAddress address) = row 0x000 (part 63 12 (address / 2 ^ 12) ∷ []) none
message_row (SevInfo max min c_bit) = row 0x001 (part 63 48 max ∷ part 47 32 min ∷ part 31 24 c_bit ∷ []) (reserved 23 12)
message_row SevInfoRequest = row 0x002 [] (reserved 63 12)
message_row (CpuidRequest function register) = row 0x004 (part 63 32 function ∷ part 31 30 register ∷ []) (reserved 29 12)
message_row (CpuidResponse value register) = row 0x005 (part 63 32 value ∷ part 31 30 register ∷ []) (reserved 29 12)
message_row ApHoldRequest = row 0x006 [] (reserved 63 12)
message_row (ApHoldResponse value) = row 0x007 (part 63 12 value ∷ []) none
message_row FeatureRequest = row 0x080 [] (reserved 63 12)
message_row (FeatureResponse bitmap) = row 0x081 (part 63 12 bitmap ∷ []) none
message_row (Terminate set code) = row 0x100 (part 23 16 code ∷ part 15 12 set ∷ []) (reserved 63 24)

-- the word of a message: each part in its place, and bits 11:0
abbrev pub encoded : MsrWord → ℕ
encoded m = sum_by (λ p. placed p.place p.number) (message_row m).parts + (message_row m).info

abbrev pub AllFit : List Part → Type 0
AllFit [] = Unit {0}
AllFit (p ∷ parts) = (p.number < limit_of p.place) × AllFit parts

-- each part fits its bits, and an address has its low 12 bits 0
abbrev pub Fits : MsrWord → Type 0
Fits (GhcbAddress address) = (address < 2 ^ 64) × (address % 2 ^ 12 ≡ 0)
Fits m = AllFit (message_row m).parts

-- the word is the message's
abbrev pub IsMsrWord : MsrWord → ℕ → Type 0
IsMsrWord m word = Fits m × (encoded m ≡ word)

-- one message of each kind
abbrev pub kinds : List MsrWord
kinds =
    GhcbAddress 0 ∷ SevInfo 0 0 0 ∷ SevInfoRequest ∷ CpuidRequest 0 0 ∷ CpuidResponse 0 0
    ∷ ApHoldRequest ∷ ApHoldResponse 0 ∷ FeatureRequest ∷ FeatureResponse 0 ∷ Terminate 0 0 ∷ []

-- the message of a kind with these parts
abbrev pub filled : MsrWord → List ℕ → MsrWord
filled (GhcbAddress _) (page ∷ []) = GhcbAddress (page * 2 ^ 12)
filled (SevInfo _ _ _) (max ∷ min ∷ c_bit ∷ []) = SevInfo max min c_bit
filled (CpuidRequest _ _) (function ∷ register ∷ []) = CpuidRequest function register
filled (CpuidResponse _ _) (value ∷ register ∷ []) = CpuidResponse value register
filled (ApHoldResponse _) (value ∷ []) = ApHoldResponse value
filled (FeatureResponse _) (bitmap ∷ []) = FeatureResponse bitmap
filled (Terminate _ _) (code ∷ set ∷ []) = Terminate set code
filled m _ = m

-- the kind that the word's bits 11:0 name
abbrev pub kind_in : ℕ → Option MsrWord
kind_in word = find (λ kind. (message_row kind).info == number_in word (bits 11 0)) kinds

-- what stands in the word where a message has its parts
abbrev pub parts_in : ℕ → MsrWord → List ℕ
parts_in word m = map (λ p. number_in word p.place) (message_row m).parts

-- the message of that kind with the parts that stand in the word
abbrev pub message_of : ℕ → Option MsrWord
message_of word = option_map (λ kind. filled kind (parts_in word kind)) (kind_in word)

-- the message's reserved bits that are set in the word
abbrev pub reserved_set : MsrWord → ℕ → ℕ
reserved_set m word = sum_by (λ p. in_place word p.place) (message_row m).zeros

-- the word is the message's, but for its reserved bits
abbrev pub IsWordButReserved : MsrWord → ℕ → Type 0
IsWordButReserved m word = Fits m × (encoded m + reserved_set m word ≡ word)

abbrev pub without_reserved : ℕ → Option MsrWord → Result MsrWord BadMsr
without_reserved word None = Err (UnknownInfo (number_in word (bits 11 0)))
without_reserved word (Some m) = if reserved_set m word == 0 then Ok m else Err (ReservedSet (reserved_set m word))

-- what a word is read as: bits 11:0 are tested first, and then the reserved bits
abbrev pub read_of : ℕ → Result MsrWord BadMsr
read_of word = without_reserved word (message_of word)
