-- A word of the GHCB MSR in print (AMD 56421, "GHCB MSR Protocol").
use Rattle.std.specs.Prelude.{ℕ, List, ◌++◌, codes, Result, Ok, Err}
use Rattle.msr_protocol.specs.MsrWord.{read_of}
use Rattle.msr_protocol.specs.declared.msr_word.MsrWord.{MsrWord}
use Rattle.msr_protocol.specs.declared.msr_word.MsrWord.TheVariants.{GhcbAddress, SevInfo, SevInfoRequest, CpuidRequest, CpuidResponse, ApHoldRequest, ApHoldResponse, FeatureRequest, FeatureResponse, Terminate}
use Rattle.msr_protocol.specs.declared.msr_word.BadMsr.{BadMsr}
use Rattle.msr_protocol.specs.declared.msr_word.BadMsr.TheVariants.{UnknownInfo, ReservedSet}
use Rattle.show_text.specs.Number.{short_hex_text, labelled, labelled_hex, line_end}

abbrev pub sev_info_text : ℕ → ℕ → ℕ → List ℕ
sev_info_text max min c_bit =
    labelled (codes "sev-info max ") max ++ labelled (codes " min ") min ++ labelled (codes " c-bit ") c_bit

abbrev pub message_text : MsrWord → List ℕ
message_text (GhcbAddress address) = labelled_hex (codes "ghcb ") address
message_text (SevInfo max min c_bit) = sev_info_text max min c_bit
message_text SevInfoRequest = codes "sev-info-request"
message_text (CpuidRequest function register) =
    labelled (codes "cpuid-request function ") function ++ labelled (codes " register ") register
message_text (CpuidResponse value register) =
    labelled (codes "cpuid-response value ") value ++ labelled (codes " register ") register
message_text ApHoldRequest = codes "ap-hold-request"
message_text (ApHoldResponse value) = labelled (codes "ap-hold-response ") value
message_text FeatureRequest = codes "feature-request"
message_text (FeatureResponse bitmap) = labelled (codes "feature-response ") bitmap
message_text (Terminate set code) = labelled (codes "terminate set ") set ++ labelled (codes " code ") code

-- an unknown word shows its bits 11:0 in three hexadecimal digits
abbrev pub bad_msr_text : BadMsr → List ℕ
bad_msr_text (UnknownInfo info) = codes "unknown " ++ short_hex_text info
bad_msr_text (ReservedSet bits) = labelled_hex (codes "reserved ") bits

abbrev pub reading_text : Result MsrWord BadMsr → List ℕ
reading_text (Ok message) = message_text message
reading_text (Err bad) = bad_msr_text bad

-- the line that tells what a word says
abbrev pub msr_text : ℕ → List ℕ
msr_text word = reading_text (read_of word) ++ line_end
