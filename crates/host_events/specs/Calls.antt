-- What a page asks for: by its MSR word, and then by the rules of an event's page (AMD 56421, "GHCB MSR Protocol",
-- "GHCB Layout" and section 4, the state of each non-automatic exit). Which code a broken rule has is this project's
-- own.
use Rattle.std.specs.Prelude.{ℕ, ◌<◌, ◌==◌, Bool, if◌then◌else◌, List, [], ◌∷◌, Option, None, Some, is_some, Result, Ok}
use Rattle.page_words.specs.Told.{Kept}
use Rattle.ghcb_layout.specs.declared.bitmap.Bitmap.{Bitmap}
use Rattle.ghcb_layout.specs.declared.field.Field.TheVariants.{Rax, Scratch}
use Rattle.ghcb_layout.specs.Address.{ghcb_of}
use Rattle.ghcb_layout.specs.Protocol.{last_word, version_in, usage_in}
use Rattle.msr_protocol.specs.declared.msr_word.MsrWord.{MsrWord}
use Rattle.msr_protocol.specs.declared.msr_word.MsrWord.TheVariants as msr
use Rattle.msr_protocol.specs.declared.msr_word.BadMsr.{BadMsr}
use Rattle.msr_protocol.specs.MsrWord.{read_of}
use Rattle.event_table.specs.declared.row.Kind.{Kind}
use Rattle.event_table.specs.Lawful.{IsKind}
use Rattle.event_table.specs.Rows.{event_row}
use Rattle.host_events.specs.declared.request.BadPage.{BadPage}
use Rattle.host_events.specs.declared.request.BadPage.TheVariants.{Usage, Buffer, Missing, Invalid, Unknown}
use Rattle.host_events.specs.declared.request.Request.{Request}
use Rattle.host_events.specs.declared.request.Request.TheVariants as request
use Rattle.host_events.specs.Call.{Call}
use Rattle.host_events.specs.Call as call
use Rattle.host_events.specs.Reading.{word_in, field_in, bitmap_in, code_in, kind_in, event_in, is_event, has_infos, has_shown, has_scratch, names_buffer, is_allowed}

-- a rule of a page, and what a page is that breaks it
pub record PageRule : Type 0 where
  pub holds : Bool
  pub bad : BadPage

abbrev pub page_rule : Bool → BadPage → PageRule
page_rule holds bad = record { holds = holds; bad = bad }

-- The rules of data in the shared buffer, in order: SW_SCRATCH is there, and names the buffer in the page of vCPU i;
-- and the count or the bytes that the exit infos name are allowed.
abbrev pub buffer_rules : ℕ → Kind → (ℕ → ℕ) → Bitmap → List PageRule
buffer_rules i kind word bitmap =
    page_rule (has_scratch (event_row kind) bitmap) Missing
    ∷ page_rule (names_buffer i (event_row kind) (field_in word Scratch)) Buffer
    ∷ page_rule (is_allowed kind) Invalid ∷ []

-- The rules of a kind of event: each word that the event shows is there; then those of data in the shared buffer.
abbrev pub kind_rules : ℕ → Kind → (ℕ → ℕ) → Bitmap → List PageRule
kind_rules i kind word bitmap =
    page_rule (has_shown (event_row kind) (field_in word Rax) bitmap) Missing ∷ buffer_rules i kind word bitmap

-- where there is no kind of event the page breaks the rule before
abbrev pub rules_of : ℕ → Option Kind → (ℕ → ℕ) → List PageRule
rules_of i None word = []
rules_of i (Some kind) word = kind_rules i kind word (bitmap_in word)

-- The rules of an event's page, in order: the version is 1, and the usage 0; the exit code and the exit infos are
-- there; the code is an event's, and SW_EXITINFO1 fits it; then those of its kind.
abbrev pub page_rules : ℕ → (ℕ → ℕ) → List PageRule
page_rules i word =
    page_rule (version_in (word last_word) == 1) Invalid
    ∷ page_rule (usage_in (word last_word) == 0) Usage
    ∷ page_rule (has_infos (bitmap_in word)) Missing
    ∷ page_rule (is_event (code_in word)) Unknown
    ∷ page_rule (is_some (kind_in word)) Invalid
    ∷ rules_of i (kind_in word) word

-- the first rule that is broken
abbrev pub first_broken_rule : List PageRule → Option BadPage
first_broken_rule [] = None
first_broken_rule (r ∷ rules) = if r.holds then first_broken_rule rules else Some r.bad

-- the code of a broken rule
abbrev pub bad_page_code : BadPage → ℕ
bad_page_code Usage = 2
bad_page_code Buffer = 3
bad_page_code Missing = 4
bad_page_code Invalid = 5
bad_page_code Unknown = 6

-- A page that breaks no rule asks for the event of its kind. It has one by the rules, so the last case doesn't come.
abbrev pub page_call_by : Option BadPage → Option Kind → (ℕ → ℕ) → Call
page_call_by (Some bad) kind word = call.Malformed bad
page_call_by None (Some kind) word = call.Asked (event_in word kind)
page_call_by None None word = call.Nothing

abbrev pub page_call : ℕ → (ℕ → ℕ) → Call
page_call i word = page_call_by (first_broken_rule (page_rules i word)) (kind_in word) word

abbrev pub call_by : ℕ → (ℕ → ℕ) → Result MsrWord BadMsr → Call
call_by i word (Ok msr.SevInfoRequest) = call.SevInfo
call_by i word (Ok (msr.CpuidRequest function register)) = call.Cpuid function register
call_by i word (Ok (msr.GhcbAddress address)) = if address == ghcb_of i then page_call i word else call.Nothing
call_by i word _ = call.Nothing

-- What vCPU i asks for: its MSR word is read as a message, and where that names its page, the page's words are read.
abbrev pub call_of : ℕ → Kept → Call
call_of i k = call_by i (word_in k) (read_of k.msr)

-- the call that a request is on a page
abbrev pub call_on : (ℕ → ℕ) → Request → Call
call_on word request.Nothing = call.Nothing
call_on word request.SevInfo = call.SevInfo
call_on word (request.Cpuid function register) = call.Cpuid function register
call_on word (request.Malformed bad) = call.Malformed bad
call_on word (request.Asked kind) = call.Asked (event_in word kind)

-- what a request can hold
abbrev pub IsLawfulRequest : Request → Type 0
IsLawfulRequest (request.Asked kind) = IsKind kind
IsLawfulRequest (request.Cpuid function register) = register < 4
IsLawfulRequest _ = Unit {0}
