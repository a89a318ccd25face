-- What a hypervisor leaves of a page (AMD 56421, "GHCB Layout", SW_EXITINFO1, SW_EXITINFO2 and VALID_BITMAP).
use Rattle.std.specs.Prelude.{ℕ, List, [], ◌∷◌, ◌++◌, map}
use Rattle.page_words.specs.declared.item.Item.{Item}
use Rattle.page_words.specs.Told.{Kept, store, kept_after_all}
use Rattle.ghcb_layout.specs.declared.bitmap.Bitmap.{Bitmap}
use Rattle.ghcb_layout.specs.declared.field.Field.TheVariants.{Rax, Rcx, Rdx, Rbx, ExitInfo1, ExitInfo2}
use Rattle.ghcb_layout.specs.Bitmap.{bitmap_low, bitmap_high, bitmap_of, word_if}
use Rattle.ghcb_layout.specs.Field.{word_number}
use Rattle.msr_protocol.specs.declared.msr_word.MsrWord.TheVariants as msr
use Rattle.msr_protocol.specs.MsrWord.{encoded}
use Rattle.exit_info.specs.declared.inject.Inject.{Inject}
use Rattle.exit_info.specs.Inject.{inject_word, IsLawfulInject}
use Rattle.event_table.specs.declared.access.Access.{Access}
use Rattle.event_table.specs.declared.access.Access.TheVariants.{MmioRead}
use Rattle.event_table.specs.declared.access.Values.{Values}
use Rattle.event_table.specs.declared.event.Event.{Event}
use Rattle.event_table.specs.declared.event.Event.TheVariants.{One, Many}
use Rattle.event_table.specs.declared.row.Results.{Results}
use Rattle.event_table.specs.Buffer.{buffer_of}
use Rattle.event_table.specs.Elements.{bytes_of}
use Rattle.event_table.specs.Rows.{event_row, kind_of}
use Rattle.device_bus.specs.declared.answer.Answer.{Answer}
use Rattle.device_bus.specs.declared.answer.Answer.TheVariants.{Done, Raise}
use Rattle.device_bus.specs.Devices.{Devices, answer, cpuid, register_of}
use Rattle.device_bus.specs.History.{after_event, bytes_to}
use Rattle.host_events.specs.Call.{Call}
use Rattle.host_events.specs.Call as call
use Rattle.event_table.specs.declared.turn.Entry.{Entry}
use Rattle.host_events.specs.Calls.{call_of}

-- the words of the valid bitmap
abbrev pub bitmap_words : Bitmap → List (ℕ × ℕ)
bitmap_words bitmap = (bitmap_low, bitmap.low) ∷ (bitmap_high, bitmap.high) ∷ []

-- words and their values, and then the valid bitmap with exactly their bits
abbrev pub with_bitmap : List (ℕ × ℕ) → List (ℕ × ℕ)
with_bitmap words = words ++ bitmap_words (bitmap_of words)

-- status 0, and the results
abbrev pub done_words : Results → Values → List (ℕ × ℕ)
done_words r v =
    (word_number ExitInfo1, 0) ∷ (word_number ExitInfo2, 0)
    ∷ word_if Rax r.a v.a ++ (word_if Rcx r.c v.c ++ (word_if Rdx r.d v.d ++ word_if Rbx r.b v.b))

-- status 1 asks the guest to raise the exception that SW_EXITINFO2 names (APM volume 2, section 15.20)
abbrev pub raise_words : ℕ → List (ℕ × ℕ)
raise_words word = (word_number ExitInfo1, 1) ∷ (word_number ExitInfo2, word) ∷ []

abbrev pub inject : ℕ → ℕ → Inject
inject vector code = record { vector = vector; code = code }

abbrev pub reply_words : Results → Answer → List (ℕ × ℕ)
reply_words r (Done values) = done_words r values
reply_words r (Raise vector code) = raise_words (inject_word (inject vector code))

-- what is stored of words: each of them, and their bitmap
abbrev pub stores_of : List (ℕ × ℕ) → List Item
stores_of words = map store (with_bitmap words)

abbrev pub reply_by : Results → Answer → List Item
reply_by r a = stores_of (reply_words r a)

-- status 0 without a result in registers
abbrev pub status_words : List (ℕ × ℕ)
status_words = (word_number ExitInfo1, 0) ∷ (word_number ExitInfo2, 0) ∷ []

-- what is stored of a reply with its data in the shared buffer: status 0, the bytes that come back there, whose words
-- have no bits, and the valid bitmap
abbrev pub buffer_reply : List ℕ → List Item
buffer_reply bytes = map store (status_words ++ (buffer_of bytes ++ bitmap_words (bitmap_of status_words)))

-- what is stored of the reply to an access: of an MMIO read its bytes, and of any other its results in registers, which
-- an MMIO write has none of
abbrev pub access_reply : Access → Answer → List Item
access_reply (MmioRead at len) (Done values) = buffer_reply (bytes_of len values.a)
access_reply access a = reply_by (event_row (kind_of access)).results a

-- what is stored of the reply to an event of vCPU i
abbrev pub reply : Devices → ℕ → Event → List Item
reply d i (One access) = access_reply access (answer d i access)
reply d i (Many block) = buffer_reply (bytes_to d i block)

-- a page that breaks a rule is answered with a general protection exception
abbrev pub refusal : List Item
refusal = stores_of (raise_words (inject_word (inject 13 0)))

-- an exception of the devices is one that SW_EXITINFO2 can name
abbrev pub IsLawfulAnswer : Answer → Type 0
IsLawfulAnswer (Done values) = Unit {0}
IsLawfulAnswer (Raise vector code) = IsLawfulInject (inject vector code)

-- one register of a CPUID function, with sub-leaf 0
abbrev pub cpuid_register : ℕ → ℕ → ℕ → ℕ
cpuid_register i function register = register_of (cpuid i function 0) register

-- version 1 alone, and bit 51 of a page table entry marks encrypted memory
abbrev pub sev_info : ℕ
sev_info = encoded (msr.SevInfo 1 1 51)

abbrev pub cpuid_response : ℕ → ℕ → ℕ → ℕ
cpuid_response i function register = encoded (msr.CpuidResponse (cpuid_register i function register) register)

pub record Served : Type 0 where
  pub page : Kept
  pub devices : Devices

abbrev pub served_by : ℕ → Call → Kept → Devices → Served
served_by i call.Nothing k d = record { page = k; devices = d }
served_by i call.SevInfo k d = record { page = record k { msr = sev_info }; devices = d }
served_by i (call.Cpuid function register) k d = record {
  page = record k { msr = cpuid_response i function register };
  devices = d;
}
served_by i (call.Malformed bad) k d = record { page = kept_after_all k refusal; devices = d }
served_by i (call.Asked event) k d = record {
  page = kept_after_all k (reply d i event);
  devices = after_event d i event;
}

-- the page and the devices afterwards
abbrev pub served : ℕ → Kept → Devices → Served
served i k d = served_by i (call_of i k) k d

abbrev pub entries_by : ℕ → Call → List Entry
entries_by i (call.Asked event) = record { vcpu = i; event = event } ∷ []
entries_by i _ = []

-- the entry that the history gains, if any: the page alone decides
abbrev pub entries : ℕ → Kept → List Entry
entries i k = entries_by i (call_of i k)
