-- What is looked at of a page: its fields' words, their bits, and the kind of event that the exit code and
-- SW_EXITINFO1 name (AMD 56421, "GHCB Layout" and section 4, the state of each non-automatic exit).
use Rattle.std.specs.Prelude.{ℕ, zero, suc, ◌+◌, ◌/◌, ◌==◌, nat_le, Bool, true, false, not, ◌&&◌, ◌||◌, if◌then◌else◌, List, [], ◌∷◌, Option, None, Some, Result, Ok, Err, slice_index}
use Rattle.page_words.specs.Told.{Kept}
use Rattle.ghcb_layout.specs.declared.bitmap.Bitmap.{Bitmap}
use Rattle.ghcb_layout.specs.declared.field.Field.{Field}
use Rattle.ghcb_layout.specs.declared.field.Field.TheVariants.{Cpl, Rax, Rcx, Rdx, ExitCode, ExitInfo1, ExitInfo2, Scratch, Xcr0}
use Rattle.ghcb_layout.specs.Address.{ghcb_of}
use Rattle.ghcb_layout.specs.Bitmap.{bitmap_low, bitmap_high, has_bit}
use Rattle.ghcb_layout.specs.Field.{word_number}
use Rattle.exit_info.specs.declared.exit_code.ExitCode as code
use Rattle.exit_info.specs.declared.exit_code.ExitCode.TheVariants as codes
use Rattle.exit_info.specs.declared.exit_code.UnknownCode.{UnknownCode}
use Rattle.exit_info.specs.declared.io_info.IoInfo.{IoInfo}
use Rattle.exit_info.specs.declared.io_info.BadInfo.{BadInfo}
use Rattle.exit_info.specs.ExitCode.{exit_code_of}
use Rattle.exit_info.specs.IoInfo.{info_of}
use Rattle.event_table.specs.declared.event.Event.{Event}
use Rattle.event_table.specs.declared.row.Kind.{Kind}
use Rattle.event_table.specs.declared.row.Kind.TheVariants as kind
use Rattle.event_table.specs.declared.row.Row.{Row}
use Rattle.event_table.specs.Buffer.{bytes_from, first_word}
use Rattle.event_table.specs.Lawful.{IsSize, page_start, page_end}
use Rattle.event_table.specs.Rows.{event_by, registers, shows_xcr0}

-- the word of a number
abbrev pub word_in : Kept → ℕ → ℕ
word_in k number = slice_index k.words number

-- From here on a page is a function from a word's number to the word.
abbrev pub field_in : (ℕ → ℕ) → Field → ℕ
field_in word field = word (word_number field)

abbrev pub bitmap_in : (ℕ → ℕ) → Bitmap
bitmap_in word = record { low = word bitmap_low; high = word bitmap_high }

-- a field's bit is set
abbrev pub has : Bitmap → Field → Bool
has bitmap field = has_bit bitmap (word_number field)

abbrev pub has_infos : Bitmap → Bool
has_infos bitmap = has bitmap ExitCode && has bitmap ExitInfo1 && has bitmap ExitInfo2

-- each word that a row shows has its bit
abbrev pub has_shown : Row → ℕ → Bitmap → Bool
has_shown r a bitmap =
    (not r.shows.cpl || has bitmap Cpl)
    && (not r.shows.a || has bitmap Rax)
    && (not r.shows.c || has bitmap Rcx)
    && (not r.shows.d || has bitmap Rdx)
    && (not (shows_xcr0 r a) || has bitmap Xcr0)

-- an exit code of the event table
abbrev pub is_event : Result code.ExitCode UnknownCode → Bool
is_event (Err unknown) = false
is_event (Ok _) = true

-- port I/O by its info, and string I/O with its count
abbrev pub io_kind : Result IoInfo BadInfo → ℕ → Option Kind
io_kind (Err bad) count = None
io_kind (Ok info) count =
    if info.string then (if info.input then Some (kind.Ins info.port (info.size / 8) info.rep count) else
    Some (kind.Outs info.port (info.size / 8) info.rep count)) else
    if info.input then Some (kind.In info.port (info.size / 8)) else
    Some (kind.Out info.port (info.size / 8))

-- an MSR is read or written
abbrev pub msr_kind : ℕ → Option Kind
msr_kind info =
    if info == 0 then Some kind.Rdmsr else
    if info == 1 then Some kind.Wrmsr else
    None

-- SW_EXITINFO1 tells more of port I/O and of an MSR alone, and SW_EXITINFO2 is the count of string I/O. Of MMIO they
-- are the address and the bytes.
abbrev pub kind_by : Result code.ExitCode UnknownCode → ℕ → ℕ → Option Kind
kind_by (Ok codes.Io) info count = io_kind (info_of info) count
kind_by (Ok codes.Msr) info count = msr_kind info
kind_by (Ok codes.Cpuid) info count = Some kind.Cpuid
kind_by (Ok codes.Rdtsc) info count = Some kind.Rdtsc
kind_by (Ok codes.Rdtscp) info count = Some kind.Rdtscp
kind_by (Ok codes.Rdpmc) info count = Some kind.Rdpmc
kind_by (Ok codes.Wbinvd) info count = Some kind.Wbinvd
kind_by (Ok codes.Vmmcall) info count = Some kind.Vmmcall
kind_by (Ok codes.MmioRead) at len = Some (kind.MmioRead at len)
kind_by (Ok codes.MmioWrite) at len = Some (kind.MmioWrite at len)
kind_by (Err unknown) info count = None

abbrev pub code_in : (ℕ → ℕ) → Result code.ExitCode UnknownCode
code_in word = exit_code_of (field_in word ExitCode)

abbrev pub kind_in : (ℕ → ℕ) → Option Kind
kind_in word = kind_by (code_in word) (field_in word ExitInfo1) (field_in word ExitInfo2)

-- where the event has its data in the shared buffer: SW_SCRATCH has its bit
abbrev pub has_scratch : Row → Bitmap → Bool
has_scratch r bitmap = not r.scratch || has bitmap Scratch

-- and it is the address of the buffer in the page of vCPU i
abbrev pub names_buffer : ℕ → Row → ℕ → Bool
names_buffer i r scratch = not r.scratch || (scratch == ghcb_of i + 0x800)

-- from one element to as many as fit the buffer, and one without REP
abbrev pub is_count : ℕ → Bool → ℕ → Bool
is_count size rep count = nat_le 1 count && nat_le count (2032 / size) && (rep || (count == 1))

-- the bytes that an operand can have
abbrev pub is_length : ℕ → Bool
is_length len = len == 1 || len == 2 || len == 4 || len == 8

-- as many bytes from an address on as an operand can have, and all in the page of devices
abbrev pub is_in_page : ℕ → ℕ → Bool
is_in_page at len = is_length len && nat_le page_start at && nat_le (at + len) page_end

-- the count of string I/O is one that a block can have, and the bytes of MMIO lie in the page of devices
abbrev pub is_allowed : Kind → Bool
is_allowed (kind.Outs port size rep count) = is_count size rep count
is_allowed (kind.Ins port size rep count) = is_count size rep count
is_allowed (kind.MmioRead at len) = is_in_page at len
is_allowed (kind.MmioWrite at len) = is_in_page at len
is_allowed _ = true

-- a kind of event with a size that port I/O has, with any count, of any length and at any address
abbrev pub HasSize : Kind → Type 0
HasSize (kind.Out port size) = IsSize size
HasSize (kind.In port size) = IsSize size
HasSize (kind.Outs port size rep count) = IsSize size
HasSize (kind.Ins port size rep count) = IsSize size
HasSize _ = Unit {0}

-- string I/O, the kinds of event that are blocks
abbrev pub IsString : Kind → Type 0
IsString (kind.Outs port size rep count) = Unit {0}
IsString (kind.Ins port size rep count) = Unit {0}
IsString _ = ⊥

-- MMIO, the kinds of event that are one access and have its data in the shared buffer
abbrev pub IsMmio : Kind → Type 0
IsMmio (kind.MmioRead at len) = Unit {0}
IsMmio (kind.MmioWrite at len) = Unit {0}
IsMmio _ = ⊥

-- so many words of a page, from one on
abbrev pub words_on : (ℕ → ℕ) → ℕ → ℕ → List ℕ
words_on word zero number = []
words_on word (suc n) number = word number ∷ words_on word n (number + 1)

-- the bytes of the shared buffer, which has 254 words
abbrev pub buffer_in : (ℕ → ℕ) → List ℕ
buffer_in word = bytes_from (words_on word 254 first_word)

-- the event of a kind, with the registers that the page shows, each cut to its size, and the bytes of the buffer
abbrev pub event_in : (ℕ → ℕ) → Kind → Event
event_in word k = event_by k (registers (field_in word Rax) (field_in word Rcx) (field_in word Rdx)) (buffer_in word)
