-- What an event shows, read back.
use Rattle.std.proofs.Common.{◌≡◌, ℕ, ◌*◌, ◌/◌, ◌%◌, ◌^◌, ◌<◌, Bool, true, false, Ok, Some, ◌⊎◌, inl, inr, refl, ap, ◌∙◌, arith}
use Rattle.std.proofs.Math.Nat.{mod-eq_of_lt}
use Rattle.image_file.specs.Format.{most_vcpus}
use Rattle.event_table.specs.declared.access.Access.{Access}
use Rattle.event_table.specs.declared.access.Access.TheVariants as a
use Rattle.event_table.specs.declared.row.Kind.{Kind}
use Rattle.event_table.specs.declared.row.Kind.TheVariants as k
use Rattle.event_table.specs.Lawful.{IsSize, IsLawfulAccess, IsOfRegisters}
use Rattle.event_table.specs.Rows.{io_of, io_width, event_row, kind_of}
use Rattle.x86_base.specs.Widths.{bits_of, low}
use Rattle.exit_info.specs.IoInfo.{info_word, info_of}
use Rattle.exit_info.specs.ExitCode.{exit_code_of}
use Rattle.exit_info.proofs.Inverse.{info_of-word_of}
use Rattle.ghcb_layout.specs.declared.bitmap.Bitmap.{Bitmap}
use Rattle.ghcb_layout.specs.Address.{ghcb_of}
use Rattle.word_bits.specs.Bits.{bits as bits_at, number_in}
use Rattle.msr_protocol.specs.MsrWord.{read_of}
use Rattle.msr_protocol.specs.declared.msr_word.MsrWord.TheVariants.{GhcbAddress}
use Rattle.host_events.specs.Call.{Asked}
use Rattle.host_events.specs.Calls.{page_call}
use Rattle.host_events.specs.Reading.{event_in, is_event, io_kind, kind_by, is_allowed, has_infos, has_scratch, has_shown, names_buffer}

-- a size of port I/O as bits, and back
pub size_bits : (size : ℕ) → IsSize size → let bits = bits_of (io_width size) in (bits ≡ 8) ⊎ (bits ≡ 16) ⊎ (bits ≡ 32)
size_bits size (inl one) = rw one (inl refl)
size_bits size (inr (inl two)) = rw two (inr (inl refl))
size_bits size (inr (inr four)) = rw four (inr (inr refl))

pub size_back : (size : ℕ) → IsSize size → bits_of (io_width size) / 8 ≡ size
size_back size (inl one) = rw one refl
size_back size (inr (inl two)) = rw two refl
size_back size (inr (inr four)) = rw four refl

io_back : (port size : ℕ) (input : Bool) → port < 2 ^ 16 → IsSize size → info_of (info_word (io_of port size input)) ≡ Ok (io_of port size input)
io_back port size input fits is =
    info_of-word_of (io_of port size input) (record { size = size_bits size is; address = inr (inr refl); segment = omega arith; port = fits })

-- the exit code and the exit infos of an access's row name its kind again
pub kind_back : (access : Access) → IsLawfulAccess access →
    let r = event_row (kind_of access) in
    kind_by (exit_code_of r.code) r.info r.count ≡ Some (kind_of access)
kind_back (a.Out port size value) lawful = ap (λ r. io_kind r 0) (io_back port size false lawful.0 lawful.1) ∙ ap (λ s. Some (k.Out port s)) (size_back size lawful.1)
kind_back (a.In port size) lawful = ap (λ r. io_kind r 0) (io_back port size true lawful.0 lawful.1) ∙ ap (λ s. Some (k.In port s)) (size_back size lawful.1)
kind_back (a.Cpuid leaf sub) lawful = refl
kind_back (a.Rdmsr msr) lawful = refl
kind_back (a.Wrmsr msr first second) lawful = refl
kind_back a.Rdtsc lawful = refl
kind_back a.Rdtscp lawful = refl
kind_back (a.Rdpmc index) lawful = refl
kind_back a.Wbinvd lawful = refl
kind_back (a.Vmmcall rax) lawful = refl
kind_back (a.MmioRead at len) lawful = refl
kind_back (a.MmioWrite at len value) lawful = refl

-- an access that has its data in registers, and its code is one of the table
pub record InRegisters (kind : Kind) : Type 0 where
  pub scratch : (event_row kind).scratch ≡ false
  pub count : is_allowed kind ≡ true
  pub event : is_event (exit_code_of (event_row kind).code) ≡ true

pub in_registers : (access : Access) → IsOfRegisters (kind_of access) → InRegisters (kind_of access)
in_registers (a.Out port size value) of = record { scratch = refl; count = refl; event = refl }
in_registers (a.In port size) of = record { scratch = refl; count = refl; event = refl }
in_registers (a.Cpuid leaf sub) of = record { scratch = refl; count = refl; event = refl }
in_registers (a.Rdmsr msr) of = record { scratch = refl; count = refl; event = refl }
in_registers (a.Wrmsr msr first second) of = record { scratch = refl; count = refl; event = refl }
in_registers a.Rdtsc of = record { scratch = refl; count = refl; event = refl }
in_registers a.Rdtscp of = record { scratch = refl; count = refl; event = refl }
in_registers (a.Rdpmc index) of = record { scratch = refl; count = refl; event = refl }
in_registers a.Wbinvd of = record { scratch = refl; count = refl; event = refl }
in_registers (a.Vmmcall rax) of = record { scratch = refl; count = refl; event = refl }
in_registers (a.MmioRead at len) of = absurd of
in_registers (a.MmioWrite at len value) of = absurd of

-- a word with bits 11:0 clear is an address
by_low : (word : ℕ) → number_in word (bits_at 11 0) ≡ 0 → read_of word ≡ Ok (GhcbAddress (number_in word (bits_at 63 12) * 2 ^ 12))
by_low word low = rw low refl

-- the address of a page is read as that
pub ghcb_read : (i : ℕ) → i < most_vcpus → read_of (ghcb_of i) ≡ Ok (GhcbAddress (ghcb_of i))
ghcb_read i few =
    let low : number_in (ghcb_of i) (bits_at 11 0) ≡ 0 = omega arith in
    let page : number_in (ghcb_of i) (bits_at 63 12) * 2 ^ 12 ≡ ghcb_of i = omega arith in
    by_low (ghcb_of i) low ∙ ap (λ address. Ok (GhcbAddress address)) page

-- a value that fits is cut to itself
pub cut_back : (x y n : ℕ) → x ≡ y → y < n → x % n ≡ y
cut_back x y n is fits = ap (λ z. z % n) is ∙ mod-eq_of_lt fits

-- the value of an OUT at its size
pub out_back : (x value size : ℕ) → x ≡ value → IsSize size → value < 2 ^ (8 * size) → low (io_width size) x ≡ value
out_back x value size is (inl one) fits = grind arith
out_back x value size is (inr (inl two)) fits = grind arith
out_back x value size is (inr (inr four)) fits = grind arith

abbrev pub bits : ℕ → ℕ → Bitmap
bits low high = record { low = low; high = high }

-- the page asks for the event of its kind, where the rules hold
pub asked_at : (i : ℕ) (word : ℕ → ℕ) (kind : Kind) (low high : ℕ)
    → word 511 ≡ 0x10000 → word 126 ≡ low → word 127 ≡ high → has_infos (bits low high) ≡ true
    → is_event (exit_code_of (word 114)) ≡ true → kind_by (exit_code_of (word 114)) (word 115) (word 116) ≡ Some kind
    → has_shown (event_row kind) (word 63) (bits low high) ≡ true
    → has_scratch (event_row kind) (bits low high) ≡ true → names_buffer i (event_row kind) (word 117) ≡ true → is_allowed kind ≡ true
    → page_call i word ≡ Asked (event_in word kind)
asked_at i word kind first second protocol is_low is_high infos event named shown scratch names count =
    rw (protocol, is_high, infos, event, named, is_low, is_high, shown, scratch, names, count) refl
