-- The event table (AMD 56421, section 4, the state of each non-automatic exit).
use Rattle.std.specs.Prelude.{ℕ, ◌*◌, ◌%◌, ◌^◌, ◌==◌, ◌&&◌, Bool, true, false, if◌then◌else◌, List, [], take}
use Rattle.x86_base.specs.declared.reg.Width.{Width}
use Rattle.x86_base.specs.declared.reg.Width.TheVariants.{B8, B16, B32, B64}
use Rattle.x86_base.specs.Widths.{bits_of, low}
use Rattle.image_file.specs.Number.{number_at}
use Rattle.exit_info.specs.declared.exit_code.ExitCode.{ExitCode}
use Rattle.exit_info.specs.declared.exit_code.ExitCode.TheVariants as code
use Rattle.exit_info.specs.declared.io_info.IoInfo.{IoInfo}
use Rattle.exit_info.specs.ExitCode.{number_of_code}
use Rattle.exit_info.specs.IoInfo.{info_word}
use Rattle.event_table.specs.declared.access.Access.{Access}
use Rattle.event_table.specs.declared.access.Access.TheVariants as access
use Rattle.event_table.specs.declared.block.Block.{Block}
use Rattle.event_table.specs.declared.event.Event.{Event}
use Rattle.event_table.specs.declared.event.Event.TheVariants.{One, Many}
use Rattle.event_table.specs.declared.row.Kind.{Kind}
use Rattle.event_table.specs.declared.row.Kind.TheVariants as kind
use Rattle.event_table.specs.declared.row.Registers.{Registers}
use Rattle.event_table.specs.declared.row.Results.{Results}
use Rattle.event_table.specs.declared.row.Row.{Row}
use Rattle.event_table.specs.declared.row.Shows.{Shows}

-- a size of port I/O, in bytes, as a width
abbrev pub io_width : ℕ → Width
io_width size = if size == 1 then B8 else (if size == 2 then B16 else B32)

-- what SW_EXITINFO1 says of IN and OUT: one access at a port, and addresses of 64 bits
abbrev pub io_of : ℕ → ℕ → Bool → IoInfo
io_of port size input = record { port = port; input = input; string = false; rep = false; size = bits_of (io_width size); address = 64; segment = 0 }

-- what it says of INS and OUTS: string I/O, with REP or without, and the segment ES (0) or DS (3)
abbrev pub string_io_of : ℕ → ℕ → Bool → Bool → IoInfo
string_io_of port size rep input =
    record (io_of port size input) { string = true; rep = rep; segment = if input then 0 else 3 }

-- CPL, RAX, RCX and RDX are shown beside the exit code and infos where 1 stands, and, at one leaf alone, XCR0
abbrev pub shows : ℕ → ℕ → ℕ → ℕ → ℕ → Shows
shows cpl rax rcx rdx xcr0 = record { cpl = cpl == 1; a = rax == 1; c = rcx == 1; d = rdx == 1; xcr = xcr0 == 1 }

-- RAX, RCX, RDX and RBX come back where 1 stands
abbrev pub results : ℕ → ℕ → ℕ → ℕ → Results
results rax rcx rdx rbx = record { a = rax == 1; c = rcx == 1; d = rdx == 1; b = rbx == 1 }

-- a row: what is shown and comes back, the width of the results, the exit code and SW_EXITINFO1; SW_EXITINFO2 is 0, and
-- SW_SCRATCH isn't shown
abbrev pub row : Shows → Results → Width → ExitCode → ℕ → Row
row shows results width code info = record {
  code = number_of_code code;
  info = info;
  count = 0;
  scratch = false;
  shows = shows;
  results = results;
  width = width;
}

-- the row of an event with its data in the shared buffer: SW_EXITINFO2 is a count or a length, SW_SCRATCH names the
-- buffer, and no register is shown or comes back
abbrev pub buffer_row : ExitCode → ℕ → ℕ → Row
buffer_row code info count =
    record (row (shows 0 0 0 0 0) (results 0 0 0 0) B64 code info) { count = count; scratch = true }

-- THE TABLE: shown are CPL RAX RCX RDX XCR0, and RAX RCX RDX RBX come back. Each row stands in the section of its
-- comment's name.
abbrev pub event_row : Kind → Row
-- IOIO_PROT
event_row (kind.Out port size) =
    row (shows 0 1 0 0 0) (results 0 0 0 0) (io_width size) code.Io (info_word (io_of port size false))
event_row (kind.In port size) =
    row (shows 0 0 0 0 0) (results 1 0 0 0) (io_width size) code.Io (info_word (io_of port size true))
event_row (kind.Outs port size rep count) =
    buffer_row code.Io (info_word (string_io_of port size rep false)) count
event_row (kind.Ins port size rep count) =
    buffer_row code.Io (info_word (string_io_of port size rep true)) count
-- MMIO Access
event_row (kind.MmioRead at len) =
    buffer_row code.MmioRead at len
event_row (kind.MmioWrite at len) =
    buffer_row code.MmioWrite at len
-- CPUID
event_row kind.Cpuid =
    row (shows 0 1 1 0 1) (results 1 1 1 1) B32 code.Cpuid 0
-- MSR_PROT
event_row kind.Rdmsr =
    row (shows 0 0 1 0 0) (results 1 0 1 0) B32 code.Msr 0
event_row kind.Wrmsr =
    row (shows 0 1 1 1 0) (results 0 0 0 0) B32 code.Msr 1
-- RDTSC
event_row kind.Rdtsc =
    row (shows 0 0 0 0 0) (results 1 0 1 0) B32 code.Rdtsc 0
-- RDTSCP
event_row kind.Rdtscp =
    row (shows 0 0 0 0 0) (results 1 1 1 0) B32 code.Rdtscp 0
-- RDPMC
event_row kind.Rdpmc =
    row (shows 0 0 1 0 0) (results 1 0 1 0) B32 code.Rdpmc 0
-- WBINVD
event_row kind.Wbinvd =
    row (shows 0 0 0 0 0) (results 0 0 0 0) B32 code.Wbinvd 0
-- VMMCALL
event_row kind.Vmmcall =
    row (shows 1 1 0 0 0) (results 1 0 0 0) B64 code.Vmmcall 0

-- XCR0 is shown with the leaf of the extended state, 0xD (APM volume 3, CPUID)
abbrev pub shows_xcr0 : Row → ℕ → Bool
shows_xcr0 r a = r.shows.a && r.shows.xcr && (a % 2 ^ 32 == 0xD)

-- an access is its kind and the registers that it shows
abbrev pub kind_of : Access → Kind
kind_of (access.Out port size value) = kind.Out port size
kind_of (access.In port size) = kind.In port size
kind_of (access.Cpuid leaf sub) = kind.Cpuid
kind_of (access.Rdmsr msr) = kind.Rdmsr
kind_of (access.Wrmsr msr low high) = kind.Wrmsr
kind_of access.Rdtsc = kind.Rdtsc
kind_of access.Rdtscp = kind.Rdtscp
kind_of (access.Rdpmc index) = kind.Rdpmc
kind_of access.Wbinvd = kind.Wbinvd
kind_of (access.Vmmcall rax) = kind.Vmmcall
kind_of (access.MmioRead at len) = kind.MmioRead at len
kind_of (access.MmioWrite at len value) = kind.MmioWrite at len

-- a block is its kind, with its count, and the bytes of its elements
abbrev pub kind_of_block : Block → Kind
kind_of_block b = if b.input then kind.Ins b.port b.size b.rep b.count else kind.Outs b.port b.size b.rep b.count

abbrev pub kind_of_event : Event → Kind
kind_of_event (One access) = kind_of access
kind_of_event (Many block) = kind_of_block block

-- how many bytes come back in the shared buffer
abbrev pub bytes_back : Kind → ℕ
bytes_back (kind.Ins port size rep count) = count * size
bytes_back (kind.MmioRead at len) = len
bytes_back _ = 0

abbrev pub registers : ℕ → ℕ → ℕ → Registers
registers a c d = record { a = a; c = c; d = d }

abbrev pub registers_of : Access → Registers
registers_of (access.Out port size value) = registers value 0 0
registers_of (access.In port size) = registers 0 0 0
registers_of (access.Cpuid leaf sub) = registers leaf sub 0
registers_of (access.Rdmsr msr) = registers 0 msr 0
registers_of (access.Wrmsr msr low high) = registers low msr high
registers_of access.Rdtsc = registers 0 0 0
registers_of access.Rdtscp = registers 0 0 0
registers_of (access.Rdpmc index) = registers 0 index 0
registers_of access.Wbinvd = registers 0 0 0
registers_of (access.Vmmcall rax) = registers rax 0 0
registers_of (access.MmioRead at len) = registers 0 0 0
registers_of (access.MmioWrite at len value) = registers 0 0 0

abbrev pub block : ℕ → ℕ → Bool → Bool → ℕ → List ℕ → Block
block port size input rep count bytes =
    record { port = port; size = size; input = input; rep = rep; count = count; bytes = bytes }

-- The event of a kind, its registers and the bytes in the shared buffer. What is shown of a register, and what of a
-- word counts, is cut to its size here and nowhere else.
abbrev pub event_by : Kind → Registers → List ℕ → Event
event_by (kind.Out port size) r bytes = One (access.Out port size (low (io_width size) r.a))
event_by (kind.In port size) r bytes = One (access.In port size)
event_by (kind.Outs port size rep count) r bytes = Many (block port size false rep count (take (count * size) bytes))
event_by (kind.Ins port size rep count) r bytes = Many (block port size true rep count [])
event_by kind.Cpuid r bytes = One (access.Cpuid (r.a % 2 ^ 32) (r.c % 2 ^ 32))
event_by kind.Rdmsr r bytes = One (access.Rdmsr (r.c % 2 ^ 32))
event_by kind.Wrmsr r bytes = One (access.Wrmsr (r.c % 2 ^ 32) (r.a % 2 ^ 32) (r.d % 2 ^ 32))
event_by kind.Rdtsc r bytes = One access.Rdtsc
event_by kind.Rdtscp r bytes = One access.Rdtscp
event_by kind.Rdpmc r bytes = One (access.Rdpmc (r.c % 2 ^ 32))
event_by kind.Wbinvd r bytes = One access.Wbinvd
event_by kind.Vmmcall r bytes = One (access.Vmmcall r.a)
event_by (kind.MmioRead at len) r bytes = One (access.MmioRead at len)
event_by (kind.MmioWrite at len) r bytes = One (access.MmioWrite at len (number_at len 0 bytes))
