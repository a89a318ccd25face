-- The devices: what they say to an access, and what it changes, in the order of the table in docs/PROTOCOL.md.
-- They are this project's own where no manual is named.
use Rattle.std.specs.Prelude.{ℕ, ◌+◌, ◌-◌, ◌*◌, ◌/◌, ◌%◌, ◌^◌, ◌==◌, nat_le, nat_lt, Bool, ◌&&◌, if◌then◌else◌, List, [], ◌∷◌, ◌++◌, length, drop, replicate, slice_index, slice_set}
use Rattle.std.specs.List.{range_with_len}
use Rattle.image_file.specs.Format.{most_vcpus}
use Rattle.image_file.specs.Number.{number_at, put_number}
use Rattle.event_table.specs.declared.access.Access.{Access}
use Rattle.event_table.specs.declared.access.Access.TheVariants.{Out, In, Cpuid, Rdmsr, Wrmsr, Rdtsc, Rdtscp, Rdpmc, Wbinvd, Vmmcall, MmioRead, MmioWrite}
use Rattle.event_table.specs.declared.access.Values.{Values}
use Rattle.event_table.specs.Lawful.{page_start}
use Rattle.device_bus.specs.declared.answer.Answer.{Answer}
use Rattle.device_bus.specs.declared.answer.Answer.TheVariants.{Done, Raise}

pub record Devices : Type 0 where
  pub vcpus : ℕ
  -- the bytes put out so far
  pub console : List ℕ
  -- the input that is left
  pub input : List ℕ
  -- accesses so far, modulo 2^64
  pub time : ℕ
  -- eight numbers of 32 bits, which all vCPUs share
  pub mailboxes : List ℕ
  -- TSC_AUX of each vCPU
  pub tsc_aux : List ℕ
  -- four words of 64 bits for each vCPU
  pub scratch : List ℕ
  -- the 4,096 bytes of the page of devices, which all vCPUs share
  pub page : List ℕ

-- a page of zeros
unfoldable pub blank : List ℕ
blank = replicate 4096 0

-- the devices as they are opened: TSC_AUX is the vCPU's number
abbrev pub opening : ℕ → List ℕ → Devices
opening vcpus input = record {
  vcpus = vcpus;
  console = [];
  input = input;
  time = 0;
  mailboxes = replicate 8 0;
  tsc_aux = range_with_len 0 most_vcpus;
  scratch = replicate (4 * most_vcpus) 0;
  page = blank;
}

-- Answers.

-- done, without a result
abbrev pub no_result : Answer
no_result = Done (record { a = 0; b = 0; c = 0; d = 0 })

-- one result, in RAX
abbrev pub in_rax : ℕ → Answer
in_rax word = Done (record { a = word; b = 0; c = 0; d = 0 })

-- a word in EDX:EAX, with a number in ECX
abbrev pub in_edx_eax : ℕ → ℕ → Answer
in_edx_eax word c = Done (record { a = word % 2 ^ 32; b = 0; c = c; d = word / 2 ^ 32 })

-- a general protection exception with the error code 0 (APM volume 2, section 8.2.14)
abbrev pub raise_gp : Answer
raise_gp = Raise 13 0

-- Ports: the console's data port and its status port, and the mailboxes at 0x500, 0x504 and so on to 0x51C.
abbrev pub is_data : ℕ → ℕ → Bool
is_data port size = (port == 0x3F8) && (size == 1)

abbrev pub is_status : ℕ → ℕ → Bool
is_status port size = (port == 0x3FD) && (size == 1)

abbrev pub is_mailbox : ℕ → ℕ → Bool
is_mailbox port size = nat_le 0x500 port && nat_lt port 0x520 && (port % 4 == 0) && (size == 4)

abbrev pub mailbox : ℕ → ℕ
mailbox port = (port - 0x500) / 4

-- the next byte of the input, or 0 where none is left
abbrev pub next_byte : List ℕ → ℕ
next_byte [] = 0
next_byte (byte ∷ rest) = byte

abbrev pub without_next_byte : Devices → Devices
without_next_byte d = record d { input = drop 1 d.input }

-- The transmitter is empty in any case; bit 0 says that a byte has come.
abbrev pub console_status : List ℕ → ℕ
console_status input = if length input == 0 then 0x60 else 0x61

-- OUT: where there is no device the value is lost
abbrev pub out_reply : Devices → ℕ → ℕ → ℕ → Answer × Devices
out_reply d port size value = (
  no_result,
  if is_data port size then record d { console = d.console ++ value ∷ [] } else
      if is_mailbox port size then record d { mailboxes = slice_set d.mailboxes (mailbox port) value } else
      d,
)

-- IN: where there is no device all ones are read
abbrev pub in_reply : Devices → ℕ → ℕ → Answer × Devices
in_reply d port size =
    if is_data port size then (in_rax (next_byte d.input), without_next_byte d) else
    if is_status port size then (in_rax (console_status d.input), d) else
    if is_mailbox port size then (in_rax (slice_index d.mailboxes (mailbox port)), d) else
    (in_rax (2 ^ (8 * size) - 1), d)

-- the time-stamp counter
abbrev pub clock : ℕ → ℕ
clock time = 1000 * time % 2 ^ 64

-- MSRs: those of a vCPU's four words, and the place of one among the words of all vCPUs
abbrev pub is_scratch_msr : ℕ → Bool
is_scratch_msr msr = nat_le 0x40001000 msr && nat_lt msr 0x40001004

abbrev pub scratch_place : ℕ → ℕ → ℕ
scratch_place i msr = 4 * i + (msr - 0x40001000)

-- RDMSR: 0x10 is the time-stamp counter, and 0xC0000103 is TSC_AUX (APM volume 2, appendix A)
abbrev pub rdmsr_answer : Devices → ℕ → ℕ → Answer
rdmsr_answer d i msr =
    if msr == 0x10 then in_edx_eax (clock d.time) 0 else
    if msr == 0xC0000103 then in_rax (slice_index d.tsc_aux i) else
    if is_scratch_msr msr then in_edx_eax (slice_index d.scratch (scratch_place i msr)) 0 else
    raise_gp

-- WRMSR: TSC_AUX has 32 bits
abbrev pub wrmsr_reply : Devices → ℕ → ℕ → ℕ → ℕ → Answer × Devices
wrmsr_reply d i msr low high =
    if (msr == 0xC0000103) && (high == 0) then (no_result, record d { tsc_aux = slice_set d.tsc_aux i low }) else
    if is_scratch_msr msr then
    (no_result, record d { scratch = slice_set d.scratch (scratch_place i msr) (high * 2 ^ 32 + low) }) else
    (raise_gp, d)

-- RDPMC: counter 0 counts accesses, and there is no other
abbrev pub rdpmc_answer : Devices → ℕ → Answer
rdpmc_answer d index = if index == 0 then in_edx_eax d.time 0 else raise_gp

-- CPUID of vCPU i (APM volume 3, appendix E): the largest leaf and the vendor "AuthenticAMD", four letters a register;
-- the vCPU's number as its initial APIC ID, and that there is a time-stamp counter; that XSAVE keeps x87 alone, in
-- 576 bytes
abbrev pub cpuid : ℕ → ℕ → ℕ → Values
cpuid i leaf sub =
    if leaf == 0 then record { a = 0xD; b = 0x68747541; d = 0x69746E65; c = 0x444D4163 } else
    if leaf == 1 then record { a = 0; b = i * 2 ^ 24; d = 0x10; c = 0 } else
    if (leaf == 0xD) && (sub == 0) then record { a = 1; b = 576; d = 0; c = 576 } else
    record { a = 0; b = 0; d = 0; c = 0 }

-- EAX, EBX, ECX or EDX, by its number
abbrev pub register_of : Values → ℕ → ℕ
register_of values register =
    if register == 0 then values.a else
    if register == 1 then values.b else
    if register == 2 then values.c else
    values.d

-- VMMCALL: 0 asks for the number of vCPUs, 1 for the caller's own number
abbrev pub hypercall : Devices → ℕ → ℕ → ℕ
hypercall d i rax =
    if rax == 0 then d.vcpus else
    if rax == 1 then i else
    2 ^ 64 - 1

-- The page of devices, the lowest byte first. A number that is read is cut to its bytes here.
abbrev pub page_number : List ℕ → ℕ → ℕ → ℕ
page_number page at len = number_at len (at - page_start) page % 2 ^ (8 * len)

abbrev pub with_page_number : Devices → ℕ → ℕ → ℕ → Devices
with_page_number d at len value = record d { page = put_number len (at - page_start) value d.page }

-- the answer to an access of vCPU i, and the devices as it leaves them but for the clock
abbrev pub device_reply : Devices → ℕ → Access → Answer × Devices
device_reply d i (Out port size value) = out_reply d port size value
device_reply d i (In port size) = in_reply d port size
device_reply d i Rdtsc = (in_edx_eax (clock d.time) 0, d)
device_reply d i Rdtscp = (in_edx_eax (clock d.time) (slice_index d.tsc_aux i), d)
device_reply d i (Rdmsr msr) = (rdmsr_answer d i msr, d)
device_reply d i (Wrmsr msr low high) = wrmsr_reply d i msr low high
device_reply d i (Rdpmc index) = (rdpmc_answer d index, d)
device_reply d i (Cpuid leaf sub) = (Done (cpuid i leaf sub), d)
device_reply d i (Vmmcall rax) = (in_rax (hypercall d i rax), d)
device_reply d i Wbinvd = (no_result, d)
device_reply d i (MmioRead at len) = (in_rax (page_number d.page at len), d)
device_reply d i (MmioWrite at len value) = (no_result, with_page_number d at len value)

abbrev pub answer : Devices → ℕ → Access → Answer
answer d i access = (device_reply d i access).0

-- Every access counts, also one that raises.
abbrev pub after_access : Devices → ℕ → Access → Devices
after_access d i access = record (device_reply d i access).1 { time = (d.time + 1) % 2 ^ 64 }

-- the devices, and how many accesses more there is room for
pub record Bussed : Type 0 where
  pub devices : Devices
  pub spare : ℕ
