-- Which events there are.
use Rattle.std.specs.Prelude.{◌≡◌, ℕ, ◌+◌, ◌*◌, ◌^◌, ◌<◌, ◌≤◌, ◌⊎◌, Bool, false, if◌then◌else◌, length, All}
use Rattle.image_file.specs.Number.{IsLength}
use Rattle.event_table.specs.declared.access.Access.{Access}
use Rattle.event_table.specs.declared.access.Access.TheVariants as access
use Rattle.event_table.specs.declared.row.Kind.{Kind}
use Rattle.event_table.specs.declared.row.Kind.TheVariants as kind
use Rattle.event_table.specs.declared.event.Event.{Event}
use Rattle.event_table.specs.declared.event.Event.TheVariants.{One, Many}
use Rattle.event_table.specs.declared.block.Block.{Block}

-- the sizes of port I/O, in bytes (APM volume 3, IN and OUT)
abbrev pub IsSize : ℕ → Type 0
IsSize size = (size ≡ 1) ⊎ (size ≡ 2) ⊎ (size ≡ 4)

-- the page of devices
abbrev pub page_start : ℕ
page_start = 0xFEB00000

abbrev pub page_end : ℕ
page_end = 0xFEB01000

-- so many bytes from an address on are the operand of a move, and lie in the page of devices
abbrev pub IsInPage : ℕ → ℕ → Type 0
IsInPage at len = IsLength len × (page_start ≤ at) × (at + len ≤ page_end)

-- so many elements of a size fit the shared buffer, and without REP there is one
abbrev pub IsCount : ℕ → Bool → ℕ → Type 0
IsCount size rep count = (1 ≤ count) × (count * size ≤ 2032) × (rep ≡ false → count ≡ 1)

-- a kind of event with a size that port I/O has, as many elements as a block can have, and bytes in the page of devices
abbrev pub IsKind : Kind → Type 0
IsKind (kind.Out port size) = IsSize size
IsKind (kind.In port size) = IsSize size
IsKind (kind.Outs port size rep count) = IsSize size × IsCount size rep count
IsKind (kind.Ins port size rep count) = IsSize size × IsCount size rep count
IsKind (kind.MmioRead at len) = IsInPage at len
IsKind (kind.MmioWrite at len) = IsInPage at len
IsKind _ = Unit {0}

-- each number fits its type, port I/O has its sizes, and MMIO is in the page of devices
abbrev pub IsLawfulAccess : Access → Type 0
IsLawfulAccess (access.Out port size value) = (port < 2 ^ 16) × IsSize size × (value < 2 ^ (8 * size))
IsLawfulAccess (access.In port size) = (port < 2 ^ 16) × IsSize size
IsLawfulAccess (access.Cpuid leaf sub) = (leaf < 2 ^ 32) × (sub < 2 ^ 32)
IsLawfulAccess (access.Rdmsr msr) = msr < 2 ^ 32
IsLawfulAccess (access.Wrmsr msr low high) = (msr < 2 ^ 32) × (low < 2 ^ 32) × (high < 2 ^ 32)
IsLawfulAccess (access.Rdpmc index) = index < 2 ^ 32
IsLawfulAccess (access.Vmmcall rax) = rax < 2 ^ 64
IsLawfulAccess (access.MmioRead at len) = IsInPage at len
IsLawfulAccess (access.MmioWrite at len value) = IsInPage at len × (value < 2 ^ (8 * len))
IsLawfulAccess _ = Unit {0}

-- Its elements fit the shared buffer, and an output has their bytes.
pub record IsLawfulBlock (b : Block) : Type 0 where
  pub port : b.port < 2 ^ 16
  pub size : IsSize b.size
  pub count : IsCount b.size b.rep b.count
  pub bytes : length b.bytes ≡ (if b.input then 0 else b.count * b.size)
  pub fits : All (λ byte. byte < 2 ^ 8) b.bytes

abbrev pub IsLawfulEvent : Event → Type 0
IsLawfulEvent (One access) = IsLawfulAccess access
IsLawfulEvent (Many block) = IsLawfulBlock block

-- a kind of event that is one access, with its data in registers
abbrev pub IsOfRegisters : Kind → Type 0
IsOfRegisters (kind.Outs port size rep count) = ⊥
IsOfRegisters (kind.Ins port size rep count) = ⊥
IsOfRegisters (kind.MmioRead at len) = ⊥
IsOfRegisters (kind.MmioWrite at len) = ⊥
IsOfRegisters _ = Unit {0}

-- how many accesses an event is
abbrev pub count_of : Event → ℕ
count_of (One access) = 1
count_of (Many block) = block.count
