-- Moves that reach the page of devices (AMD 56421, section 4, MMIO Access; APM volume 3, MOV, MOVZX, MOVSX).
use Rattle.std.specs.Prelude.{ℕ, ◌+◌, nat_le, Bool, true, false, not, ◌&&◌, if◌then◌else◌, [], ◌∷◌}
use Rattle.x86_base.specs.declared.insn.Insn.{Insn}
use Rattle.x86_base.specs.declared.op.Op.{Op}
use Rattle.x86_base.specs.declared.op.Op.TheVariants as op
use Rattle.x86_base.specs.declared.reg.Width.{Width}
use Rattle.x86_base.specs.Numbers.{extended}
use Rattle.x86_base.specs.Widths.{bits_of, low, size_of}
use Rattle.event_table.specs.declared.access.Access.TheVariants.{MmioRead, MmioWrite}
use Rattle.event_table.specs.declared.event.Event.TheVariants.{One}
use Rattle.event_table.specs.declared.places.Place.{Place}
use Rattle.event_table.specs.declared.places.Place.TheVariants.{Bytes}
use Rattle.event_table.specs.Lawful.{page_start, page_end}
use Rattle.event_table.specs.Places.{Number, number, address_in, is_readable, is_writable}
use Rattle.event_table.specs.Plan.{Plan, Looks, Named, Asks, Setting, goes, onward, with_moves, at_operand}

-- the operations that may reach the page
abbrev pub is_move : Op → Bool
is_move op.Mov = true
is_move op.Movzx = true
is_move op.Movsx = true
is_move _ = false

-- all bytes of a place lie in the page of devices
abbrev pub is_in_page : Place → Bool
is_in_page (Bytes at width) = nat_le page_start at && nat_le (at + size_of width) page_end
is_in_page _ = false

-- they do, and don't lie in RAM, where an operand is private
abbrev pub is_device : ℕ → Place → Bool
is_device ram place = not (is_readable ram place) && is_in_page place

-- a number of the source's width, extended by the operation
abbrev pub extended_by : Op → Width → ℕ → ℕ
extended_by op.Movsx width value = extended (bits_of width) value
extended_by _ width value = value

-- what goes to the destination of a move from the page: of what was read the low bits at the source's width, extended
abbrev pub extension : Insn → ℕ → ℕ
extension i value = extended_by i.op i.source_width (low i.source_width value)

-- the destination lies in the page, and the source can be read
abbrev pub is_to_page : Setting → Place → Place → Bool
is_to_page s dst src = is_device s.ram dst && is_readable s.ram src

-- the source lies in the page, and the destination can be written
abbrev pub is_from_page : Setting → Place → Place → Bool
is_from_page s dst src = is_device s.ram src && is_writable s.ram s.code dst

-- a move to the page shows the low bits of its source
abbrev pub to_page : Insn → Setting → Place → Place → Plan
to_page i s dst src =
    Looks Named (src ∷ []) (λ shown.
    Asks (One (MmioWrite (address_in dst) (size_of i.width) (low i.width (number shown 0)))) (λ reply. goes (onward s)))

-- a move from the page
abbrev pub from_page : Insn → Setting → Place → Place → Plan
from_page i s dst src =
    Asks (One (MmioRead (address_in src) (size_of i.source_width))) (λ reply.
    goes (with_moves ((dst, Number (extension i reply.values.a)) ∷ []) (onward s)))

-- A move that reaches the page of devices; any other is private.
abbrev pub move_of : Insn → Setting → Plan → Plan
move_of i s private =
    at_operand s i.width i.dst (λ dst. at_operand s i.source_width i.src (λ src.
    if is_to_page s dst src then to_page i s dst src
    else if is_from_page s dst src then from_page i s dst src
    else private))
