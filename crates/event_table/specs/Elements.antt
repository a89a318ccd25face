-- String I/O: elements one after another, and blocks of them (APM volume 3, INS and OUTS).
use Rattle.std.specs.Prelude.{ℕ, zero, suc, ◌+◌, ◌-◌, ◌/◌, ◌%◌, ◌^◌, ◌==◌, min, Bool, true, false, if◌then◌else◌, List, [], ◌∷◌, ◌++◌, drop, length, map}
use Rattle.x86_base.specs.declared.insn.Insn.{Insn}
use Rattle.x86_base.specs.declared.op.Op.{Op}
use Rattle.x86_base.specs.declared.op.Op.TheVariants as op
use Rattle.x86_base.specs.declared.reg.Reg.{Reg}
use Rattle.x86_base.specs.declared.reg.Reg.TheVariants.{Rcx, Rdx, Rsi, Rdi}
use Rattle.x86_base.specs.declared.reg.Width.{Width}
use Rattle.x86_base.specs.declared.reg.Width.TheVariants.{B8, B16, B32, B64}
use Rattle.x86_base.specs.Widths.{low, size_of}
use Rattle.image_file.specs.Number.{number_at}
use Rattle.event_table.specs.declared.access.Access.{Access}
use Rattle.event_table.specs.declared.access.Access.TheVariants.{Out, In}
use Rattle.event_table.specs.declared.block.Block.{Block}
use Rattle.event_table.specs.declared.end.End.TheVariants.{BadAddress}
use Rattle.event_table.specs.declared.event.Event.{Event}
use Rattle.event_table.specs.declared.event.Event.TheVariants.{One, Many}
use Rattle.event_table.specs.declared.places.Place.{Place}
use Rattle.event_table.specs.declared.places.Place.TheVariants.{Fixed, Low, Bytes}
use Rattle.event_table.specs.Places.{Value, Number, number, as_number, is_readable, is_writable}
use Rattle.event_table.specs.Plan.{Plan, Ends, Next, Then, Looks, Address, Named, Asks, Change, Setting, goes, jumps, onward}
use Rattle.event_table.specs.Rows.{block}

abbrev pub is_string : Op → Bool
is_string op.Ins = true
is_string op.Outs = true
is_string _ = false

abbrev pub is_input : Op → Bool
is_input op.Ins = true
is_input _ = false

-- the width of port I/O: it has none of 64 bits
abbrev pub port_width : Width → Width
port_width B8 = B8
port_width B16 = B16
port_width _ = B32

abbrev pub element_width : Insn → Width
element_width i = port_width i.width

-- the register that points to the next element
abbrev pub pointer : Bool → Reg
pointer input = if input then Rdi else Rsi

-- how many elements are left: RCX with REP, and else one
abbrev pub counter : Bool → Place
counter rep = if rep then Low Rcx B64 else Fixed 1

-- the pointer and the counter
abbrev pub string_places : Insn → List Place
string_places i = Low (pointer (is_input i.op)) B64 ∷ counter i.rep ∷ []

-- the address of the element after one: upwards, or downwards with DF set
abbrev pub next_address : Bool → ℕ → ℕ → ℕ
next_address df size at = (at + (if df then 2 ^ 64 - size else size)) % 2 ^ 64

-- an element can be moved where it is wholly in RAM and, for input, has no code byte
abbrev pub can_move : Bool → Setting → Place → Bool
can_move input s place = if input then is_writable s.ram s.code place else is_readable s.ram place

-- the elements from an address on, before the first that can't be moved, and at most so many
abbrev pub movable : Bool → Width → Setting → ℕ → ℕ → List Place
movable input width s zero at = []
movable input width s (suc most) at =
    if can_move input s (Bytes at width)
    then Bytes at width ∷ movable input width s most (next_address s.df (size_of width) at)
    else []

-- the elements of a block: at most as many as are left, and as the shared buffer has room for
abbrev pub elements : Insn → Setting → ℕ → ℕ → List Place
elements i s at left = movable (is_input i.op) (element_width i) s (min left (2032 / size_of (element_width i))) at

-- The plan at the next element, where one is left that can be moved: at its address, and with so many left. None is
-- left where REP finds RCX 0, and then its pointer isn't looked at.
abbrev pub at_element : Insn → Setting → (ℕ → ℕ → Plan) → Plan
at_element i s plan =
    Looks Address (counter i.rep ∷ []) (λ count.
    if number count 0 == 0 then goes (onward s)
    else Looks Address (Low (pointer (is_input i.op)) B64 ∷ []) (λ seen.
    if can_move (is_input i.op) s (Bytes (number seen 0) (element_width i))
    then plan (number seen 0) (number count 0)
    else Ends (BadAddress (number seen 0))))

-- One element is placed: RAM for input, its pointer, RCX with REP, and RIP goes on with the last.
abbrev pub element : Insn → Setting → ℕ → ℕ → ℕ → Change
element i s at left value = record (jumps (if left == 1 then s.next else s.rip)) {
  moved = (if is_input i.op then Bytes at (element_width i) else Fixed 0) ∷ string_places i;
  moves = Number value ∷ Number (next_address s.df (size_of (element_width i)) at) ∷ Number (left - 1) ∷ [];
}

-- one element after another, from an address on and with so many left, each with its value
abbrev pub taking : Insn → Setting → ℕ → ℕ → List ℕ → Plan
taking i s at left [] = Next
taking i s at left (value ∷ values) =
    Then (element i s at left value) (taking i s (next_address s.df (size_of (element_width i)) at) (left - 1) values)

-- what goes to the port: the bytes of output
abbrev pub shown_of : Insn → List Place → List Place
shown_of i places = if is_input i.op then [] else places

abbrev pub access_with : Bool → ℕ → ℕ → ℕ → Access
access_with input port size value = if input then In port size else Out port size value

-- the next element alone
abbrev pub element_of : Insn → Setting → Plan
element_of i s =
    at_element i s (λ at left. let w = element_width i in
    Looks Named (Low Rdx B16 ∷ shown_of i (Bytes at w ∷ [])) (λ shown.
    Asks (One (access_with (is_input i.op) (number shown 0) (size_of w) (low w (number shown 1)))) (λ reply.
    taking i s at left (reply.values.a ∷ []))))

-- the low bytes of a number, the lowest first
abbrev pub bytes_of : ℕ → ℕ → List ℕ
bytes_of zero value = []
bytes_of (suc n) value = value % 2 ^ 8 ∷ bytes_of n (value / 2 ^ 8)

-- the bytes of values, each of a size, in their order
abbrev pub bytes_in : ℕ → List Value → List ℕ
bytes_in size [] = []
bytes_in size (value ∷ values) = bytes_of size (as_number value) ++ bytes_in size values

-- so many numbers of a size from bytes; past their end they are 0
abbrev pub numbers_in : ℕ → ℕ → List ℕ → List ℕ
numbers_in size zero bytes = []
numbers_in size (suc n) bytes = number_at size 0 bytes ∷ numbers_in size n (drop size bytes)

-- so many elements at a port, with these values
abbrev pub block_with : Insn → ℕ → ℕ → List Value → Block
block_with i count port values =
    let size = size_of (element_width i) in
    block port size (is_input i.op) i.rep count (bytes_in size values)

-- the next elements together
abbrev pub block_of : Insn → Setting → Plan
block_of i s =
    at_element i s (λ at left. let here = elements i s at left in
    Looks Named (Low Rdx B16 ∷ shown_of i here) (λ shown.
    Asks (Many (block_with i (length here) (number shown 0) (drop 1 shown))) (λ reply.
    taking i s at left (numbers_in (size_of (element_width i)) (length here) reply.bytes))))

-- string I/O, by whether its elements are asked alone
abbrev pub string_of : Insn → Setting → Plan
string_of i s = if s.alone then element_of i s else block_of i s

-- the accesses that an event is, one after another
abbrev pub accesses_of : Event → List Access
accesses_of (One access) = access ∷ []
accesses_of (Many b) = map (λ value. access_with b.input b.port b.size value) (numbers_in b.size b.count b.bytes)
