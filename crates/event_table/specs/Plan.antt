-- What an instruction does. Each instruction's meaning is one plan; the private step, the event that
-- is asked, and the placing of its results are readings of it.
use Rattle.std.specs.Prelude.{◌≡◌, ℕ, ◌+◌, ◌*◌, ◌%◌, ◌^◌, Bool, true, false, if◌then◌else◌, List, [], ◌∷◌, length, map, Option, None, Some, Result, Ok, Err}
use Rattle.image_file.specs.Ram as ram_of
use Rattle.x86_base.specs.declared.insn.Insn.{Insn}
use Rattle.x86_base.specs.declared.regs.Regs.{Regs}
use Rattle.x86_base.specs.declared.insn.Operand.{Operand}
use Rattle.x86_base.specs.declared.insn.Operand.TheVariants.{Absent, Whole, High, Memory, Imm}
use Rattle.x86_base.specs.declared.memory.MemRef.{MemRef}
use Rattle.x86_base.specs.declared.reg.Reg.{Reg}
use Rattle.x86_base.specs.declared.reg.Width.{Width}
use Rattle.x86_base.specs.declared.reg.Width.TheVariants.{B64}
use Rattle.x86_base.specs.Widths.{low}
use Rattle.event_table.specs.declared.access.Values.{Values}
use Rattle.event_table.specs.declared.event.Event.{Event}
use Rattle.event_table.specs.declared.outcome.Reply.{Reply}
use Rattle.event_table.specs.declared.end.End.{End}
use Rattle.event_table.specs.declared.end.End.TheVariants.{Undecoded, BadAddress}
use Rattle.event_table.specs.declared.end.End.TheVariants as ends
use Rattle.x86_base.specs.declared.stop.Stop.{Stop}
use Rattle.x86_base.specs.declared.stop.Stop.TheVariants as stop
use Rattle.event_table.specs.declared.places.Place.{Place}
use Rattle.event_table.specs.declared.places.Place.TheVariants as place
use Rattle.event_table.specs.Places.{Vcpu, vcpu, Value, number, read, write_all, address_in, is_readable, is_writable}

-- One change of a vCPU: what it writes depends on the vCPU by the places that it reads alone.
pub record Change : Type 0 where
  -- the places that are read, and what is computed of them for the targets
  pub reads : List Place
  pub values : List Value → List Value
  pub targets : List Place
  -- places that are written before these, with values that were looked at
  pub moved : List Place
  pub moves : List Value
  -- where it goes on
  pub rip : ℕ
  -- the direction flag, where it is set or cleared
  pub df : Option Bool

abbrev pub directed : Option Bool → Vcpu → Vcpu
directed None v = v
directed (Some df) v = record v { regs = record v.regs { flags = record v.regs.flags { df = df } } }

-- the vCPU after a change
abbrev pub apply : Change → Vcpu → Vcpu
apply c v =
    let gone = directed c.df (write_all c.targets (c.values (map (read v) c.reads)) (write_all c.moved c.moves v)) in
    record gone { regs = record gone.regs { rip = c.rip } }

-- What a value that is looked at goes into: an address, the way that is taken, or what the host is shown.
pub data Use : Type 0 where
  Address : Use
  Branch : Use
  Named : Use

-- What an instruction does. What goes into an address, into the way that is taken, or to the host, comes
-- from a look; all that changes a vCPU is a change.
pub data Plan : Type 0 where
  -- the vCPU ends
  Ends : (end : End) → Plan
  -- the instruction is over
  Next : Plan
  Then : (change : Change) → (rest : Plan) → Plan
  Looks : (kind : Use) → (places : List Place) → (next : List Value → Plan) → Plan
  -- an event is asked: what comes of its reply
  Asks : (event : Event) → (done : Reply → Plan) → Plan

-- What a plan may depend on besides what it looks at: where the instruction and the following one
-- stand, the sizes of RAM and of the code, the direction flag, and whether the elements of string I/O
-- are asked one by one, or together as a block.
pub record Setting : Type 0 where
  pub rip : ℕ
  pub next : ℕ
  pub ram : ℕ
  pub code : ℕ
  pub df : Bool
  pub alone : Bool

-- at a vCPU, for an instruction of so many bytes
abbrev pub setting : Vcpu → ℕ → Setting
setting v len = record {
  rip = v.regs.rip;
  next = (v.regs.rip + len) % 2 ^ 64;
  ram = length v.ram.bytes;
  code = v.ram.code;
  df = v.regs.flags.df;
  alone = false;
}

-- the same, where each element of string I/O is an event of its own
abbrev pub apart : Vcpu → ℕ → Setting
apart v len = record (setting v len) { alone = true }

-- one change, and the instruction is over
abbrev pub goes : Change → Plan
goes change = Then change Next

-- it goes on at an address, and nothing else changes
abbrev pub jumps : ℕ → Change
jumps rip = record { reads = []; values = λ _. []; targets = []; moved = []; moves = []; rip = rip; df = None }

abbrev pub onward : Setting → Change
onward s = jumps s.next

-- a known value, and the place that it goes to
abbrev pub Move : Type 0
Move = Place × Value

abbrev pub place_in : Move → Place
place_in move = move.0

abbrev pub value_in : Move → Value
value_in move = move.1

-- these are written first, in this order
abbrev pub with_moves : List Move → Change → Change
with_moves moves change = record change { moved = map place_in moves; moves = map value_in moves }

-- it goes on at the following instruction, and writes the targets
abbrev pub writes : Setting → List Place → List Place → (List Value → List Value) → Change
writes s targets reads values = record (onward s) { targets = targets; reads = reads; values = values }

-- the plan, where a place can be read, or written
abbrev pub if_readable : Setting → Place → Plan → Plan
if_readable s at plan = if is_readable s.ram at then plan else Ends (BadAddress (address_in at))

abbrev pub if_writable : Setting → Place → Plan → Plan
if_writable s at plan = if is_writable s.ram s.code at then plan else Ends (BadAddress (address_in at))

abbrev pub register_place : Option Reg → Place
register_place None = place.Fixed 0
register_place (Some reg) = place.Low reg B64

-- the registers of an operand's address: its base and its index
abbrev pub address_places : Operand → List Place
address_places (Memory mem) = register_place mem.base ∷ register_place mem.index ∷ []
address_places _ = []

-- the address, by what these hold (APM volume 1, section 2.2.3)
abbrev pub sum_of : MemRef → ℕ → List Value → ℕ
sum_of mem next parts = (number parts 0 + number parts 1 * mem.scale + mem.disp + (if mem.from_rip then next else 0)) % 2 ^ 64

abbrev pub sum_at : Operand → ℕ → List Value → ℕ
sum_at (Memory mem) next parts = sum_of mem next parts
sum_at _ next parts = 0

-- where an operand lies, by what the registers of its address hold
abbrev pub place_at : ℕ → Width → Operand → List Value → Place
place_at next width Absent parts = place.Fixed 0
place_at next width (Whole reg) parts = place.Low reg width
place_at next width (High reg) parts = place.High reg
place_at next width (Memory mem) parts = place.Bytes (sum_of mem next parts) width
place_at next width (Imm value) parts = place.Fixed (low width value)

-- at a vCPU, at a width of an instruction
abbrev pub place_of : Insn → Width → Operand → Vcpu → Place
place_of i width operand v = place_at (setting v i.len).next width operand (map (read v) (address_places operand))

-- the plan at an operand's place
abbrev pub at_operand : Setting → Width → Operand → (Place → Plan) → Plan
at_operand s width operand plan = Looks Address (address_places operand) (λ parts. plan (place_at s.next width operand parts))

-- What an instruction comes to at a vCPU.
pub data Stepped : Type 0 where
  Moved : (vcpu : Vcpu) → Stepped
  Exits : (event : Event) → (vcpu : Vcpu) → Stepped
  Stops : (end : End) → (vcpu : Vcpu) → Stepped

-- the private step, or the event that is asked
abbrev pub stepped : Vcpu → Plan → Stepped
stepped v (Ends end) = Stops end v
stepped v Next = Moved v
stepped v (Then change rest) = stepped (apply change v) rest
stepped v (Looks kind places next) = stepped v (next (map (read v) places))
stepped v (Asks event done) = Exits event v

-- the event that is asked, if one is
abbrev pub event_asked : Vcpu → Plan → Option Event
event_asked v (Looks kind places next) = event_asked v (next (map (read v) places))
event_asked v (Asks event done) = Some event
event_asked v _ = None

-- the reply to one access
abbrev pub reply_with : Values → Reply
reply_with values = record { values = values; bytes = [] }

-- how the instruction goes on with the reply to its event; one that asks nothing isn't answered
abbrev pub step_answered : Reply → Vcpu → Plan → Stepped
step_answered reply v (Looks kind places next) = step_answered reply v (next (map (read v) places))
step_answered reply v (Asks event done) = stepped v (done reply)
step_answered reply v _ = Stops Undecoded v

-- how a vCPU ends that an instruction stops
abbrev pub end_of : Stop → End
end_of stop.Halted = ends.Halted
end_of (stop.BadAddress at) = ends.BadAddress at
end_of (stop.Fault vector) = ends.Fault vector

-- what an instruction comes to, by what the code returned and the vCPU then
abbrev pub step_result : {A : Type 0} → Result A Stop → Vcpu → Stepped
step_result (Ok _) v = Moved v
step_result (Err stop) v = Stops (end_of stop) v

-- code that returned this did with these registers and this RAM what an instruction's plan says
abbrev pub Does : {A : Type 0} → Result A Stop → Regs → ram_of.Memory → Regs → ram_of.Memory → Insn → (Setting → Plan) → Type 0
Does result regs ram regs_after ram_after i plan = let v = vcpu regs ram in step_result result (vcpu regs_after ram_after) ≡ stepped v (plan (setting v i.len))

-- and code that changes registers alone, and can't stop
abbrev pub Moves : Regs → Regs → Insn → (Setting → Plan) → Type 0
Moves regs regs_after i plan = (ram : ram_of.Memory) → let v = vcpu regs ram in Moved (vcpu regs_after ram) ≡ stepped v (plan (setting v i.len))
