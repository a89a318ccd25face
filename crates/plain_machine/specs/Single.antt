-- Single accesses, each element of string I/O one: what the plain run does of an event. What the two ends of a page do
-- of it is done at once.
use Rattle.std.specs.Prelude.{◌≡◌, ℕ, zero, suc, length, Option, Some, None, option_and_then, Result, Ok, Err}
use Rattle.x86_base.specs.declared.insn.Insn.{Insn}
use Rattle.image_file.specs.Image.{Contents}
use Rattle.event_table.specs.declared.end.End.{End}
use Rattle.event_table.specs.declared.end.End.TheVariants.{Undecoded}
use Rattle.event_table.specs.declared.event.Event.{Event}
use Rattle.event_table.specs.declared.event.Event.TheVariants.{One, Many}
use Rattle.event_table.specs.Events.{exit_of}
use Rattle.event_table.specs.Lawful.{count_of}
use Rattle.event_table.specs.Places.{Vcpu}
use Rattle.event_table.specs.Plan.{Plan, Ends, Stepped, Moved, Exits, Stops, apart, event_asked, reply_with, step_answered}
use Rattle.event_table.specs.Raising.{step_raised}
use Rattle.device_bus.specs.declared.answer.Answer.{Answer}
use Rattle.device_bus.specs.declared.answer.Answer.TheVariants.{Done, Raise}
use Rattle.device_bus.specs.Devices.{Devices, answer, after_access}
use Rattle.device_bus.specs.History.{after_event, bytes_to}
use Rattle.guest_interp.specs.Stepping.{insn_at, results_of, step_of}
use Rattle.string_io.specs.Blocks.{bytes_reply}

-- what a vCPU comes to by accesses of the devices, and the devices then
pub record Accessed : Type 0 where
  pub stands : Stepped
  pub devices : Devices

abbrev pub accessed : Stepped → Devices → Accessed
accessed stands devices = record { stands = stands; devices = devices }

-- the plan of the instruction at RIP, where each element of string I/O is an event of its own
abbrev pub alone_by : Result Insn End → Vcpu → Plan
alone_by (Ok insn) v = exit_of insn (apart v insn.len)
alone_by (Err end) v = Ends Undecoded

unfoldable pub alone_at : Vcpu → Plan
alone_at v = alone_by (insn_at v.ram v.regs.rip) v

-- how the instruction goes on with the answer to its access
abbrev pub single_answered : Contents → Answer → Vcpu → Plan → Stepped
single_answered image (Done values) v plan = step_answered (reply_with values) v plan
single_answered image (Raise vector code) v plan = step_raised image vector code v

abbrev pub single_by : Contents → ℕ → Option Event → Vcpu → Plan → Devices → Option Accessed
single_by image i (Some (One access)) v plan d =
    Some (accessed (single_answered image (answer d i access) v plan) (after_access d i access))
single_by image i (Some (Many block)) v plan d = None
single_by image i None v plan d = None

-- One access of vCPU i: it must ask for one, the devices answer, and the results are placed or the exception is
-- delivered.
abbrev pub single : Contents → ℕ → Vcpu → Devices → Option Accessed
single image i v d = single_by image i (event_asked v (alone_at v)) v (alone_at v) d

-- the vCPU must have gone on
abbrev pub single_from : Contents → ℕ → Stepped → Devices → Option Accessed
single_from image i (Moved v) d = single image i v d
single_from image i (Exits event v) d = None
single_from image i (Stops end v) d = None

-- so many accesses, one after another
abbrev pub singles : Contents → ℕ → ℕ → Stepped → Devices → Option Accessed
singles image i zero stands d = Some (accessed stands d)
singles image i (suc n) stands d =
    option_and_then (λ a. singles image i n a.stands a.devices) (single_from image i stands d)

-- how the instruction goes on with what the devices say to its event
abbrev pub answer_applied : Contents → Answer → Vcpu → Stepped
answer_applied image (Done values) v = results_of (reply_with values) v
answer_applied image (Raise vector code) v = step_raised image vector code v

abbrev pub event_applied : Contents → ℕ → Event → Vcpu → Devices → Stepped
event_applied image i (One access) v d = answer_applied image (answer d i access) v
event_applied image i (Many block) v d = results_of (bytes_reply (bytes_to d i block)) v

-- An event at once: the devices do all its accesses, and then its reply is placed.
abbrev pub at_once : Contents → ℕ → Event → Vcpu → Devices → Accessed
at_once image i event v d = accessed (event_applied image i event v d) (after_event d i event)

-- An event that a vCPU asks for, done at once, is its accesses one after another.
abbrev pub EventsAreSingles : Type 0
EventsAreSingles = (image : Contents) (i : ℕ) (event : Event) (v : Vcpu) (d : Devices) → length v.regs.gpr ≡ 16 →
    step_of v ≡ Exits event v → singles image i (count_of event) (Moved v) d ≡ Some (at_once image i event v d)
