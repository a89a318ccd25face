-- What the values of the guest's code mean: from each of its enums to that of the definitions.
use Rattle.std.specs.Prelude.{◌≡◌, ℕ, ◌+◌, ◌<◌, Bool, true, false, Option, Some, None, Result, Ok, Err}
use Rattle.x86_base.specs.declared.insn.Insn.{Insn}
use Rattle.event_table.specs.declared.end.End.{End}
use Rattle.event_table.specs.declared.event.Event.{Event}
use Rattle.event_table.specs.Events.{asked_by}
use Rattle.event_table.specs.Lawful.{IsLawfulEvent}
use Rattle.event_table.specs.Places.{Vcpu, vcpu}
use Rattle.event_table.specs.Plan.{Stepped, Moved, Exits, Stops, end_of}
use Rattle.guest_interp.specs.Stepping.{Counted, at_count, counted, insn_at, Standstill, Waits, Ended}
use Rattle.guest_interp.specs.declared.guest.Guest.{Guest}
use Rattle.guest_interp.specs.declared.guest.Step.{Step}
use Rattle.guest_interp.specs.declared.guest.Step.TheVariants as step
use Rattle.guest_interp.specs.declared.guest.Stop.{Stop}
use Rattle.guest_interp.specs.declared.guest.Stop.TheVariants as stops
use Rattle.guest_interp.specs.declared.stepping.Unfinished.{Unfinished}
use Rattle.guest_interp.specs.declared.stepping.Unfinished.TheVariants as unfinished

-- the vCPU of the code, and its counted steps
abbrev pub vcpu_in : Guest → Vcpu
vcpu_in g = vcpu g.regs g.ram

abbrev pub counted_vcpu : Guest → Counted
counted_vcpu g = at_count (vcpu_in g) g.steps

-- what an instruction comes to by whether it is over, with what it else is and with what is in the event's place: it is
-- over, asks for that event, or stops
abbrev pub tried : Bool → Unfinished → Event → Vcpu → Stepped
tried true _ event v = Moved v
tried false unfinished.Asks event v = Exits event v
tried false (unfinished.Stops stop) event v = Stops (end_of stop) v

-- the event that was asked
abbrev pub asked_in : Bool → Unfinished → Event → Option Event
asked_in true _ event = None
asked_in false unfinished.Asks event = Some event
asked_in false (unfinished.Stops stop) event = None

-- nothing has changed, but where the instruction is over
abbrev pub IsUntouched : Bool → Vcpu → Vcpu → Type 0
IsUntouched true old new = Unit {0}
IsUntouched false old new = new ≡ old

-- what an instruction came to, with what is in the event's place and the vCPU then
abbrev pub as_stepped : Step → Event → Vcpu → Stepped
as_stepped step.Goes event v = Moved v
as_stepped step.Asks event v = Exits event v
as_stepped (step.Ends end) event v = Stops end v

-- the steps then
abbrev pub steps_then : Step → ℕ → ℕ
steps_then step.Goes steps = steps + 1
steps_then step.Asks steps = steps
steps_then (step.Ends end) steps = counted end steps

-- what came of an exception, with the vCPU then
abbrev pub as_placed : {A : Type 0} → Result A End → Vcpu → Stepped
as_placed (Ok _) v = Moved v
as_placed (Err end) v = Stops end v

-- the steps then
abbrev pub steps_placed : {A : Type 0} → Result A End → ℕ → ℕ
steps_placed (Ok _) steps = steps + 1
steps_placed (Err end) steps = counted end steps

-- where it stops, with what is in the event's place
abbrev pub as_stop : Stop → Event → Counted → Standstill
as_stop stops.Waits event c = Waits event c
as_stop (stops.Ends end) event c = Ended end c

-- what it asks for is lawful
abbrev pub IsLawfulStep : Step → Event → Type 0
IsLawfulStep step.Asks event = IsLawfulEvent event
IsLawfulStep _ event = Unit {0}

-- what it waits for is lawful, and a step is left for it
abbrev pub IsLawfulStop : Stop → Event → ℕ → ℕ → Type 0
IsLawfulStop stops.Waits event steps budget = IsLawfulEvent event × (steps < budget)
IsLawfulStop (stops.Ends end) event steps budget = Unit {0}

-- where an event is asked, nothing has changed
abbrev pub IsStill : Step → Vcpu → Vcpu → Type 0
IsStill step.Asks old new = new ≡ old
IsStill _ old new = Unit {0}

-- the instruction at RIP
abbrev pub IsInsnAt : Insn → Vcpu → Type 0
IsInsnAt insn v = Ok insn ≡ insn_at v.ram v.regs.rip

-- where an event is asked, this instruction asks it
abbrev pub IsNamedBy : Step → Event → Insn → Vcpu → Type 0
IsNamedBy step.Asks event insn v = asked_by insn v ≡ Some event
IsNamedBy _ event insn v = Unit {0}

-- the instruction at RIP asks this event
pub record IsAsking (insn : Insn) (event : Event) (v : Vcpu) : Type 0 where
  pub there : IsInsnAt insn v
  pub asks : asked_by insn v ≡ Some event

-- where an event is asked, this instruction, which is at RIP, asks it
abbrev pub IsAskedBy : Step → Event → Insn → Vcpu → Type 0
IsAskedBy step.Asks event insn v = IsAsking insn event v
IsAskedBy _ event insn v = Unit {0}

-- and where it waits for an event
abbrev pub IsWaitedBy : Stop → Event → Insn → Vcpu → Type 0
IsWaitedBy stops.Waits event insn v = IsAsking insn event v
IsWaitedBy (stops.Ends end) event insn v = Unit {0}
