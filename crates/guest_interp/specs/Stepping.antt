-- The private step, and how far a vCPU goes by itself.
use Rattle.std.specs.Prelude.{◌≡◌, ℕ, zero, suc, ◌+◌, ◌-◌, Bool, true, false, if◌then◌else◌, nat_lt, Some, Result, Ok, Err}
use Rattle.x86_base.specs.declared.insn.Insn.{Insn}
use Rattle.insn_decode.specs.declared.fault.DecodeFault.{DecodeFault}
use Rattle.insn_decode.specs.declared.fault.DecodeFault.TheVariants as fault
use Rattle.insn_decode.specs.Reading.{decode_of}
use Rattle.image_file.specs.Image.{Contents}
use Rattle.image_file.specs.Ram.{Memory, code_from}
use Rattle.event_table.specs.declared.end.End.{End}
use Rattle.event_table.specs.declared.end.End.TheVariants as ends
use Rattle.event_table.specs.declared.event.Event.{Event}
use Rattle.event_table.specs.declared.outcome.Reply.{Reply}
use Rattle.event_table.specs.Events.{asked_by, event_plan, exit_of, vc_code}
use Rattle.event_table.specs.Opening.{opening_vcpu}
use Rattle.event_table.specs.Places.{Vcpu}
use Rattle.event_table.specs.Plan.{Plan, Ends, Setting, setting, Stepped, Moved, Exits, Stops, stepped, step_answered, end_of}
use Rattle.guest_interp.specs.declared.stepping.Next.{Next}
use Rattle.guest_interp.specs.declared.stepping.Next.TheVariants.{Went, Vc, Ended as Stopped}
use Rattle.guest_interp.specs.Table.{private_of}

-- what an instruction does: the event table's plan, or the private one
abbrev pub plan_of : Insn → Setting → Plan
plan_of i s = event_plan i s (private_of i s)

-- at a vCPU
abbrev pub stepped_by : Insn → Vcpu → Stepped
stepped_by i v = stepped v (plan_of i (setting v i.len))

-- the instruction exits for an event, with this exit code
pub record IsExit (code : ℕ) (i : Insn) (v : Vcpu) : Type 0 where
  pub event : Event
  pub exits : stepped_by i v ≡ Exits event v
  pub is_named : asked_by i v ≡ Some event
  pub is_code : code ≡ vc_code event

-- the instruction is over, or asks for an event with nothing changed, or ends the vCPU with nothing changed
abbrev pub Comes : Next → Insn → Vcpu → Vcpu → Type 0
Comes Went i v w = stepped_by i v ≡ Moved w
Comes (Vc code) i v w = (w ≡ v) × IsExit code i v
Comes (Stopped stop) i v w = (w ≡ v) × (stepped_by i v ≡ Stops (end_of stop) v)

abbrev pub is_vc : Next → Bool
is_vc (Vc code) = true
is_vc _ = false

-- The instruction at RIP, or the end where there is none: the first byte after the code is missing, or the
-- one at RIP where it isn't below the code's end.
abbrev pub fetched : ℕ → ℕ → Result Insn DecodeFault → Result Insn End
fetched code rip (Ok insn) = Ok insn
fetched code rip (Err fault.Short) = Err (ends.BadAddress (if nat_lt rip code then code else rip))
fetched code rip (Err fault.TooLong) = Err ends.Undecoded
fetched code rip (Err fault.Undecoded) = Err ends.Undecoded

-- `decode_of` is told by the spellings alone in the law `read_by_spelling` of `insn_decode`
abbrev pub insn_at : Memory → ℕ → Result Insn End
insn_at ram rip = fetched ram.code rip (decode_of (code_from ram rip))

abbrev pub plan_by : Result Insn End → Vcpu → Plan
plan_by (Ok insn) v = plan_of insn (setting v insn.len)
plan_by (Err end) v = Ends end

abbrev pub exit_by : Result Insn End → Vcpu → Plan
exit_by (Ok insn) v = exit_of insn (setting v insn.len)
exit_by (Err end) v = Ends ends.Undecoded

-- one instruction of a vCPU
unfoldable pub step_of : Vcpu → Stepped
step_of v = stepped v (plan_by (insn_at v.ram v.regs.rip) v)

-- how it goes on with the reply to the event that its instruction asks
unfoldable pub results_of : Reply → Vcpu → Stepped
results_of reply v = step_answered reply v (exit_by (insn_at v.ram v.regs.rip) v)

-- a vCPU with the steps that it has counted
pub record Counted : Type 0 where
  pub vcpu : Vcpu
  pub steps : ℕ

abbrev pub at_count : Vcpu → ℕ → Counted
at_count v steps = record { vcpu = v; steps = steps }

-- vCPU i of an image as it starts
abbrev pub start_of : Contents → ℕ → Counted
start_of image i = at_count (opening_vcpu image i) 0

-- the steps of an end: HLT counts its own
abbrev pub counted : End → ℕ → ℕ
counted ends.Halted steps = steps + 1
counted _ steps = steps

-- Where a vCPU stops: it waits for an event, or has ended.
pub data Standstill : Type 0 where
  Waits : (event : Event) → (vcpu : Counted) → Standstill
  Ended : (end : End) → (vcpu : Counted) → Standstill

-- where it stops after an instruction, if `more` tells where one that moved on stops
abbrev pub stop_after : ℕ → Stepped → (Counted → Standstill) → Standstill
stop_after steps (Moved v) more = more (at_count v (steps + 1))
stop_after steps (Exits event v) more = Waits event (at_count v steps)
stop_after steps (Stops end v) more = Ended end (at_count v (counted end steps))

-- Where it stops once an event of so many accesses is answered, which is as many steps; an exception in its place is one.
-- An answer asks nothing more, so that it never exits: the law OwnEnds says so.
abbrev pub stop_answered : ℕ → ℕ → Stepped → (Counted → Standstill) → Standstill
stop_answered count steps (Moved v) more = more (at_count v (steps + count))
stop_answered count steps (Exits event v) more = Waits event (at_count v (steps + count))
stop_answered count steps (Stops end v) more = Ended end (at_count v (counted end steps))

-- where a vCPU stops by itself, with so many steps left: it ends where none is
abbrev pub next_of : ℕ → Counted → Standstill
next_of zero c = Ended ends.Spent c
next_of (suc left) c = stop_after c.steps (step_of c.vcpu) (λ gone. next_of left gone)

-- where it stops within its budget
abbrev pub next_within : ℕ → Counted → Standstill
next_within budget c = next_of (budget - c.steps) c
