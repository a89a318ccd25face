-- A vCPU between two calls.
use Rattle.std.specs.Prelude.{ℕ, ◌+◌, ◌-◌, ◌^◌, ◌<◌, Bool, true, false, Option, Some, None}
use Rattle.event_table.specs.declared.end.End.{End}
use Rattle.event_table.specs.declared.event.Event.{Event}
use Rattle.event_table.specs.Lawful.{IsLawfulEvent, count_of}
use Rattle.guest_interp.specs.Stepping.{Counted}
use Rattle.guest_interp.specs.Guest.{IsAsking, counted_vcpu, vcpu_in}
use Rattle.vcpu_core.specs.declared.handled_guest.HandledGuest.{HandledGuest}
use Rattle.vcpu_core.specs.declared.stage.Stage.{Stage}
use Rattle.vcpu_core.specs.declared.stage.Stage.TheVariants as stage
use Rattle.vcpu_core.specs.Phase.{Phase, New, Asked, Going, Waits, Ended}

-- its number, the plain vCPU with its counted steps, and where it stands
pub record State : Type 0 where
  pub number : ℕ
  pub cpu : Counted
  pub phase : Phase

abbrev pub state : ℕ → Counted → Phase → State
state number cpu phase = record { number = number; cpu = cpu; phase = phase }

-- where the code stands, with the event and the end that stand beside it: only a vCPU that waits has an event, and only
-- one that has ended has an end
abbrev pub phase_at : Stage → Event → End → Phase
phase_at stage.New event end = New
phase_at stage.Asked event end = Asked
phase_at stage.Going event end = Going
phase_at stage.Waits event end = Waits event
phase_at stage.Ended event end = Ended end

-- a guest with its handler, and where it stands
abbrev pub standing : HandledGuest → Stage → State
standing g stage = state g.vc (counted_vcpu g.guest) (phase_at stage g.event g.end)

-- the end, where it has ended
abbrev pub end_in : Phase → Option End
end_in (Ended end) = Some end
end_in _ = None

-- it waits for the host's versions, or for the reply to an event
abbrev pub is_waiting : Phase → Bool
is_waiting Asked = true
is_waiting (Waits event) = true
is_waiting _ = false

-- how many accesses the event is that waits: none is the version exchange
abbrev pub pending_in : Phase → ℕ
pending_in (Waits event) = count_of event
pending_in _ = 0

-- the event that waits is lawful
abbrev pub IsLawfulPhase : Phase → Type 0
IsLawfulPhase (Waits event) = IsLawfulEvent event
IsLawfulPhase _ = Unit {0}

-- the instruction, which is at RIP, asks the event that waits
abbrev pub IsThere : Stage → HandledGuest → Type 0
IsThere stage.Waits g = IsAsking g.insn g.event (vcpu_in g.guest)
IsThere _ g = Unit {0}

-- the event that waits is lawful, and its steps are left for it, and one for an exception
abbrev pub IsKept : Stage → HandledGuest → Type 0
IsKept stage.Waits g =
    IsLawfulEvent g.event × (g.guest.steps < 2 ^ 64 - 1) × (g.guest.steps + count_of g.event < 2 ^ 64)
IsKept _ g = Unit {0}

-- it waits for nothing
abbrev pub IsResting : Stage → Type 0
IsResting stage.Asked = ⊥
IsResting stage.Waits = ⊥
IsResting _ = Unit {0}
