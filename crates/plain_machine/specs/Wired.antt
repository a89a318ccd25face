-- A guest that waits for the devices, and what their answer counts.
use Rattle.std.specs.Prelude.{ℕ, ◌+◌, ◌^◌, ◌<◌, Result, Ok, Err}
use Rattle.event_table.specs.declared.end.End.{End}
use Rattle.event_table.specs.Lawful.{IsLawfulEvent, count_of}
use Rattle.guest_interp.specs.declared.guest.Stop.{Stop}
use Rattle.guest_interp.specs.declared.guest.Stop.TheVariants.{Waits, Ends}
use Rattle.guest_interp.specs.Guest.{IsAsking, vcpu_in}
use Rattle.guest_interp.specs.Stepping.{counted}
use Rattle.plain_machine.specs.declared.wired_guest.WiredGuest.{WiredGuest}

-- where it waits, its event is lawful, the instruction at RIP asks it, and its steps can be counted
abbrev pub IsKept : Stop → WiredGuest → Type 0
IsKept Waits g =
    IsLawfulEvent g.event × IsAsking g.insn g.event (vcpu_in g.guest) × (g.guest.steps + count_of g.event < 2 ^ 64)
IsKept (Ends end) g = Unit {0}

-- the steps once an event of so many accesses is answered, or its exception ends the guest
abbrev pub steps_answered : {A : Type 0} → Result A End → ℕ → ℕ → ℕ
steps_answered (Ok _) count steps = steps + count
steps_answered (Err end) count steps = counted end steps
