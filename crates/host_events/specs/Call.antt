-- What a vCPU asks for.
use Rattle.std.specs.Prelude.{ℕ}
use Rattle.event_table.specs.declared.event.Event.{Event}
use Rattle.host_events.specs.declared.request.BadPage.{BadPage}

pub data Call : Type 0 where
  -- nothing that is answered
  Nothing : Call
  -- the protocol versions, and the page table bit that marks encrypted memory
  SevInfo : Call
  -- one register of a CPUID function: 0 EAX, 1 EBX, 2 ECX, 3 EDX
  Cpuid : (function : ℕ) → (register : ℕ) → Call
  -- nothing that can be answered, since its page breaks a rule
  Malformed : (bad : BadPage) → Call
  -- an event
  Asked : (event : Event) → Call
