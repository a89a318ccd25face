-- What the code notes of an instruction.
use Rattle.std.specs.Prelude.{ℕ, ◌<◌, Option, None, Some}
use Rattle.x86_base.specs.declared.insn.Insn.{Insn}
use Rattle.event_table.specs.declared.event.Event.{Event}
use Rattle.event_table.specs.Lawful.{IsLawfulEvent}
use Rattle.event_table.specs.Places.{Vcpu}
use Rattle.event_table.specs.Plan.{Use, Address, Branch, Named}
use Rattle.guest_interp.specs.Guest.{IsAsking}
use Rattle.guest_interp.specs.Stepping.{Counted, Waits, Ended}
use Rattle.secret_labels.specs.Following.{Met as Follow, Leaks, Stands}
use Rattle.secret_labels.specs.Labels.{Labels, Noted, Uses, Quiet}
use Rattle.secret_labels.specs.declared.stepping.Met.{Met}
use Rattle.secret_labels.specs.declared.stepping.Met.TheVariants as met
use Rattle.secret_labels.specs.declared.verdict.What.{What}
use Rattle.secret_labels.specs.declared.verdict.What.TheVariants as what

abbrev pub use_of : What → Use
use_of what.Address = Address
use_of what.Branch = Branch
use_of what.Named = Named

-- a use, or the labels then
abbrev pub as_noted : Option What → Labels → Noted
as_noted None l = Quiet l
as_noted (Some what) l = Uses (use_of what)

-- where it comes to, with what is in the event's place, the labels and the vCPU then
abbrev pub as_met : Met → Event → Labels → Counted → Follow
as_met (met.Leaks what) event l c = Leaks c.steps (use_of what)
as_met met.Waits event l c = Stands l (Waits event c)
as_met (met.Ends end) event l c = Stands l (Ended end c)

-- what it waits for is lawful, and a step is left for it
abbrev pub IsLawfulMet : Met → Event → ℕ → ℕ → Type 0
IsLawfulMet met.Waits event steps budget = IsLawfulEvent event × (steps < budget)
IsLawfulMet _ event steps budget = Unit {0}

-- where it waits, this instruction, which is at RIP, asks the event
abbrev pub IsMetBy : Met → Event → Insn → Vcpu → Type 0
IsMetBy met.Waits event insn v = IsAsking insn event v
IsMetBy _ event insn v = Unit {0}
