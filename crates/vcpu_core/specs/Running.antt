-- A vCPU goes on to its next exit.
use Rattle.std.specs.Prelude.{ℕ, ◌+◌, ◌<◌, List, [], ◌∷◌}
use Rattle.page_words.specs.declared.item.Item.{Item}
use Rattle.page_words.specs.declared.item.Item.TheVariants.{Exit}
use Rattle.event_table.specs.Lawful.{count_of}
use Rattle.guest_interp.specs.Stepping.{Counted, Standstill, Waits, Ended, next_within}
use Rattle.vc_handler.specs.Version.{question}
use Rattle.vc_handler.specs.Wire.{wire}
use Rattle.vcpu_core.specs.Phase.{Phase}
use Rattle.vcpu_core.specs.Phase as phase
use Rattle.vcpu_core.specs.declared.vcpu.Progress.{Progress}
use Rattle.vcpu_core.specs.declared.vcpu.Progress.TheVariants as progress
use Rattle.vcpu_core.specs.State.{State, state}

-- vCPU i where a plain one stops: it waits for the event, or has ended
abbrev pub state_stopped : ℕ → Standstill → State
state_stopped i (Waits event c) = state i c (phase.Waits event)
state_stopped i (Ended end c) = state i c (phase.Ended end)

-- what is said there: the event's wire form, or nothing
abbrev pub items_said_at : ℕ → Standstill → List Item
items_said_at i (Waits event c) = wire i event
items_said_at i (Ended end c) = []

-- A new vCPU asks the host for its versions, and one that goes by itself comes to its next stop; any other stays.
abbrev pub advanced_by : Phase → ℕ → ℕ → Counted → State
advanced_by phase.New budget i c = state i c phase.Asked
advanced_by phase.Going budget i c = state_stopped i (next_within budget c)
advanced_by stays budget i c = state i c stays

abbrev pub state_advanced : ℕ → State → State
state_advanced budget s = advanced_by s.phase budget s.number s.cpu

-- what is said on the way
abbrev pub items_said_by : Phase → ℕ → ℕ → Counted → List Item
items_said_by phase.New budget i c = Exit question ∷ []
items_said_by phase.Going budget i c = items_said_at i (next_within budget c)
items_said_by _ budget i c = []

abbrev pub items_said : ℕ → State → List Item
items_said budget s = items_said_by s.phase budget s.number s.cpu

-- where one that goes by itself comes to an event, the event leads past the budget by less than 2,032 steps
abbrev pub IsWithinBy : Phase → Phase → ℕ → ℕ → Type 0
IsWithinBy phase.Going (phase.Waits event) budget steps = steps + count_of event < budget + 2032
IsWithinBy _ _ budget steps = Unit {0}

abbrev pub IsWithin : ℕ → State → State → Type 0
IsWithin budget old new = IsWithinBy old.phase new.phase budget new.cpu.steps

-- Ended where it has ended, and else it stands at an exit
abbrev pub progress_in : Phase → Progress
progress_in (phase.Ended end) = progress.Ended
progress_in _ = progress.Exited
