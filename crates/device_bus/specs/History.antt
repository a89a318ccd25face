-- Events and histories of the devices: their accesses, one after another.
use Rattle.std.specs.Prelude.{◌≡◌, ℕ, if◌then◌else◌, List, [], ◌∷◌, map}
use Rattle.event_table.specs.declared.access.Access.{Access}
use Rattle.event_table.specs.declared.block.Block.{Block}
use Rattle.event_table.specs.declared.event.Event.{Event}
use Rattle.event_table.specs.declared.event.Event.TheVariants.{Many}
use Rattle.event_table.specs.declared.turn.Entry.{Entry}
use Rattle.event_table.specs.Elements.{accesses_of, bytes_in}
use Rattle.event_table.specs.Places.{Number}
use Rattle.device_bus.specs.declared.answer.Answer.{Answer}
use Rattle.device_bus.specs.declared.answer.Answer.TheVariants.{Done, Raise}
use Rattle.device_bus.specs.Devices.{Devices, opening, answer, after_access}

-- the devices after accesses, in order
abbrev pub after_accesses : Devices → ℕ → List Access → Devices
after_accesses d i [] = d
after_accesses d i (access ∷ accesses) = after_accesses (after_access d i access) i accesses

-- the devices after the accesses of an event
abbrev pub after_event : Devices → ℕ → Event → Devices
after_event d i event = after_accesses d i (accesses_of event)

-- the result in RAX
abbrev pub value_in : Answer → ℕ
value_in (Done values) = values.a
value_in (Raise vector code) = 0

-- what the devices say to accesses, each after the ones before it
abbrev pub values_to : Devices → ℕ → List Access → List ℕ
values_to d i [] = []
values_to d i (access ∷ accesses) = value_in (answer d i access) ∷ values_to (after_access d i access) i accesses

-- the bytes that come back of a block: of input what the devices say, each value in the size of an element
abbrev pub bytes_to : Devices → ℕ → Block → List ℕ
bytes_to d i b =
    if b.input then bytes_in b.size (map (λ value. Number value) (values_to d i (accesses_of (Many b)))) else []

-- the devices after the accesses of a history, in order
abbrev pub after_history : Devices → List Entry → Devices
after_history d [] = d
after_history d (entry ∷ entries) = after_history (after_event d entry.vcpu entry.event) entries

-- A history is legal where the devices are what its accesses leave of the opened ones.
abbrev pub IsLegal : List Entry → Devices → ℕ → List ℕ → Type 0
IsLegal entries devices vcpus input = devices ≡ after_history (opening vcpus input) entries
