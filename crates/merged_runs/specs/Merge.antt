-- A history that many workers made, one for each vCPU, and the plain run along its order.
use Rattle.std.specs.Prelude.{ℕ, ◌≡◌, ◌≢◌, ◌⊎◌, ◌+◌, ◌<◌, ◌≤◌, true, List, [], ◌∷◌, length, take, Some, slice_get}
use Rattle.image_file.specs.Image.{Contents}
use Rattle.event_table.specs.declared.event.Event.{Event}
use Rattle.event_table.specs.declared.turn.Entry.{Entry}
use Rattle.event_table.specs.Turns.{turns_of}
use Rattle.guest_interp.specs.Stepping.{Counted, Standstill, Waits, next_within, start_of}
use Rattle.device_bus.specs.Devices.{Devices, opening}
use Rattle.device_bus.specs.History.{after_event, after_history}
use Rattle.plain_machine.specs.Plain.{Machine, all_ended, plain_run, stop_after_event}

-- k is one of the numbers
abbrev pub IsAmong : ℕ → List ℕ → Type 0
IsAmong k [] = ⊥
IsAmong k (n ∷ ns) = (k ≡ n) ⊎ IsAmong k ns

-- What a worker knows of its vCPU i. In the known history its entries stand at these numbers, which rise from low on.
-- From the one stop the vCPU came to the other: at each number it waited for that entry's event, and went on with what
-- the devices say after the entries before it.
abbrev pub Comes : Contents → ℕ → Devices → ℕ → List Entry → ℕ → List ℕ → Standstill → Standstill → Type 0
Comes image budget d i known low [] from to = from ≡ to
Comes image budget d i known low (k ∷ ks) from to =
    (low ≤ k) × (event : Event) × (c : Counted)
    × (slice_get known k ≡ Some (record { vcpu = i; event = event })) × (from ≡ Waits event c)
    × Comes image budget d i known (k + 1) ks (stop_after_event image budget i event c (after_history d (take k known))) to

-- Along the entries vCPU i came from the one stop to the other: each of its entries is the event that it waited for
-- there, and it went on with what the devices said; at the others it stood still.
abbrev pub Passes : Contents → ℕ → ℕ → Devices → List Entry → Standstill → Standstill → Type 0
Passes image budget i d [] from to = from ≡ to
Passes image budget i d (x ∷ xs) from to =
    ((x.vcpu ≢ i) × Passes image budget i (after_event d x.vcpu x.event) xs from to)
    ⊎ ((x.vcpu ≡ i) × (c : Counted) × (from ≡ Waits x.event c)
    × Passes image budget i (after_event d x.vcpu x.event) xs (stop_after_event image budget i x.event c d) to)

-- Each vCPU had its worker, with the numbers of its entries, which came from the vCPU's start to its end; and each
-- entry of the history is one of a worker's.
pub record Made (image : Contents) (budget : ℕ) (input : List ℕ) (log : List Entry) (owns : List (List ℕ))
    (last : List Standstill) : Type 0 where
  pub owned : length owns ≡ image.header.vcpus
  pub lasting : length last ≡ image.header.vcpus
  pub came : (i : ℕ) (own : List ℕ) (to : Standstill) → slice_get owns i ≡ Some own → slice_get last i ≡ Some to →
      Comes image budget (opening image.header.vcpus input) i log 0 own (next_within budget (start_of image i)) to
  pub over : all_ended last ≡ true
  pub each : (k : ℕ) → k < length log → (i : ℕ) × (own : List ℕ) × (slice_get owns i ≡ Some own) × IsAmong k own

-- the machine that such a history leaves
abbrev pub machine_of : Contents → List ℕ → List Entry → List Standstill → Machine
machine_of image input log last =
    record { stops = last; devices = after_history (opening image.header.vcpus input) log; events = log }

-- The order of such a history has a plain run. Its events are the history's, its devices what the history leaves, and
-- its vCPUs stop where the workers came to, so its steps and its ends are theirs. Each vCPU's entries are those of its
-- worker, each once, in its order.
abbrev pub MadeHistoriesRun : Type 0
MadeHistoriesRun = (image : Contents) (budget : ℕ) (input : List ℕ) (log : List Entry) (owns : List (List ℕ))
    (last : List Standstill) → Made image budget input log owns last →
    (plain_run image budget input (turns_of log) ≡ Some (machine_of image input log last))
    × ((i : ℕ) (to : Standstill) → slice_get last i ≡ Some to →
    Passes image budget i (opening image.header.vcpus input) log (next_within budget (start_of image i)) to)
