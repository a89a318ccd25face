-- The plain machine: guests and devices alone, with no page, handler or host.
use Rattle.std.specs.Prelude.{◌≡◌, ℕ, suc, zero, ◌==◌, ◌+◌, Bool, true, false, ◌&&◌, if◌then◌else◌, List, [], ◌∷◌, ◌++◌, Option, Some, None, option_and_then, option_map, slice_get, slice_set}
use Rattle.image_file.specs.Image.{Contents}
use Rattle.event_table.specs.declared.end.End.{End}
use Rattle.event_table.specs.declared.event.Event.{Event}
use Rattle.event_table.specs.declared.turn.Turn.{Turn}
use Rattle.event_table.specs.Lawful.{count_of}
use Rattle.event_table.specs.Plan.{Moved}
use Rattle.event_table.specs.declared.turn.Entry.{Entry}
use Rattle.device_bus.specs.Devices.{Devices, opening}
use Rattle.event_table.specs.Turns.{turns_of}
use Rattle.device_bus.specs.History.{IsLegal, after_event}
use Rattle.guest_interp.specs.Stepping.{start_of, Counted, Standstill, Waits, Ended, stop_answered, next_within}
use Rattle.plain_machine.specs.Single.{Accessed, at_once, singles}

-- where each vCPU stops, the devices, and the events so far
pub record Machine : Type 0 where
  pub stops : List Standstill
  pub devices : Devices
  pub events : List Entry

-- so many vCPUs from number i on, each gone on to its first event or its end
abbrev pub first_stops : Contents → ℕ → ℕ → ℕ → List Standstill
first_stops image budget i zero = []
first_stops image budget i (suc more) = next_within budget (start_of image i) ∷ first_stops image budget (i + 1) more

abbrev pub machine_at_start : Contents → ℕ → List ℕ → Machine
machine_at_start image budget input = record {
  stops = first_stops image budget 0 image.header.vcpus;
  devices = opening image.header.vcpus input;
  events = [];
}

-- where a vCPU stops next, once its event came to this
abbrev pub stop_by : ℕ → Event → Counted → Accessed → Standstill
stop_by budget event c a = stop_answered (count_of event) c.steps a.stands (λ gone. next_within budget gone)

abbrev pub stop_after_event : Contents → ℕ → ℕ → Event → Counted → Devices → Standstill
stop_after_event image budget i event c devices = stop_by budget event c (at_once image i event c.vcpu devices)

-- Where it stops once it got its item, the devices then, and the item: one that has ended gets none and stays.
abbrev pub stop_then : Contents → ℕ → ℕ → Standstill → Devices → Standstill
stop_then image budget i (Waits event c) devices = stop_after_event image budget i event c devices
stop_then image budget i (Ended end c) devices = Ended end c

abbrev pub devices_then : ℕ → Standstill → Devices → Devices
devices_then i (Waits event c) devices = after_event devices i event
devices_then i (Ended end c) devices = devices

abbrev pub turns_then : ℕ → Standstill → List Turn
turns_then i (Waits event c) = record { vcpu = i; count = count_of event } ∷ []
turns_then i (Ended end c) = []

-- the event of vCPU i is done
abbrev pub event_done : ℕ → ℕ → Event → Counted → Machine → Accessed → Machine
event_done budget i event c m a = record {
  stops = slice_set m.stops i (stop_by budget event c a);
  devices = a.devices;
  events = m.events ++ record { vcpu = i; event = event } ∷ [];
}

-- its accesses are done one after another: each is asked, answered and placed before the next
abbrev pub item_where : Contents → ℕ → Turn → Option Standstill → Machine → Option Machine
item_where image budget turn (Some (Waits event c)) m =
    if turn.count == count_of event
    then option_map (λ a. event_done budget turn.vcpu event c m a) (singles image turn.vcpu turn.count (Moved c.vcpu) m.devices)
    else None
item_where image budget turn (Some (Ended end c)) m = None
item_where image budget turn None m = None

-- one item of an order: the vCPU must wait, and the count must be its event's
abbrev pub item : Contents → ℕ → Machine → Turn → Option Machine
item image budget m turn = item_where image budget turn (slice_get m.stops turn.vcpu) m

abbrev pub along : Contents → ℕ → List Turn → Machine → Option Machine
along image budget [] m = Some m
along image budget (turn ∷ order) m = option_and_then (λ next. along image budget order next) (item image budget m turn)

abbrev pub has_ended : Standstill → Bool
has_ended (Waits event c) = false
has_ended (Ended end c) = true

abbrev pub all_ended : List Standstill → Bool
all_ended [] = true
all_ended (stop ∷ stops) = has_ended stop && all_ended stops

abbrev pub where_ended : Machine → Option Machine
where_ended m = if all_ended m.stops then Some m else None

-- The plain run along an order: none where an item's vCPU doesn't wait for such an event, or a vCPU hasn't ended after
-- the order.
abbrev pub plain_run : Contents → ℕ → List ℕ → List Turn → Option Machine
plain_run image budget input order =
    option_and_then where_ended (along image budget order (machine_at_start image budget input))

abbrev pub visit_where : Contents → ℕ → ℕ → Option Standstill → Machine → Machine
visit_where image budget i (Some (Waits event c)) m =
    event_done budget i event c m (at_once image i event c.vcpu m.devices)
visit_where image budget i (Some (Ended end c)) m = m
visit_where image budget i None m = m

-- vCPU i gets one item if it waits, at once, as the two ends of its page do it
abbrev pub visit : Contents → ℕ → ℕ → Machine → Machine
visit image budget i m = visit_where image budget i (slice_get m.stops i) m

-- the first so many vCPUs get theirs, in ascending number
abbrev pub visits : Contents → ℕ → ℕ → Machine → Machine
visits image budget zero m = m
visits image budget (suc k) m = visit image budget k (visits image budget k m)

-- so many rounds
abbrev pub rounds : Contents → ℕ → ℕ → Machine → Machine
rounds image budget zero m = m
rounds image budget (suc n) m = visits image budget image.header.vcpus (rounds image budget n m)

-- The machine after all rounds: each item adds a step to its vCPU or ends it, so no more rounds than the budget come.
abbrev pub rounds_machine : Contents → ℕ → List ℕ → Machine
rounds_machine image budget input = rounds image budget budget (machine_at_start image budget input)

-- the order of rounds, until all have ended
abbrev pub rounds_order : Contents → ℕ → List ℕ → List Turn
rounds_order image budget input = turns_of (rounds_machine image budget input).events

abbrev pub vcpu_of : Standstill → Counted
vcpu_of (Waits event c) = c
vcpu_of (Ended end c) = c

-- the steps of each vCPU by its number
abbrev pub steps_of : List Standstill → List ℕ
steps_of [] = []
steps_of (stop ∷ stops) = (vcpu_of stop).steps ∷ steps_of stops

-- the end, where it has ended
abbrev pub end_of : Standstill → Option End
end_of (Waits event c) = None
end_of (Ended end c) = Some end

-- the ends of those that have ended, by their numbers
abbrev pub ends_of : List Standstill → List End
ends_of [] = []
ends_of (Waits event c ∷ stops) = ends_of stops
ends_of (Ended end c ∷ stops) = end ∷ ends_of stops

-- The order of rounds has a plain run, which is the machine after all rounds, and its history is legal.
abbrev pub RoundsRun : Type 0
RoundsRun = (image : Contents) (budget : ℕ) (input : List ℕ) →
    (plain_run image budget input (rounds_order image budget input) ≡ Some (rounds_machine image budget input))
    × IsLegal (rounds_machine image budget input).events (rounds_machine image budget input).devices image.header.vcpus input
