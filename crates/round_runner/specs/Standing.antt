-- What vCPUs over their pages, a host and an order stand for: a plain machine.
use Rattle.std.specs.Prelude.{◌≡◌, ℕ, zero, suc, ◌+◌, nat_lt, if◌then◌else◌, List, [], ◌∷◌, ◌++◌, length, Option, Some, None, IfSome, option_map}
use Rattle.page_words.specs.declared.item.Item.{Item}
use Rattle.page_words.specs.declared.item.Item.TheVariants.{Exit}
use Rattle.page_words.specs.Told.{blank, kept_after_all}
use Rattle.image_file.specs.Image.{Contents}
use Rattle.event_table.specs.declared.turn.Turn.{Turn}
use Rattle.guest_interp.specs.Stepping.{Standstill, next_within, start_of}
use Rattle.device_bus.specs.Devices.{Devices}
use Rattle.event_table.specs.declared.turn.Entry.{Entry}
use Rattle.event_table.specs.Turns.{turns_of}
use Rattle.device_bus.specs.History.{after_history}
use Rattle.host_events.specs.Hosting.{Hosting}
use Rattle.vc_handler.specs.Version.{question}
use Rattle.vcpu_core.specs.Phase as phase
use Rattle.vcpu_core.specs.State.{State, state, IsLawfulPhase}
use Rattle.vcpu_core.specs.Running.{items_said_at, state_stopped}
use Rattle.round_runner.specs.declared.vcpu_on_page.VcpuOnPage.{VcpuOnPage}
use Rattle.round_runner.specs.Pages.{exchange, talked, pages_of}
use Rattle.plain_machine.specs.Plain.{Machine, stop_then, visit_where, visits}

-- A vCPU that has exchanges left has asked the next one, and one that has none is where the plain vCPU stops.
abbrev pub stands_by : Option ℕ → Contents → ℕ → Standstill → State
stands_by (Some word) image i stop = state i (start_of image i) phase.Asked
stands_by None image i stop = state_stopped i stop

-- what it says there
abbrev pub said_there : Option ℕ → ℕ → Standstill → List Item
said_there (Some word) i stop = Exit word ∷ []
said_there None i stop = items_said_at i stop

-- while it has exchanges left, it stands for the plain vCPU at its first stop, and no event is its own
abbrev pub IsFirst : Option ℕ → Contents → ℕ → ℕ → Devices → List Entry → Standstill → Type 0
IsFirst (Some word) image budget i d events stop =
    (stop ≡ next_within budget (start_of image i)) × ((n : ℕ) → talked n i d events ≡ talked n i d [])
IsFirst None image budget i d events stop = Unit {0}

-- After n exchanges vCPU i with its page stands for this stop of the plain one. Its page is what the last serve left,
-- with what it says there.
pub record IsVcpuAt (image : Contents) (budget : ℕ) (d : Devices) (h : Hosting) (events : List Entry) (n i : ℕ)
    (seat : VcpuOnPage) (stop : Standstill) : Type 0 where
  pub vcpu : seat.vcpu ≡ stands_by (exchange n) image i stop
  pub first : IsFirst (exchange n) image budget i d events stop
  pub page : seat.page ≡ kept_after_all (talked n i d events).left (said_there (exchange n) i stop)
  pub full : length (talked n i d events).left.words ≡ 512
  pub lawful : IsLawfulPhase seat.vcpu.phase
  -- the pages that were served before
  pub pages : IfSome h.pages (λ given. pages_of i given ≡ (talked n i d events).pages)

-- The host tells the devices and the events of the machine, the devices are what the events leave, and the order is
-- theirs.
pub record Tells (d : Devices) (h : Hosting) (order : List Turn) (m : Machine) : Type 0 where
  pub devices : h.devices ≡ Some m.devices
  pub history : h.history ≡ Some m.events
  pub legal : m.devices ≡ after_history d m.events
  pub turns : order ≡ turns_of m.events

-- an event is an item of the order, and an exchange, which is no access, isn't
abbrev pub pushed : ℕ → ℕ → List Turn → List Turn
pushed i zero order = order
pushed i (suc more) order = order ++ record { vcpu = i; count = suc more } ∷ []

-- An exchange changes neither the stop that a vCPU stands for nor the machine.
abbrev pub stop_by : Option ℕ → Contents → ℕ → ℕ → Standstill → Devices → Standstill
stop_by (Some word) image budget i stop devices = stop
stop_by None image budget i stop devices = stop_then image budget i stop devices

abbrev pub visit_by : Option ℕ → Contents → ℕ → ℕ → Standstill → Machine → Machine
visit_by (Some word) image budget i stop m = m
visit_by None image budget i stop m = visit_where image budget i (Some stop) m

-- the first so many visits of a round
abbrev pub visits_by : Option ℕ → Contents → ℕ → ℕ → Machine → Machine
visits_by (Some word) image budget k m = m
visits_by None image budget k m = visits image budget k m

-- how many exchanges a vCPU has had after one visit more
abbrev pub next_by : Option ℕ → ℕ → ℕ
next_by (Some word) n = suc n
next_by None n = n

-- After its visit a vCPU has had its exchange, or its event is done; one that has ended stays.
pub record Visited (image : Contents) (budget : ℕ) (d : Devices) (n i : ℕ) (stop : Standstill) (m : Machine)
    (seat : VcpuOnPage) (h : Hosting) (order : List Turn) : Type 0 where
  pub at : IsVcpuAt image budget d h (visit_by (exchange n) image budget i stop m).events (next_by (exchange n) n) i
      seat (stop_by (exchange n) image budget i stop m.devices)
  pub tells : Tells d h order (visit_by (exchange n) image budget i stop m)

-- the pages of the other vCPUs are as they were
abbrev pub AreOthers : ℕ → Hosting → Hosting → Type 0
AreOthers i old new = (j : ℕ) → (j ≡ i → ⊥) →
    option_map (λ given. pages_of j given) new.pages ≡ option_map (λ given. pages_of j given) old.pages

-- where the first k vCPUs have got their visit of a round
abbrev pub had : ℕ → ℕ → ℕ → ℕ
had n k i = if nat_lt i k then next_by (exchange n) n else n

-- what holds of each vCPU by its number
abbrev pub AreAt : (ℕ → VcpuOnPage → Standstill → Type 0) → ℕ → List VcpuOnPage → List Standstill → Type 0
AreAt Is i [] [] = Unit {0}
AreAt Is i (seat ∷ seats) (stop ∷ stops) = Is i seat stop × AreAt Is (i + 1) seats stops
AreAt Is i [] (stop ∷ stops) = ⊥
AreAt Is i (seat ∷ seats) [] = ⊥

-- After n rounds of exchanges, or of events after all exchanges, and the first k visits of the next round.
pub record Stands (image : Contents) (budget : ℕ) (d : Devices) (n k : ℕ) (seats : List VcpuOnPage) (h : Hosting)
    (order : List Turn) (m : Machine) : Type 0 where
  pub seated : AreAt (λ i seat stop. IsVcpuAt image budget d h m.events (had n k i) i seat stop) 0 seats m.stops
  pub tells : Tells d h order m

-- each vCPU has its number
abbrev pub AreNumbered : ℕ → List VcpuOnPage → Type 0
AreNumbered i [] = Unit {0}
AreNumbered i (seat ∷ seats) = (seat.vcpu.number ≡ i) × AreNumbered (i + 1) seats

-- each vCPU has asked its first exchange over a page of zeros
abbrev pub AreFresh : Contents → ℕ → List VcpuOnPage → Type 0
AreFresh image i [] = Unit {0}
AreFresh image i (seat ∷ seats) =
    (seat.vcpu ≡ state i (start_of image i) phase.Asked) × (seat.page ≡ kept_after_all blank (Exit question ∷ []))
    × AreFresh image (i + 1) seats
