-- What a serve makes of a legal host, by its answer.
use Rattle.std.specs.Prelude.{◌≡◌, ℕ, ◌+◌, ◌<◌, ◌≤◌, ◌^◌, ◌++◌, true, false, Bool, List, [], ◌∷◌, length, Option, Some, Result, MatchResult}
use Rattle.atomic_table.specs.Table.{Me}
use Rattle.page_words.specs.Told.{Kept}
use Rattle.event_table.specs.declared.event.Event.{Event}
use Rattle.event_table.specs.declared.turn.Entry.{Entry}
use Rattle.device_bus.specs.Devices.{Devices, opening}
use Rattle.device_bus.specs.History.{after_history}
use Rattle.host_events.specs.Hosting.{Hosting}
use Rattle.host_events.specs.Served.{served, entries}
use Rattle.bus_lock.specs.declared.view.View.{View}
use Rattle.bus_lock.specs.Lists.{StartsWith}
use Rattle.bus_lock.specs.Views.{holding}
use Rattle.bus_lock.specs.Rule.{Legal}

abbrev pub entry_of : ℕ → Event → Entry
entry_of i event = record { vcpu = i; event = event }

module _ {H : Type 0} (told : H → Hosting) (vcpus : ℕ) (input : List ℕ) (log : List Entry) (i : ℕ) (page : Kept) where
  -- the page asks for an event: the devices of the history so far do it, and the history gains its entry
  pub record Gains (after : Kept) (host : H) : Type 0 where
    pub event : Event
    pub is : entries i page ≡ entry_of i event ∷ []
    pub leaves : after ≡ (served i page (after_history (opening vcpus input) log)).page
    pub legal : Legal told vcpus input host (log ++ entry_of i event ∷ [])
    pub room : length log + 1 < 2 ^ 63

  -- it asks for none: whatever the devices are, the page is left so, and the history is as it was
  pub record GainsNone (after : Kept) (host : H) : Type 0 where
    pub is : entries i page ≡ []
    pub leaves : (d : Devices) → after ≡ (served i page d).page
    pub legal : Legal told vcpus input host log

  -- refused memory, the host is as legal as it was, and the page is as it was
  abbrev pub Keeps : Kept → H → Type 0
  Keeps after host = (after ≡ page) × Legal told vcpus input host log

  -- the answer says whether an entry was made
  abbrev pub Serves : {E : Type 0} → Result Bool E → Kept → H → Type 0
  Serves answer after host =
      MatchResult answer
      (λ made. (made ≡ true → Gains after host) × (made ≡ false → GainsNone after host))
      (λ _. Keeps after host)

-- A seat found a legal host with this history, had it serve the page, and has it in the slot still.
pub record Hosts {H : Type 0} (told : H → Hosting) {E : Type 0} (v : View) (i : ℕ) (page : Kept)
    (answer : Result Bool E) (after : Kept) (m : Me (Option H) View) : Type 0 where
  pub log : List Entry
  pub host : H
  pub me : m ≡ (holding v log, (0, Some host) ∷ [])
  pub known : StartsWith log v.known
  pub reached : v.reached ≤ length log
  pub serves : Serves told v.vcpus v.input log i page answer after host
