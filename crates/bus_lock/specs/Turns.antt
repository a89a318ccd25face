-- What a turn promises, by its answer.
use Rattle.std.specs.Prelude.{◌≡◌, ℕ, ◌+◌, ◌≤◌, ◌++◌, List, [], ◌∷◌, length, Option, Result, MatchResult, MatchOption}
use Rattle.page_words.specs.Told.{Kept}
use Rattle.event_table.specs.declared.event.Event.{Event}
use Rattle.event_table.specs.declared.turn.Entry.{Entry}
use Rattle.device_bus.specs.Devices.{Devices, opening}
use Rattle.device_bus.specs.History.{after_history}
use Rattle.host_events.specs.Served.{served, entries}
use Rattle.bus_lock.specs.declared.view.View.{View}
use Rattle.bus_lock.specs.Lists.{StartsWith}

-- What was known begins what is known now, and no less was reached. The share, the lists of the passes that were joined
-- into it, and what the lock was opened with are as before.
pub record Learns (v w : View) : Type 0 where
  pub known : StartsWith w.known v.known
  pub reached : v.reached ≤ w.reached
  pub share : w.share ≡ v.share
  pub joined : w.joined ≡ v.joined
  pub vcpus : w.vcpus ≡ v.vcpus
  pub input : w.input ≡ v.input

-- Entry k of the history is this serve's, of this vCPU and the page's event. The page is left by the devices that are
-- what the first k entries leave. k is the last of the own numbers, and at least what was reached.
pub record Books (v : View) (vcpu : ℕ) (page : Kept) (k : ℕ) (after : Kept) (w : View) : Type 0 where
  pub before : List Entry
  pub event : Event
  pub number : length before ≡ k
  pub known : w.known ≡ before ++ record { vcpu = vcpu; event = event } ∷ []
  pub is : entries vcpu page ≡ record { vcpu = vcpu; event = event } ∷ []
  pub leaves : after ≡ (served vcpu page (after_history (opening v.vcpus v.input) before)).page
  pub least : v.reached ≤ k
  pub reached : w.reached ≡ k + 1
  pub own : w.own ≡ v.own ++ k ∷ []

-- this serve makes no entry, and the page is left so whatever the devices are
pub record BooksNone (v : View) (vcpu : ℕ) (page after : Kept) (w : View) : Type 0 where
  pub is : entries vcpu page ≡ []
  pub leaves : (d : Devices) → after ≡ (served vcpu page d).page
  pub own : w.own ≡ v.own

-- refused memory, the page and the own numbers are as before
abbrev pub Refuses : View → Kept → Kept → View → Type 0
Refuses v page after w = (after ≡ page) × (w.own ≡ v.own)

abbrev pub Turned : {E : Type 0} → View → ℕ → Kept → Result (Option ℕ) E → Kept → View → Type 0
Turned v vcpu page answer after w =
    MatchResult answer
    (λ booked. MatchOption booked (BooksNone v vcpu page after w) (λ k. Books v vcpu page k after w))
    (λ _. Refuses v page after w)
