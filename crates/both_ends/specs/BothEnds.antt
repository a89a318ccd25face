-- Both ends of the page agree.
use Rattle.std.specs.Prelude.{◌≡◌, ℕ, ◌<◌, [], ◌∷◌, length, slice_index}
use Rattle.image_file.specs.Format.{most_vcpus}
use Rattle.page_words.specs.Told.{Kept, kept_after_all}
use Rattle.page_words.specs.Programs.{found}
use Rattle.event_table.specs.declared.event.Event.{Event}
use Rattle.event_table.specs.declared.event.Event.TheVariants.{One, Many}
use Rattle.event_table.specs.declared.outcome.Outcome.{Outcome}
use Rattle.event_table.specs.declared.outcome.Outcome.TheVariants as outcome
use Rattle.event_table.specs.Lawful.{IsLawfulEvent}
use Rattle.device_bus.specs.declared.answer.Answer.{Answer}
use Rattle.device_bus.specs.declared.answer.Answer.TheVariants.{Done, Raise}
use Rattle.device_bus.specs.Devices.{Devices, answer}
use Rattle.string_io.specs.Blocks.{bytes_reply}
use Rattle.vc_handler.specs.Wire.{wire}
use Rattle.vc_handler.specs.Accept.{accepting}
use Rattle.host_events.specs.Calls.{call_of}
use Rattle.host_events.specs.Call.{Asked}
use Rattle.host_events.specs.Served.{entries, served}
use Rattle.device_bus.specs.History.{after_event, bytes_to}

-- what a guest takes where the devices say this
abbrev pub outcome_of : Answer → Outcome
outcome_of (Done values) = outcome.Done (record { values = values; bytes = [] })
outcome_of (Raise vector code) = outcome.Raise vector code

-- what a guest takes of an event over these devices: of a block the bytes that come back
abbrev pub outcome_to : Devices → ℕ → Event → Outcome
outcome_to d i (One access) = outcome_of (answer d i access)
outcome_to d i (Many block) = outcome.Done (bytes_reply (bytes_to d i block))

-- what a guest takes of a page that stands still
abbrev pub outcome_on : Event → Kept → Outcome
outcome_on event page = found (accepting event) (λ word. slice_index page.words word) page.msr

-- A page of vCPU i is served with one event, and of what is left the guest takes what the devices say.
pub record Agrees (i : ℕ) (event : Event) (page : Kept) (d : Devices) : Type 0 where
  pub call : call_of i page ≡ Asked event
  pub entries : entries i page ≡ record { vcpu = i; event = event } ∷ []
  pub devices : (served i page d).devices ≡ after_event d i event
  pub outcome : outcome_on event (served i page d).page ≡ outcome_to d i event
  pub full : length (served i page d).page.words ≡ 512

-- It is so for every page on which vCPU i showed an event, whatever its other words hold.
abbrev pub BothEndsAgree : Type 0
BothEndsAgree = (i : ℕ) (event : Event) (before : Kept) (d : Devices) →
    i < most_vcpus → IsLawfulEvent event → length before.words ≡ 512 → Agrees i event (kept_after_all before (wire i event)) d
