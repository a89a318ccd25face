-- An exit of a guest over a host.
use Rattle.std.proofs.Common.{◌≡◌, ℕ, ◌<◌, List, [], ◌++◌, length, Some, None, refl, sym, ap, ◌∙◌, subst}
use Rattle.std.specs.Prelude.{Option, option_map, IfSome}
use Rattle.image_file.specs.Format.{most_vcpus}
use Rattle.page_words.specs.Told.{Kept, Makes, keeping, kept_after_all}
use Rattle.page_words.specs.Dialogue.{Reads}
use Rattle.page_words.proofs.Reading.{reads_found}
use Rattle.event_table.specs.declared.event.Event.{Event}
use Rattle.event_table.specs.declared.outcome.Outcome.{Outcome}
use Rattle.event_table.specs.Lawful.{IsLawfulEvent}
use Rattle.device_bus.specs.Devices.{Devices, opening}
use Rattle.vc_handler.specs.Wire.{wire}
use Rattle.vc_handler.specs.Accept.{accepting}
use Rattle.event_table.specs.declared.turn.Entry.{Entry}
use Rattle.device_bus.specs.History.{after_event}
use Rattle.host_events.specs.Hosting.{Hosting, after_serve, Leaves}
use Rattle.host_events.specs.Served.{served}
use Rattle.host_events.proofs.Blocks.{makes_kept}
use Rattle.both_ends.specs.BothEnds.{Agrees, outcome_on, outcome_to}
use Rattle.both_ends.specs.Exchange.{Exchanged}
use Rattle.both_ends.proofs.Agreeing.{ends_agree}

-- the law at a page, for all devices
abbrev AgreesAt : ℕ → Event → Kept → Type 0
AgreesAt i event page = (d : Devices) → Agrees i event page d

-- the devices that are told do the event
done : (i : ℕ) (event : Event) (page : Kept) (told : Option Devices) → AgreesAt i event page →
    option_map (λ d. (served i page d).devices) told ≡ option_map (λ d. after_event d i event) told
done i event page None agrees = refl
done i event page (Some d) agrees = ap (λ (e : Devices). Some e) (agrees d).devices

-- the guest takes what the devices say that are told
takes_what : (i : ℕ) (event : Event) (page left : Kept) (told : Option Devices) (outcome : Outcome) → AgreesAt i event page →
    IfSome told (λ d. left ≡ (served i page d).page) → outcome ≡ outcome_on event left → IfSome told (λ d. outcome ≡ outcome_to d i event)
takes_what i event page left None outcome agrees leaves takes = tt
takes_what i event page left (Some d) outcome agrees leaves takes =
    takes ∙ ap (λ (k : Kept). outcome_on event k) leaves ∙ (agrees d).outcome

-- the page after an event was shown
shows : (before page : Kept) (i : ℕ) (event : Event) → Makes (keeping before) (wire i event) (keeping page) → page ≡ kept_after_all before (wire i event)
shows before page i event makes =
    makes_kept before page (wire i event) makes

pub exchanged : (i : ℕ) (event : Event) (before page left after : Kept) (old new : Hosting) (outcome : Outcome) →
    i < most_vcpus → IsLawfulEvent event → length before.words ≡ 512 →
    Makes (keeping before) (wire i event) (keeping page) → new ≡ after_serve i page old → Leaves i page left old →
    Reads (accepting event) outcome (keeping left) (keeping after) → Exchanged i event old new outcome
exchanged i event before page left after old new outcome few lawful full makes serves leaves reads =
    let agrees : AgreesAt i event page = λ d. subst (λ k. Agrees i event k d) (sym (shows before page i event makes)) (ends_agree i event before d few lawful full) in
    let takes : outcome ≡ outcome_on event left = reads_found (accepting event) outcome (keeping left) (keeping after) left refl reads in
    record {
      vcpus = ap (λ (h : Hosting). h.vcpus) serves;
      devices = ap (λ (h : Hosting). h.devices) serves ∙ done i event page old.devices agrees;
      history = ap (λ (h : Hosting). h.history) serves ∙ ap (λ (es : List Entry). option_map (λ entries. entries ++ es) old.history) (agrees (opening 0 [])).entries;
      outcome = takes_what i event page left old.devices outcome agrees leaves takes;
    }
