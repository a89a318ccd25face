-- What a served page changes: the devices by its entries alone, and a started host into one that was started.
use Rattle.std.proofs.Common.{◌≡◌, ℕ, ◌⊎◌, List, [], ◌∷◌, ◌++◌, inl, inr, refl, sym, ap, ◌∙◌}
use Rattle.page_words.specs.Told.{Kept}
use Rattle.event_table.specs.declared.event.Event.{Event}
use Rattle.device_bus.specs.Devices.{Devices}
use Rattle.host_events.specs.Call.{Call}
use Rattle.host_events.specs.Call as call
use Rattle.host_events.specs.Calls.{call_of}
use Rattle.host_events.specs.Served.{served, served_by, entries, entries_by}
use Rattle.device_bus.specs.History.{after_history}
use Rattle.host_events.specs.Hosting.{Hosting, Given, started, after_serve, after_serves, HasStarted}

devices_by : (i : ℕ) (c : Call) (page : Kept) (d : Devices) →
    (served_by i c page d).devices ≡ after_history d (entries_by i c)
devices_by i call.Nothing page d = refl
devices_by i call.SevInfo page d = refl
devices_by i (call.Cpuid function register) page d = refl
devices_by i (call.Malformed bad) page d = refl
devices_by i (call.Asked event) page d = refl

-- the devices afterwards are what the page's entries leave
pub served_devices : (i : ℕ) (page : Kept) (d : Devices) → (served i page d).devices ≡ after_history d (entries i page)
served_devices i page d = devices_by i (call_of i page) page d

-- a call makes no entry or one
pub entries_cases : (i : ℕ) (c : Call) →
    (entries_by i c ≡ []) ⊎ ((e : Event) × (entries_by i c ≡ record { vcpu = i; event = e } ∷ []))
entries_cases i call.Nothing = inl refl
entries_cases i call.SevInfo = inl refl
entries_cases i (call.Cpuid function register) = inl refl
entries_cases i (call.Malformed bad) = inl refl
entries_cases i (call.Asked event) = inr (event, refl)

page_by : (i : ℕ) (c : Call) (page : Kept) (d e : Devices) →
    entries_by i c ≡ [] → (served_by i c page d).page ≡ (served_by i c page e).page
page_by i call.Nothing page d e none = refl
page_by i call.SevInfo page d e none = refl
page_by i (call.Cpuid function register) page d e none = refl
page_by i (call.Malformed bad) page d e none = refl
page_by i (call.Asked event) page d e none = absurd cc

-- where no entry is made the page afterwards is the same over all devices
pub none_page : (i : ℕ) (page : Kept) (d e : Devices) →
    entries i page ≡ [] → (served i page d).page ≡ (served i page e).page
none_page i page d e none = page_by i (call_of i page) page d e none

after_serves-append : (h : Hosting) (xs ys : List Given) →
    after_serves (xs ++ ys) h ≡ after_serves ys (after_serves xs h)
after_serves-append h [] ys = refl
after_serves-append h (x ∷ xs) ys = after_serves-append (after_serve x.vcpu x.page h) xs ys

-- a host has started once it was started
pub has_started : (vcpus : ℕ) (input : List ℕ) (h : Hosting) → HasStarted vcpus input h (started vcpus input h)
has_started vcpus input h = ([], refl)

-- and it still has once one page more was served
pub has_served : (vcpus i : ℕ) (input : List ℕ) (page : Kept) (h now : Hosting) →
    HasStarted vcpus input h now → HasStarted vcpus input h (after_serve i page now)
has_served vcpus i input page h now (pages, is) =
    let given : Given = record { vcpu = i; page = page } in (
      pages ++ given ∷ [],
      ap (λ n. after_serve i page n) is ∙ sym (after_serves-append (started vcpus input h) pages (given ∷ [])),
    )
