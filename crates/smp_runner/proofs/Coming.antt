-- What a worker knows, as it grows.
use Rattle.std.proofs.Common.{◌≡◌, ℕ, zero, suc, ◌+◌, ◌<◌, ◌≤◌, List, [], ◌∷◌, ◌++◌, length, take, refl, ap, sym, ◌∙◌, subst, arith, Some}
use Rattle.std.specs.Prelude.{slice_get}
use Rattle.std.proofs.lemmas.List.{take-append-le}
use Rattle.std.proofs.lemmas.Option.{slice_get_within}
use Rattle.image_file.specs.Image.{Contents}
use Rattle.event_table.specs.declared.event.Event.{Event}
use Rattle.event_table.specs.declared.turn.Entry.{Entry}
use Rattle.guest_interp.specs.Stepping.{Counted, Standstill, Waits}
use Rattle.device_bus.specs.Devices.{Devices}
use Rattle.device_bus.specs.History.{after_history}
use Rattle.plain_machine.specs.Plain.{stop_after_event}
use Rattle.bus_lock.specs.Lists.{StartsWith, AllBelow}
use Rattle.merged_runs.specs.Merge.{Comes}

get_longer : {A : Type 0} (xs more : List A) (k : ℕ) (x : A) → slice_get xs k ≡ Some x → slice_get (xs ++ more) k ≡ Some x
get_longer [] more k x at = absurd cc
get_longer (y ∷ ys) more zero x at = at
get_longer (y ∷ ys) more (suc k) x at = get_longer ys more k x at

-- more of the history is known
pub comes_longer : (image : Contents) (budget : ℕ) (d : Devices) (i : ℕ) (known longer : List Entry) (low : ℕ) (own : List ℕ) (from to : Standstill) →
    StartsWith longer known → Comes image budget d i known low own from to → Comes image budget d i longer low own from to
comes_longer image budget d i known longer low [] from to s h = h
comes_longer image budget d i known longer low (k ∷ ks) from to s h =
    let x : Entry = record { vcpu = i; event = h.1 } in
    let within : k < length known = slice_get_within known k x h.3 in
    let before : take k known ≡ take k longer = sym (ap (λ l. take k l) s.1 ∙ take-append-le k known s.0 (omega arith)) in (
      h.0,
      h.1,
      h.2,
      subst (λ l. slice_get l k ≡ Some x) (sym s.1) (get_longer known s.0 k x h.3),
      h.4,
      comes_longer image budget d i known longer (k + 1) ks (stop_after_event image budget i h.1 h.2 (after_history d (take k longer))) to s
          (subst (λ l. Comes image budget d i known (k + 1) ks (stop_after_event image budget i h.1 h.2 (after_history d l)) to) before h.5),
    )

-- one entry more
pub comes_on : (image : Contents) (budget : ℕ) (d : Devices) (i : ℕ) (known : List Entry) (low : ℕ) (own : List ℕ) (from : Standstill) (event : Event) (c : Counted) (n k : ℕ) →
    AllBelow n own → n ≤ k → low ≤ k → slice_get known k ≡ Some (record { vcpu = i; event = event }) → Comes image budget d i known low own from (Waits event c) →
    Comes image budget d i known low (own ++ k ∷ []) from (stop_after_event image budget i event c (after_history d (take k known)))
comes_on image budget d i known low [] from event c n k below room least at h = (least, event, c, at, h, refl)
comes_on image budget d i known low (j ∷ js) from event c n k below room least at h =
    let b = below.0 in (
      h.0,
      h.1,
      h.2,
      h.3,
      h.4,
      comes_on image budget d i known (j + 1) js (stop_after_event image budget i h.1 h.2 (after_history d (take j known))) event c n k below.1 room (omega arith) at h.5,
    )
