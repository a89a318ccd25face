-- What a turn of a vCPU makes of the machine.
use Rattle.std.proofs.Common.{◌≡◌, ℕ, zero, suc, ◌+◌, true, List, [], ◌∷◌, ◌++◌, append-nil, Option, Some, refl, sym, ap, ◌∙◌, subst, arith}
use Rattle.std.specs.Prelude.{slice_get, slice_set, map, unwrap_or, ◌&&◌}
use Rattle.std.specs.List.{list_all}
use Rattle.std.proofs.lemmas.List.{map-append}
use Rattle.image_file.specs.Image.{Contents}
use Rattle.event_table.specs.declared.end.End.TheVariants.{Spent}
use Rattle.event_table.specs.declared.turn.Turn.{Turn}
use Rattle.event_table.specs.Turns.{turn_of, turns_of}
use Rattle.device_bus.specs.Devices.{Devices}
use Rattle.guest_interp.specs.Stepping.{Standstill, Waits, Ended, next_within, start_of}
use Rattle.plain_machine.specs.declared.machine.PlainMachine.{PlainMachine}
use Rattle.plain_machine.specs.Plain.{Machine, all_ended, devices_then, end_of, ends_of, first_stops, has_ended, steps_of, stop_then, turns_then, vcpu_of, visit, visit_where, visits}
use Rattle.plain_machine.specs.Standing.{Stands}

first-more : (image : Contents) (budget i n : ℕ) → first_stops image budget i (suc n) ≡ first_stops image budget i n ++ next_within budget (start_of image (i + n)) ∷ []
first-more image budget i zero = let none : i ≡ i + 0 = omega arith in ap (λ k. next_within budget (start_of image k) ∷ []) none
first-more image budget i (suc n) =
    let one : i + 1 + n ≡ i + suc n = omega arith in
    ap (λ ss. next_within budget (start_of image i) ∷ ss) (first-more image budget (i + 1) n ∙ ap (λ k. first_stops image budget (i + 1) n ++ next_within budget (start_of image k) ∷ []) one)

-- one more vCPU at its first stop
pub first_push : (image : Contents) (budget k : ℕ) → first_stops image budget 0 (k + 1) ≡ first_stops image budget 0 k ++ next_within budget (start_of image k) ∷ []
first_push image budget k =
    let none : 0 + k ≡ k = omega arith in
    let one : k + 1 ≡ suc k = omega arith in
    ap (λ n. first_stops image budget 0 n) one ∙ first-more image budget 0 k ∙ ap (λ n. first_stops image budget 0 k ++ next_within budget (start_of image n) ∷ []) none

-- a vCPU that stays at its stop
pub set_same : (stops : List Standstill) (k : ℕ) (stop : Standstill) → slice_get stops k ≡ Some stop → slice_set stops k stop ≡ stops
set_same [] k stop at = refl
set_same (x ∷ xs) zero stop at = let same : stop ≡ x = cc in ap (λ y. y ∷ xs) same
set_same (x ∷ xs) (suc k) stop at = ap (λ ys. x ∷ ys) (set_same xs k stop at)

-- a machine whose vCPU took its turn
visited_where : (image : Contents) (budget k : ℕ) (m : Machine) (stop : Standstill) (after : PlainMachine) → slice_get m.stops k ≡ Some stop →
    after.vcpus.items ≡ slice_set m.stops k (stop_then image budget k stop m.devices) → after.bus.devices ≡ devices_then k stop m.devices →
    after.order.items ≡ turns_of m.events ++ turns_then k stop → Stands after (visit_where image budget k (Some stop) m)
visited_where image budget k m (Waits event c) after at stops devices order = record {
  stops = stops;
  devices = devices;
  order = order ∙ sym (map-append turn_of m.events (record { vcpu = k; event = event } ∷ []));
}
visited_where image budget k m (Ended end c) after at stops devices order = record {
  stops = stops ∙ set_same m.stops k (Ended end c) at;
  devices = devices;
  order = order ∙ append-nil (turns_of m.events);
}

visited : (image : Contents) (budget k : ℕ) (m : Machine) (stop : Standstill) (before after : PlainMachine) → Stands before m → slice_get before.vcpus.items k ≡ Some stop →
    after.vcpus.items ≡ slice_set before.vcpus.items k (stop_then image budget k stop before.bus.devices) → after.bus.devices ≡ devices_then k stop before.bus.devices →
    after.order.items ≡ before.order.items ++ turns_then k stop → Stands after (visit image budget k m)
visited image budget k m stop before after stands at stops devices order =
    let here : slice_get m.stops k ≡ Some stop = subst (λ ss. slice_get ss k ≡ Some stop) stands.stops at in
    let went : Stands after (visit_where image budget k (Some stop) m) =
    visited_where image budget k m stop after here
    (stops ∙ ap (λ ss. slice_set ss k (stop_then image budget k stop before.bus.devices)) stands.stops ∙ ap (λ (d : Devices). slice_set m.stops k (stop_then image budget k stop d)) stands.devices)
    (devices ∙ ap (λ (d : Devices). devices_then k stop d) stands.devices)
    (order ∙ ap (λ (turns : List Turn). turns ++ turns_then k stop) stands.order) in
    subst (λ (o : Option Standstill). Stands after (visit_where image budget k o m)) (sym here) went

-- the machine after one visit more of a round
pub visited_next : (image : Contents) (budget k : ℕ) (m : Machine) (stop : Standstill) (before after : PlainMachine) → Stands before (visits image budget k m) → slice_get before.vcpus.items k ≡ Some stop →
    after.vcpus.items ≡ slice_set before.vcpus.items k (stop_then image budget k stop before.bus.devices) → after.bus.devices ≡ devices_then k stop before.bus.devices →
    after.order.items ≡ before.order.items ++ turns_then k stop → Stands after (visits image budget (k + 1) m)
visited_next image budget k m stop before after stands at stops devices order =
    let one : suc k ≡ k + 1 = omega arith in
    subst (λ n. Stands after (visits image budget n m)) one (visited image budget k (visits image budget k m) stop before after stands at stops devices order)

-- all have ended
pub all_is : (stops : List Standstill) → list_all has_ended stops ≡ all_ended stops
all_is [] = refl
all_is (stop ∷ stops) = ap (λ rest. has_ended stop && rest) (all_is stops)

pub steps_map : (stops : List Standstill) → map (λ stop. (vcpu_of stop).steps) stops ≡ steps_of stops
steps_map [] = refl
steps_map (stop ∷ stops) = ap (λ rest. (vcpu_of stop).steps ∷ rest) (steps_map stops)

pub ends_map : (stops : List Standstill) → all_ended stops ≡ true → map (λ stop. unwrap_or (end_of stop) Spent) stops ≡ ends_of stops
ends_map [] ended = refl
ends_map (Waits event c ∷ stops) ended = cc
ends_map (Ended end c ∷ stops) ended = ap (λ rest. end ∷ rest) (ends_map stops ended)
