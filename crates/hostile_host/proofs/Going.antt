-- How far a vCPU goes, and that nothing is heard while it speaks.
use Rattle.std.proofs.Common.{◌≡◌, ℕ, zero, suc, ◌+◌, ◌-◌, ◌<◌, ◌≤◌, List, [], ◌∷◌, ◌++◌, map, refl, arith, subst}
use Rattle.page_words.specs.declared.item.Item.TheVariants.{Exit}
use Rattle.page_words.specs.Told.{store}
use Rattle.page_words.specs.Dialogue.{values_of}
use Rattle.event_table.specs.declared.event.Event.{Event}
use Rattle.event_table.specs.Plan.{Stepped, Moved, Exits, Stops}
use Rattle.event_table.specs.Rows.{event_row, kind_of_event}
use Rattle.guest_interp.specs.Stepping.{Counted, at_count, step_of, Standstill, Waits, Ended, stop_after, next_of, next_within}
use Rattle.ghcb_layout.specs.Address.{ghcb_of}
use Rattle.vc_handler.specs.Wire.{bytes_shown, registers_shown, wire, stored_words}
use Rattle.vcpu_core.specs.Phase.{Phase}
use Rattle.vcpu_core.specs.Phase as phase
use Rattle.vcpu_core.specs.Running.{items_said_by, items_said_at}

values_of-stores : (words : List (ℕ × ℕ)) (msr : ℕ) → values_of (map store words ++ Exit msr ∷ []) ≡ []
values_of-stores [] msr = refl
values_of-stores (word ∷ words) msr = values_of-stores words msr

-- nothing comes out while an event is shown
pub values_of-wire : (i : ℕ) (event : Event) → values_of (wire i event) ≡ []
values_of-wire i event = values_of-stores (stored_words (ghcb_of i) (event_row (kind_of_event event)) (registers_shown event) (bytes_shown event)) (ghcb_of i)

values_of-said_at : (i : ℕ) (stop : Standstill) → values_of (items_said_at i stop) ≡ []
values_of-said_at i (Waits event c) = values_of-wire i event
values_of-said_at i (Ended end c) = refl

pub values_of-said : (p : Phase) (budget i : ℕ) (c : Counted) → values_of (items_said_by p budget i c) ≡ []
values_of-said phase.New budget i c = refl
values_of-said phase.Asked budget i c = refl
values_of-said phase.Going budget i c = values_of-said_at i (next_within budget c)
values_of-said (phase.Waits event) budget i c = refl
values_of-said (phase.Ended end) budget i c = refl

-- an event comes no earlier than the count, and within the budget
abbrev pub IsWithin : ℕ → ℕ → Standstill → Type 0
IsWithin low budget (Waits event c) = (low ≤ c.steps) × (c.steps < budget)
IsWithin low budget (Ended end c) = Unit {0}

within_later : (low budget : ℕ) (stop : Standstill) → IsWithin (low + 1) budget stop → IsWithin low budget stop
within_later low budget (Waits event c) within = (omega (arith, within.0), within.1)
within_later low budget (Ended end c) within = tt

after_within : (steps budget : ℕ) (s : Stepped) (more : Counted → Standstill) → steps < budget →
    ((c : Counted) → c.steps ≡ steps + 1 → IsWithin (steps + 1) budget (more c)) → IsWithin steps budget (stop_after steps s more)
after_within steps budget (Moved v) more less later = within_later steps budget (more (at_count v (steps + 1))) (later (at_count v (steps + 1)) refl)
after_within steps budget (Exits access v) more less later = (omega arith, less)
after_within steps budget (Stops end v) more less later = tt

next_of_within : (left budget : ℕ) (c : Counted) → c.steps + left ≤ budget → IsWithin c.steps budget (next_of left c)
next_of_within zero budget c fits = tt
next_of_within (suc left) budget c fits =
    after_within c.steps budget (step_of c.vcpu) (λ gone. next_of left gone) (omega arith) (λ d counted.
    let fewer : d.steps + left ≤ budget = omega (arith, counted) in
    subst (λ low. IsWithin low budget (next_of left d)) counted (next_of_within left budget d fewer))

left_stands : (left budget : ℕ) (c : Counted) → left ≡ budget - c.steps → IsWithin c.steps budget (next_of left c)
left_stands zero budget c is = tt
left_stands (suc left) budget c is = next_of_within (suc left) budget c (omega (arith, is))

pub next_stands : (budget : ℕ) (c : Counted) → IsWithin c.steps budget (next_within budget c)
next_stands budget c = left_stands (budget - c.steps) budget c refl
