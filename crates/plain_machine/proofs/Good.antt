-- A vCPU that waits asks for what its step asks for, and its item is its event done at once.
use Rattle.std.proofs.Common.{◌≡◌, ℕ, suc, zero, ◌+◌, ◌-◌, ◌<◌, ◌≤◌, Bool, length, Option, Some, None, refl, sym, ap, ◌∙◌, arith, subst, eq-eqb}
use Rattle.std.specs.Prelude.{slice_get, option_map, if◌then◌else◌}
use Rattle.image_file.specs.Image.{Contents}
use Rattle.event_table.specs.declared.event.Event.{Event}
use Rattle.event_table.specs.declared.turn.Entry.{Entry}
use Rattle.event_table.specs.Ending.{IsOver}
use Rattle.event_table.specs.Lawful.{count_of}
use Rattle.event_table.specs.Plan.{Stepped, Moved, Exits, Stops}
use Rattle.event_table.specs.Turns.{turn_of}
use Rattle.guest_interp.specs.Stepping.{Counted, at_count, step_of, Standstill, Waits, Ended, stop_after, stop_answered, next_of, next_within}
use Rattle.device_bus.specs.Devices.{Devices}
use Rattle.plain_machine.specs.Plain.{Machine, event_done, item, item_where, stop_after_event}
use Rattle.plain_machine.specs.Single.{Accessed, at_once, event_applied, singles}
use Rattle.plain_machine.proofs.Asking.{exits_by}
use Rattle.plain_machine.proofs.Full.{IsFull, full_applied, full_step, some_access}
use Rattle.plain_machine.proofs.Over.{applied_over}
use Rattle.plain_machine.proofs.Singles.{event_singles}

-- A vCPU that waits: with a count from low on and below the budget, at the instruction that asks, for an access at least.
pub record IsGoodWait (low budget : ℕ) (event : Event) (c : Counted) : Type 0 where
  pub from : low ≤ c.steps
  pub under : c.steps < budget
  pub exits : step_of c.vcpu ≡ Exits event c.vcpu
  pub full : length c.vcpu.regs.gpr ≡ 16
  pub some : 1 ≤ count_of event

abbrev pub IsGood : ℕ → ℕ → Standstill → Type 0
IsGood low budget (Waits event c) = IsGoodWait low budget event c
IsGood low budget (Ended end c) = Unit {0}

good_by : (low budget : ℕ) (c : Counted) (s : Stepped) (more : Counted → Standstill) → step_of c.vcpu ≡ s → IsFull s → low ≤ c.steps → c.steps < budget →
    ((gone : Counted) → gone.steps ≡ c.steps + 1 → length gone.vcpu.regs.gpr ≡ 16 → IsGood low budget (more gone)) → IsGood low budget (stop_after c.steps s more)
good_by low budget c (Moved v) more is full from under goes = goes (at_count v (c.steps + 1)) refl full
good_by low budget c (Exits event v) more is full from under goes =
    let by = exits_by c.vcpu v event is in
    record { from = from; under = under; exits = ap step_of by.0 ∙ is; full = full; some = some_access c.vcpu event by.1 }
good_by low budget c (Stops end v) more is full from under goes = tt

pub good_next : (low budget left : ℕ) (c : Counted) → low ≤ c.steps → left ≡ budget - c.steps → length c.vcpu.regs.gpr ≡ 16 → IsGood low budget (next_of left c)
good_next low budget zero c from is full = tt
good_next low budget (suc left) c from is full =
    good_by low budget c (step_of c.vcpu) (λ gone. next_of left gone) refl (full_step c.vcpu full) from (omega arith)
    (λ gone one filled. good_next low budget left gone (omega (arith, one)) (omega (arith, one)) filled)

good_further : (low budget count steps : ℕ) (s : Stepped) → IsOver s → IsFull s → low ≤ steps → 1 ≤ count → IsGood (suc low) budget (stop_answered count steps s (λ gone. next_within budget gone))
good_further low budget count steps (Moved v) over full from some = good_next (suc low) budget (budget - (steps + count)) (at_count v (steps + count)) (omega arith) refl full
good_further low budget count steps (Exits event v) over full from some = absurd over
good_further low budget count steps (Stops end v) over full from some = tt

-- an answered event adds a step to its vCPU or ends it
pub good_stop : (image : Contents) (low budget i : ℕ) (e : Event) (c : Counted) (d : Devices) → IsGoodWait low budget e c → IsGood (suc low) budget (stop_after_event image budget i e c d)
good_stop image low budget i e c d good =
    good_further low budget (count_of e) c.steps (event_applied image i e c.vcpu d) (applied_over image i e c.vcpu d) (full_applied image i e c.vcpu d good.full) good.from good.some

-- the item of a vCPU that waits
pub item_at : (image : Contents) (budget low : ℕ) (m : Machine) (x : Entry) (c : Counted) → slice_get m.stops x.vcpu ≡ Some (Waits x.event c) → IsGoodWait low budget x.event c →
    item image budget m (turn_of x) ≡ Some (event_done budget x.vcpu x.event c m (at_once image x.vcpu x.event c.vcpu m.devices))
item_at image budget low m x c at good =
    let k = x.vcpu in
    let e = x.event in
    ap (λ (o : Option Standstill). item_where image budget (turn_of x) o m) at
    ∙ ap (λ (t : Bool). if t then option_map (λ a. event_done budget k e c m a) (singles image k (count_of e) (Moved c.vcpu) m.devices) else None) (eq-eqb (count_of e) (count_of e) refl)
    ∙ ap (λ (o : Option Accessed). option_map (λ a. event_done budget k e c m a) o) (event_singles image k e c.vcpu m.devices good.full good.exits)
