-- One turn of a run, and the rest of it.
use Rattle.std.proofs.Common.{◌≡◌, ℕ, zero, suc, ◌+◌, ◌-◌, ◌<◌, ◌≤◌, [], ◌∷◌, refl, ap, sym, ◌∙◌, subst, arith, Result, Ok, Err}
use Rattle.page_words.specs.declared.item.Item.TheVariants.{Exit}
use Rattle.page_words.specs.Dialogue.{Dialogue, over, saying, say, listen, ◌>>=◌}
use Rattle.page_words.proofs.Same.{say_then, listen_then, listen_same, AllOf, all_say, all_listen}
use Rattle.image_file.specs.Image.{Contents}
use Rattle.event_table.specs.declared.end.End.{End}
use Rattle.event_table.specs.declared.end.End.TheVariants.{Spent, Terminated}
use Rattle.event_table.specs.declared.end.Reason.{Reason}
use Rattle.event_table.specs.declared.event.Event.{Event}
use Rattle.event_table.specs.declared.event.Event.TheVariants.{One, Many}
use Rattle.event_table.specs.Lawful.{IsLawfulEvent, count_of}
use Rattle.event_table.specs.declared.outcome.Outcome.{Outcome}
use Rattle.event_table.specs.declared.outcome.Outcome.TheVariants.{Done, Raise, Terminate}
use Rattle.event_table.specs.Plan.{Stepped, Moved, Exits, Stops}
use Rattle.guest_interp.specs.Stepping.{Counted, results_of, Standstill, Waits, Ended, stop_answered, next_within, start_of}
use Rattle.vc_handler.specs.Accept.{accepting}
use Rattle.vc_handler.specs.Version.{farewell, negotiating, question}
use Rattle.vc_handler.specs.Wire.{wire}
use Rattle.vcpu_core.specs.Phase.{Phase}
use Rattle.vcpu_core.specs.Phase as phase
use Rattle.vcpu_core.specs.State.{IsLawfulPhase, State, state}
use Rattle.vcpu_core.specs.Running.{items_said_at, state_advanced, state_stopped}
use Rattle.vcpu_core.specs.Resuming.{state_answered, settling, agreeing, resuming}
use Rattle.event_table.specs.Raising.{step_raised}
use Rattle.hostile_host.specs.Answered.{Ran, stop_heard, events_of, run_agreed_from, run_of}
use Rattle.hostile_host.specs.Turn.{turn_dialogue}
use Rattle.hostile_host.proofs.Going.{IsWithin, next_stands}

-- the rest of a run from where a vCPU stands, with so many events at most
abbrev pub rest_by : Phase → ℕ → Contents → ℕ → Counted → Dialogue Ran
rest_by phase.New events image budget c = run_of image budget
rest_by phase.Asked events image budget c = over (record { cpu = c; end = Spent })
rest_by phase.Going events image budget c = events_of events image budget (next_within budget c)
rest_by (phase.Waits event) events image budget c = events_of events image budget (Waits event c)
rest_by (phase.Ended end) events image budget c = over (record { cpu = c; end = end })

abbrev pub rest_of : ℕ → Contents → ℕ → State → Dialogue Ran
rest_of events image budget s = rest_by s.phase events image budget s.cpu

events_ended : (events : ℕ) (image : Contents) (budget : ℕ) (end : End) (c : Counted) → events_of events image budget (Ended end c) ≡ over (record { cpu = c; end = end })
events_ended zero image budget end c = refl
events_ended (suc events) image budget end c = refl

landed_rest : (events : ℕ) (image : Contents) (budget count steps : ℕ) (s : Stepped) →
    events_of events image budget (stop_answered count steps s (λ gone. next_within budget gone)) ≡ rest_of events image budget (state_answered 0 count steps s)
landed_rest events image budget count steps (Moved v) = refl
landed_rest events image budget count steps (Exits event v) = refl
landed_rest events image budget count steps (Stops end v) = events_ended events image budget end _

-- what comes of an outcome, and the rest
outcome_rest : (events : ℕ) (image : Contents) (budget : ℕ) (c : Counted) (event : Event) (outcome : Outcome) →
    (stop_heard image budget c event outcome >>= (λ stop. events_of events image budget stop)) ≡ (settling image 0 c event outcome >>= (λ s. rest_of events image budget s))
unfolding say ◌>>=◌
outcome_rest events image budget c event (Done reply) = landed_rest events image budget (count_of event) c.steps (results_of reply c.vcpu)
outcome_rest events image budget c event (Raise vector code) = landed_rest events image budget 1 c.steps (step_raised image vector code c.vcpu)
outcome_rest events image budget c event (Terminate reason) = ap (λ (r : Dialogue Ran). saying (Exit (farewell reason)) r) (events_ended events image budget (Terminated reason) c)

-- an event, its reply, and the rest
waits_rest : (events : ℕ) (image : Contents) (budget : ℕ) (event : Event) (c : Counted) →
    events_of (suc events) image budget (Waits event c)
    ≡ (say (wire 0 event) (listen (accepting event) (λ outcome. settling image 0 c event outcome)) >>= (λ s. rest_of events image budget s))
waits_rest events image budget event c =
    ap (λ (d : Dialogue Ran). say (wire 0 event) d) (listen_same (accepting event) _ _ (λ outcome. outcome_rest events image budget c event outcome)
    ∙ sym (listen_then (accepting event) (λ outcome. settling image 0 c event outcome) (λ s. rest_of events image budget s)))
    ∙ sym (say_then (wire 0 event) _ _)

ended_rest : (events fewer : ℕ) (image : Contents) (budget : ℕ) (end : End) (c : Counted) →
    events_of events image budget (Ended end c) ≡ (say [] (over (state 0 c (phase.Ended end))) >>= (λ s. rest_of fewer image budget s))
unfolding say ◌>>=◌
ended_rest events fewer image budget end c = events_ended events image budget end c

-- the events that are left after one
abbrev pub less_one : ℕ → ℕ
less_one zero = zero
less_one (suc events) = events

stop_rest : (events : ℕ) (image : Contents) (budget low : ℕ) (stop : Standstill) → IsWithin low budget stop → budget ≤ events + low →
    events_of events image budget stop ≡ (say (items_said_at 0 stop) (resuming image (state_stopped 0 stop)) >>= (λ s. rest_of (less_one events) image budget s))
stop_rest events image budget low (Ended end c) within enough = ended_rest events (less_one events) image budget end c
stop_rest zero image budget low (Waits event c) within enough = absurd (omega (arith, within.0, within.1))
stop_rest (suc events) image budget low (Waits event c) within enough = waits_rest events image budget event c

agreed_rest : (image : Contents) (budget : ℕ) (version : Result ℕ Reason) →
    run_agreed_from (start_of image 0) image budget version ≡ (agreeing 0 (start_of image 0) version >>= (λ s. rest_of budget image budget s))
unfolding say ◌>>=◌
agreed_rest image budget (Ok version) = refl
agreed_rest image budget (Err reason) = refl

new_rest : (image : Contents) (budget : ℕ) →
    run_of image budget ≡ (say (Exit question ∷ []) (listen negotiating (λ version. agreeing 0 (start_of image 0) version)) >>= (λ s. rest_of budget image budget s))
new_rest image budget =
    ap (λ (d : Dialogue Ran). say (Exit question ∷ []) d) (listen_same negotiating _ _ (λ version. agreed_rest image budget version)
    ∙ sym (listen_then negotiating (λ version. agreeing 0 (start_of image 0) version) (λ s. rest_of budget image budget s)))
    ∙ sym (say_then (Exit question ∷ []) _ _)

-- A vCPU stands where a turn begins: it is new, or goes by itself, and there are events enough for its budget.
abbrev pub IsStanding : Phase → ℕ → Contents → ℕ → Counted → Type 0
IsStanding phase.New events image budget c = (c ≡ start_of image 0) × (events ≡ suc budget)
IsStanding phase.Going events image budget c = budget ≤ events + c.steps
IsStanding _ events image budget c = ⊥

-- a turn, and then the rest
pub turn_rest : (p : Phase) (events : ℕ) (image : Contents) (budget : ℕ) (c : Counted) → IsStanding p events image budget c →
    rest_by p events image budget c ≡ (turn_dialogue image budget (state 0 c p) >>= (λ s. rest_of (less_one events) image budget s))
turn_rest phase.New events image budget c stands =
    let start : run_of image budget ≡ (turn_dialogue image budget (state 0 c phase.New) >>= (λ s. rest_of budget image budget s)) =
    subst (λ (d : Counted). run_of image budget ≡ (turn_dialogue image budget (state 0 d phase.New) >>= (λ s. rest_of budget image budget s))) (sym stands.0) (new_rest image budget) in
    subst (λ n. run_of image budget ≡ (turn_dialogue image budget (state 0 c phase.New) >>= (λ s. rest_of (less_one n) image budget s))) (sym stands.1) start
turn_rest phase.Going events image budget c stands = stop_rest events image budget c.steps (next_within budget c) (next_stands budget c) stands
turn_rest phase.Asked events image budget c stands = absurd stands
turn_rest (phase.Waits event) events image budget c stands = absurd stands
turn_rest (phase.Ended end) events image budget c stands = absurd stands

-- how many turns may come, from where it stands
abbrev pub left_by : Phase → ℕ → ℕ → ℕ
left_by phase.New budget steps = budget + 1
left_by phase.Going budget steps = budget - steps
left_by _ budget steps = 0

-- After a turn: it goes on with fewer turns left, has ended, or waits.
abbrev pub Goes_on : Phase → ℕ → ℕ → ℕ → ℕ → Type 0
Goes_on phase.New left events budget steps = ⊥
Goes_on phase.Asked left events budget steps = Unit {0}
Goes_on phase.Going left events budget steps = (budget ≤ events + steps) × (budget - steps < left)
Goes_on (phase.Waits event) left events budget steps = Unit {0}
Goes_on (phase.Ended end) left events budget steps = Unit {0}

abbrev pub IsNext : ℕ → ℕ → ℕ → State → Type 0
IsNext left events budget s = (s.number ≡ 0) × Goes_on s.phase left events budget s.cpu.steps

-- a lawful event has an access at least
some_counted : (event : Event) → IsLawfulEvent event → 1 ≤ count_of event
some_counted (One access) lawful = omega arith
some_counted (Many block) lawful = lawful.count.0

landed_next : (left events budget count steps : ℕ) (s : Stepped) → budget ≤ suc events + steps → steps < budget → budget ≤ left + steps → 1 ≤ count →
    IsNext left events budget (state_answered 0 count steps s)
landed_next left events budget count steps (Moved v) enough less room some = (refl, (omega arith, omega arith))
landed_next left events budget count steps (Exits event v) enough less room some = (refl, tt)
landed_next left events budget count steps (Stops end v) enough less room some = (refl, tt)

outcome_next : (left events : ℕ) (image : Contents) (budget : ℕ) (c : Counted) (event : Event) (outcome : Outcome) → budget ≤ suc events + c.steps → c.steps < budget → budget ≤ left + c.steps →
    IsLawfulEvent event → AllOf (IsNext left events budget) (settling image 0 c event outcome)
unfolding say
outcome_next left events image budget c event (Done reply) enough less room lawful =
    landed_next left events budget (count_of event) c.steps (results_of reply c.vcpu) enough less room (some_counted event lawful)
outcome_next left events image budget c event (Raise vector code) enough less room lawful =
    landed_next left events budget 1 c.steps (step_raised image vector code c.vcpu) enough less room (omega arith)
outcome_next left events image budget c event (Terminate reason) enough less room lawful = (refl, tt)

stop_next : (left events : ℕ) (image : Contents) (budget low : ℕ) (stop : Standstill) → IsWithin low budget stop → budget ≤ events + low → budget ≤ left + low → IsLawfulPhase (state_stopped 0 stop).phase →
    AllOf (IsNext left (less_one events) budget) (say (items_said_at 0 stop) (resuming image (state_stopped 0 stop)))
stop_next left events image budget low (Ended end c) within enough room lawful = all_say _ [] (over (state 0 c (phase.Ended end))) (refl, tt)
stop_next left zero image budget low (Waits event c) within enough room lawful = absurd (omega (arith, within.0, within.1))
stop_next left (suc events) image budget low (Waits event c) within enough room lawful =
    all_say _ (wire 0 event) _ (all_listen _ (accepting event) _ (λ outcome. outcome_next left events image budget c event outcome (omega (arith, within.0)) within.1 (omega (arith, within.0)) lawful))

agreed_next : (image : Contents) (budget : ℕ) (version : Result ℕ Reason) → AllOf (IsNext (budget + 1) budget budget) (agreeing 0 (start_of image 0) version)
unfolding say
agreed_next image budget (Ok version) = (refl, (omega arith, omega arith))
agreed_next image budget (Err reason) = (refl, tt)

-- what a turn leads to
pub turn_next : (p : Phase) (events : ℕ) (image : Contents) (budget : ℕ) (c : Counted) → IsStanding p events image budget c → IsLawfulPhase (state_advanced budget (state 0 c p)).phase →
    AllOf (IsNext (left_by p budget c.steps) (less_one events) budget) (turn_dialogue image budget (state 0 c p))
turn_next phase.New events image budget c stands lawful =
    let start : AllOf (IsNext (budget + 1) budget budget) (turn_dialogue image budget (state 0 (start_of image 0) phase.New)) =
    all_say _ (Exit question ∷ []) _ (all_listen _ negotiating _ (λ version. agreed_next image budget version)) in
    subst (λ n. AllOf (IsNext (budget + 1) (less_one n) budget) (turn_dialogue image budget (state 0 c phase.New))) (sym stands.1)
    (subst (λ (d : Counted). AllOf (IsNext (budget + 1) budget budget) (turn_dialogue image budget (state 0 d phase.New))) (sym stands.0) start)
turn_next phase.Going events image budget c stands lawful =
    stop_next (budget - c.steps) events image budget c.steps (next_within budget c) (next_stands budget c) stands (omega arith) lawful
turn_next phase.Asked events image budget c stands lawful = absurd stands
turn_next (phase.Waits event) events image budget c stands lawful = absurd stands
turn_next (phase.Ended end) events image budget c stands lawful = absurd stands
