-- A vCPU hears the host.
use Rattle.std.specs.Prelude.{ℕ, ◌+◌, [], ◌∷◌, Result, Ok, Err}
use Rattle.page_words.specs.declared.item.Item.TheVariants.{Exit}
use Rattle.page_words.specs.Dialogue.{Dialogue, over, say, listen}
use Rattle.image_file.specs.Image.{Contents}
use Rattle.event_table.specs.declared.end.End.TheVariants.{Terminated}
use Rattle.event_table.specs.declared.end.Reason.{Reason}
use Rattle.event_table.specs.declared.outcome.Outcome.{Outcome}
use Rattle.event_table.specs.declared.outcome.Outcome.TheVariants.{Done, Raise, Terminate}
use Rattle.event_table.specs.declared.event.Event.{Event}
use Rattle.event_table.specs.Lawful.{count_of}
use Rattle.event_table.specs.Plan.{Stepped, Moved, Exits, Stops}
use Rattle.event_table.specs.Raising.{IsRaisable, step_raised}
use Rattle.guest_interp.specs.Stepping.{Counted, at_count, counted, results_of}
use Rattle.vc_handler.specs.Accept.{accepting}
use Rattle.vc_handler.specs.Version.{farewell, negotiating}
use Rattle.vcpu_core.specs.Phase.{Phase}
use Rattle.vcpu_core.specs.Phase as phase
use Rattle.vcpu_core.specs.State.{State, state}

abbrev pub IsTakable : Outcome → Type 0
IsTakable (Raise vector code) = IsRaisable vector
IsTakable _ = Unit {0}

-- vCPU i once its event of so many accesses is answered, which is as many steps; an answer asks nothing more
abbrev pub state_answered : ℕ → ℕ → ℕ → Stepped → State
state_answered i count steps (Moved v) = state i (at_count v (steps + count)) phase.Going
state_answered i count steps (Exits event v) = state i (at_count v (steps + count)) (phase.Waits event)
state_answered i count steps (Stops end v) = state i (at_count v (counted end steps)) (phase.Ended end)

-- it tells the host that it ends the communication, and has ended
abbrev pub terminating : ℕ → Counted → Reason → Dialogue State
terminating i c reason = say (Exit (farewell reason) ∷ []) (over (state i c (phase.Ended (Terminated reason))))

-- A reply's results go to their places, each access a step; an exception is delivered, which is one step; or the
-- communication ends.
abbrev pub settling : Contents → ℕ → Counted → Event → Outcome → Dialogue State
settling image i c event (Done reply) = over (state_answered i (count_of event) c.steps (results_of reply c.vcpu))
settling image i c event (Raise vector code) = over (state_answered i 1 c.steps (step_raised image vector code c.vcpu))
settling image i c event (Terminate reason) = terminating i c reason

-- it goes on at version 1, or ends the communication
abbrev pub agreeing : ℕ → Counted → Result ℕ Reason → Dialogue State
agreeing i c (Ok version) = over (state i c phase.Going)
agreeing i c (Err reason) = terminating i c reason

-- The host's versions are read of the MSR, and the reply to an event of the page; one that waits for nothing hears
-- nothing.
abbrev pub resuming_by : Phase → Contents → ℕ → Counted → Dialogue State
resuming_by phase.Asked image i c = listen negotiating (λ version. agreeing i c version)
resuming_by (phase.Waits event) image i c = listen (accepting event) (λ outcome. settling image i c event outcome)
resuming_by stays image i c = over (state i c stays)

abbrev pub resuming : Contents → State → Dialogue State
resuming image s = resuming_by s.phase image s.number s.cpu
