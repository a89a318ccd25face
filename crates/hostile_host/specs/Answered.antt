-- vCPU 0 of an image against any host, as what it says and hears (AMD 56421, section 2.6 and "GHCB MSR Protocol").
use Rattle.std.specs.Prelude.{ℕ, zero, suc, List, [], ◌∷◌, Result, Ok, Err}
use Rattle.page_words.specs.declared.item.Item.TheVariants.{Exit}
use Rattle.page_words.specs.Dialogue.{Dialogue, over, say, listen, ◌>>=◌, Taken, answered_by}
use Rattle.image_file.specs.Image.{Contents}
use Rattle.event_table.specs.declared.end.End.{End}
use Rattle.event_table.specs.declared.end.End.TheVariants.{Spent, Terminated}
use Rattle.event_table.specs.declared.end.Reason.{Reason}
use Rattle.event_table.specs.declared.event.Event.{Event}
use Rattle.event_table.specs.declared.outcome.Outcome.{Outcome}
use Rattle.event_table.specs.declared.outcome.Outcome.TheVariants.{Done, Raise, Terminate}
use Rattle.event_table.specs.Lawful.{count_of}
use Rattle.guest_interp.specs.Stepping.{Counted, results_of, Standstill, Waits, Ended, stop_answered, next_within, start_of}
use Rattle.vc_handler.specs.Accept.{accepting}
use Rattle.vc_handler.specs.Version.{farewell, negotiating, question}
use Rattle.vc_handler.specs.Wire.{wire}
use Rattle.event_table.specs.Raising.{step_raised}

-- the vCPU when its run is over, and how it ended
pub record Ran : Type 0 where
  pub cpu : Counted
  pub end : End

-- it says why it ends the communication, and has ended
abbrev pub part_with : {X : Type 0} → Reason → X → Dialogue X
part_with reason x = say (Exit (farewell reason) ∷ []) (over x)

-- Where it stops next, by the outcome of its event: the results are placed, each access a step; an exception is delivered,
-- which is one step; or it ends.
abbrev pub stop_heard : Contents → ℕ → Counted → Event → Outcome → Dialogue Standstill
stop_heard image budget c event (Done reply) =
    over (stop_answered (count_of event) c.steps (results_of reply c.vcpu) (λ gone. next_within budget gone))
stop_heard image budget c event (Raise vector code) =
    over (stop_answered 1 c.steps (step_raised image vector code c.vcpu) (λ gone. next_within budget gone))
stop_heard image budget c event (Terminate reason) = part_with reason (Ended (Terminated reason) c)

-- From where it stops, so many events at most: each is shown, and its reply listened to. An event takes a step or ends
-- the run, so there are never more than the budget.
abbrev pub events_of : ℕ → Contents → ℕ → Standstill → Dialogue Ran
events_of events image budget (Ended end c) = over (record { cpu = c; end = end })
events_of zero image budget (Waits event c) = over (record { cpu = c; end = Spent })
events_of (suc events) image budget (Waits event c) =
    say (wire 0 event) (listen (accepting event) (λ outcome.
    stop_heard image budget c event outcome >>= (λ stop. events_of events image budget stop)))

-- after the host's versions: it goes to its first event, or parts before its first step
abbrev pub run_agreed_from : Counted → Contents → ℕ → Result ℕ Reason → Dialogue Ran
run_agreed_from start image budget (Ok version) = events_of budget image budget (next_within budget start)
run_agreed_from start image budget (Err reason) = part_with reason (record { cpu = start; end = Terminated reason })

-- The whole run from a vCPU: the host's versions are asked for and heard, and then come the events.
abbrev pub run_from : Counted → Contents → ℕ → Dialogue Ran
run_from start image budget =
    say (Exit question ∷ []) (listen negotiating (λ version. run_agreed_from start image budget version))

-- from vCPU 0 as the image opens it
abbrev pub run_of : Contents → ℕ → Dialogue Ran
run_of image budget = run_from (start_of image 0) image budget

-- the run where the words that come are these, and zeros after them: its trace, the vCPU with its end, and the words
-- that are left
abbrev pub run_on_words : Contents → ℕ → List ℕ → Taken Ran
run_on_words image budget words = answered_by (run_of image budget) words
