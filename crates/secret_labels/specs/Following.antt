-- What a run of a vCPU comes to with labels: the first use of one, or where it stops.
use Rattle.std.specs.Prelude.{ℕ, zero, suc, ◌+◌, ◌-◌, true, false, List, [], ◌∷◌, length, replicate, Result, Ok, Err}
use Rattle.page_words.specs.declared.item.Item.TheVariants.{Exit}
use Rattle.page_words.specs.Dialogue.{Dialogue, over, say, listen, ◌>>=◌, answered_by}
use Rattle.image_file.specs.Image.{Contents, opening_ram}
use Rattle.event_table.specs.declared.end.End.TheVariants.{Spent, Terminated}
use Rattle.event_table.specs.declared.end.Reason.{Reason}
use Rattle.event_table.specs.declared.event.Event.{Event}
use Rattle.event_table.specs.declared.outcome.Outcome.{Outcome}
use Rattle.event_table.specs.declared.outcome.Outcome.TheVariants.{Done, Raise, Terminate}
use Rattle.event_table.specs.declared.outcome.Reply.{Reply}
use Rattle.event_table.specs.Lawful.{count_of}
use Rattle.event_table.specs.Places.{Vcpu}
use Rattle.event_table.specs.Plan.{Use, Address, Branch, Named, Stepped, Moved, Exits, Stops, setting}
use Rattle.event_table.specs.Raising.{raise_of, step_raised}
use Rattle.guest_interp.specs.Stepping.{Counted, at_count, counted, insn_at, plan_by, exit_by, step_of, results_of, Standstill, Waits, Ended, start_of}
use Rattle.vc_handler.specs.Accept.{accepting}
use Rattle.vc_handler.specs.Version.{negotiating, question}
use Rattle.vc_handler.specs.Wire.{wire}
use Rattle.hostile_host.specs.Answered.{part_with}
use Rattle.secret_labels.specs.Labels.{Labels, Noted, Uses, Quiet, noted, noted_after, set_bytes}
use Rattle.secret_labels.specs.declared.verdict.Verdict.{Verdict}
use Rattle.secret_labels.specs.declared.verdict.Verdict.TheVariants.{Clean, Flows}
use Rattle.secret_labels.specs.declared.verdict.What.{What}
use Rattle.secret_labels.specs.declared.verdict.What.TheVariants as what

abbrev pub what_of : Use → What
what_of Address = what.Address
what_of Branch = what.Branch
what_of Named = what.Named

-- one instruction of a vCPU, with labels
unfoldable pub noted_step : Labels → Vcpu → Noted
noted_step l v = noted l v (plan_by (insn_at v.ram v.regs.rip) v)

-- and how it goes on with the reply to the event that it asks
unfoldable pub noted_results : Reply → Labels → Vcpu → Noted
noted_results reply l v = noted_after reply l v (exit_by (insn_at v.ram v.regs.rip) v)

-- an exception's delivery
abbrev pub noted_raised : Contents → ℕ → ℕ → Labels → Vcpu → Noted
noted_raised image vector code l v = noted l v (raise_of image.header (setting v 0) vector code)

-- Where a vCPU with labels comes to: a labelled value goes into something after so many steps, or it stops, with these
-- labels.
pub data Met : Type 0 where
  Leaks : (steps : ℕ) → (kind : Use) → Met
  Stands : (labels : Labels) → (stop : Standstill) → Met

-- after an instruction, if `more` tells it of one that moved on
abbrev pub met_after : ℕ → Noted → Stepped → (Labels → Counted → Met) → Met
met_after steps (Uses kind) s more = Leaks steps kind
met_after steps (Quiet l) (Moved v) more = more l (at_count v (steps + 1))
met_after steps (Quiet l) (Exits event v) more = Stands l (Waits event (at_count v steps))
met_after steps (Quiet l) (Stops end v) more = Stands l (Ended end (at_count v (counted end steps)))

-- once an event of so many accesses is answered, which is as many steps; an exception in its place is one
abbrev pub met_answered : ℕ → ℕ → Noted → Stepped → (Labels → Counted → Met) → Met
met_answered count steps (Uses kind) s more = Leaks steps kind
met_answered count steps (Quiet l) (Moved v) more = more l (at_count v (steps + count))
met_answered count steps (Quiet l) (Exits event v) more = Stands l (Waits event (at_count v (steps + count)))
met_answered count steps (Quiet l) (Stops end v) more = Stands l (Ended end (at_count v (counted end steps)))

-- by itself, with so many steps left
abbrev pub met_of : ℕ → Labels → Counted → Met
met_of zero l c = Stands l (Ended Spent c)
met_of (suc left) l c = met_after c.steps (noted_step l c.vcpu) (step_of c.vcpu) (λ m gone. met_of left m gone)

abbrev pub met_within : ℕ → Labels → Counted → Met
met_within budget l c = met_of (budget - c.steps) l c

-- once its event is answered with this reply
abbrev pub met_placed : ℕ → Event → Reply → Labels → Counted → Met
met_placed budget event reply l c =
    let noted = noted_results reply l c.vcpu in
    met_answered (count_of event) c.steps noted (results_of reply c.vcpu) (λ m gone. met_within budget m gone)

-- once an exception is delivered in its place
abbrev pub met_raised : Contents → ℕ → ℕ → ℕ → Labels → Counted → Met
met_raised image budget vector code l c =
    let noted = noted_raised image vector code l c.vcpu in
    met_answered 1 c.steps noted (step_raised image vector code c.vcpu) (λ m gone. met_within budget m gone)

-- by the outcome of its event
abbrev pub met_heard : Contents → ℕ → Labels → Counted → Event → Outcome → Dialogue Met
met_heard image budget l c event (Done reply) = over (met_placed budget event reply l c)
met_heard image budget l c event (Raise vector code) = over (met_raised image budget vector code l c)
met_heard image budget l c event (Terminate reason) = part_with reason (Stands l (Ended (Terminated reason) c))

-- The verdict from there: each event is shown and its reply listened to, as in a run without labels.
abbrev pub verdict_from : ℕ → Contents → ℕ → Met → Dialogue Verdict
verdict_from events image budget (Leaks steps kind) = over (Flows steps (what_of kind))
verdict_from events image budget (Stands l (Ended end c)) = over (Clean end c.steps)
verdict_from zero image budget (Stands l (Waits event c)) = over (Clean Spent c.steps)
verdict_from (suc events) image budget (Stands l (Waits event c)) =
    say (wire 0 event) (listen (accepting event) (λ outcome.
    met_heard image budget l c event outcome >>= (λ met. verdict_from events image budget met)))

abbrev pub verdict_agreed : Labels → Counted → Contents → ℕ → Result ℕ Reason → Dialogue Verdict
verdict_agreed l start image budget (Ok version) = verdict_from budget image budget (met_within budget l start)
verdict_agreed l start image budget (Err reason) = part_with reason (Clean (Terminated reason) start.steps)

-- The verdict of a whole run from a vCPU with labels: the host's versions are asked for and heard, and then come the
-- events.
abbrev pub verdict_on : Labels → Counted → Contents → ℕ → Dialogue Verdict
verdict_on l start image budget =
    say (Exit question ∷ []) (listen negotiating (λ version. verdict_agreed l start image budget version))

-- at the start exactly the bytes of the secret are labelled
abbrev pub secret_of : Contents → Labels
secret_of image = let h = image.header in record {
  gpr = replicate 16 false;
  status = false;
  ram = set_bytes h.secret_len h.secret_start true (replicate (length (opening_ram image).bytes) false);
}

-- from vCPU 0 as the image opens it
abbrev pub verdict_of : Contents → ℕ → Dialogue Verdict
verdict_of image budget = verdict_on (secret_of image) (start_of image 0) image budget

-- the verdict where the words that come are these, and zeros after them
abbrev pub labelled : Contents → ℕ → List ℕ → Verdict
labelled image budget words = (answered_by (verdict_of image budget) words).value
