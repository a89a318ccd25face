-- How a vCPU ends by itself: neither an instruction, an answer nor an exception ends its communication with the host.
use Rattle.std.specs.Prelude.{ℕ}
use Rattle.image_file.specs.Image.{Contents}
use Rattle.x86_base.specs.declared.insn.Insn.{Insn}
use Rattle.event_table.specs.declared.outcome.Reply.{Reply}
use Rattle.event_table.specs.declared.end.End.TheVariants.{Terminated}
use Rattle.event_table.specs.Ending.{IsOwnEnd, IsOver}
use Rattle.event_table.specs.Places.{Vcpu}
use Rattle.event_table.specs.Plan.{Stepped, Stops}
use Rattle.event_table.specs.Raising.{step_raised}
use Rattle.guest_interp.specs.Stepping.{Counted, Standstill, Ended, next_within, results_of, step_of, stepped_by, stop_answered}

-- where it stops, the end is its own
abbrev pub HasOwnEnd : Stepped → Type 0
HasOwnEnd (Stops end v) = IsOwnEnd end
HasOwnEnd _ = Unit {0}

-- it waits for an event, or has ended otherwise than by a termination
abbrev pub IsUnterminated : Standstill → Type 0
IsUnterminated (Ended (Terminated reason) c) = ⊥
IsUnterminated _ = Unit {0}

pub record OwnEnds : Type 0 where
  -- what an instruction comes to, and what a vCPU's next one does
  pub instruction : (i : Insn) (v : Vcpu) → HasOwnEnd (stepped_by i v)
  pub step : (v : Vcpu) → HasOwnEnd (step_of v)
  -- an event that is answered, and an exception, ask nothing more
  pub answer : (v : Vcpu) (reply : Reply) → IsOver (results_of reply v)
  pub exception : (image : Contents) (vector code : ℕ) (v : Vcpu) → IsOver (step_raised image vector code v)
  -- where it stops by itself, and after an answer or an exception
  pub stop : (budget : ℕ) (c : Counted) → IsUnterminated (next_within budget c)
  pub further : (budget count steps : ℕ) (s : Stepped) → IsOver s → IsUnterminated (stop_answered count steps s (λ gone. next_within budget gone))
