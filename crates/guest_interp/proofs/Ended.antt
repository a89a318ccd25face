-- A vCPU's ends by itself are its own.
use Rattle.std.proofs.Common.{ℕ, zero, suc, ◌+◌, ◌-◌, Result, Ok, Err, map}
use Rattle.x86_base.specs.declared.insn.Insn.{Insn}
use Rattle.insn_decode.specs.declared.fault.DecodeFault.{DecodeFault}
use Rattle.insn_decode.specs.declared.fault.DecodeFault.TheVariants as fault
use Rattle.insn_decode.specs.Reading.{decode_of}
use Rattle.image_file.specs.Ram.{code_from}
use Rattle.event_table.specs.declared.end.End.{End}
use Rattle.event_table.specs.declared.end.End.TheVariants as ends
use Rattle.event_table.specs.Ending.{IsOwnEnd, IsOver}
use Rattle.event_table.specs.Places.{Vcpu, read}
use Rattle.event_table.specs.Plan.{Plan, Ends, Next, Then, Looks, Asks, Stepped, Moved, Exits, Stops, apply, setting, stepped}
use Rattle.event_table.proofs.Over.{raised_over}
use Rattle.guest_interp.specs.Ending.{HasOwnEnd, IsUnterminated, OwnEnds}
use Rattle.guest_interp.specs.Stepping.{Counted, at_count, Ended, fetched, next_of, next_within, plan_by, plan_of, Standstill, step_of, stop_after, stop_answered}
use Rattle.guest_interp.proofs.Going.{results_over}
use Rattle.guest_interp.proofs.Guarded.{Guards, guards_plan_of}

own_stepped : (code : ℕ) (v : Vcpu) (plan : Plan) → Guards code plan → HasOwnEnd (stepped v plan)
own_stepped code v (Ends end) guards = guards
own_stepped code v Next guards = tt
own_stepped code v (Then change rest) guards = own_stepped code (apply change v) rest guards.2
own_stepped code v (Looks kind places next) guards = own_stepped code v (next (map (read v) places)) (guards (map (read v) places))
own_stepped code v (Asks event done) guards = tt

own_instruction : (i : Insn) (v : Vcpu) → HasOwnEnd (stepped v (plan_of i (setting v i.len)))
own_instruction i v = own_stepped v.ram.code v (plan_of i (setting v i.len)) (guards_plan_of i (setting v i.len))

-- where there is no instruction
own_fetched : (code rip : ℕ) (r : Result Insn DecodeFault) (v : Vcpu) → HasOwnEnd (stepped v (plan_by (fetched code rip r) v))
own_fetched code rip (Ok i) v = own_instruction i v
own_fetched code rip (Err fault.Short) v = tt
own_fetched code rip (Err fault.TooLong) v = tt
own_fetched code rip (Err fault.Undecoded) v = tt

own_step : (v : Vcpu) → HasOwnEnd (step_of v)
unfolding step_of
own_step v = own_fetched v.ram.code v.regs.rip (decode_of (code_from v.ram v.regs.rip)) v

own_end : (end : End) (c : Counted) → IsOwnEnd end → IsUnterminated (Ended end c)
own_end (ends.Terminated reason) c own = own
own_end _ c own = tt

stops_after : (steps : ℕ) (s : Stepped) (more : Counted → Standstill) → HasOwnEnd s → ((gone : Counted) → IsUnterminated (more gone)) → IsUnterminated (stop_after steps s more)
stops_after steps (Moved v) more own rest = rest (at_count v (steps + 1))
stops_after steps (Exits event v) more own rest = tt
stops_after steps (Stops end v) more own rest = own_end end _ own

stops : (left : ℕ) (c : Counted) → IsUnterminated (next_of left c)
stops zero c = tt
stops (suc left) c = stops_after c.steps (step_of c.vcpu) _ (own_step c.vcpu) (λ gone. stops left gone)

stops_answered : (budget count steps : ℕ) (s : Stepped) → IsOver s → IsUnterminated (stop_answered count steps s (λ gone. next_within budget gone))
stops_answered budget count steps (Moved v) over = stops (budget - (steps + count)) (at_count v (steps + count))
stops_answered budget count steps (Exits event v) over = absurd over
stops_answered budget count steps (Stops end v) over = own_end end _ over

pub own_ends : OwnEnds
own_ends = record {
  instruction = own_instruction;
  step = own_step;
  answer = results_over;
  exception = raised_over;
  stop = λ budget c. stops (budget - c.steps) c;
  further = stops_answered;
}
