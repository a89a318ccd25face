-- How a guest goes on.
use Rattle.std.proofs.Common.{◌≡◌, ℕ, suc, zero, ◌-◌, ◌<◌, ◌==◌, Bool, true, false, List, [], ◌∷◌, length, Option, Some, None, Result, Ok, Err, map, refl, sym, ap, ◌∙◌, arith, sub-one}
use Rattle.std.specs.Prelude.{if◌then◌else◌}
use Rattle.x86_base.specs.declared.insn.Insn.{Insn}
use Rattle.x86_base.specs.Widths.{size_of}
use Rattle.event_table.specs.declared.end.End.{End}
use Rattle.event_table.specs.declared.end.End.TheVariants.{Undecoded}
use Rattle.event_table.specs.declared.outcome.Reply.{Reply}
use Rattle.event_table.specs.declared.places.Place.{Place}
use Rattle.event_table.specs.declared.places.Place.TheVariants.{Bytes}
use Rattle.event_table.specs.declared.row.Kind.{Kind}
use Rattle.event_table.specs.Elements.{block_of, can_move, element, element_width, elements, is_input, is_string, next_address, numbers_in, taking}
use Rattle.event_table.specs.Ending.{IsOver}
use Rattle.event_table.specs.Events.{event_or, kind_at, placed_by, port_at}
use Rattle.event_table.specs.Moves.{is_from_page, is_move, is_to_page, move_of}
use Rattle.event_table.specs.Places.{Vcpu, number, read}
use Rattle.event_table.specs.Plan.{Plan, Ends, Setting, Stepped, Stops, address_places, apply, place_at, setting, step_answered, stepped}
use Rattle.string_io.proofs.Along.{at_of, left_of}
use Rattle.guest_interp.specs.Stepping.{Counted, insn_at, exit_by, plan_by, results_of, step_of, stepped_by, stop_after, next_of}

next_at : (left : ℕ) (c : Counted) → 0 < left → next_of left c ≡ stop_after c.steps (step_of c.vcpu) (λ gone. next_of (left - 1) gone)
next_at zero c some = absurd (omega arith)
next_at (suc left) c some = rw sub-one refl

-- where a vCPU stops, by its first instruction
pub next_by : (left : ℕ) (c : Counted) (s : Stepped) → 0 < left → s ≡ step_of c.vcpu → next_of left c ≡ stop_after c.steps s (λ gone. next_of (left - 1) gone)
next_by left c s some is = next_at left c some ∙ ap (λ (x : Stepped). stop_after c.steps x (λ gone. next_of (left - 1) gone)) (sym is)

-- where there is no instruction it ends
pub none_there : (v : Vcpu) (end : End) → Err end ≡ insn_at v.ram v.regs.rip → Stops end v ≡ step_of v
unfolding step_of
none_there v end is = ap (λ (r : Result Insn End). stepped v (plan_by r v)) is

-- an instruction there is what it does
pub one_there : (v : Vcpu) (i : Insn) → Ok i ≡ insn_at v.ram v.regs.rip → stepped_by i v ≡ step_of v
unfolding step_of
one_there v i is = ap (λ (r : Result Insn End). stepped v (plan_by r v)) is

-- an instruction there goes on with the reply to its event
pub one_answered : (v : Vcpu) (reply : Reply) (i : Insn) → Ok i ≡ insn_at v.ram v.regs.rip → placed_by reply i v ≡ results_of reply v
unfolding results_of
one_answered v reply i is = ap (λ (r : Result Insn End). step_answered reply v (exit_by r v)) is

pub over_if : (t : Bool) (v : Vcpu) (reply : Reply) (p q : Plan) → IsOver (step_answered reply v p) → IsOver (step_answered reply v q) → IsOver (step_answered reply v (if t then p else q))
over_if true v reply p q one other = one
over_if false v reply p q one other = other

pub taking_over : (i : Insn) (s : Setting) (at left : ℕ) (values : List ℕ) (v : Vcpu) → IsOver (stepped v (taking i s at left values))
taking_over i s at left [] v = tt
taking_over i s at left (value ∷ values) v =
    taking_over i s (next_address s.df (size_of (element_width i)) at) (left - 1) values (apply (element i s at left value) v)

string_over : (i : Insn) (v : Vcpu) (reply : Reply) → IsOver (step_answered reply v (block_of i (setting v i.len)))
string_over i v reply =
    over_if (left_of i.rep v == 0) v reply _ _ tt
    (over_if (can_move (is_input i.op) (setting v i.len) (Bytes (at_of i v) (element_width i))) v reply _ _ (taking_over i (setting v i.len) (at_of i v) (left_of i.rep v)
    (numbers_in (size_of (element_width i)) (length (elements i (setting v i.len) (at_of i v) (left_of i.rep v))) reply.bytes) v) tt)

pub exit_over : (k : Option Kind) (s : Setting) (v : Vcpu) (reply : Reply) → IsOver (step_answered reply v (event_or (Ends Undecoded) k s))
exit_over None s v reply = tt
exit_over (Some k) s v reply = tt

-- the operands of a move
abbrev pub dst_of : Insn → Setting → Vcpu → Place
dst_of i s v = place_at s.next i.width i.dst (map (read v) (address_places i.dst))

abbrev pub src_of : Insn → Setting → Vcpu → Place
src_of i s v = place_at s.next i.source_width i.src (map (read v) (address_places i.src))

pub paged_over : (i : Insn) (s : Setting) (v : Vcpu) (reply : Reply) → IsOver (step_answered reply v (move_of i s (Ends Undecoded)))
paged_over i s v reply = over_if (is_to_page s (dst_of i s v) (src_of i s v)) v reply _ _ tt (over_if (is_from_page s (dst_of i s v) (src_of i s v)) v reply _ _ tt tt)

answer_over : (r : Result Insn End) (v : Vcpu) (reply : Reply) → IsOver (step_answered reply v (exit_by r v))
answer_over (Ok i) v reply =
    over_if (is_string i.op) v reply _ _ (string_over i v reply)
    (over_if (is_move i.op) v reply _ _ (paged_over i (setting v i.len) v reply)
    (exit_over (kind_at i.op i.width (number (map (read v) (port_at i.op i ∷ [])) 0)) (setting v i.len) v reply))
answer_over (Err end) v reply = tt

-- an answered event is over: nothing more is asked
pub results_over : (v : Vcpu) (reply : Reply) → IsOver (results_of reply v)
unfolding results_of
results_over v reply = answer_over (insn_at v.ram v.regs.rip) v reply
