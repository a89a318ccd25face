-- What comes of accesses is over with the instruction.
use Rattle.std.proofs.Common.{◌≡◌, ℕ, zero, suc, ◌==◌, [], ◌∷◌, Option, Some, None, map, refl, subst, Result, Ok, Err}
use Rattle.std.specs.Prelude.{option_and_then}
use Rattle.std.proofs.lemmas.Option.{same_Some}
use Rattle.x86_base.specs.declared.insn.Insn.{Insn}
use Rattle.image_file.specs.Image.{Contents}
use Rattle.event_table.specs.declared.end.End.{End}
use Rattle.event_table.specs.declared.event.Event.{Event}
use Rattle.event_table.specs.declared.event.Event.TheVariants.{One, Many}
use Rattle.event_table.specs.declared.outcome.Reply.{Reply}
use Rattle.event_table.specs.declared.places.Place.TheVariants.{Bytes}
use Rattle.event_table.specs.Elements.{can_move, element_of, element_width, is_input, is_string}
use Rattle.event_table.specs.Ending.{IsOver}
use Rattle.event_table.specs.Events.{kind_at, port_at}
use Rattle.event_table.specs.Moves.{is_move}
use Rattle.event_table.specs.Places.{Vcpu, number, read}
use Rattle.event_table.specs.Plan.{Plan, Stepped, Moved, Exits, Stops, apart, event_asked, reply_with, step_answered}
use Rattle.event_table.proofs.Over.{raised_over}
use Rattle.guest_interp.specs.Stepping.{insn_at}
use Rattle.guest_interp.proofs.Going.{exit_over, over_if, paged_over, results_over, taking_over}
use Rattle.device_bus.specs.declared.answer.Answer.{Answer}
use Rattle.device_bus.specs.declared.answer.Answer.TheVariants.{Done, Raise}
use Rattle.device_bus.specs.Devices.{Devices, answer}
use Rattle.device_bus.specs.History.{bytes_to}
use Rattle.string_io.specs.Blocks.{bytes_reply}
use Rattle.string_io.proofs.Along.{at_of, left_of}
use Rattle.plain_machine.specs.Single.{Accessed, alone_at, alone_by, answer_applied, event_applied, single_answered, single_by, single_from, singles}

-- an event at once
pub answer_over : (image : Contents) (a : Answer) (v : Vcpu) → IsOver (answer_applied image a v)
answer_over image (Done values) v = results_over v (reply_with values)
answer_over image (Raise vector code) v = raised_over image vector code v

pub applied_over : (image : Contents) (i : ℕ) (event : Event) (v : Vcpu) (d : Devices) → IsOver (event_applied image i event v d)
applied_over image i (One access) v d = answer_over image (answer d i access) v
applied_over image i (Many block) v d = results_over v (bytes_reply (bytes_to d i block))

-- an element alone
element_over : (i : Insn) (v : Vcpu) (reply : Reply) → IsOver (step_answered reply v (element_of i (apart v i.len)))
element_over i v reply =
    over_if (left_of i.rep v == 0) v reply _ _ tt
    (over_if (can_move (is_input i.op) (apart v i.len) (Bytes (at_of i v) (element_width i))) v reply _ _ (taking_over i (apart v i.len) (at_of i v) (left_of i.rep v) (reply.values.a ∷ []) v) tt)

alone_by_over : (r : Result Insn End) (v : Vcpu) (reply : Reply) → IsOver (step_answered reply v (alone_by r v))
alone_by_over (Ok i) v reply =
    over_if (is_string i.op) v reply _ _ (element_over i v reply)
    (over_if (is_move i.op) v reply _ _ (paged_over i (apart v i.len) v reply)
    (exit_over (kind_at i.op i.width (number (map (read v) (port_at i.op i ∷ [])) 0)) (apart v i.len) v reply))
alone_by_over (Err end) v reply = tt

alone_over : (v : Vcpu) (reply : Reply) → IsOver (step_answered reply v (alone_at v))
unfolding alone_at
alone_over v reply = alone_by_over (insn_at v.ram v.regs.rip) v reply

single_over : (image : Contents) (a : Answer) (v : Vcpu) (plan : Plan) → ((reply : Reply) → IsOver (step_answered reply v plan)) → IsOver (single_answered image a v plan)
single_over image (Done values) v plan over = over (reply_with values)
single_over image (Raise vector code) v plan over = raised_over image vector code v

single_by_over : (image : Contents) (i : ℕ) (e : Option Event) (v : Vcpu) (plan : Plan) (d : Devices) (a : Accessed) → ((reply : Reply) → IsOver (step_answered reply v plan)) →
    single_by image i e v plan d ≡ Some a → IsOver a.stands
single_by_over image i (Some (One access)) v plan d a over is = subst (λ (x : Accessed). IsOver x.stands) (same_Some _ _ is) (single_over image (answer d i access) v plan over)
single_by_over image i (Some (Many block)) v plan d a over is = absurd (cc)
single_by_over image i None v plan d a over is = absurd (cc)

single_from_over : (image : Contents) (i : ℕ) (s : Stepped) (d : Devices) (a : Accessed) → single_from image i s d ≡ Some a → IsOver a.stands
single_from_over image i (Moved v) d a is = single_by_over image i (event_asked v (alone_at v)) v (alone_at v) d a (alone_over v) is
single_from_over image i (Exits event v) d a is = absurd (cc)
single_from_over image i (Stops end v) d a is = absurd (cc)

then_over : (image : Contents) (i n : ℕ) (o : Option Accessed) (a : Accessed) → ((x : Accessed) → o ≡ Some x → IsOver x.stands) →
    ((x : Accessed) → IsOver x.stands → singles image i n x.stands x.devices ≡ Some a → IsOver a.stands) →
    option_and_then (λ x. singles image i n x.stands x.devices) o ≡ Some a → IsOver a.stands
then_over image i n None a made rest is = absurd (cc)
then_over image i n (Some x) a made rest is = rest x (made x refl) is

-- so many accesses, one after another
pub singles_over : (image : Contents) (i n : ℕ) (s : Stepped) (d : Devices) (a : Accessed) → IsOver s → singles image i n s d ≡ Some a → IsOver a.stands
singles_over image i zero s d a over is = subst (λ (x : Accessed). IsOver x.stands) (same_Some _ _ is) over
singles_over image i (suc n) s d a over is =
    then_over image i n (single_from image i s d) a (λ x made. single_from_over image i s d x made) (λ x so more. singles_over image i n x.stands x.devices a so more) is
