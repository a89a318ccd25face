use Rattle.std.proofs.Common.{◌∙◌, ap, refl, sym}
use Rattle.event_table.specs.declared.end.End.TheVariants.{Undecoded}
use Rattle.event_table.specs.Moves.{move_of}
use Rattle.event_table.specs.Places.{Vcpu, vcpu}
use Rattle.event_table.specs.Plan.{Ends, Stepped, Stops, end_of, event_asked, setting}
use Rattle.guest_interp.specs.Stepping.{stepped_by}
use Rattle.guest_interp.proofs.Paging.{asks_outside, stops_outside}
use Rattle.guest_interp.proofs.stepping.attempt_private.Goals as goal

pub returns-then-reaches_page-clause-done : goal.returns-then-reaches_page-clause-done
returns-then-reaches_page-clause-done c =
    asks_outside c.args.insn.now (vcpu c.private.new.regs c.private.new.ram) c.reaches_page.new.event c.requires.string
    (c.if-reaches_page.ensures.moves refl) (c.if-reaches_page.ensures.named (c.if-reaches_page.ensures.moves refl))
    ∙ ap (λ (v : Vcpu). stepped_by c.args.insn.now v) c.in-Err.ensures.kept

pub returns-else-reaches_page-clause-done : goal.returns-else-reaches_page-clause-done
returns-else-reaches_page-clause-done c =
    let stays = c.in-Err.ensures.kept in
    let stops : Vcpu → Stepped = λ v. Stops (end_of c.in-Err.stop) v in
    ap stops stays
    ∙ stops_outside c.args.insn.now (vcpu c.args.regs.now c.args.ram.now) (end_of c.in-Err.stop) c.requires.string c.requires.private
    (λ is. c.if-reaches_page.ensures.named is ∙ ap (λ (v : Vcpu). event_asked v (move_of c.args.insn.now (setting v c.args.insn.now.len) (Ends Undecoded))) stays)
    (sym (ap stops stays) ∙ c.in-Err.ensures.done)
