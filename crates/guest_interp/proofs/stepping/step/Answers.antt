use Rattle.std.proofs.Common.{◌∙◌, Option, ap, false, sym}
use Rattle.std.specs.Prelude.{is_some}
use Rattle.event_table.specs.declared.event.Event.{Event}
use Rattle.event_table.specs.Places.{vcpu}
use Rattle.string_io.proofs.Exactly.{asked_exactly}
use Rattle.guest_interp.specs.Guest.{asked_in}
use Rattle.guest_interp.specs.declared.stepping.Unfinished.{Unfinished}
use Rattle.guest_interp.proofs.stepping.step.Goals as goal

pub returns-in-Asks-clause-accessed : goal.returns-in-Asks-clause-accessed
returns-in-Asks-clause-accessed c =
    sym (ap (λ (left : Unfinished). is_some (asked_in false left c.attempt.new.event)) c.in-Asks.is)
    ∙ ap (λ (asked : Option Event). is_some asked) c.if-attempt.ensures.named
    ∙ asked_exactly c.args.insn.now (vcpu c.args.regs.now c.args.ram.now)
