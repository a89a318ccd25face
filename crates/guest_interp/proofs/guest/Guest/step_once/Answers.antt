use Rattle.std.proofs.Common.{rules, ◌≡◌, Ok, ap, ◌∙◌}
use Rattle.guest_interp.specs.Stepping.{insn_at, stepped_by}
use Rattle.image_file.specs.Ram.{Memory}
use Rattle.event_table.specs.Places.{Vcpu, vcpu}
use Rattle.event_table.specs.Plan.{Stops}
use Rattle.guest_interp.specs.declared.guest.Step.{Step}
use Rattle.guest_interp.specs.Guest.{as_stepped, vcpu_in}
use Rattle.guest_interp.proofs.Going.{none_there, one_there}
use Rattle.guest_interp.proofs.guest.Guest.step_once.Goals as goal

pub returns-in-Err-clause-value : goal.returns-in-Err-clause-value
returns-in-Err-clause-value c =
    ap (λ (s : Step). as_stepped s c.args.event.now (vcpu_in c.ends.new.self)) c.ends.ensures.end
    ∙ ap (λ (v : Vcpu). Stops c.in-Err.end v) c.ends.ensures.still
    ∙ ap (λ (m : Memory). Stops c.in-Err.end (vcpu c.args.self.now.regs m)) c.fetch_into.ensures.same
    ∙ none_there (vcpu_in c.args.self.now) c.in-Err.end c.in-Err.ensures.insn

pub returns-clause-value : goal.returns-clause-value
returns-clause-value c =
    let there : Ok c.fetch_into.new.into ≡ insn_at c.args.self.now.ram c.args.self.now.regs.rip = search rules in
    c.execute.ensures.value
    ∙ ap (λ (m : Memory). stepped_by c.fetch_into.new.into (vcpu c.args.self.now.regs m)) c.fetch_into.ensures.same
    ∙ one_there (vcpu_in c.args.self.now) c.fetch_into.new.into there
