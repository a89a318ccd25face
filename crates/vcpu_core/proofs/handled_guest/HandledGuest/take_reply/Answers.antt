use Rattle.guest_interp.specs.Guest.{counted_vcpu}
use Rattle.vc_handler.specs.Accept.{outcome_in}
use Rattle.vcpu_core.specs.State.{standing}
use Rattle.vcpu_core.proofs.Settling.{takes}
use Rattle.vcpu_core.proofs.Taking.{takable}
use Rattle.vcpu_core.proofs.handled_guest.HandledGuest.take_reply.Goals as goal

pub apply_answer-requires-clause-takable : goal.apply_answer-requires-clause-takable
apply_answer-requires-clause-takable g c =
    takable c.args.self.now.event (outcome_in c.accept_into-answer.result c.accept_into-answer.new.reply) _ _ c.accept_into-answer.ensures.reads

pub returns-clause-runs : goal.returns-clause-runs
returns-clause-runs g c =
    let told = g.P.Page.told in
    takes c.args.image.now c.args.self.now.vc (counted_vcpu c.args.self.now.guest) c.args.self.now.event (outcome_in c.accept_into-answer.result c.accept_into-answer.new.reply)
    (standing c.apply_answer.new.self c.apply_answer.result)
    (told c.args.page.now) (told c.accept_into-answer.new.page) (told c.apply_answer.new.page) c.accept_into-answer.ensures.reads c.apply_answer.ensures.runs
