use Rattle.std.proofs.Common.{rules, ◌≡◌, ap}
use Rattle.vc_handler.specs.declared.accept.Answer.{Answer}
use Rattle.vc_handler.specs.declared.accept.Answer.TheVariants as answer
use Rattle.vc_handler.specs.Accept.{outcome_in}
use Rattle.guest_interp.specs.Guest.{counted_vcpu}
use Rattle.vcpu_core.specs.State.{standing}
use Rattle.vcpu_core.proofs.Settling.{settles_so}
use Rattle.vcpu_core.proofs.handled_guest.HandledGuest.apply_answer.Goals as goal

pub returns-in-Terminate-clause-runs : goal.returns-in-Terminate-clause-runs
returns-in-Terminate-clause-runs g c =
    let told = g.P.Page.told in
    let reply = c.args.self.now.reply in
    let is : c.args.answer ≡ answer.Terminate c.in-Terminate.reason = search rules in
    settles_so c.args.image.now c.args.self.now.vc (counted_vcpu c.args.self.now.guest) c.args.self.now.event (outcome_in c.args.answer reply) c.in-Terminate.reason
    (standing c.end_with.new.self c.end_with.result) (told c.args.page.now) (told c.end_with.new.page)
    (ap (λ (a : Answer). outcome_in a reply) is) c.end_with.ensures.goes c.end_with.ensures.exit
