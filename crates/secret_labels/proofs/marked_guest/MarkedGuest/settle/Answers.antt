use Rattle.std.proofs.Common.{rules, ◌≡◌, ap}
use Rattle.vc_handler.specs.declared.accept.Answer.{Answer}
use Rattle.vc_handler.specs.declared.accept.Answer.TheVariants as answer
use Rattle.vc_handler.specs.Accept.{outcome_in}
use Rattle.guest_interp.specs.Guest.{counted_vcpu}
use Rattle.secret_labels.proofs.Answering.{settles_end}
use Rattle.secret_labels.proofs.marked_guest.MarkedGuest.settle.Goals as goal

pub returns-in-Terminate-clause-runs : goal.returns-in-Terminate-clause-runs
returns-in-Terminate-clause-runs g c =
    let told = g.P.Page.told in
    let self = c.args.self.now in
    let is : c.args.answer ≡ answer.Terminate c.in-Terminate.reason = search rules in
    settles_end c.args.image.now c.args.budget self.marks (counted_vcpu self.guest) self.event (outcome_in c.args.answer c.args.reply.now) c.in-Terminate.reason
    (told c.args.page.now) (told c.terminate.new.page) (ap (λ (a : Answer). outcome_in a c.args.reply.now) is) c.terminate.ensures.exit
