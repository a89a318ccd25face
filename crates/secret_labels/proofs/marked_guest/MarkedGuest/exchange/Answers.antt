use Rattle.std.proofs.Common.{subst}
use Rattle.page_words.specs.Told.{Makes}
use Rattle.vc_handler.specs.Accept.{outcome_in}
use Rattle.vc_handler.specs.Wire.{wire}
use Rattle.vcpu_core.proofs.Taking.{takable}
use Rattle.guest_interp.specs.Guest.{counted_vcpu}
use Rattle.secret_labels.specs.Marked.{met_in}
use Rattle.secret_labels.proofs.Answering.{event_runs, has_room, unbounded}
use Rattle.secret_labels.proofs.marked_guest.MarkedGuest.exchange.Goals as goal

pub accept_into-answer-requires-clause-room : goal.accept_into-answer-requires-clause-room
accept_into-answer-requires-clause-room g c =
    let told = g.P.Page.told in
    has_room 320 (told c.show.new.page) (unbounded _ (told c.args.page.now) (told c.show.new.page) c.requires.room c.show.ensures.wire)

pub settle-requires-clause-takable : goal.settle-requires-clause-takable
settle-requires-clause-takable g c =
    takable c.args.self.now.event (outcome_in c.accept_into-answer.result c.accept_into-answer.new.reply) _ _ c.accept_into-answer.ensures.reads

pub returns-clause-runs : goal.returns-clause-runs
returns-clause-runs g c =
    let told = g.P.Page.told in
    let self = c.args.self.now in
    let before = told c.args.page.now in
    let shown = told c.show.new.page in
    event_runs c.args.image.now c.args.budget self.marks (counted_vcpu self.guest) self.event (outcome_in c.accept_into-answer.result c.accept_into-answer.new.reply) (met_in c.settle.result c.settle.new.self)
    before shown (told c.accept_into-answer.new.page) (told c.settle.new.page)
    (subst (λ n. Makes before (wire n self.event) shown) c.new-vc.ensures.vcpu c.show.ensures.wire) c.accept_into-answer.ensures.reads c.settle.ensures.runs

pub returns-clause-room : goal.returns-clause-room
returns-clause-room g c =
    let told = g.P.Page.told in
    let before = told c.args.page.now in
    let shown = told c.show.new.page in
    let heard = told c.accept_into-answer.new.page in
    let free = unbounded _ before shown c.requires.room c.show.ensures.wire in
    let reads = c.accept_into-answer.ensures.reads in
    let runs = c.settle.ensures.runs in
    unbounded runs.items heard (told c.settle.new.page) (unbounded reads.items shown heard free reads.makes) runs.makes
