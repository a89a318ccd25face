use Rattle.std.proofs.Common.{◌≡◌, ◌∙◌, subst, rules}
use Rattle.page_words.specs.Told.{kept_after_all}
use Rattle.host_events.proofs.Blocks.{makes_kept}
use Rattle.page_words.specs.Told.{Makes, keeping}
use Rattle.vc_handler.specs.Wire.{wire}
use Rattle.both_ends.proofs.Exchanging.{exchanged}
use Rattle.both_ends.proofs.exchange.Goals as goal

pub returns-clause-exchanged : goal.returns-clause-exchanged
returns-clause-exchanged g c =
    let told = g.H.Host.told in
    let makes : Makes (keeping c.args.page.now) (wire c.args.vcpu c.args.event.now) (keeping c.show.new.page) =
    subst (λ i. Makes (keeping c.args.page.now) (wire i c.args.event.now) (keeping c.show.new.page)) c.new-vc.ensures.vcpu c.show.ensures.wire in
    exchanged c.args.vcpu c.args.event.now c.args.page.now c.show.new.page c.serve.new.page c.accept.new.page (told c.args.host.now) (told c.serve.new.self) c.accept.result
    c.requires.few c.requires.lawful c.word.ensures.full makes c.in_ok-serve.ensures.ok c.in_ok-serve.ensures.page c.accept.ensures.reads

pub returns-in_err-serve-clause-err_page : goal.returns-in_err-serve-clause-err_page
returns-in_err-serve-clause-err_page g c =
    let makes : Makes (keeping c.args.page.now) (wire c.args.vcpu c.args.event.now) (keeping c.show.new.page) =
    subst (λ i. Makes (keeping c.args.page.now) (wire i c.args.event.now) (keeping c.show.new.page)) c.new-vc.ensures.vcpu c.show.ensures.wire in
    let page : c.serve.new.page ≡ kept_after_all c.args.page.now (wire c.args.vcpu c.args.event.now) =
    c.in_err-serve.ensures.err_page ∙ makes_kept c.args.page.now c.show.new.page (wire c.args.vcpu c.args.event.now) makes in
    search (rules, page)
