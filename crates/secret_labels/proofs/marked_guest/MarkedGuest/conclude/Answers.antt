use Rattle.secret_labels.proofs.Concluding.{leads_first, leads_on}
use Rattle.secret_labels.proofs.marked_guest.MarkedGuest.conclude.Goals as goal

pub events-init : goal.events-init
events-init g c =
    let told = g.P.Page.told in
    record { room = c.requires.room; ready = c.requires.ready; leads = leads_first c.args.image.now c.args.budget c.args.start c.args.self.now (told c.args.page.now) }

pub events-preserved : goal.events-preserved
events-preserved g c =
    let told = g.P.Page.told in
    let i = c.events.invariant in
    record {
      room = c.exchange-met.ensures.room;
      ready = c.exchange-met.ensures.ready;
      leads = leads_on c.args.image.now c.args.budget _ _ c.events.met c.events.self _ c.exchange-met.result c.exchange-met.new.self (told c.exchange-met.new.page) c.in-Waits.is i.leads c.exchange-met.ensures.runs i.ready c.exchange-met.ensures.later;
    }
