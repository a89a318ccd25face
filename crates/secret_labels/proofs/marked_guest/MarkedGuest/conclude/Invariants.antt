use Rattle.std.proofs.Common.{◌≡◌, None}
use Rattle.secret_labels.specs.Marked.{IsReady, met_in}
use Rattle.secret_labels.proofs.Concluding.{Leads, left_by}
use Rattle.secret_labels.proofs.marked_guest.MarkedGuest.conclude.Given as goal

abbrev pub invariant-events : goal.invariant-events
invariant-events g l =
    let told = g.P.Page.told in
    record {
      room : (told l.page).spare ≡ None;
      ready : IsReady l.met l.self l.budget;
      leads : Leads l.image l.budget (met_in l.fn.start l.fn.self) (told l.fn.page) l.met l.self (told l.page);
    }

abbrev pub decreases-events : goal.decreases-events
decreases-events g l = left_by l.met l.budget l.self.guest.steps
