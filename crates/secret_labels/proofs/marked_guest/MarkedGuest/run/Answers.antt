use Rattle.guest_interp.specs.Guest.{counted_vcpu}
use Rattle.secret_labels.proofs.Answering.{has_room, unbounded}
use Rattle.secret_labels.proofs.Concluding.{agrees, disagrees}
use Rattle.secret_labels.proofs.marked_guest.MarkedGuest.run.Goals as goal

pub conclude-requires-clause-room : goal.conclude-requires-clause-room
conclude-requires-clause-room g c =
    let reads = c.negotiate.ensures.reads in unbounded reads.items _ _ (unbounded _ _ _ c.requires.room c.ask.ensures.exit) reads.makes

pub terminate-requires : goal.terminate-requires
terminate-requires g c =
    let heard = g.P.Page.told c.negotiate.new.page in
    let reads = c.negotiate.ensures.reads in
    record { room = has_room 1 heard (unbounded reads.items _ _ (unbounded _ _ _ c.requires.room c.ask.ensures.exit) reads.makes) }

pub returns-in-Ok : goal.returns-in-Ok
returns-in-Ok g c =
    let self = c.args.self.now in
    record {
      verdict = agrees c.args.image.now c.args.budget self.marks (counted_vcpu self.guest) c.negotiate.result c.in-Ok.field-0 _ c.conclude.result _ _ _ _
          c.in-Ok.is c.ask.ensures.exit c.negotiate.ensures.reads c.advance-met.ensures.met c.conclude.ensures.verdict;
    }

pub returns-in-Err : goal.returns-in-Err
returns-in-Err g c =
    let self = c.args.self.now in
    record {
      verdict = disagrees c.args.image.now c.args.budget self.marks (counted_vcpu self.guest) c.negotiate.result c.in-Err.reason _ _ _ _
          c.in-Err.is c.ask.ensures.exit c.negotiate.ensures.reads c.terminate.ensures.exit;
    }
