use Rattle.std.proofs.Common.{arith}
use Rattle.secret_labels.proofs.Answering.{later_than}
use Rattle.secret_labels.proofs.marked_guest.MarkedGuest.raise.Goals as goal

pub returns-in-Ok-clause-later : goal.returns-in-Ok-clause-later
returns-in-Ok-clause-later c =
    later_than c.args.self.now.guest.steps c.args.budget c.advance.result _ _ _ _ _ c.advance.ensures.met (omega (arith, c.in-Ok.ensures.counted))
