use Rattle.std.proofs.Common.{◌∙◌}
use Rattle.guest_interp.specs.Guest.{vcpu_in}
use Rattle.secret_labels.proofs.Answering.{results_there}
use Rattle.secret_labels.proofs.marked_guest.MarkedGuest.note_placed.Goals as goal

pub returns-clause-noted : goal.returns-clause-noted
returns-clause-noted c =
    c.note_reply.ensures.noted ∙ results_there c.args.reply.now c.args.self.now.marks (vcpu_in c.args.self.now.guest) c.args.self.now.insn c.requires.there.there
