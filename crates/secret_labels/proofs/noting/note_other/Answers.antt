use Rattle.guest_interp.specs.Table.{with_sign}
use Rattle.secret_labels.proofs.noting.note_other.Goals as goal

pub returns-in-Mov : goal.returns-in-Mov
returns-in-Mov c = record { noted = rw c.in-Mov.is (c.note_move.ensures.noted (λ value. value)) }

pub returns-in-Movzx : goal.returns-in-Movzx
returns-in-Movzx c = record { noted = rw c.in-Movzx.is (c.note_move-in-Movzx.ensures.noted (λ value. value)) }

pub returns-in-Movsx : goal.returns-in-Movsx
returns-in-Movsx c = record { noted = rw c.in-Movsx.is (c.note_move-in-Movsx.ensures.noted (with_sign c.args.insn.now)) }

pub returns-in-Movsxd : goal.returns-in-Movsxd
returns-in-Movsxd c = record { noted = rw c.in-Movsxd.is (c.note_move-in-Movsxd.ensures.noted (with_sign c.args.insn.now)) }
