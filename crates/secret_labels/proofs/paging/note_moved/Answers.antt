use Rattle.x86_base.specs.declared.op.Op.TheVariants as op
use Rattle.event_table.specs.Places.{vcpu}
use Rattle.event_table.specs.Plan.{setting}
use Rattle.guest_interp.specs.Table.{move, with_sign}
use Rattle.secret_labels.proofs.Moved.{noted_private, private_as}
use Rattle.secret_labels.proofs.paging.note_moved.Goals as goal

pub returns-in-Mov : goal.returns-in-Mov
returns-in-Mov c =
    let v = vcpu c.args.regs.now c.args.ram.now in
    let i = c.args.insn.now in
    let s = setting v i.len in
    record { noted = noted_private c.args.marks.now v i s _ (move i s (λ value. value)) (c.note_page_move.ensures.noted (λ value. value)) (private_as i s op.Mov c.in-Mov.is) }

pub returns-in-Movzx : goal.returns-in-Movzx
returns-in-Movzx c =
    let v = vcpu c.args.regs.now c.args.ram.now in
    let i = c.args.insn.now in
    let s = setting v i.len in
    record { noted = noted_private c.args.marks.now v i s _ (move i s (λ value. value)) (c.note_page_move-in-Movzx.ensures.noted (λ value. value)) (private_as i s op.Movzx c.in-Movzx.is) }

pub returns-in-Movsx : goal.returns-in-Movsx
returns-in-Movsx c =
    let v = vcpu c.args.regs.now c.args.ram.now in
    let i = c.args.insn.now in
    let s = setting v i.len in
    record { noted = noted_private c.args.marks.now v i s _ (move i s (with_sign i)) (c.note_page_move-in-Movsx.ensures.noted (with_sign i)) (private_as i s op.Movsx c.in-Movsx.is) }
