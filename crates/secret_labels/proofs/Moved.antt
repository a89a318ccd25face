-- The private plan of a move.
use Rattle.std.proofs.Common.{◌≡◌, ◌∙◌, ap, sym}
use Rattle.x86_base.specs.declared.insn.Insn.{Insn}
use Rattle.x86_base.specs.declared.op.Op.{Op}
use Rattle.event_table.specs.Moves.{move_of}
use Rattle.event_table.specs.Places.{Vcpu}
use Rattle.event_table.specs.Plan.{Plan, Setting}
use Rattle.guest_interp.specs.Table.{alu_op_of, private_by, private_of}
use Rattle.secret_labels.specs.Labels.{Labels, Noted, noted}

-- by its operation, which calculates nothing
pub private_as : (i : Insn) (s : Setting) (o : Op) → i.op ≡ o → private_of i s ≡ private_by (alu_op_of o) (record i { op = o }) s
private_as i s o is = ap (λ (p : Op). private_by (alu_op_of p) (record i { op = p }) s) is

pub noted_private : (l : Labels) (v : Vcpu) (i : Insn) (s : Setting) (n : Noted) (p : Plan) → n ≡ noted l v (move_of i s p) → private_of i s ≡ p → n ≡ noted l v (move_of i s (private_of i s))
noted_private l v i s n p is same = is ∙ ap (λ (q : Plan). noted l v (move_of i s q)) (sym same)
