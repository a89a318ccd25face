use Rattle.std.proofs.Common.{◌≡◌, ap, rules, false, true, [], ◌∷◌}
use Rattle.std.specs.Prelude.{◌==◌}
use Rattle.x86_base.specs.declared.reg.Reg.TheVariants.{Rdx}
use Rattle.x86_base.specs.declared.reg.Width.TheVariants.{B16, B64}
use Rattle.event_table.specs.declared.places.Place.TheVariants.{Bytes, Low}
use Rattle.event_table.specs.Elements.{can_move, counter, element_width, elements, is_input, pointer, shown_of}
use Rattle.event_table.specs.Places.{Vcpu, as_number, read, vcpu}
use Rattle.event_table.specs.Plan.{Setting, setting}
use Rattle.secret_labels.specs.Cleared.{cleared}
use Rattle.secret_labels.specs.Labels.{any}
use Rattle.secret_labels.proofs.Taken.{replied}
use Rattle.secret_labels.proofs.strings.note_string_reply.Goals as goal

pub returns : goal.returns
returns c =
    let l = c.args.marks.now in
    let i = c.args.insn.now in
    let v : Vcpu = vcpu c.args.regs.now c.args.ram.now in
    let s : Setting = setting v i.len in
    let at = c.get-at.result in
    let left = c.left-left.result in
    let counted : any l (counter i.rep ∷ []) ≡ false = search rules in
    let pointed : any l (Low (pointer (is_input i.op)) B64 ∷ []) ≡ false = search rules in
    let at_is : as_number (read v (Low (pointer (is_input i.op)) B64)) ≡ at = search rules in
    let left_is : as_number (read v (counter i.rep)) ≡ left = ap as_number (c.left-left.ensures.value c.args.ram.now) in
    let some : (left == 0) ≡ false = search rules in
    let can : can_move (is_input i.op) s (Bytes at (element_width i)) ≡ true = search rules in
    let silent : any l (Low Rdx B16 ∷ shown_of i (elements i s at left)) ≡ false = search rules in
    let is : c.note_elements.new.marks ≡ cleared i (elements i s at left) l = search rules in
    record { noted = replied i s v l c.note_elements.new.marks c.args._reply.now at left counted pointed at_is left_is some can silent is }
