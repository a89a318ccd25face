use Rattle.std.proofs.Common.{◌≡◌, ◌∙◌, ◌+◌, ◌-◌, ap, sym, arith, true}
use Rattle.event_table.specs.declared.places.Place.{Place}
use Rattle.event_table.specs.declared.places.Place.TheVariants.{Bytes}
use Rattle.event_table.specs.Elements.{can_move, element_width, is_input}
use Rattle.event_table.specs.Places.{vcpu}
use Rattle.event_table.specs.Plan.{Setting, setting}
use Rattle.secret_labels.specs.Cleared.{cleared}
use Rattle.secret_labels.proofs.Taken.{movable_from, passed}
use Rattle.secret_labels.proofs.strings.note_elements.Goals as goal

pub loop-preserved : goal.loop-preserved
loop-preserved c =
    let i = c.args.insn.now in
    let s : Setting = setting (vcpu c.args.regs.now c.args.ram.now) i.len in
    let at = c.loop.element in
    let here : Place = Bytes at (element_width i) in
    let next = c.next_address-element.result in
    let can : can_move (is_input i.op) s here ≡ true = cc in
    let rest = movable_from i s (c.args.most - (c.loop.counter + 1)) next in
    let first = passed i s c.args.most c.loop.counter at next (omega (arith, c.loop-test.true)) can cc in
    ap (cleared i rest) c.note_element.ensures.change ∙ sym (ap (λ places. cleared i places c.loop.marks) first) ∙ c.loop.invariant
