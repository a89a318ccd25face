use Rattle.std.proofs.Common.{◌≡◌, ◌∙◌, ◌+◌, ◌-◌, ap, sym, refl, arith, true, false}
use Rattle.x86_base.specs.Widths.{size_of}
use Rattle.event_table.specs.declared.places.Place.{Place}
use Rattle.event_table.specs.declared.places.Place.TheVariants.{Bytes}
use Rattle.event_table.specs.Elements.{can_move, element_width, is_input, next_address}
use Rattle.event_table.specs.Places.{vcpu}
use Rattle.event_table.specs.Plan.{Setting, setting}
use Rattle.secret_labels.specs.Labels.{any, is_labelled}
use Rattle.secret_labels.proofs.Taken.{any_found, any_passed, movable_from, passed}
use Rattle.secret_labels.proofs.strings.is_on_elements.Goals as goal

pub returns-then-is_on : goal.returns-then-is_on
returns-then-is_on c =
    let l = c.args.marks.now in
    let i = c.args.insn.now in
    let s : Setting = setting (vcpu c.args.regs.now c.args.ram.now) i.len in
    let at = c.loop.element in
    let here : Place = Bytes at (element_width i) in
    let next = next_address s.df (size_of (element_width i)) at in
    let can : can_move (is_input i.op) s here ≡ true = cc in
    let on : is_labelled l here ≡ true = cc in
    let rest = movable_from i s (c.args.most - (c.loop.counter + 1)) next in
    let first = passed i s c.args.most c.loop.counter at next (omega (arith, c.loop-test.true)) can refl in
    record { value = sym (sym c.loop.invariant ∙ ap (λ places. any l places) first ∙ any_found l here rest on) }

pub loop-preserved : goal.loop-preserved
loop-preserved c =
    let l = c.args.marks.now in
    let i = c.args.insn.now in
    let s : Setting = setting (vcpu c.args.regs.now c.args.ram.now) i.len in
    let at = c.loop.element in
    let here : Place = Bytes at (element_width i) in
    let next = c.next_address-element.result in
    let can : can_move (is_input i.op) s here ≡ true = cc in
    let free : is_labelled l here ≡ false = cc in
    let rest = movable_from i s (c.args.most - (c.loop.counter + 1)) next in
    let first = passed i s c.args.most c.loop.counter at next (omega (arith, c.loop-test.true)) can cc in
    sym (ap (λ places. any l places) first ∙ any_passed l here rest free) ∙ c.loop.invariant
