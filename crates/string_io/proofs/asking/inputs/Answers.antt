use Rattle.std.proofs.Common.{◌∙◌, ◌≤◌, length, ap, arith, sym}
use Rattle.event_table.specs.declared.places.Place.{Place}
use Rattle.event_table.specs.Elements.{element_width}
use Rattle.event_table.specs.Places.{vcpu}
use Rattle.event_table.specs.Plan.{Setting, setting}
use Rattle.string_io.proofs.Upwards.{upward_inputs}
use Rattle.string_io.proofs.asking.inputs.Goals as goal

pub returns-else-at-code_len-clause-count : goal.returns-else-at-code_len-clause-count
returns-else-at-code_len-clause-count c =
    let s : Setting = setting (vcpu c.args.regs.now c.args.ram.now) c.args.insn.now.len in
    let behind : s.code ≤ c.args.at = omega arith in
    c.count_upwards.ensures.count
    ∙ sym (ap (length {A = Place}) (upward_inputs (element_width c.args.insn.now) s c.args.most c.args.at c.if-regs.false c.count_upwards.ensures.small behind))
