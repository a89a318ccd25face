use Rattle.std.proofs.Common.{◌≡◌, ◌-◌}
use Rattle.event_table.specs.Places.{vcpu}
use Rattle.event_table.specs.Plan.{Setting, setting}
use Rattle.secret_labels.specs.Labels.{any}
use Rattle.secret_labels.proofs.Taken.{movable_from}
use Rattle.secret_labels.proofs.strings.is_on_elements.Given as goal

-- none of those before has a label
abbrev pub invariant-loop : goal.invariant-loop
invariant-loop l =
    let s : Setting = setting (vcpu l.regs l.ram) l.insn.len in
    any l.marks (movable_from l.insn s (l.most - l.counter) l.element) ≡ any l.marks (movable_from l.insn s l.most l.at)
