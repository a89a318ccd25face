use Rattle.std.proofs.Common.{◌≡◌, ◌-◌}
use Rattle.event_table.specs.Places.{vcpu}
use Rattle.event_table.specs.Plan.{Setting, setting}
use Rattle.secret_labels.specs.Cleared.{cleared}
use Rattle.secret_labels.proofs.Taken.{movable_from}
use Rattle.secret_labels.proofs.strings.note_elements.Given as goal

-- those that are left lead where all lead
abbrev pub invariant-loop : goal.invariant-loop
invariant-loop l =
    let s : Setting = setting (vcpu l.regs l.ram) l.insn.len in
    cleared l.insn (movable_from l.insn s (l.most - l.counter) l.element) l.marks ≡ cleared l.insn (movable_from l.insn s l.most l.at) l.initial.marks
