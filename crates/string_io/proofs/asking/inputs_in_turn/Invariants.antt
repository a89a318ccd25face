use Rattle.std.proofs.Common.{◌≡◌, ◌+◌, ◌-◌, length, true}
use Rattle.event_table.specs.Elements.{movable, element_width}
use Rattle.event_table.specs.Places.{vcpu}
use Rattle.event_table.specs.Plan.{setting}
use Rattle.string_io.proofs.asking.inputs_in_turn.Given as goal

abbrev pub invariant-loop-n : goal.invariant-loop-n
invariant-loop-n l =
    length (movable true (element_width l.insn) (setting (vcpu l.regs l.ram) l.insn.len) (l.most - l.n) l.element) + l.n
    ≡ length (movable true (element_width l.insn) (setting (vcpu l.regs l.ram) l.insn.len) l.most l.at)
