use Rattle.std.proofs.Common.{◌≡◌, ◌+◌, ◌-◌, ◌*◌, ◌++◌, length, false}
use Rattle.std.specs.Prelude.{map}
use Rattle.x86_base.specs.Widths.{size_of}
use Rattle.event_table.specs.Elements.{bytes_in, movable, element_width}
use Rattle.event_table.specs.Places.{read, vcpu}
use Rattle.event_table.specs.Plan.{setting}
use Rattle.string_io.proofs.asking.outputs.Given as goal

abbrev pub invariant-loop-n : goal.invariant-loop-n
invariant-loop-n l = record {
  count :
      length (movable false (element_width l.insn) (setting (vcpu l.regs l.ram) l.insn.len) (l.most - l.n) l.element) + l.n
      ≡ length (movable false (element_width l.insn) (setting (vcpu l.regs l.ram) l.insn.len) l.most l.at);
  room : length l.bytes ≡ l.n * size_of (element_width l.insn);
  whole :
      l.bytes ++ bytes_in (size_of (element_width l.insn)) (map (read (vcpu l.regs l.ram)) (movable false (element_width l.insn) (setting (vcpu l.regs l.ram) l.insn.len) (l.most - l.n) l.element))
      ≡ bytes_in (size_of (element_width l.insn)) (map (read (vcpu l.regs l.ram)) (movable false (element_width l.insn) (setting (vcpu l.regs l.ram) l.insn.len) l.most l.at));
}
