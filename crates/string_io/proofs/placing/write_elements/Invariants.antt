use Rattle.std.proofs.Common.{◌≡◌, ◌-◌, ◌*◌, ◌≤◌, length, drop, true}
use Rattle.event_table.specs.Elements.{element_width, numbers_in}
use Rattle.event_table.specs.Places.{vcpu}
use Rattle.event_table.specs.Plan.{setting}
use Rattle.string_io.specs.Blocks.{written}
use Rattle.string_io.proofs.Along.{Movable}
use Rattle.string_io.proofs.placing.write_elements.Given as goal

-- the elements that are left can be written, and lead where all lead
abbrev pub invariant-loop : goal.invariant-loop
invariant-loop l = record {
  moves : Movable true (element_width l.insn) (setting (vcpu l.regs l.initial.ram) l.insn.len) (l.block.count - l.counter) l.at;
  same_size : length l.ram.bytes ≡ length l.initial.ram.bytes;
  same_code : l.ram.code ≡ l.initial.ram.code;
  index : l.from ≡ l.counter * l.block.size;
  room : l.block.count * l.block.size ≤ 2032;
  rest :
      written l.block.size l.regs.flags.df (numbers_in l.block.size (l.block.count - l.counter) (drop l.from l.bytes)) l.at l.ram
      ≡ written l.block.size l.regs.flags.df (numbers_in l.block.size l.block.count l.bytes) l.initial.at l.initial.ram;
}
