use Rattle.std.proofs.Common.{◌≡◌, ◌≤◌, ◌-◌, ◌*◌, ◌++◌, length}
use Rattle.std.specs.Prelude.{if◌then◌else◌}
use Rattle.event_table.specs.declared.event.Event.TheVariants.{Many}
use Rattle.device_bus.specs.History.{after_accesses, after_event, bytes_to}
use Rattle.device_bus.proofs.Blocks.{accesses_from, bytes_back_of}
use Rattle.device_bus.proofs.block.block_bytes.Given as goal

-- the accesses that are left lead where all lead
abbrev pub invariant-loop-index : goal.invariant-loop-index
invariant-loop-index l = record {
  vcpus : l.bus.devices.vcpus ≡ l.fn.bus.devices.vcpus;
  room : l.block.count - l.index ≤ l.bus.spare;
  full : length l.bytes ≡ (if l.block.input then l.index * l.block.size else 0);
  devices : after_accesses l.bus.devices l.vcpu (accesses_from l.block l.index) ≡ after_event l.fn.bus.devices l.vcpu (Many l.block);
  bytes :
      l.bytes ++ bytes_back_of l.block.input l.block.size l.bus.devices l.vcpu (accesses_from l.block l.index)
      ≡ bytes_to l.fn.bus.devices l.vcpu l.block;
}
