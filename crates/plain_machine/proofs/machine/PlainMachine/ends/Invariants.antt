use Rattle.std.proofs.Common.{◌≡◌, ◌++◌}
use Rattle.std.specs.Prelude.{drop, map, unwrap_or}
use Rattle.event_table.specs.declared.end.End.TheVariants.{Spent}
use Rattle.plain_machine.specs.Plain.{end_of}
use Rattle.plain_machine.proofs.machine.PlainMachine.ends.Given as goal

-- the ends so far and those of the vCPUs that are left are all vCPUs' ends
abbrev pub invariant-loop-vcpu : goal.invariant-loop-vcpu
invariant-loop-vcpu l =
    l.ends.items ++ map (λ stop. unwrap_or (end_of stop) Spent) (drop l.vcpu-index l.self.vcpus.items) ≡ map (λ stop. unwrap_or (end_of stop) Spent) l.self.vcpus.items
