use Rattle.std.proofs.Common.{◌≡◌, ◌++◌}
use Rattle.std.specs.Prelude.{drop, map}
use Rattle.plain_machine.specs.Plain.{vcpu_of}
use Rattle.plain_machine.proofs.machine.PlainMachine.steps.Given as goal

-- the steps so far and those of the vCPUs that are left are all vCPUs' steps
abbrev pub invariant-loop-vcpu : goal.invariant-loop-vcpu
invariant-loop-vcpu l =
    l.steps.items ++ map (λ stop. (vcpu_of stop).steps) (drop l.vcpu-index l.self.vcpus.items) ≡ map (λ stop. (vcpu_of stop).steps) l.self.vcpus.items
