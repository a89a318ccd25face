use Rattle.std.proofs.Common.{◌≡◌}
use Rattle.plain_machine.specs.Plain.{first_stops}
use Rattle.plain_machine.proofs.machine.first_vcpus.Given as goal

-- the first vCPUs are at their first stops
abbrev pub invariant-loop-number : goal.invariant-loop-number
invariant-loop-number l = l.vcpus.items ≡ first_stops l.image l.budget 0 l.number
