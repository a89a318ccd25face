use Rattle.std.proofs.Common.{◌≡◌, ℕ, ◌<◌, get_or}
use Rattle.device_bus.proofs.bus.numbers.Given as goal

abbrev pub invariant-loop-vcpu : goal.invariant-loop-vcpu
invariant-loop-vcpu l = (k : ℕ) → k < l.vcpu → get_or l.number-items k 0 ≡ k
