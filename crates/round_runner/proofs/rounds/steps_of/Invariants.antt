use Rattle.std.proofs.Common.{◌≡◌, ◌++◌}
use Rattle.std.specs.Prelude.{drop, map}
use Rattle.round_runner.proofs.rounds.steps_of.Given as goal

-- the steps so far and those of the seats that are left are all seats' steps
abbrev pub invariant-loop-seat : goal.invariant-loop-seat
invariant-loop-seat l = l.steps.items ++ map (λ s. s.vcpu.cpu.steps) (drop l.seat-index l.seats) ≡ map (λ s. s.vcpu.cpu.steps) l.seats
