use Rattle.std.proofs.Common.{◌≡◌, length}
use Rattle.round_runner.specs.Standing.{AreFresh}
use Rattle.round_runner.proofs.rounds.open.Given as goal

-- the first vCPUs are at their first exits
abbrev pub invariant-loop-number : goal.invariant-loop-number
invariant-loop-number l = record { fresh : AreFresh l.image 0 l.seats.items; many : length l.seats.items ≡ l.number }
