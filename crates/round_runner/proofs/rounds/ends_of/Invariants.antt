use Rattle.std.proofs.Common.{◌≡◌, ◌++◌}
use Rattle.std.specs.Prelude.{drop, map, unwrap_or}
use Rattle.event_table.specs.declared.end.End.TheVariants.{Spent}
use Rattle.vcpu_core.specs.State.{end_in}
use Rattle.round_runner.proofs.rounds.ends_of.Given as goal

-- the ends so far and those of the seats that are left are all seats' ends
abbrev pub invariant-loop-seat : goal.invariant-loop-seat
invariant-loop-seat l =
    l.ends.items ++ map (λ s. unwrap_or (end_in s.vcpu.phase) Spent) (drop l.seat-index l.seats) ≡ map (λ s. unwrap_or (end_in s.vcpu.phase) Spent) l.seats
