use Rattle.smp_runner.specs.Standing.{IsReady}
use Rattle.smp_runner.specs.Working.{IsSamePass}
use Rattle.smp_runner.proofs.worker.run_vcpu.Given as goal

-- the vCPU stands ready, and the pass is the one that it was
abbrev pub invariant-loop : goal.invariant-loop
invariant-loop g l = record {
  same : IsSamePass (g.T.Turns.pass l.initial.turns) (g.T.Turns.pass l.turns);
  ready : IsReady l.image l.budget l.number (g.T.Turns.pass l.turns).view l.seat;
}
